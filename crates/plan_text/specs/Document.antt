-- What a document says at a key. Each function here has a value for every document. If a key is absent, or its value is of
-- another type, that is nothing, an empty text or an empty list. `Shape` tests the types.
use Rattle.std.specs.Prelude.{ℕ, ℤ, Bool, List, [], ◌∷◌, Option, is_some}
use Rattle.std.specs.Option.{option_and_then, option_map_or}
use Rattle.toml.specs.Data.{Data, string, array, Items, no_items, item, get, as_str, as_integer}

-- the elements of an array, as a list
abbrev pub list_of : Items → List Data
list_of no_items = []
list_of (item d ds) = d ∷ list_of ds

-- a value that is a text or an array
abbrev pub text_of : Data → List ℕ
text_of (string text) = text
text_of _ = []

abbrev pub elements_of : Data → List Data
elements_of (array items) = list_of items
elements_of _ = []

-- what a table has under a key: something, a text, or the elements of an array
abbrev pub has_key : List ℕ → Data → Bool
has_key key value = is_some (get key value)

abbrev pub text_at : List ℕ → Data → List ℕ
text_at key value = option_map_or text_of (get key value) []

abbrev pub elements_at : List ℕ → Data → List Data
elements_at key value = option_map_or elements_of (get key value) []

-- a text or an integer that may be absent
abbrev pub text_if_there : List ℕ → Data → Option (List ℕ)
text_if_there key value = option_and_then as_str (get key value)

abbrev pub integer_if_there : List ℕ → Data → Option ℤ
integer_if_there key value = option_and_then as_integer (get key value)
