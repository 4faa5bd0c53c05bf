-- The elements of an array, as the code sees them and as the document has them.
use Rattle.std.proofs.Common.{◌≡◌, ℕ, Bool, List, [], ◌∷◌, map, Some, refl, sym, ap, ◌∙◌}
use Rattle.std.specs.List.{list_all}
use Rattle.std.proofs.lemmas.List.Folds.{list_all-map}
use Rattle.toml.specs.Data.{Data, string, integer, float, boolean, datetime, array, table, Items, Members, as_array, as_table}
use Rattle.toml.specs.View.{view, items_view}
use Rattle.toml.specs.declared.value.Value.{Value}
use Rattle.plan_text.specs.Document.{list_of, elements_of}
use Rattle.plan_model.specs.declared.place.Place.{Place}
use Rattle.plan_text.specs.Shape.{is_array_of, Shape, element_shape, elements_shape, tables_shape}

pub list_of-view : (vs : List Value) → list_of (items_view vs) ≡ map view vs
list_of-view [] = refl
list_of-view (v ∷ vs) = ap (λ ds. view v ∷ ds) (list_of-view vs)

-- a value that was found to be an array is the array of these items
pub is_the_array : (d : Data) (items : Items) → Some items ≡ as_array d → d ≡ array items
is_the_array (string x) items e = absurd cc
is_the_array (integer x) items e = absurd cc
is_the_array (float x) items e = absurd cc
is_the_array (boolean x) items e = absurd cc
is_the_array (datetime x) items e = absurd cc
is_the_array (array x) items e = cc
is_the_array (table x) items e = absurd cc

-- the elements of a value that was found to be an array
pub elements : (d : Data) (vs : List Value) → Some (items_view vs) ≡ as_array d → map view vs ≡ elements_of d
elements d vs e = rw (is_the_array d (items_view vs) e) (sym (list_of-view vs))

-- a test of each of them
pub each_element : (test : Data → Bool) (d : Data) (vs xs : List Value) (answer : Bool) → xs ≡ vs → Some (items_view vs) ≡ as_array d
    → answer ≡ list_all (λ v. test (view v)) xs → answer ≡ is_array_of test d
each_element test d vs xs answer same e all =
    rw (is_the_array d (items_view vs) e, list_of-view vs) (all ∙ ap (list_all (λ v. test (view v))) same ∙ sym (list_all-map test view vs))

-- the shape of each of them
pub each_table : (shape : ℕ → Members → Shape) (at : Place) (d : Data) (vs xs : List Value) (answer : Shape) → xs ≡ vs
    → Some (items_view vs) ≡ as_array d
    → answer ≡ elements_shape shape at 0 (map view xs) → answer ≡ tables_shape shape at d
each_table shape at d vs xs answer same e told =
    rw (is_the_array d (items_view vs) e, list_of-view vs) (told
    ∙ ap (λ (values : List Value). elements_shape shape at 0 (map view values)) same)

-- a value that was found to be a table is the table of these keys
is_the_table : (d : Data) (keys : Members) → Some keys ≡ as_table d → d ≡ table keys
is_the_table (string x) keys e = absurd cc
is_the_table (integer x) keys e = absurd cc
is_the_table (float x) keys e = absurd cc
is_the_table (boolean x) keys e = absurd cc
is_the_table (datetime x) keys e = absurd cc
is_the_table (array x) keys e = absurd cc
is_the_table (table x) keys e = cc

pub of_table : (shape : Members → Shape) (at : Place) (d : Data) (keys : Members) (answer : Shape) → Some keys ≡ as_table d
    → answer ≡ shape keys → answer ≡ element_shape shape at d
of_table shape at d keys answer e told = rw (is_the_table d keys e) told
