-- What a table has under one key, and the keys that it has besides the listed ones.
use Rattle.std.proofs.Common.{◌≡◌, ℕ, Bool, true, false, not, nat_eq, List, ◌∷◌, map, Option, Some, None, Bor, String, Global, string_bytes}
use Rattle.std.proofs.Common.{ap, ◌∙◌}
use Rattle.std.specs.List.{list_any}
use Rattle.std.specs.Option.{option_map_or}
use Rattle.std.specs.Cmp.Lexicographic.{pointwise}
use Rattle.toml.specs.Data.{Data, Members, get_member}
use Rattle.toml.specs.View.{members_view}
use Rattle.toml.specs.declared.value.Value.{Value}
use Rattle.plan_text.specs.Shape.{Shape, Line, right_if, line_shape, has_other}
use Rattle.plan_text.proofs.Seen.{list_any-map}

-- a key that is there, and one that is absent
pub there : (table : Members) (l : Line) (d : Data) (answer : Shape) → Some d ≡ get_member l.word table → answer ≡ l.check l.place d
    → answer ≡ line_shape table l
there table l d answer e checked = checked
    ∙ ap (λ (o : Option Data). option_map_or (l.check l.place) o (right_if (not l.is_required) l.place)) e

pub absent : (table : Members) (l : Line) (answer : Shape) → None ≡ get_member l.word table → answer ≡ right_if (not l.is_required) l.place
    → answer ≡ line_shape table l
absent table l answer e checked = checked
    ∙ ap (λ (o : Option Data). option_map_or (l.check l.place) o (right_if (not l.is_required) l.place)) e

abbrev pub texts : List (Bor (List ℕ)) → List (List ℕ)
texts words = map (λ word. word.now) words

abbrev pub is_one : List ℕ → List (Bor (List ℕ)) → Bool
is_one key words = list_any (λ word. pointwise nat_eq key word.now) words

-- a first key that is none of them, and one that is
pub other_here : (words : List (Bor (List ℕ))) (k : String Global) (v : Value) (es : List (String Global × Value))
    → is_one (string_bytes k) words ≡ false
    → true ≡ has_other (texts words) (members_view ((k, v) ∷ es))
other_here words k v es h = rw (list_any-map (pointwise nat_eq (string_bytes k)) (λ (word : Bor (List ℕ)). word.now) words, h)

pub other_later : (words : List (Bor (List ℕ))) (k : String Global) (v : Value) (es : List (String Global × Value))
    → is_one (string_bytes k) words ≡ true
    → has_other (texts words) (members_view es) ≡ has_other (texts words) (members_view ((k, v) ∷ es))
other_later words k v es h = rw (list_any-map (pointwise nat_eq (string_bytes k)) (λ (word : Bor (List ℕ)). word.now) words, h)
