-- Fields between separators.
use Rattle.std.proofs.Common.{◌≡◌, ℕ, Bool, true, false, List, [], ◌∷◌, ◌++◌, Some, None, eqb, refl, sym, ◌∙◌, ap, inl, inr}
use Rattle.std.specs.List.{list_all}
use Rattle.std.proofs.lemmas.Bool.{and_parts, eq-eqb}
use Rattle.std.proofs.lemmas.Bool.Decides.{eqb_tells}
use Rattle.sccp_base.specs.Text.{cut_at}

-- an octet that passes a test which the separator fails is not the separator
pub other : (test : ℕ → Bool) (separator octet : ℕ) → test separator ≡ false → test octet ≡ true → eqb octet separator ≡ false
other test separator octet fails pass =
    elim (eqb_tells octet separator) [
      | inl same ↦ absurd (let e : true ≡ false = sym pass ∙ ap test same.1 ∙ fails in cc)
      | inr differs ↦ differs.0
    ]

pub cut_front : (test : ℕ → Bool) (separator : ℕ) (front back : List ℕ) → test separator ≡ false → list_all test front ≡ true
    → cut_at separator (front ++ separator ∷ back) ≡ Some (front, back)
cut_front test separator [] back fails each = rw (eq-eqb separator separator refl) refl
cut_front test separator (octet ∷ front) back fails each =
    let p = and_parts (test octet) (list_all test front) each in
    rw (other test separator octet fails p.0, cut_front test separator front back fails p.1) refl

pub cut_none : (test : ℕ → Bool) (separator : ℕ) (text : List ℕ) → test separator ≡ false → list_all test text ≡ true
    → cut_at separator text ≡ None
cut_none test separator [] fails each = refl
cut_none test separator (octet ∷ text) fails each =
    let p = and_parts (test octet) (list_all test text) each in
    rw (other test separator octet fails p.0, cut_none test separator text fails p.1) refl
