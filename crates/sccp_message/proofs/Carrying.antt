-- What the connectionless types of a kind have in common: their parts, and how a message is made of these.
use Rattle.std.proofs.Common.{◌≡◌, ℕ, ◌-◌, Bool, true, false, ◌==◌, List, [], ◌∷◌, length, Some, Result, Ok, Err, refl, sym, ap, subst, ◌∙◌}
use Rattle.std.proofs.Common.{inl, inr, ◌⊎◌}
use Rattle.std.specs.Prelude.{⊤, ◌||◌, slice_get, unwrap_or}
use Rattle.std.specs.Bool.{MatchBool}
use Rattle.std.specs.Option.{ok_or}
use Rattle.std.specs.List.{range_with_len}
use Rattle.std.proofs.lemmas.Bool.{eqb-true}
use Rattle.sccp_base.specs.Answers.{◌>>=◌, all_ok}
use Rattle.sccp_address.specs.declared.address.Address.{Address}
use Rattle.sccp_layout.specs.declared.shape.Layout.{Layout}
use Rattle.sccp_layout.specs.declared.parts.Parts.{Parts}
use Rattle.sccp_layout.specs.declared.parts.SplitFault.TheVariants as split
use Rattle.sccp_layout.specs.Parameter.{Parameter}
use Rattle.sccp_layout.specs.Parts.{parts_made, Fits, FitsLayout}
use Rattle.sccp_layout.specs.Table.{layout_of}
use Rattle.sccp_message.specs.declared.message.Message.{Message}
use Rattle.sccp_message.specs.declared.fault.DecodeFault.{DecodeFault}
use Rattle.sccp_message.specs.declared.fault.DecodeFault.TheVariants as faults
use Rattle.sccp_message.specs.Kinds.{is_plain, is_extended, message_if_of}
use Rattle.sccp_message.specs.Messages.{message_of}
use Rattle.sccp_message.specs.Reading.{part_of, address_in, fields_in, message_in}

-- the message of two addresses, data, and parameters, some of which are known
abbrev pub unit_by : List ℕ → Parts → Result Message DecodeFault
unit_by known p = all_ok (address_in p.variable) (range_with_len 0 2) >>= λ addresses. fields_in known p.params >>= λ params. ok_or
    (message_of p.code p.fixed addresses (part_of p.variable 2) params) (faults.Split split.UnknownType)

either : (a b : Bool) → a || b ≡ true → (a ≡ true) ⊎ (b ≡ true)
either true b e = inl refl
either false b e = inr e

-- what holds of both codes of the kind holds of each code of the kind
of_plain : (P : ℕ → Type 0) → P 0x09 → P 0x0A → (code : ℕ) → is_plain code ≡ true → P code
of_plain P a b code is = elim (either (code == 0x09) (code == 0x0A) is) [
  | inl e ↦ subst P (sym (eqb-true _ _ e)) a
  | inr e ↦ subst P (sym (eqb-true _ _ e)) b
]

of_extended : (P : ℕ → Type 0) → P 0x11 → P 0x12 → P 0x13 → P 0x14 → (code : ℕ) → is_extended code ≡ true → P code
of_extended P a b c d code is = elim (either ((code == 0x11) || (code == 0x12) || (code == 0x13)) (code == 0x14) is) [
  | inl three ↦ elim (either ((code == 0x11) || (code == 0x12)) (code == 0x13) three) [
    | inl two ↦ elim (either (code == 0x11) (code == 0x12) two) [
      | inl e ↦ subst P (sym (eqb-true _ _ e)) a
      | inr e ↦ subst P (sym (eqb-true _ _ e)) b
    ]
    | inr e ↦ subst P (sym (eqb-true _ _ e)) c
  ]
  | inr e ↦ subst P (sym (eqb-true _ _ e)) d
]

pub plain_in : (code : ℕ) (f : List ℕ) (v : List (List ℕ)) (ps : List Parameter) → is_plain code ≡ true
    → message_if_of is_plain (parts_made code f v ps) ≡ unit_by [] (parts_made code f v ps)
unfolding message_in
plain_in code f v ps is = of_plain (λ k. message_if_of is_plain (parts_made k f v ps) ≡ unit_by [] (parts_made k f v ps)) refl refl code is

pub extended_in : (code : ℕ) (f : List ℕ) (v : List (List ℕ)) (ps : List Parameter) → is_extended code ≡ true
    → message_if_of is_extended (parts_made code f v ps) ≡ unit_by (0x10 ∷ 0x12 ∷ []) (parts_made code f v ps)
unfolding message_in
extended_in code f v ps is = of_extended (λ k. message_if_of is_extended (parts_made k f v ps)
    ≡ unit_by (0x10 ∷ 0x12 ∷ []) (parts_made k f v ps)) refl refl refl refl code is

-- How many octets and parts there are.

same_layout : (l other : Layout) → Some l ≡ Some other → l ≡ other
same_layout l other e = cc

fit : (l : Layout) (p : Parts) → layout_of p.code ≡ Some l → FitsLayout p → Fits l p
fit l p e h = subst (λ k. Fits k p) (sym (same_layout l h.layout (sym e ∙ h.of_type))) h.fits

abbrev HasUnit : ℕ → List ℕ → List (List ℕ) → List Parameter → ℕ → Type 0
HasUnit count f v ps code = FitsLayout (parts_made code f v ps) → (length f ≡ count) × (length v ≡ 3)

pub plain_fits : (code : ℕ) (f : List ℕ) (v : List (List ℕ)) (ps : List Parameter) → is_plain code ≡ true
    → FitsLayout (parts_made code f v ps) → (length f ≡ 1) × (length v ≡ 3) × (ps ≡ [])
plain_fits code f v ps is =
    let each : (k : ℕ) → layout_of k ≡ Some (record { fixed = 1; variable = 3; optional = false; long = false })
    → FitsLayout (parts_made k f v ps) → (length f ≡ 1) × (length v ≡ 3)
    × (ps ≡ []) = λ k e h. (let all = fit _ (parts_made k f v ps) e h in (all.fixed, all.variable, all.params refl)) in
    of_plain (λ k. FitsLayout (parts_made k f v ps) → (length f ≡ 1) × (length v ≡ 3) × (ps ≡ [])) (each 0x09 refl) (each 0x0A refl) code is

pub extended_fits : (code : ℕ) (f : List ℕ) (v : List (List ℕ)) (ps : List Parameter) → is_extended code ≡ true → HasUnit 2 f v ps code
extended_fits code f v ps is =
    let short : (k : ℕ) → layout_of k ≡ Some (record { fixed = 2; variable = 3; optional = true; long = false })
    → HasUnit 2 f v ps k = λ k e h. (let all = fit _ (parts_made k f v ps) e h in (all.fixed, all.variable)) in
    let long : (k : ℕ) → layout_of k ≡ Some (record { fixed = 2; variable = 3; optional = true; long = true })
    → HasUnit 2 f v ps k = λ k e h. (let all = fit _ (parts_made k f v ps) e h in (all.fixed, all.variable)) in
    of_extended (HasUnit 2 f v ps) (short 0x11 refl) (short 0x12 refl) (long 0x13 refl) (long 0x14 refl) code is

-- A step that fails, and all steps that do not.

abbrev failed : {A E : Type 0} → E → Result A E
failed e = Err e

same_fault : {A E : Type 0} (d e : E) → failed {A = A} d ≡ failed e → d ≡ e
same_fault d e h = cc

pub fails : {A B E : Type 0} (memory : Bool) (e : E) (r : Result A E) (f : A → Result B E) → MatchBool memory ⊤ (r ≡ Err e)
    → MatchBool memory ⊤ ((r >>= f) ≡ Err e)
fails true e r f h = tt
fails false e (Ok x) f h = absurd cc
fails false e (Err d) f h = ap Err (same_fault d e h)

last_part : (v : List (List ℕ)) (payload : List ℕ) → length v ≡ 3 → slice_get v (length v - 1) ≡ Some payload → part_of v 2 ≡ payload
last_part v payload l h = ap (λ o. unwrap_or o []) (subst (λ n. slice_get v (n - 1) ≡ Some payload) l h)

pub unit_made : (known : List ℕ) (code : ℕ) (f : List ℕ) (v : List (List ℕ)) (ps tested : List Parameter) (called calling : Address)
    (payload : List ℕ) (m : Message)
    → length v ≡ 3
    → all_ok (address_in v) (range_with_len 0 2) ≡ Ok (called ∷ calling ∷ [])
    → slice_get v (length v - 1) ≡ Some payload
    → fields_in known ps ≡ Ok tested
    → Some m ≡ message_of code f (called ∷ calling ∷ []) payload tested
    → unit_by known (parts_made code f v ps) ≡ Ok m
unit_made known code f v ps tested called calling payload m count addresses last fields made =
    rw (addresses, fields, last_part v payload count last, sym made) refl
