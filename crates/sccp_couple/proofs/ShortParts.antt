-- What is read from octets is short: one octet holds the length of each parameter, and of the data of a type with short
-- pointers.
use Rattle.std.proofs.Common.{◌≡◌, ℕ, zero, suc, ◌+◌, ◌-◌, ◌<◌, ◌≤◌, Bool, true, false, cond, leb, eqb, ◌&&◌, List, [], ◌∷◌, ◌++◌, length}
use Rattle.std.proofs.Common.{get_or, take, drop, Option, Some, None, refl, sym, ap, subst, arith, inl, inr}
use Rattle.std.specs.Prelude.{slice_range, unwrap_or}
use Rattle.std.specs.List.{AllByRecursion, flat_map}
use Rattle.std.proofs.lemmas.Bool.{cases_lt, eqb-true, le-leb}
use Rattle.std.proofs.lemmas.List.{length-take}
use Rattle.std.proofs.lemmas.Option.{slice_get_past}
use Rattle.sccp_address.specs.declared.address.Address.{Address}
use Rattle.sccp_address.proofs.Kept.{AreOctets, octets_back, octets_drop}
use Rattle.sccp_layout.specs.declared.shape.Layout.{Layout}
use Rattle.sccp_layout.specs.declared.parts.Parts.{Parts}
use Rattle.sccp_layout.specs.Parameter.{Parameter}
use Rattle.sccp_layout.specs.Table.{layout_of}
use Rattle.sccp_layout.specs.Places.{width, number_at, contents, part, place}
use Rattle.sccp_layout.specs.Joining.{are_short, spelled_parameter}
use Rattle.sccp_layout.specs.Parts.{ParamsAre, HasParts}
use Rattle.sccp_message.specs.declared.message.Message.{Message}
use Rattle.sccp_message.specs.Messages.{without_address, with_called, with_both, of_code, message_of}
use Rattle.sccp_message.specs.Reading.{part_of}
use Rattle.sccp_message.specs.Reads.{Reads}
use Rattle.sccp_message.specs.Unitdata.{called_of}
use Rattle.sccp_message.proofs.Made.{made, made_here}
use Rattle.sccp_couple.specs.Sending.{HasShortParts}

-- ---- octets

octet_at : (b : List ℕ) (n : ℕ) → AreOctets b → get_or b n 0 < 256
octet_at [] n h = omega arith
octet_at (o ∷ b) zero h = h.0
octet_at (o ∷ b) (suc n) h = octet_at b n h.1

-- ---- parameters

listed_short : (params : List Parameter) (more : List ℕ) → AreOctets (flat_map spelled_parameter params ++ more) → are_short params ≡ true
listed_short [] more h = refl
listed_short (p ∷ params) more h =
    let whole : AreOctets (p.name ∷ length p.octets ∷ (p.octets ++ (flat_map spelled_parameter params ++ more))) =
    subst AreOctets (regrouped p.octets) h in
    let here = whole.1.0 in
    rw (le-leb (length p.octets) 255 (omega arith)) (listed_short params more (octets_back p.octets _ whole.1.1))
  where
    append_again : (xs ys zs : List ℕ) → (xs ++ ys) ++ zs ≡ xs ++ (ys ++ zs)
    append_again [] ys zs = refl
    append_again (x ∷ xs) ys zs = ap (λ (t : List ℕ). x ∷ t) (append_again xs ys zs)

    regrouped : (octets : List ℕ) → (p.name ∷ length p.octets ∷ (octets ++ flat_map spelled_parameter params)) ++ more ≡ p.name
        ∷ length p.octets ∷ (octets ++ (flat_map spelled_parameter params ++ more))
    regrouped octets = ap (λ (t : List ℕ). p.name ∷ length p.octets ∷ t) (append_again octets (flat_map spelled_parameter params) more)

params_short : (l : Layout) (b : List ℕ) (params : List Parameter) → AreOctets b → ParamsAre l b params → are_short params ≡ true
params_short l b params h (inl w) = rw w.1 refl
params_short l b params h (inr w) = listed_short params _ (subst AreOctets w.2.spelled (octets_drop (place l b l.variable) b h))

-- ---- data

abbrev IsShort : Option (List ℕ) → Type 0
IsShort o = length (unwrap_or o []) ≤ 255

range_short : (b : List ℕ) (from n : ℕ) → n ≤ 255 → length (take n (drop from b)) ≤ 255
range_short b from n le = omega (arith, length-take n (drop from b))

short_if : (c : Bool) (x : List ℕ) → length x ≤ 255 → IsShort (cond c (Some x) None)
short_if true x le = le
short_if false x le = omega arith

contents_short : (b : List ℕ) (p : ℕ) → AreOctets b → IsShort (contents false b p)
contents_short b p h =
    let start : ℕ = p + width false in
    let end : ℕ = start + number_at false b p in
    let lt = octet_at b p h in
    short_if (leb end (length b)) (slice_range b start end) (range_short b start (end - start) (omega arith))

contents_by : (two : Bool) (b : List ℕ) (p : ℕ) → two ≡ false → AreOctets b → IsShort (contents two b p)
contents_by true b p e h = absurd cc
contents_by false b p e h = contents_short b p h

neither : (a b : Bool) → a ≡ false → (a && b) ≡ false
neither true b e = absurd cc
neither false b e = refl

part_short : (l : Layout) (b : List ℕ) (i : ℕ) → l.long ≡ false → AreOctets b → IsShort (part l b i)
part_short l b i short h = contents_by (l.long && eqb i 2) b (place l b i) (neither l.long (eqb i 2) short) h

data_short : (b : List ℕ) (p : Parts) (i : ℕ) (has : HasParts b p) → has.layout.long ≡ false → AreOctets b
    → length (part_of p.variable i) ≤ 255
data_short b p i has short h =
    elim (cases_lt i has.layout.variable) [
      | inl lt ↦ subst IsShort (has.variable i lt).1 (part_short has.layout b i short h)
      | inr le ↦ subst IsShort (sym (slice_get_past p.variable i (omega (arith, has.count)))) (omega arith)
    ]

-- ---- a line for each type

-- A connection-oriented message is short if its parameters are short, and its data are short if its type has short pointers.
abbrev IsLine : List Parameter → List ℕ → Layout → (ℕ × Message) → Type 0
IsLine params payload l line =
    layout_of line.0 ≡ Some l → called_of line.1 ≡ None → are_short params ≡ true → (l.long ≡ false → length payload ≤ 255)
    → HasShortParts line.1

abbrev long_of : Option Layout → Bool
long_of None = false
long_of (Some l) = l.long

abbrev AreLines : List Parameter → List ℕ → Layout → List (ℕ × Message) → Type 0
AreLines params payload l lines = AllByRecursion (IsLine params payload l) lines

without : (f payload : List ℕ) (params : List Parameter) (l : Layout) → AreLines params payload l (without_address f payload params)
without f payload params l = (
  λ of_type none short few. record { payload = tt; params = short },
  (
    λ of_type none short few. record { payload = tt; params = short },
    (
      λ of_type none short few. record { payload = tt; params = short },
      (
        λ of_type none short few. record { payload = tt; params = refl },
        (
          λ of_type none short few. record { payload = few (sym (ap long_of of_type)); params = refl },
          (
            λ of_type none short few. record { payload = few (sym (ap long_of of_type)); params = refl },
            (
              λ of_type none short few. record { payload = tt; params = refl },
              (
                λ of_type none short few. record { payload = few (sym (ap long_of of_type)); params = refl },
                (
                  λ of_type none short few. record { payload = tt; params = refl },
                  (
                    λ of_type none short few. record { payload = tt; params = refl },
                    (
                      λ of_type none short few. record { payload = tt; params = refl },
                      (
                        λ of_type none short few. record { payload = tt; params = refl },
                        (
                          λ of_type none short few. record { payload = tt; params = refl },
                          tt,
                        ),
                      ),
                    ),
                  ),
                ),
              ),
            ),
          ),
        ),
      ),
    ),
  ),
)

one : (f payload : List ℕ) (called : Address) (params : List Parameter) (l : Layout)
    → AreLines params payload l (with_called f called params)
one f payload called params l = (λ of_type none short few. record { payload = tt; params = short }, tt)

both : (f : List ℕ) (called calling : Address) (payload : List ℕ) (params : List Parameter) (l : Layout)
    → AreLines params payload l (with_both f called calling payload params)
both f called calling payload params l = (
  λ of_type none short few. absurd cc,
  (
    λ of_type none short few. absurd cc,
    (
      λ of_type none short few. absurd cc,
      (λ of_type none short few. absurd cc, (λ of_type none short few. absurd cc, (λ of_type none short few. absurd cc, tt))),
    ),
  ),
)

of_lines : (code : ℕ) (lines : List (ℕ × Message)) (payload : List ℕ) (params : List Parameter) (l : Layout) (m : Message)
    → AreLines params payload l lines → of_code code lines ≡ made m → IsLine params payload l (code, m)
of_lines code [] payload params l m all e = absurd cc
of_lines code (line ∷ lines) payload params l m all e =
    elim (made_here (eqb code line.0) line.1 (of_code code lines) m e) [
      | inl w ↦ subst (λ (x : Message). IsLine params payload l (code, x)) w.1
          (subst (λ (n : ℕ). IsLine params payload l (n, line.1)) (sym (eqb-true _ _ w.0)) all.0)
      | inr w ↦ of_lines code lines payload params l m all.1 w
    ]

of_parts : (code : ℕ) (f : List ℕ) (addresses : List Address) (payload : List ℕ) (params : List Parameter) (l : Layout) (m : Message)
    → message_of code f addresses payload params ≡ made m → IsLine params payload l (code, m)
of_parts code f [] payload params l m e = of_lines code (without_address f payload params) payload params l m (without f payload params l) e
of_parts code f (called ∷ []) payload params l m e = of_lines code (with_called f called params) payload params l m
    (one f payload called params l) e
of_parts code f (called ∷ calling ∷ []) payload params l m e = of_lines code (with_both f called calling payload params) payload params l m
    (both f called calling payload params l) e
of_parts code f (called ∷ calling ∷ other ∷ others) payload params l m e = absurd cc

-- what is read from octets is short, unless it is connectionless
pub reads_short : (b : List ℕ) (m : Message) → AreOctets b → Reads b m → called_of m ≡ None → HasShortParts m
reads_short b m octets h none =
    let has = h.has_parts in
    of_parts h.parts.code h.parts.fixed h.addresses _ h.parts.params has.layout m h.fields has.of_type none
    (params_short has.layout b h.parts.params octets has.params)
    (λ short. data_short b h.parts h.type.addresses has short octets)
