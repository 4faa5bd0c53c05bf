-- The numbers of an address that octets give are in their ranges.
use Rattle.std.proofs.Common.{◌≡◌, ℕ, zero, suc, ◌-◌, ◌*◌, ◌%◌, ◌<◌, ◌^◌, Bool, false, cond, List, [], ◌∷◌, ◌++◌, length, get_or, take}
use Rattle.std.proofs.Common.{drop, refl, sym, subst, arith, inl, inr}
use Rattle.std.specs.Prelude.{IfSome, IfOk, Result, Ok, Err}
use Rattle.std.specs.List.{AllByRecursion}
use Rattle.std.proofs.lemmas.List.{length-take}
use Rattle.sccp_base.specs.Bcd.{halves, unpacked}
use Rattle.sccp_base.specs.Bits.{bits}
use Rattle.sccp_base.specs.Selector.{Numbers, IsSelector}
use Rattle.sccp_base.proofs.Halves.{length-halves}
use Rattle.sccp_address.specs.declared.address.Address.{Address}
use Rattle.sccp_address.specs.declared.address.Title.{Title}
use Rattle.sccp_address.specs.declared.address.Title.TheVariants.{Absent, Global, Raw}
use Rattle.sccp_address.specs.declared.fault.AddressFault.{AddressFault}
use Rattle.sccp_address.specs.Reading.{point_code, first_of}
use Rattle.sccp_address.specs.Addresses.{IsHeading, TitleIs, AddressIs}
use Rattle.sccp_address.specs.Written.{IsTitle, IsAddress}

abbrev pub AreOctets : List ℕ → Type 0
AreOctets octets = AllByRecursion (λ o. o < 256) octets

octets_front : (xs ys : List ℕ) → AreOctets (xs ++ ys) → AreOctets xs
octets_front [] ys h = tt
octets_front (x ∷ xs) ys h = (h.0, octets_front xs ys h.1)

pub octets_back : (xs ys : List ℕ) → AreOctets (xs ++ ys) → AreOctets ys
octets_back [] ys h = h
octets_back (x ∷ xs) ys h = octets_back xs ys h.1

pub octets_take : (n : ℕ) (b : List ℕ) → AreOctets b → AreOctets (take n b)
octets_take zero b h = tt
octets_take (suc n) [] h = tt
octets_take (suc n) (o ∷ b) h = (h.0, octets_take n b h.1)

pub octets_drop : (n : ℕ) (b : List ℕ) → AreOctets b → AreOctets (drop n b)
octets_drop zero b h = h
octets_drop (suc n) [] h = tt
octets_drop (suc n) (o ∷ b) h = octets_drop n b h.1

pc_kept : (pc : List ℕ) → AreOctets pc → IfSome (point_code pc) (λ n. n < 2 ^ 14)
pc_kept [] h = tt
pc_kept (low ∷ []) h = tt
pc_kept (low ∷ high ∷ rest) h = let lt = h.0 in omega arith

ssn_kept : (ssn : List ℕ) → AreOctets ssn → IfSome (first_of ssn) (λ n. n < 256)
ssn_kept [] h = tt
ssn_kept (n ∷ rest) h = h.0

digits_kept : (octets : List ℕ) (n : ℕ) → AreOctets octets → AllByRecursion (λ d. d < 16) (take n (halves octets))
digits_kept octets zero h = tt
digits_kept [] (suc n) h = tt
digits_kept (o ∷ octets) (suc zero) h = (omega arith, tt)
digits_kept (o ∷ octets) (suc (suc n)) h = let lt = h.0 in (omega arith, (omega arith, digits_kept octets n h.1))

heading_kept : (heading : List ℕ) (s : Numbers) (odd : Bool) → AreOctets heading → IsHeading heading s odd
    → IsSelector s × (s.kind ≡ 2 → odd ≡ false)
heading_kept [] s odd h says = absurd says
heading_kept (n ∷ []) s odd h (inl w) = subst (λ (x : Numbers). IsSelector x × (x.kind ≡ 2 → odd ≡ false)) (sym w.0) (
  record { used = inl (refl, refl, refl); translation = omega arith; plan = omega arith; nature = omega arith },
  λ e. absurd
      (omega arith),
)
heading_kept (n ∷ []) s odd h (inr w) = subst (λ (x : Numbers). IsSelector x × (x.kind ≡ 2 → odd ≡ false)) (sym w.0)
    (record { used = inr (inl (refl, refl, refl)); translation = h.0; plan = omega arith; nature = omega arith }, λ e. w.1)
heading_kept (t ∷ p ∷ []) s odd h w = subst (λ (x : Numbers). IsSelector x × (x.kind ≡ 2 → odd ≡ false)) (sym w.0)
    (record { used = inr (inr (inl (refl, refl))); translation = h.0; plan = omega arith; nature = omega arith }, λ e. absurd (omega arith))
heading_kept (t ∷ p ∷ n ∷ []) s odd h w = subst (λ (x : Numbers). IsSelector x × (x.kind ≡ 2 → odd ≡ false)) (sym w.0)
    (record { used = inr (inr (inr refl)); translation = h.0; plan = omega arith; nature = omega arith }, λ e. absurd (omega arith))
heading_kept (t ∷ p ∷ n ∷ o ∷ others) s odd h says = absurd says

even_length : (octets : List ℕ) (odd : Bool) → odd ≡ false → length (unpacked octets odd) % 2 ≡ 0
even_length octets odd e = rw e (let n : length (take (2 * length octets - 0) (halves octets))
    ≡ 2 * length octets = omega (arith, length-take (2 * length octets - 0) (halves octets), length-halves octets) in omega arith)

title_kept : (kind : ℕ) (octets : List ℕ) (t : Title) → kind < 16 → AreOctets octets → TitleIs kind octets t → IsTitle t
title_kept kind octets Absent lt h is = tt
title_kept kind octets (Global s digits) lt h (same, has, few) =
    let whole : AreOctets (has.heading ++ has.packed) = subst AreOctets has.parts h in
    let kept = heading_kept has.heading s has.odd (octets_front has.heading has.packed whole) has.says in (
      kept.0,
      few,
      subst (λ (x : List ℕ). AllByRecursion (λ d. d < 16) x) (sym has.are)
          (digits_kept has.packed (2 * length has.packed - cond has.odd 1 0) (octets_back has.heading has.packed whole)),
      λ two. rw has.are (even_length has.packed has.odd (kept.1 two)),
    )
title_kept kind octets (Raw k kept) lt h (same, whole, is) = (rw same lt, rw (same, whole) is)

pub address_kept : (octets : List ℕ) (a : Address) → AreOctets octets → AddressIs octets a → IsAddress a
address_kept octets a h is =
    let all : AreOctets (is.indicator ∷ (is.pc ++ (is.ssn ++ is.title))) = subst AreOctets is.parts h in
    let rest = octets_back is.pc (is.ssn ++ is.title) all.1 in
    record {
      pc = rw is.pc_is (pc_kept is.pc (octets_front is.pc (is.ssn ++ is.title) all.1));
      ssn = rw is.ssn_is (ssn_kept is.ssn (octets_front is.ssn is.title rest));
      title = title_kept (bits is.indicator 3 6) is.title a.title (omega arith) (octets_back is.ssn is.title rest) is.title_is;
    }

pub are_octets : (octets : List ℕ) → ((i : ℕ) → get_or octets i 0 < 256) → AreOctets octets
are_octets [] h = tt
are_octets (o ∷ octets) h = (h 0, are_octets octets (λ i. h (suc i)))

pub answer_kept : (octets : List ℕ) (r : Result Address AddressFault) → AreOctets octets → IfOk r (λ a. AddressIs octets a)
    → IfOk r (λ a. IsAddress a)
answer_kept octets (Ok a) h is = address_kept octets a h is
answer_kept octets (Err e) h is = tt
