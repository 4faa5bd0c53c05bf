-- What is written for an address is read as that address.
use Rattle.std.proofs.Common.{◌≡◌, ℕ, ◌+◌, ◌-◌, ◌*◌, ◌/◌, ◌%◌, ◌^◌, ◌<◌, ◌≤◌, Bool, true, false, cond, eqb, List, [], ◌∷◌, ◌++◌, length}
use Rattle.std.proofs.Common.{Option, Some, None, Ok, refl, sym, ap, subst, arith, inl, inr}
use Rattle.std.specs.Prelude.{is_some, IfSome}
use Rattle.std.specs.List.{AllByRecursion}
use Rattle.std.specs.Option.{option_to_list}
use Rattle.std.proofs.lemmas.List.{take_at}
use Rattle.std.proofs.lemmas.Bool.{ne_eqb}
use Rattle.sccp_base.specs.Bcd.{halves, packed, unpacked}
use Rattle.sccp_base.specs.Bits.{bit, bits}
use Rattle.sccp_base.specs.Selector.{Numbers, numbers, IsSelector}
use Rattle.sccp_address.specs.declared.address.Address.{Address}
use Rattle.sccp_address.specs.declared.address.Title.{Title}
use Rattle.sccp_address.specs.declared.address.Title.TheVariants.{Absent, Global, Raw}
use Rattle.sccp_address.specs.Reading.{point_code, first_of, address_of}
use Rattle.sccp_address.specs.Addresses.{IsHeading, TitleIs, AddressIs}
use Rattle.sccp_address.proofs.Laws.{address_again}
use Rattle.sccp_address.specs.Written.{flag, point_code_octets, heading, title_octets, title_kind, indicator_of, written, IsTitle}
use Rattle.sccp_address.specs.Written.{IsAddress}

-- The indicator.

flag_small : (b : Bool) → flag b ≤ 1
flag_small true = omega arith
flag_small false = omega arith

flag_is : (b : Bool) → eqb (flag b) 1 ≡ b
flag_is true = refl
flag_is false = refl

record Parts (i p s k r n : ℕ) : Type 0 where
  pc : bits i 1 1 ≡ p
  ssn : bits i 2 2 ≡ s
  kind : bits i 3 6 ≡ k
  route : bits i 7 7 ≡ r
  national : bits i 8 8 ≡ n

indicator_parts : (p s k r n : ℕ) → p ≤ 1 → s ≤ 1 → k < 16 → r ≤ 1 → n ≤ 1 → Parts (p + 2 * s + 4 * (k % 16) + 64 * r + 128 * n) p s k r n
indicator_parts p s k r n hp hs hk hr hn =
    record { pc = omega arith; ssn = omega arith; kind = omega arith; route = omega arith; national = omega arith }

-- Digits.

unpacked_pair : (d e : ℕ) → d < 16 → ((d + 16 * e) % 16 ≡ d) × ((d + 16 * e) / 16 ≡ e)
unpacked_pair d e lt = (omega arith, omega arith)

-- two at a time, the digits and what follows them
pub front_of : (ds : List ℕ) → AllByRecursion (λ d. d < 16) ds → (rest : List ℕ) × (halves (packed ds) ≡ ds ++ rest)
    × (2 * length (packed ds) ≡ length ds + cond (eqb (length ds % 2) 1) 1 0)
front_of [] h = ([], refl, refl)
front_of (d ∷ []) h = (d / 16 ∷ [], ap (λ (x : ℕ). x ∷ (d / 16 ∷ [])) (omega (arith, h.0)), refl)
front_of (d ∷ e ∷ ds) h =
    let f = front_of ds h.1.1 in
    let pair = unpacked_pair d e h.0 in
    let parity : length (d ∷ e ∷ ds) % 2 ≡ length ds % 2 = omega arith in
    (f.0, rw (pair.0, pair.1, f.1) refl, rw parity (omega (arith, f.2)))

-- the digits that are written are read again
unpacked-packed : (ds : List ℕ) → AllByRecursion (λ d. d < 16) ds → unpacked (packed ds) (eqb (length ds % 2) 1) ≡ ds
unpacked-packed ds h =
    let f = front_of ds h in
    let n : 2 * length (packed ds) - cond (eqb (length ds % 2) 1) 1 0 ≡ length ds = omega (arith, f.2) in
    rw (n, f.1) (take_at ds f.0 (length ds) refl)

some_octet : (ds : List ℕ) → eqb (length ds % 2) 1 ≡ true → 0 < length (packed ds)
some_octet [] h = absurd cc
some_octet (d ∷ []) h = omega arith
some_octet (d ∷ e ∷ ds) h = omega arith

-- Headings.

selector_is : (s : Numbers) (k t p n : ℕ) → s.kind ≡ k → s.translation ≡ t → s.plan ≡ p → s.nature ≡ n → s ≡ numbers k t p n
selector_is s k t p n e1 e2 e3 e4 = rw (← e1, ← e2, ← e3, ← e4) refl

scheme_bits : (plan scheme : ℕ) → scheme < 16 → (bits (16 * plan + scheme) 1 4 ≡ scheme)
    × (plan < 16 → bits (16 * plan + scheme) 5 8 ≡ plan)
scheme_bits plan scheme lt = (omega arith, λ h. omega arith)

scheme_of : (odd : Bool) → cond odd 1 2 < 16
scheme_of true = omega arith
scheme_of false = omega arith

nature_bits : (nature : ℕ) (odd : Bool) → nature < 128 → (nature ≡ bits (nature + 128 * flag odd) 1 7)
    × (odd ≡ bit (nature + 128 * flag odd) 8)
nature_bits nature true lt = (omega arith, (let e : (nature + 128) / 128 % 2 ≡ 1 = omega arith in rw e refl))
nature_bits nature false lt = (omega arith, (let e : (nature + 0) / 128 % 2 ≡ 0 = omega arith in rw e refl))

nature_heading : (s : Numbers) (odd : Bool) → s.kind ≡ 1 → heading s odd ≡ (s.nature + 128 * flag odd) ∷ []
nature_heading s odd e = rw e refl

translation_heading : (s : Numbers) (odd : Bool) → s.kind ≡ 2 → heading s odd ≡ s.translation ∷ []
translation_heading s odd e = rw e refl

plan_heading : (s : Numbers) (odd : Bool) → s.kind ≡ 3 → heading s odd ≡ s.translation ∷ (16 * s.plan + cond odd 1 2) ∷ []
plan_heading s odd e = rw e refl

full_heading : (s : Numbers) (odd : Bool) → s.kind ≡ 4 → heading s odd ≡ s.translation ∷ (16 * s.plan + cond odd 1 2) ∷ s.nature ∷ []
full_heading s odd e = rw e refl

heading_says : (s : Numbers) (odd : Bool) → IsSelector s → (s.kind ≡ 2 → odd ≡ false) → IsHeading (heading s odd) s odd
heading_says s odd h even =
    let says : List ℕ → Type 0 = λ (l : List ℕ). IsHeading l s odd in
    let p = scheme_bits s.plan (cond odd 1 2) (scheme_of odd) in
    elim h.used [
      | inl w ↦ let n = nature_bits s.nature odd h.nature in subst says (sym (nature_heading s odd w.0))
          (inl (selector_is s 1 0 0 (bits (s.nature + 128 * flag odd) 1 7) w.0 w.1 w.2 n.0, n.1))
      | inr (inl w) ↦ subst says (sym (translation_heading s odd w.0)) (inr (selector_is s 2 s.translation 0 0 w.0 refl w.1 w.2, even w.0))
      | inr (inr (inl w)) ↦ subst says (sym (plan_heading s odd w.0))
          (selector_is s 3 s.translation (bits (16 * s.plan + cond odd 1 2) 5 8) 0 w.0 refl (sym (p.1 h.plan)) w.1, p.0)
      | inr (inr (inr w)) ↦
          let nature : s.nature ≡ bits s.nature 1 7 = omega (arith, h.nature) in
          subst says (sym (full_heading s odd w)) (
            selector_is s 4 s.translation (bits (16 * s.plan + cond odd 1 2) 5 8)
                (bits s.nature 1 7) w refl (sym (p.1 h.plan)) nature,
            p.0,
          )
    ]

kind_small : (s : Numbers) → IsSelector s → s.kind < 16
kind_small s h = elim h.used [
  | inl w ↦ omega (arith, w.0)
  | inr (inl w) ↦ omega (arith, w.0)
  | inr (inr (inl w)) ↦ omega (arith, w.0)
  | inr
      (inr (inr w)) ↦ omega arith
]

-- Titles and addresses.

title_again : (t : Title) → IsTitle t → (title_kind t < 16) × TitleIs (title_kind t) (title_octets t) t
title_again Absent h = (omega arith, (refl, refl))
title_again (Global s ds) (selector, most, each, even) =
    let odd : Bool = eqb (length ds % 2) 1 in (
      kind_small s selector,
      (
        refl,
        record {
          heading = heading s odd;
          packed = packed ds;
          odd = odd;
          parts = refl;
          says = heading_says s odd selector (λ two. ne_eqb (length ds % 2) 1 (λ e. let zero_rest = even two in omega arith));
          some = some_octet ds;
          are = sym (unpacked-packed ds each);
        },
        most,
      ),
    )
title_again (Raw kind octets) (lt, kept) = (lt, (refl, refl, kept))

there_pc : (pc : Option ℕ) → length (point_code_octets pc) ≡ cond (is_some pc) 2 0
there_pc None = refl
there_pc (Some n) = refl

there_ssn : (ssn : Option ℕ) → length (option_to_list ssn) ≡ cond (is_some ssn) 1 0
there_ssn None = refl
there_ssn (Some n) = refl

abbrev some : ℕ → Option ℕ
some n = Some n

pc_again : (pc : Option ℕ) → IfSome pc (λ n. n < 2 ^ 14) → pc ≡ point_code (point_code_octets pc)
pc_again None h = refl
pc_again (Some n) h = ap some (omega arith)

ssn_again : (ssn : Option ℕ) → ssn ≡ first_of (option_to_list ssn)
ssn_again None = refl
ssn_again (Some n) = refl

pub written_is : (a : Address) → IsAddress a → AddressIs (written a) a
written_is a h =
    let t = title_again a.title h.title in
    let i = indicator_parts (flag (is_some a.pc)) (flag (is_some a.ssn)) (title_kind a.title) (flag a.by_ssn) (flag a.national)
    (flag_small (is_some a.pc)) (flag_small (is_some a.ssn)) t.0 (flag_small a.by_ssn) (flag_small a.national) in
    let has_pc : bit (indicator_of a) 1 ≡ is_some a.pc = rw i.pc (flag_is (is_some a.pc)) in
    let has_ssn : bit (indicator_of a) 2 ≡ is_some a.ssn = rw i.ssn (flag_is (is_some a.ssn)) in
    record {
      indicator = indicator_of a;
      pc = point_code_octets a.pc;
      ssn = option_to_list a.ssn;
      title = title_octets a.title;
      parts = refl;
      pc_there = rw has_pc (there_pc a.pc);
      ssn_there = rw has_ssn (there_ssn a.ssn);
      national = sym (rw i.national (flag_is a.national));
      by_ssn = sym (rw i.route (flag_is a.by_ssn));
      pc_is = pc_again a.pc h.pc;
      ssn_is = ssn_again a.ssn;
      title_is = rw i.kind t.1;
    }

-- what is written for an address is read as that address
pub address_of-written : (a : Address) → IsAddress a → address_of (written a) ≡ Ok a
address_of-written a is = address_again (written a) a (written_is a is)
