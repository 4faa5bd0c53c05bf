-- What is read as an address is one, and octets that are an address are read as it.
use Rattle.std.proofs.Common.{◌≡◌, ℕ, ◌≤◌, false, cond, ltb, List, [], ◌∷◌, ◌++◌, length, take, drop, Result, Ok, Err, refl, sym, ap, subst}
use Rattle.std.proofs.Common.{◌∙◌, arith}
use Rattle.std.specs.Prelude.{IfOk}
use Rattle.std.proofs.lemmas.Bool.{ltb-false, le-ltb}
use Rattle.std.proofs.lemmas.List.{take_at, drop_at, take-append-drop, length-take, length-append}
use Rattle.sccp_base.specs.Answers.{◌>>=◌}
use Rattle.sccp_base.specs.Bits.{bit, bits}
use Rattle.sccp_base.proofs.AllOk.{bind_ok, guard_ok}
use Rattle.sccp_address.specs.declared.address.Address.{Address}
use Rattle.sccp_address.specs.declared.address.Title.{Title}
use Rattle.sccp_address.specs.declared.fault.AddressFault.{AddressFault}
use Rattle.sccp_address.specs.declared.fault.AddressFault.TheVariants.{Short}
use Rattle.sccp_address.specs.Faults.{Gives}
use Rattle.sccp_address.specs.Reading.{field_at, point_code, first_of, title_at, address_of}
use Rattle.sccp_address.specs.Addresses.{AddressIs}
use Rattle.sccp_address.proofs.Titles.{title_takes, title_again}

abbrev pair : List ℕ → List ℕ → Result (List ℕ × List ℕ) AddressFault
pair x y = Ok (x, y)

abbrev done : Address → Result Address AddressFault
done a = Ok a

done_is : (a b : Address) → done a ≡ done b → a ≡ b
done_is a b e = cc

field_takes : (len : ℕ) (octets : List ℕ) (x : List ℕ × List ℕ) → field_at len octets ≡ Ok x → (octets ≡ x.0 ++ x.1) × (length x.0 ≡ len)
field_takes len octets x e =
    let g = guard_ok (ltb (length octets) len) Short (Ok (take len octets, drop len octets)) x e in
    let long : len ≤ length octets = ltb-false _ _ g.0 in
    let front : take len octets ≡ x.0 = cc in
    let rest : drop len octets ≡ x.1 = cc in
    (rw (← front, ← rest) (sym (take-append-drop len octets)), rw (← front) (omega (arith, length-take len octets)))

field_again : (len : ℕ) (front rest : List ℕ) → length front ≡ len → field_at len (front ++ rest) ≡ Ok (front, rest)
field_again len front rest e =
    let long : ltb (length (front ++ rest)) len ≡ false = le-ltb _ _ (omega (arith, length-append front rest)) in
    rw (long, take_at front rest len e, drop_at front rest len e) refl

abbrev made : ℕ → List ℕ → List ℕ → Title → Address
made i pc ssn title = record { national = bit i 8; by_ssn = bit i 7; pc = point_code pc; ssn = first_of ssn; title = title }

pub address_takes : (octets : List ℕ) (a : Address) → address_of octets ≡ Ok a → AddressIs octets a
unfolding address_of
address_takes [] a e = absurd cc
address_takes (i ∷ octets) a e =
    let w1 : ℕ = cond (bit i 1) 2 0 in
    let w2 : ℕ = cond (bit i 2) 1 0 in
    let p = bind_ok (field_at w1 octets) (λ pc. field_at w2 pc.1 >>= λ ssn. title_at (bits i 3 6) ssn.1 >>= λ title. Ok
    (made i pc.0 ssn.0 title)) a e in
    let s = bind_ok (field_at w2 p.0.1) (λ ssn. title_at (bits i 3 6) ssn.1 >>= λ title. Ok (made i p.0.0 ssn.0 title)) a p.2 in
    let t = bind_ok (title_at (bits i 3 6) s.0.1) (λ title. Ok (made i p.0.0 s.0.0 title)) a s.2 in
    let fp = field_takes w1 octets p.0 p.1 in
    let fs = field_takes w2 p.0.1 s.0 s.1 in
    subst (AddressIs (i ∷ octets)) (done_is (made i p.0.0 s.0.0 t.0) a t.2) (record {
      indicator = i;
      pc = p.0.0;
      ssn = s.0.0;
      title = s.0.1;
      parts = ap (λ (x : List ℕ). i ∷ x) (fp.0 ∙ ap (λ (x : List ℕ). p.0.0 ++ x) fs.0);
      pc_there = fp.1;
      ssn_there = fs.1;
      national = refl;
      by_ssn = refl;
      pc_is = refl;
      ssn_is = refl;
      title_is = title_takes (bits i 3 6) s.0.1 t.0 t.1;
    })

pub address_again : (octets : List ℕ) (a : Address) → AddressIs octets a → address_of octets ≡ Ok a
unfolding address_of
address_again octets a h =
    let whole : address_of octets ≡ done (made h.indicator h.pc h.ssn a.title) =
    ap address_of h.parts ∙ rw (
      field_again (cond (bit h.indicator 1) 2 0) h.pc (h.ssn ++ h.title) h.pc_there,
      field_again
          (cond (bit h.indicator 2) 1 0) h.ssn h.title h.ssn_there,
      title_again (bits h.indicator 3 6) h.title a.title h.title_is,
    ) refl in
    whole ∙ rw (← h.national, ← h.by_ssn, ← h.pc_is, ← h.ssn_is) refl

pub is_found : (octets : List ℕ) (r : Result Address AddressFault) → Gives (λ a. a) r (address_of octets) → IfOk r (λ a. AddressIs octets a)
is_found octets (Ok a) given = address_takes octets a given
is_found octets (Err e) given = tt
