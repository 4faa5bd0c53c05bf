-- what lengths say of writing
use Rattle.std.specs.Prelude.{◌≡◌, ℕ, ◌+◌, ◌*◌, ◌-◌, ◌%◌, ◌==◌, ◌≤◌, ◌⊎◌, nat_le, Bool, true, List, [], ◌∷◌, ◌++◌, length, Option, Some}
use Rattle.std.specs.Prelude.{None, refl}
use Rattle.std.specs.Option.{option_to_list}
use Rattle.std.proofs.Common.{suc, sym, subst, arith, inl, inr, ⊎_elim, length-append}
use Rattle.std.proofs.lemmas.Bool.{le-leb}
use Rattle.sccp_base.specs.Bcd.{packed}
use Rattle.sccp_base.specs.Selector.{Numbers}
use Rattle.sccp_address.specs.declared.address.Address.{Address}
use Rattle.sccp_address.specs.declared.address.Title.TheVariants.{Global}
use Rattle.sccp_address.specs.Written.{title_octets, written, point_code_octets, heading}
use Rattle.sccp_layout.specs.Joining.{are_short}
use Rattle.sccp_layout.specs.Parameter.{Parameter}
use Rattle.sccp_layout.proofs.Tests.{first_failed, none_failed, fault, none_of_both}
use Rattle.sccp_message.specs.declared.message.Message.{Message}
use Rattle.sccp_message.specs.declared.message.Message.TheVariants.{Udt, Udts, Xudt, Xudts, Ludt, Ludts}
use Rattle.sccp_message.specs.Written.{Writable}
use Rattle.sccp_scrc.specs.Unitdata.{redirected}
use Rattle.sccp_scrc.specs.Lengths.{FitsShort, FitsExtended, FitsLong}
use Rattle.sccp_scrc.proofs.Addresses.{length-packed, length-heading}

-- ---- how long an address is

few_front : (pc ssn : Option ℕ) (title : List ℕ) → length (point_code_octets pc ++ (option_to_list ssn ++ title)) ≤ 3 + length title
few_front None None title = omega arith
few_front None (Some n) title = omega arith
few_front (Some p) None title = omega arith
few_front (Some p) (Some n) title = omega arith

pub address_enough : (a : Address) (n : ℕ) → (n ≤ 255 → length (title_octets a.title) ≤ n) → 4 + n ≤ 255 → length (written a) ≤ 4 + n
address_enough a n h le =
    let title : length (title_octets a.title) ≤ n = h (omega (arith, le)) in
    let front = few_front a.pc a.ssn (title_octets a.title) in
    let goal : suc (length (point_code_octets a.pc ++ (option_to_list a.ssn ++ title_octets a.title))) ≤ 4 + n =
    omega (arith, title, front) in goal

pub global_enough : (s : Numbers) (digits : List ℕ) (n : ℕ) → length digits ≤ 2 * n → length (title_octets (Global s digits)) ≤ 3 + n
global_enough s digits n le =
    let odd : Bool = length digits % 2 == 1 in
    let sum : length (heading s odd ++ packed digits) ≡ length (heading s odd) + length (packed digits) =
    length-append (heading s odd) (packed digits) in
    omega (arith, sum, length-heading s odd, length-packed digits n le)

-- ---- tests of lengths and pointers, one after the other

lengths : ℕ → List ℕ → List ℕ → List ℕ → List Parameter → Option ℕ
lengths most called calling payload params = first_failed (nat_le (length called) 255) (nat_le (length calling) 255)
    (nat_le (length payload) most) (are_short params)

-- the pointers to the parts after the first, which are at these places
pointers : ℕ → ℕ → ℕ → ℕ → Option ℕ
pointers most second third last = first_failed true (nat_le second most) (nat_le third most) (nat_le last most)

by_type : (X : Type 0) (Y : Type 0) → X ≡ Y → Y → X
by_type X Y e y = subst (λ (Z : Type 0). Z) (sym e) y

short_is : (class : ℕ) (x g : Address) (d : List ℕ) → Writable (Udt class x g d)
    ≡ (fault (lengths 255 (written x) (written g) d []) (pointers 255 (5 + length (length (written x) ∷ written x) - 3)
    (5 + length (length (written x) ∷ written x) + length (length (written g) ∷ written g) - 4) 0) ≡ None)
unfolding fault first_failed lengths pointers
short_is class x g d = refl

short_written : (class : ℕ) (x g : Address) (d : List ℕ) → FitsShort (length (written x)) (length (written g)) (length d)
    → Writable (Udt class x g d)
unfolding lengths pointers
short_written class x g d h =
    by_type _ _ (short_is class x g d)
    (none_of_both _ _
    (none_failed _ _ _ _ (le-leb (length (written x)) 255 (omega (arith, h.addresses)))
    (le-leb (length (written g)) 255 (omega (arith, h.addresses))) (le-leb (length d) 255 h.payload_fits) refl)
    (none_failed _ _ _ _ refl (le-leb _ 255 (omega (arith, h.addresses))) (le-leb _ 255 (omega (arith, h.addresses))) refl))

-- types with parameters: without any there is no pointer to them
extended_plain : (class hops : ℕ) (x g : Address) (d : List ℕ) → Writable (Xudt class hops x g d [])
    ≡ (fault (lengths 255 (written x) (written g) d []) (pointers 255 (7 + length (length (written x) ∷ written x) - 4)
    (7 + length (length (written x) ∷ written x) + length (length (written g) ∷ written g) - 5) 0) ≡ None)
unfolding fault first_failed lengths pointers
extended_plain class hops x g d = refl

extended_is : (class hops : ℕ) (x g : Address) (d : List ℕ) (p : Parameter) (ps : List Parameter)
    → Writable (Xudt class hops x g d (p ∷ ps))
    ≡ (fault (lengths 255 (written x) (written g) d (p ∷ ps))
    (pointers 255 (7 + length (length (written x) ∷ written x) - 4)
    (7 + length (length (written x) ∷ written x) + length (length (written g) ∷ written g) - 5)
    (7 + length (length (written x) ∷ written x) + length (length (written g) ∷ written g) + length (length d ∷ d) - 6)) ≡ None)
unfolding fault first_failed lengths pointers
extended_is class hops x g d p ps = refl

extended_written : (class hops : ℕ) (x g : Address) (d : List ℕ) (params : List Parameter)
    → FitsExtended (length (written x)) (length (written g)) (length d) params → Writable (Xudt class hops x g d params)
unfolding lengths pointers
extended_written class hops x g d [] h =
    by_type _ _ (extended_plain class hops x g d)
    (none_of_both _ _
    (none_failed _ _ _ _ (le-leb (length (written x)) 255 (omega (arith, h.addresses)))
    (le-leb (length (written g)) 255 (omega (arith, h.addresses))) (le-leb (length d) 255 h.payload_fits) refl)
    (none_failed _ _ _ _ refl (le-leb _ 255 (omega (arith, h.addresses))) (le-leb _ 255 (omega (arith, h.addresses))) refl))
extended_written class hops x g d (p ∷ ps) h =
    let k : (length (written x) + length (written g) + length d ≤ 251) × (are_short (p ∷ ps) ≡ true) =
    ⊎_elim (λ (e : p ∷ ps ≡ []). absurd (cc)) (λ (q : (length (written x) + length (written g) + length d ≤ 251)
    × (are_short (p ∷ ps) ≡ true)). q) h.behind in
    by_type _ _ (extended_is class hops x g d p ps)
    (none_of_both _ _
    (none_failed _ _ _ _ (le-leb (length (written x)) 255 (omega (arith, h.addresses)))
    (le-leb (length (written g)) 255 (omega (arith, h.addresses))) (le-leb (length d) 255 h.payload_fits) k.1)
    (none_failed _ _ _ _ refl (le-leb _ 255 (omega (arith, h.addresses))) (le-leb _ 255 (omega (arith, h.addresses)))
    (le-leb _ 255 (omega (arith, k.0)))))

long_plain : (class hops : ℕ) (x g : Address) (d : List ℕ) → Writable (Ludt class hops x g d [])
    ≡ (fault (lengths 65535 (written x) (written g) d [])
    (pointers 65535 (11 + length (length (written x) ∷ written x) - 6)
    (11 + length (length (written x) ∷ written x) + length (length (written g) ∷ written g) - 8) 0) ≡ None)
unfolding fault first_failed lengths pointers
long_plain class hops x g d = refl

long_is : (class hops : ℕ) (x g : Address) (d : List ℕ) (p : Parameter) (ps : List Parameter) → Writable (Ludt class hops x g d (p ∷ ps))
    ≡ (fault (lengths 65535 (written x) (written g) d (p ∷ ps))
    (pointers 65535 (11 + length (length (written x) ∷ written x) - 6)
    (11 + length (length (written x) ∷ written x) + length (length (written g) ∷ written g) - 8)
    (11 + length (length (written x) ∷ written x) + length (length (written g) ∷ written g) + suc (suc (length d)) - 10)) ≡ None)
unfolding fault first_failed lengths pointers
long_is class hops x g d p ps = refl

long_written : (class hops : ℕ) (x g : Address) (d : List ℕ) (params : List Parameter)
    → FitsLong (length (written x)) (length (written g)) (length d) params → Writable (Ludt class hops x g d params)
unfolding lengths pointers
long_written class hops x g d [] h =
    by_type _ _ (long_plain class hops x g d)
    (none_of_both _ _
    (none_failed _ _ _ _ (le-leb (length (written x)) 255 h.called_fits) (le-leb (length (written g)) 255 h.calling_fits)
    (le-leb (length d) 65535 (omega (arith, h.payload_fits))) refl)
    (none_failed _ _ _ _ refl (le-leb _ 65535 (omega (arith, h.payload_fits))) (le-leb _ 65535 (omega (arith, h.payload_fits))) refl))
long_written class hops x g d (p ∷ ps) h =
    by_type _ _ (long_is class hops x g d p ps)
    (none_of_both _ _
    (none_failed _ _ _ _ (le-leb (length (written x)) 255 h.called_fits) (le-leb (length (written g)) 255 h.calling_fits)
    (le-leb (length d) 65535 (omega (arith, h.payload_fits))) h.params_fit)
    (none_failed _ _ _ _ refl (le-leb _ 65535 (omega (arith, h.payload_fits))) (le-leb _ 65535 (omega (arith, h.payload_fits)))
    (le-leb _ 65535 (omega (arith, h.payload_fits)))))

-- ---- lengths that are enough

less_short : (front back called calling payload : ℕ) → FitsShort front back payload → (front ≤ 255 → called ≤ front)
    → (back ≤ 255 → calling ≤ back) → FitsShort called calling payload
less_short front back called calling payload h p q =
    let k = h.addresses in
    let a : called ≤ front = p (omega (arith, k)) in
    let b : calling ≤ back = q (omega (arith, k)) in
    record { addresses = omega (arith, k, a, b); payload_fits = h.payload_fits }

less_extended : (front back called calling payload : ℕ) (params : List Parameter) → FitsExtended front back payload params
    → (front ≤ 255 → called ≤ front) → (back ≤ 255 → calling ≤ back) → FitsExtended called calling payload params
less_extended front back called calling payload params h p q =
    let k = h.addresses in
    let a : called ≤ front = p (omega (arith, k)) in
    let b : calling ≤ back = q (omega (arith, k)) in
    record {
      addresses = omega (arith, k, a, b);
      payload_fits = h.payload_fits;
      behind = ⊎_elim (λ (e : params ≡ []). inl e) (λ (w : (front + back + payload ≤ 251) × (are_short params ≡ true)). inr
          (omega (arith, w.0, a, b), w.1)) h.behind;
    }

less_long : (front back called calling payload : ℕ) (params : List Parameter) → FitsLong front back payload params
    → (front ≤ 255 → called ≤ front) → (back ≤ 255 → calling ≤ back) → FitsLong called calling payload params
less_long front back called calling payload params h p q =
    let a : called ≤ front = p h.called_fits in
    let b : calling ≤ back = q h.calling_fits in
    record {
      called_fits = omega (arith, h.called_fits, a);
      calling_fits = omega (arith, h.calling_fits, b);
      payload_fits = omega (arith, h.payload_fits, a, b);
      params_fit = h.params_fit;
    }

pub short_fits : (m : Message) (x g : Address) (d octets : List ℕ) (front back : ℕ) (f : ℕ → ℕ) → FitsShort front back (length octets)
    → (front ≤ 255 → length (written x) ≤ front) → (back ≤ 255 → length (written g) ≤ back) → octets ≡ d →
    ((k : ℕ) × (a : Address) × (m ≡ Udt k a g d)) ⊎ ((k : ℕ) × (a : Address) × (m ≡ Udts k a g d)) → Writable (redirected x f m)
short_fits m x g d octets front back f h p q e is =
    let k : FitsShort (length (written x)) (length (written g)) (length d) =
    less_short front back _ _ (length d) (subst (λ (o : List ℕ). FitsShort front back (length o)) e h) p q in
    ⊎_elim
    (λ (w : (k : ℕ) × (a : Address) × (m ≡ Udt k a g d)). subst (λ (n : Message). Writable (redirected x f n)) (sym w.2)
    (short_written w.0 x g d k))
    (λ (w : (k : ℕ) × (a : Address) × (m ≡ Udts k a g d)). subst (λ (n : Message). Writable (redirected x f n)) (sym w.2)
    (short_written w.0 x g d k)) is

pub extended_fits : (m : Message) (x g : Address) (d octets : List ℕ) (ps params : List Parameter) (front back : ℕ) (f : ℕ → ℕ)
    → FitsExtended front back (length octets) params → (front ≤ 255 → length (written x) ≤ front) → (back ≤ 255 → length (written g) ≤ back)
    → octets ≡ d → params ≡ ps →
    ((k : ℕ) × (j : ℕ) × (a : Address) × (m ≡ Xudt k j a g d ps)) ⊎ ((k : ℕ) × (j : ℕ) × (a : Address) × (m ≡ Xudts k j a g d ps))
    → Writable (redirected x f m)
extended_fits m x g d octets ps params front back f h p q e same is =
    let k : FitsExtended (length (written x)) (length (written g)) (length d) ps =
    less_extended front back _ _ (length d) ps (subst (λ (o : List ℕ). FitsExtended front back (length o) ps) e
    (subst (λ (o : List Parameter). FitsExtended front back (length octets) o) same h)) p q in
    ⊎_elim
    (λ (w : (k : ℕ) × (j : ℕ) × (a : Address) × (m ≡ Xudt k j a g d ps)). subst (λ (n : Message). Writable (redirected x f n)) (sym w.3)
    (extended_written w.0 (f w.1) x g d ps k))
    (λ (w : (k : ℕ) × (j : ℕ) × (a : Address) × (m ≡ Xudts k j a g d ps)). subst (λ (n : Message). Writable (redirected x f n)) (sym w.3)
    (extended_written w.0 (f w.1) x g d ps k)) is

pub long_fits : (m : Message) (x g : Address) (d octets : List ℕ) (ps params : List Parameter) (front back : ℕ) (f : ℕ → ℕ)
    → FitsLong front back (length octets) params → (front ≤ 255 → length (written x) ≤ front) → (back ≤ 255 → length (written g) ≤ back)
    → octets ≡ d → params ≡ ps →
    ((k : ℕ) × (j : ℕ) × (a : Address) × (m ≡ Ludt k j a g d ps)) ⊎ ((k : ℕ) × (j : ℕ) × (a : Address) × (m ≡ Ludts k j a g d ps))
    → Writable (redirected x f m)
long_fits m x g d octets ps params front back f h p q e same is =
    let k : FitsLong (length (written x)) (length (written g)) (length d) ps =
    less_long front back _ _ (length d) ps (subst (λ (o : List ℕ). FitsLong front back (length o) ps) e
    (subst (λ (o : List Parameter). FitsLong front back (length octets) o) same h)) p q in
    ⊎_elim
    (λ (w : (k : ℕ) × (j : ℕ) × (a : Address) × (m ≡ Ludt k j a g d ps)). subst (λ (n : Message). Writable (redirected x f n)) (sym w.3)
    (long_written w.0 (f w.1) x g d ps k))
    (λ (w : (k : ℕ) × (j : ℕ) × (a : Address) × (m ≡ Ludts k j a g d ps)). subst (λ (n : Message). Writable (redirected x f n)) (sym w.3)
    (long_written w.0 (f w.1) x g d ps k)) is
