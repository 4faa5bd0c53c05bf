-- The test of what counts as the expected message says what it tests.
use Rattle.std.proofs.Common.{◌≡◌, ℕ, Bool, true, false, List, [], Option, Some, None, refl, sym, ◌∙◌, ap, subst, ◌&&◌, ◌⊎◌, inl, inr}
use Rattle.std.proofs.Common.{⊎_elim, ◌↔◌}
use Rattle.std.specs.Prelude.{◌==◌, nat_eq, if◌then◌else◌, unwrap_or, IsSomeAnd, IsTrue}
use Rattle.std.specs.Cmp.Lexicographic.{pointwise, nat_list_eq_equiv, same_text}
use Rattle.std.proofs.lemmas.Bool.{and_parts, eqb-true, eq-eqb}
use Rattle.sccp_base.specs.Selector.{same_selector}
use Rattle.sccp_base.proofs.Selectors.{same_selector-≡, same_selector-own}
use Rattle.sccp_address.specs.declared.address.Address.{Address}
use Rattle.sccp_address.specs.declared.address.Title.{Title}
use Rattle.sccp_address.specs.declared.address.Title.TheVariants.{Absent, Global, Raw}
use Rattle.sccp_layout.specs.Parameter.{Parameter}
use Rattle.sccp_message.specs.declared.message.Message.{Message}
use Rattle.sccp_message.specs.declared.message.Message.TheVariants.{Udt, Udts, Xudt, Xudts, Ludt, Ludts}
use Rattle.sccp_message.specs.Unitdata.{called_of, hops_of, payload_of}
use Rattle.sccp_scrc.specs.Unitdata.{redirected}
use Rattle.relay_ways.specs.Alike.{IsSamePoint, IsSameCalled, IsAlike, code_of, number_of, calling_of, params_of}
use Rattle.relay_ways.specs.Alike.{same_flag, same_optional, same_point, same_title, is_absent, same_address, same_called}

flag_is : (a b : Bool) → same_flag a b ≡ true → a ≡ b
flag_is true b e = sym e
flag_is false true e = absurd cc
flag_is false false e = refl

flag_own : (a b : Bool) → a ≡ b → same_flag a b ≡ true
flag_own true b e = sym e
flag_own false true e = absurd cc
flag_own false false e = refl

pub optional_is : (a b : Option ℕ) → same_optional a b ≡ true → a ≡ b
optional_is None None e = refl
optional_is None (Some b) e = absurd cc
optional_is (Some a) None e = absurd cc
optional_is (Some a) (Some b) e = ap Some (eqb-true a b e)

optional_same : (a : Option ℕ) → same_optional a a ≡ true
optional_same None = refl
optional_same (Some a) = eq-eqb a a refl

optional_own : (a b : Option ℕ) → a ≡ b → same_optional a b ≡ true
optional_own a b e = subst (λ (x : Option ℕ). same_optional a x ≡ true) e (optional_same a)

title_is : (a b : Title) → same_title a b ≡ true → a ≡ b
title_is Absent Absent e = refl
title_is Absent (Global selector digits) e = absurd cc
title_is Absent (Raw kind octets) e = absurd cc
title_is (Global selector digits) Absent e = absurd cc
title_is (Global selector digits) (Global s d) e =
    let p = and_parts (same_selector selector s) (pointwise nat_eq digits d) e in
    let selectors : selector ≡ s = same_selector-≡ selector s p.0 in
    let all : digits ≡ d = same_text digits d (sym p.1) in
    λ i. Global (selectors i) (all i)
title_is (Global selector digits) (Raw k o) e = absurd cc
title_is (Raw kind octets) Absent e = absurd cc
title_is (Raw kind octets) (Global s d) e = absurd cc
title_is (Raw kind octets) (Raw k o) e =
    let p = and_parts (kind == k) (pointwise nat_eq octets o) e in
    let kinds : kind ≡ k = eqb-true kind k p.0 in
    let all : octets ≡ o = same_text octets o (sym p.1) in
    λ i. Raw (kinds i) (all i)

title_same : (a : Title) → same_title a a ≡ true
title_same Absent = refl
title_same (Global selector digits) = rw (same_selector-own selector) (nat_list_eq_equiv.refl digits)
title_same (Raw kind octets) = rw (eq-eqb kind kind refl) (nat_list_eq_equiv.refl octets)

title_own : (a b : Title) → a ≡ b → same_title a b ≡ true
title_own a b e = subst (λ (x : Title). same_title a x ≡ true) e (title_same a)

pub address_is : (a b : Address) → same_address a b ≡ true → a ≡ b
address_is a b e =
    let n = and_parts (same_flag a.national b.national)
    (same_flag a.by_ssn b.by_ssn && (same_optional a.pc b.pc && (same_optional a.ssn b.ssn && same_title a.title b.title))) e in
    let r = and_parts (same_flag a.by_ssn b.by_ssn)
    (same_optional a.pc b.pc && (same_optional a.ssn b.ssn && same_title a.title b.title)) n.1 in
    let p = and_parts (same_optional a.pc b.pc) (same_optional a.ssn b.ssn && same_title a.title b.title) r.1 in
    let s = and_parts (same_optional a.ssn b.ssn) (same_title a.title b.title) p.1 in
    let national : a.national ≡ b.national = flag_is a.national b.national n.0 in
    let by_ssn : a.by_ssn ≡ b.by_ssn = flag_is a.by_ssn b.by_ssn r.0 in
    let pc : a.pc ≡ b.pc = optional_is a.pc b.pc p.0 in
    let ssn : a.ssn ≡ b.ssn = optional_is a.ssn b.ssn s.0 in
    let title : a.title ≡ b.title = title_is a.title b.title s.1 in
    λ i. record { national = national i; by_ssn = by_ssn i; pc = pc i; ssn = ssn i; title = title i }

all_five : (a b c d e : Bool) → a ≡ true → b ≡ true → c ≡ true → d ≡ true → e ≡ true → (a && (b && (c && (d && e)))) ≡ true
all_five a b c d e g h i j k = rw (g, h, i, j, k) refl

address_same : (a : Address) → same_address a a ≡ true
address_same a =
    all_five (same_flag a.national a.national) (same_flag a.by_ssn a.by_ssn) (same_optional a.pc a.pc) (same_optional a.ssn a.ssn)
    (same_title a.title a.title) (flag_own a.national a.national refl) (flag_own a.by_ssn a.by_ssn refl) (optional_same a.pc)
    (optional_same a.ssn) (title_same a.title)

pub address_own : (a b : Address) → a ≡ b → same_address a b ≡ true
address_own a b e = subst (λ (x : Address). same_address a x ≡ true) e (address_same a)

point_is : (to : ℕ) (a b : Option ℕ) → same_point to a b ≡ true → IsSamePoint to a b
point_is to None None e = inl refl
point_is to None (Some b) e = inr (inl (refl, ap Some (eqb-true b to e)))
point_is to (Some a) None e = inr (inr (ap Some (eqb-true a to e), refl))
point_is to (Some a) (Some b) e = inl (ap Some (eqb-true a b e))

point_same : (to : ℕ) (a : Option ℕ) → same_point to a a ≡ true
point_same to None = refl
point_same to (Some a) = eq-eqb a a refl

point_own : (to : ℕ) (a b : Option ℕ) → IsSamePoint to a b → same_point to a b ≡ true
point_own to a b is =
    ⊎_elim (λ (e : a ≡ b). subst (λ (x : Option ℕ). same_point to a x ≡ true) e (point_same to a))
    (λ (rest : ((a ≡ None) × (b ≡ Some to)) ⊎ ((a ≡ Some to) × (b ≡ None))).
    ⊎_elim (λ (p : (a ≡ None) × (b ≡ Some to)). rw (p.0, p.1) (eq-eqb to to refl))
    (λ (p : (a ≡ Some to) × (b ≡ None)). rw (p.0, p.1) (eq-eqb to to refl)) rest) is

absent_is : (t : Title) → is_absent t ≡ true → t ≡ Absent
absent_is Absent e = refl
absent_is (Global selector digits) e = absurd cc
absent_is (Raw kind octets) e = absurd cc

called_title_is : (a b : Address) → (if same_title a.title b.title then true else a.by_ssn && is_absent b.title) ≡ true
    → (b.title ≡ a.title) ⊎ ((a.by_ssn ≡ true) × (b.title ≡ Absent))
called_title_is a b e = by (same_title a.title b.title) refl e where
  by : (t : Bool) → same_title a.title b.title ≡ t → (if t then true else a.by_ssn && is_absent b.title) ≡ true
      → (b.title ≡ a.title) ⊎ ((a.by_ssn ≡ true) × (b.title ≡ Absent))
  by true f g = inl (sym (title_is a.title b.title f))
  by false f g = let p = and_parts a.by_ssn (is_absent b.title) g in inr (p.0, absent_is b.title p.1)

called_title_own : (a b : Address) → (b.title ≡ a.title) ⊎ ((a.by_ssn ≡ true) × (b.title ≡ Absent))
    → (if same_title a.title b.title then true else a.by_ssn && is_absent b.title) ≡ true
called_title_own a b is =
    ⊎_elim (λ (e : b.title ≡ a.title). rw (title_own a.title b.title (sym e)) refl)
    (λ (p : (a.by_ssn ≡ true) × (b.title ≡ Absent)).
    any (same_title a.title b.title) (a.by_ssn && is_absent b.title) (rw (p.0, p.1) refl)) is
  where
    any : (t u : Bool) → u ≡ true → (if t then true else u) ≡ true
    any true u e = refl
    any false u e = e

pub called_is : (to : ℕ) (a b : Address) → same_called to a b ≡ true → IsSameCalled to a b
called_is to a b e =
    let n = and_parts (same_flag a.national b.national)
    (same_flag a.by_ssn b.by_ssn && (same_point to a.pc b.pc && (same_optional a.ssn b.ssn
    && (if same_title a.title b.title then true else a.by_ssn && is_absent b.title)))) e in
    let r = and_parts (same_flag a.by_ssn b.by_ssn) (same_point to a.pc b.pc && (same_optional a.ssn b.ssn
    && (if same_title a.title b.title then true else a.by_ssn && is_absent b.title))) n.1 in
    let p = and_parts (same_point to a.pc b.pc) (same_optional a.ssn b.ssn
    && (if same_title a.title b.title then true else a.by_ssn && is_absent b.title)) r.1 in
    let s = and_parts (same_optional a.ssn b.ssn) (if same_title a.title b.title then true else a.by_ssn && is_absent b.title) p.1 in
    record {
      national = sym (flag_is a.national b.national n.0);
      routing = sym (flag_is a.by_ssn b.by_ssn r.0);
      point = point_is to a.pc b.pc p.0;
      subsystem = sym (optional_is a.ssn b.ssn s.0);
      title = called_title_is a b s.1;
    }

pub called_own : (to : ℕ) (a b : Address) → IsSameCalled to a b → same_called to a b ≡ true
called_own to a b is =
    all_five (same_flag a.national b.national) (same_flag a.by_ssn b.by_ssn) (same_point to a.pc b.pc) (same_optional a.ssn b.ssn)
    (if same_title a.title b.title then true else a.by_ssn && is_absent b.title)
    (flag_own a.national b.national (sym is.national)) (flag_own a.by_ssn b.by_ssn (sym is.routing)) (point_own to a.pc b.pc is.point)
    (optional_own a.ssn b.ssn (sym is.subsystem)) (called_title_own a b is.title)

-- A connectionless message is made of its fields.

made : ℕ → ℕ → Option ℕ → Address → Option Address → Option (List ℕ) → Option (List Parameter) → Message
made code number hops called calling payload params =
    if code == 9 then Udt number called (unwrap_or calling called) (unwrap_or payload [])
    else if code == 10 then Udts number called (unwrap_or calling called) (unwrap_or payload [])
    else if code == 17 then Xudt number (unwrap_or hops 0) called (unwrap_or calling called) (unwrap_or payload []) (unwrap_or params [])
    else if code == 18 then Xudts number (unwrap_or hops 0) called (unwrap_or calling called) (unwrap_or payload []) (unwrap_or params [])
    else if code == 19 then Ludt number (unwrap_or hops 0) called (unwrap_or calling called) (unwrap_or payload []) (unwrap_or params [])
    else Ludts number (unwrap_or hops 0) called (unwrap_or calling called) (unwrap_or payload []) (unwrap_or params [])

redirected_made : (m : Message) (old new : Address) → called_of m ≡ Some old
    → redirected new (λ hops. hops) m ≡ made (code_of m) (number_of m) (hops_of m) new (calling_of m) (payload_of m) (params_of m)
unfolding made
redirected_made (Udt class called calling payload) old new e = refl
redirected_made (Udts cause called calling payload) old new e = refl
redirected_made (Xudt class hops called calling payload params) old new e = refl
redirected_made (Xudts cause hops called calling payload params) old new e = refl
redirected_made (Ludt class hops called calling payload params) old new e = refl
redirected_made (Ludts cause hops called calling payload params) old new e = refl
redirected_made m old new e = absurd cc

redirected_own : (m : Message) (old : Address) → called_of m ≡ Some old → m ≡ redirected old (λ hops. hops) m
redirected_own (Udt class called calling payload) old e = let same : called ≡ old = cc in ap (λ x. Udt class x calling payload) same
redirected_own (Udts cause called calling payload) old e = let same : called ≡ old = cc in ap (λ x. Udts cause x calling payload) same
redirected_own (Xudt class hops called calling payload params) old e =
    let same : called ≡ old = cc in ap (λ x. Xudt class hops x calling payload params) same
redirected_own (Xudts cause hops called calling payload params) old e =
    let same : called ≡ old = cc in ap (λ x. Xudts cause hops x calling payload params) same
redirected_own (Ludt class hops called calling payload params) old e =
    let same : called ≡ old = cc in ap (λ x. Ludt class hops x calling payload params) same
redirected_own (Ludts cause hops called calling payload params) old e =
    let same : called ≡ old = cc in ap (λ x. Ludts cause hops x calling payload params) same
redirected_own m old e = absurd cc

-- the fields of both messages, as the tests compare them
pub record HaveSameFields (to : ℕ) (expected sent : Message) : Type 0 where
  pub code : code_of expected ≡ code_of sent
  pub number : number_of expected ≡ number_of sent
  pub hops : hops_of expected ≡ hops_of sent
  pub called : IsSomeAnd (called_of expected) (λ x. IsSomeAnd (called_of sent) (λ y. IsSameCalled to x y))
  pub calling : calling_of expected ≡ calling_of sent
  pub params : params_of expected ≡ params_of sent
  pub payload : payload_of expected ≡ payload_of sent

made_same : (to : ℕ) (e s : Message) (b : Address) → HaveSameFields to e s
    → made (code_of e) (number_of e) (hops_of e) b (calling_of e) (payload_of e) (params_of e)
    ≡ made (code_of s) (number_of s) (hops_of s) b (calling_of s) (payload_of s) (params_of s)
made_same to e s b f = λ i. made (f.code i) (f.number i) (f.hops i) b (f.calling i) (f.payload i) (f.params i)

alike_with : (to : ℕ) (e s : Message) (a b : Address) → HaveSameFields to e s → called_of e ≡ Some a → called_of s ≡ Some b
    → IsSameCalled to a b → IsAlike to e s
alike_with to e s a b f at there is = record {
  old = a;
  new = b;
  expected_called = at;
  same = redirected_own s b there ∙ redirected_made s b b there ∙ sym (made_same to e s b f) ∙ sym (redirected_made e a b at);
  called = is;
}

pub fields_alike : (to : ℕ) (e s : Message) → HaveSameFields to e s → IsAlike to e s
fields_alike to e s f = by (called_of e) (called_of s) refl refl f.called where
  by : (o p : Option Address) → called_of e ≡ o → called_of s ≡ p → IsSomeAnd o (λ x. IsSomeAnd p (λ y. IsSameCalled to x y))
      → IsAlike to e s
  by None p at there is = absurd is
  by (Some a) None at there is = absurd is
  by (Some a) (Some b) at there is = alike_with to e s a b f at there is

-- Only the called address is changed.

code_kept : (m : Message) (a : Address) → code_of (redirected a (λ hops. hops) m) ≡ code_of m
code_kept (Udt class called calling payload) a = refl
code_kept (Udts cause called calling payload) a = refl
code_kept (Xudt class hops called calling payload params) a = refl
code_kept (Xudts cause hops called calling payload params) a = refl
code_kept (Ludt class hops called calling payload params) a = refl
code_kept (Ludts cause hops called calling payload params) a = refl
code_kept m a = refl

number_kept : (m : Message) (a : Address) → number_of (redirected a (λ hops. hops) m) ≡ number_of m
number_kept (Udt class called calling payload) a = refl
number_kept (Udts cause called calling payload) a = refl
number_kept (Xudt class hops called calling payload params) a = refl
number_kept (Xudts cause hops called calling payload params) a = refl
number_kept (Ludt class hops called calling payload params) a = refl
number_kept (Ludts cause hops called calling payload params) a = refl
number_kept m a = refl

hops_kept : (m : Message) (a : Address) → hops_of (redirected a (λ hops. hops) m) ≡ hops_of m
hops_kept (Udt class called calling payload) a = refl
hops_kept (Udts cause called calling payload) a = refl
hops_kept (Xudt class hops called calling payload params) a = refl
hops_kept (Xudts cause hops called calling payload params) a = refl
hops_kept (Ludt class hops called calling payload params) a = refl
hops_kept (Ludts cause hops called calling payload params) a = refl
hops_kept m a = refl

calling_kept : (m : Message) (a : Address) → calling_of (redirected a (λ hops. hops) m) ≡ calling_of m
calling_kept (Udt class called calling payload) a = refl
calling_kept (Udts cause called calling payload) a = refl
calling_kept (Xudt class hops called calling payload params) a = refl
calling_kept (Xudts cause hops called calling payload params) a = refl
calling_kept (Ludt class hops called calling payload params) a = refl
calling_kept (Ludts cause hops called calling payload params) a = refl
calling_kept m a = refl

params_kept : (m : Message) (a : Address) → params_of (redirected a (λ hops. hops) m) ≡ params_of m
params_kept (Udt class called calling payload) a = refl
params_kept (Udts cause called calling payload) a = refl
params_kept (Xudt class hops called calling payload params) a = refl
params_kept (Xudts cause hops called calling payload params) a = refl
params_kept (Ludt class hops called calling payload params) a = refl
params_kept (Ludts cause hops called calling payload params) a = refl
params_kept m a = refl

payload_kept : (m : Message) (a : Address) → payload_of (redirected a (λ hops. hops) m) ≡ payload_of m
payload_kept (Udt class called calling payload) a = refl
payload_kept (Udts cause called calling payload) a = refl
payload_kept (Xudt class hops called calling payload params) a = refl
payload_kept (Xudts cause hops called calling payload params) a = refl
payload_kept (Ludt class hops called calling payload params) a = refl
payload_kept (Ludts cause hops called calling payload params) a = refl
payload_kept m a = refl

called_new : (m : Message) (old a : Address) → called_of m ≡ Some old → called_of (redirected a (λ hops. hops) m) ≡ Some a
called_new (Udt class called calling payload) old a e = refl
called_new (Udts cause called calling payload) old a e = refl
called_new (Xudt class hops called calling payload params) old a e = refl
called_new (Xudts cause hops called calling payload params) old a e = refl
called_new (Ludt class hops called calling payload params) old a e = refl
called_new (Ludts cause hops called calling payload params) old a e = refl
called_new m old a e = absurd cc

pub alike_fields : (to : ℕ) (e s : Message) → IsAlike to e s → HaveSameFields to e s
alike_fields to e s is = record {
  code = sym (ap code_of is.same ∙ code_kept e is.new);
  number = sym (ap number_of is.same ∙ number_kept e is.new);
  hops = sym (ap hops_of is.same ∙ hops_kept e is.new);
  called = rw (is.expected_called) (rw (ap called_of is.same ∙ called_new e is.old is.new is.expected_called) is.called);
  calling = sym (ap calling_of is.same ∙ calling_kept e is.new);
  params = sym (ap params_of is.same ∙ params_kept e is.new);
  payload = sym (ap payload_of is.same ∙ payload_kept e is.new);
}

-- What the tests of the code say.

pub numbers_own : (to : ℕ) (e s : Message) → HaveSameFields to e s
    → (code_of e == code_of s && (number_of e == number_of s && same_optional (hops_of e) (hops_of s))) ≡ true
numbers_own to e s f =
    rw (
      eq-eqb (code_of e) (code_of s) f.code,
      eq-eqb (number_of e) (number_of s) f.number,
      optional_own (hops_of e)
          (hops_of s) f.hops,
    ) refl

-- both have a calling address, and it is the same
same_both : (o p : Option Address) → IsSomeAnd o (λ x. IsSomeAnd p (λ y. x ≡ y)) → o ≡ p
same_both None p is = absurd is
same_both (Some a) None is = absurd is
same_both (Some a) (Some b) is = ap Some is

pub fields_from : (to : ℕ) (e s : Message)
    → (code_of e == code_of s && (number_of e == number_of s && same_optional (hops_of e) (hops_of s))) ≡ true
    → IsSomeAnd (called_of e) (λ x. IsSomeAnd (called_of s) (λ y. IsSameCalled to x y))
    → IsSomeAnd (calling_of e) (λ x. IsSomeAnd (calling_of s) (λ y. x ≡ y))
    → params_of e ≡ params_of s → payload_of e ≡ payload_of s → HaveSameFields to e s
fields_from to e s numbers called calling params payload =
    let c = and_parts (code_of e == code_of s) (number_of e == number_of s && same_optional (hops_of e) (hops_of s)) numbers in
    let n = and_parts (number_of e == number_of s) (same_optional (hops_of e) (hops_of s)) c.1 in
    record {
      code = eqb-true (code_of e) (code_of s) c.0;
      number = eqb-true (number_of e) (number_of s) n.0;
      hops = optional_is (hops_of e) (hops_of s) n.1;
      called = called;
      calling = same_both (calling_of e) (calling_of s) calling;
      params = params;
      payload = payload;
    }

-- a message that is alike has the same calling address
pub calling_own : (to : ℕ) (e s : Message) → IsAlike to e s → IsSomeAnd (calling_of e) (λ x. IsSomeAnd (calling_of s) (λ y. x ≡ y))
calling_own to e s is = by (calling_of e) (calling_of s) (has_calling e is.old is.expected_called) (alike_fields to e s is).calling where
  has_calling : (m : Message) (a : Address) → called_of m ≡ Some a → IsSomeAnd (calling_of m) (λ x. Unit {0})
  has_calling (Udt class called calling payload) a e = tt
  has_calling (Udts cause called calling payload) a e = tt
  has_calling (Xudt class hops called calling payload params) a e = tt
  has_calling (Xudts cause hops called calling payload params) a e = tt
  has_calling (Ludt class hops called calling payload params) a e = tt
  has_calling (Ludts cause hops called calling payload params) a e = tt
  has_calling m a e = absurd cc

  by : (o p : Option Address) → IsSomeAnd o (λ x. Unit {0}) → o ≡ p → IsSomeAnd o (λ x. IsSomeAnd p (λ y. x ≡ y))
  by None p has e = absurd has
  by (Some a) None has e = absurd cc
  by (Some a) (Some b) has e = cc

pub called_pair : (to : ℕ) (o p : Option Address) (x y : Address) (r : Bool) → Some x ≡ o → Some y ≡ p → r ≡ same_called to x y
    → IsTrue r ↔ IsSomeAnd o (λ u. IsSomeAnd p (λ v. IsSameCalled to u v))
called_pair to o p x y r at there is =
    subst (λ (q : Option Address). IsTrue r ↔ IsSomeAnd q (λ u. IsSomeAnd p (λ v. IsSameCalled to u v))) at
    (subst (λ (q : Option Address). IsTrue r ↔ IsSomeAnd (Some x) (λ u. IsSomeAnd q (λ v. IsSameCalled to u v))) there
    (λ t. called_is to x y (sym is ∙ t), λ h. is ∙ called_own to x y h))

pub calling_pair : (o p : Option Address) (x y : Address) (r : Bool) → Some x ≡ o → Some y ≡ p → r ≡ same_address x y
    → IsTrue r ↔ IsSomeAnd o (λ u. IsSomeAnd p (λ v. u ≡ v))
calling_pair o p x y r at there is =
    subst (λ (q : Option Address). IsTrue r ↔ IsSomeAnd q (λ u. IsSomeAnd p (λ v. u ≡ v))) at
    (subst (λ (q : Option Address). IsTrue r ↔ IsSomeAnd (Some x) (λ u. IsSomeAnd q (λ v. u ≡ v))) there
    (λ t. address_is x y (sym is ∙ t), λ h. is ∙ address_own x y h))
