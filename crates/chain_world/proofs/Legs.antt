-- A leg as a running relay finds it: only by its sections.
use Rattle.std.specs.Prelude.{ℕ, ◌≡◌, ◌==◌, Bool, true, false, cond, ◌&&◌, ◌||◌, List, [], ◌∷◌, filter, find, Option, Some, None, All, refl}
use Rattle.std.proofs.Common.{sym, ◌∙◌, ap, subst, ⊎_elim}
use Rattle.std.proofs.lemmas.Bool.{eq-eqb, eqb-true, and_parts, and_from}
use Rattle.sccp_couple.specs.declared.section.Section.{Section}
use Rattle.sccp_couple.specs.Sections.{is_that, section_at, is_near_of}
use Rattle.sccp_couple.specs.Invariant.{OwnDiffer}
use Rattle.sccp_couple.specs.Runs.{Pair, Moment}
use Rattle.sccp_couple.proofs.Lookups.{option_cases, at_head, at_tail}
use Rattle.sccp_couple.proofs.Fairness.{IsFair, joined_parts, that_is}
use Rattle.sccp_couple.proofs.Keeping.{true_false}
use Rattle.sccp_couple.proofs.Ledger.{IsKept, has}
use Rattle.couple_chain.specs.Line.{is_from, starts_at}
use Rattle.couple_chain.proofs.Counts.{Each-All, Each-find}

-- a section that is found is the one under its own reference
pub own_found : (p : Section → Bool) (l : List Section) → OwnDiffer l → (s : Section) → find p l ≡ Some s
    → (section_at l s.own ≡ Some s) × (p s ≡ true)
own_found p [] d s h = absurd (cc)
own_found p (x ∷ xs) d s h =
    elim (p x) as (λ b. p x ≡ b → cond b (Some x) (find p xs) ≡ Some s → (section_at (x ∷ xs) s.own ≡ Some s) × (p s ≡ true)) [
      | true ↦ λ e k. let f : x ≡ s = cc in (
        subst (λ (y : Section). section_at (x ∷ xs) y.own ≡ Some y) f (at_head x xs x.own refl),
        subst
            (λ (y : Section). p y ≡ true) f e,
      )
      | false ↦ λ e k.
          let r = own_found p xs d.1 s k in
          (at_tail x xs s.own (λ g. clash x xs s g d.0 r.0) ∙ r.0, r.1)
    ] refl h
  where
    clash : (x : Section) (xs : List Section) (s : Section) → x.own ≡ s.own → section_at xs x.own ≡ None → section_at xs s.own ≡ Some s → ⊥
    clash x xs s g none some = let a : section_at xs s.own ≡ None = subst (λ (n : ℕ). section_at xs n ≡ None) g none in cc

-- a section that passes a test is one that is found
some_found : (p : Section → Bool) (l : List Section) (q : ℕ) (s : Section) → section_at l q ≡ Some s → p s ≡ true → find p l ≡ None → ⊥
some_found p [] q s at h none = cc
some_found p (x ∷ xs) q s at h none =
    elim (p x) as (λ b. p x ≡ b → cond b (Some x) (find p xs) ≡ None → ⊥) [
      | true ↦ λ e k. let z : Some x ≡ None = k in cc
      | false ↦ λ e k.
          elim (x.own == q) as (λ b. cond b (Some x) (section_at xs q) ≡ Some s → ⊥) [
            | true ↦ λ f. let g : x ≡ s = cc in true_false (sym h ∙ ap p (sym g) ∙ e)
            | false ↦ λ f. some_found p xs q s f h k
          ] at
    ] refl none

find_one : (q h : Pair → Bool) (ps : List Pair) (r : Pair) → ((p : Pair) → q p ≡ true → h p ≡ true) → q r ≡ true → filter h ps ≡ r ∷ []
    → find q ps ≡ Some r
find_one q h [] r all is e = absurd (cc)
find_one q h (p ∷ ps) r all is e =
    elim (q p) as (λ b. q p ≡ b → cond b (Some p) (find q ps) ≡ Some r) [
      | true ↦ λ f. let k : p ∷ filter h ps ≡ r ∷ [] = sym (ap (λ (b : Bool). cond b (p ∷ filter h ps) (filter h ps)) (all p f))
          ∙ e in let g : p ≡ r = cc in ap (λ (x : Pair). Some x) g
      | false ↦ λ f.
          elim (h p) as (λ b. cond b (p ∷ filter h ps) (filter h ps) ≡ r ∷ [] → find q ps ≡ Some r) [
            | true ↦ λ k. let g : p ≡ r = cc in true_false (sym is ∙ ap q (sym g) ∙ f)
            | false ↦ λ k. find_one q h ps r all is k
          ] e
    ] refl

near_parts : (point remote : ℕ) (s : Section) → is_near_of point remote s ≡ true
    → (s.near ≡ true) × (s.point ≡ point) × (s.remote ≡ Some remote)
near_parts point remote s h =
    let a = and_parts s.near ((s.point == point) && is_that s.remote remote) h in
    let b = and_parts (s.point == point) (is_that s.remote remote) a.1 in
    (a.0, eqb-true s.point point b.0, that_is s.remote remote b.1)

-- the section that a pair's test looks at
from_section : (o : Option Section) (l : List Section) (point remote : ℕ) → is_from l point remote o ≡ true
    → (s : Section) × (o ≡ Some s) × (is_near_of point remote s ≡ true)
from_section None l point remote h = absurd (cc)
from_section (Some s) l point remote h = (s, refl, h)

-- a near section with an other is the near one of the pair that is looked up
pub leg_is : (m : Moment) → IsKept m → (point remote o : ℕ) (s : Section) → find (is_near_of point remote) m.sections ≡ Some s
    → s.other ≡ Some o →
    (p : Pair) × (find (starts_at m point remote) m.pairs ≡ Some p) × (p.stands ≡ true) × (p.near ≡ s.own) × (p.far ≡ o)
leg_is m kept point remote o s found joined =
    let l : List Section = m.sections in
    let at = own_found (is_near_of point remote) l kept.coupling.differ s found in
    let parts = near_parts point remote s at.1 in
    let r = (kept.ledger s.own).one s o at.0 joined in
    let near : r.0.near ≡ s.own = r.3 ∙ ap (λ (b : Bool). cond b s.own o) parts.0 in
    let far : r.0.far ≡ o = r.4 ∙ ap (λ (b : Bool). cond b o s.own) parts.0 in
    let starts : starts_at m point remote r.0 ≡ true = and_from r.0.stands (is_from l point remote (section_at l r.0.near)) r.2
    (ap (is_from l point remote) (ap (section_at l) near ∙ at.0) ∙ at.1) in
    (r.0, find_one (starts_at m point remote) (has s.own) m.pairs r.0 (λ p h. only p h s at.0 parts) starts r.1, r.2, near, far)
  where
    only : (p : Pair) → starts_at m point remote p ≡ true → (s : Section) → section_at m.sections s.own ≡ Some s
        → (s.near ≡ true) × (s.point ≡ point) × (s.remote ≡ Some remote) → has s.own p ≡ true
    only p h s at parts =
        let both = and_parts p.stands (is_from m.sections point remote (section_at m.sections p.near)) h in
        let t = from_section (section_at m.sections p.near) m.sections point remote both.1 in
        let it = near_parts point remote t.0 t.2 in
        let same : s.own ≡ p.near = kept.coupling.near_differ s.own p.near s t.0 at t.1 parts.0 it.0 (parts.1 ∙ sym it.1) (parts.2
        ∙ sym it.2) in
        and_from p.stands ((s.own == p.near) || (s.own == p.far)) both.0
        (ap (λ (b : Bool). b || (s.own == p.far)) (eq-eqb s.own p.near same))

-- if there is none, or it is being released, there is no leg
pub no_leg : (m : Moment) → IsKept m → All (IsFair m.sections) m.pairs → (point remote : ℕ)
    → ((s : Section) (o : ℕ) → find (is_near_of point remote) m.sections ≡ Some s → s.other ≡ Some o → ⊥)
    → find (starts_at m point remote) m.pairs ≡ None
no_leg m kept fair point remote none =
    ⊎_elim
    (λ (e : find (starts_at m point remote) m.pairs ≡ None). e)
    (λ (some : (p : Pair) × (find (starts_at m point remote) m.pairs ≡ Some p)).
    let l : List Section = m.sections in
    let f = Each-find (IsFair l) (starts_at m point remote) m.pairs some.0 (Each-All (IsFair l) m.pairs fair) some.1 in
    let both = and_parts some.0.stands (is_from l point remote (section_at l some.0.near)) f.0 in
    let t = from_section (section_at l some.0.near) l point remote both.1 in
    let it = near_parts point remote t.0 t.2 in
    let j = joined_parts l some.0.near some.0.far (f.1.joined both.0) in
    let same : j.near_section ≡ t.0 = let a = j.near_at in let b = t.1 in cc in
    ⊎_elim
    (λ (gone : find (is_near_of point remote) l ≡ None). absurd (some_found (is_near_of point remote) l some.0.near t.0 t.1 t.2 gone))
    (λ (u : (s : Section) × (find (is_near_of point remote) l ≡ Some s)).
    let at = own_found (is_near_of point remote) l kept.coupling.differ u.0 u.1 in
    let parts = near_parts point remote u.0 at.1 in
    let one : u.0.own ≡ some.0.near = kept.coupling.near_differ u.0.own some.0.near u.0 t.0 at.0 t.1 parts.0 it.0 (parts.1
    ∙ sym it.1) (parts.2 ∙ sym it.2) in
    let is : u.0 ≡ t.0 = let a : section_at l some.0.near ≡ Some u.0 = subst (λ (n : ℕ). section_at l n ≡ Some u.0) one at.0 in let b =
    t.1 in cc in
    absurd (none u.0 some.0.far u.1 (ap (λ (x : Section). x.other) (is ∙ sym same) ∙ j.near_other)))
    (option_cases (find (is_near_of point remote) l)))
    (option_cases (find (starts_at m point remote) m.pairs))
