-- which targets the marks of losses close
use Rattle.std.specs.Prelude.{ℕ, ◌≡◌, not, Bool, true, false, cond, List, [], ◌∷◌, Some, None, is_none, refl}
use Rattle.std.specs.List.{All, find}
use Rattle.std.proofs.Common.{sym, ◌∙◌, ap, suc, ⊎_elim, arith}
use Rattle.std.proofs.lemmas.Bool.{false≢true, cases_Bool, and_from}
use Rattle.sccp_base.specs.declared.mark.Mark.{Mark}
use Rattle.sccp_base.specs.declared.mark.Mark.TheVariants.{PointCode, Sccp, Subsystem}
use Rattle.sccp_base.specs.Marks.{holds}
use Rattle.sccp_base.proofs.Among.{Among, All-among, find-Some, find-None}
use Rattle.plan_model.specs.Network.{Network}
use Rattle.plan_classes.proofs.Openings.{among_holds}
use Rattle.plan_margin.specs.declared.outage_set.OutageSet.{OutageSet}
use Rattle.plan_margin.specs.Outages.{IsPointMark, is_loss, IsLoss}
use Rattle.plan_margin.specs.Searching.{IsIn, is_free}

pub all_tail : (m : Mark) (ms : List Mark) → All IsPointMark (m ∷ ms) → All IsPointMark ms
all_tail m ms all = λ k d lt. all (suc k) d (omega arith)

pub all_head : (m : Mark) (ms : List Mark) → All IsPointMark (m ∷ ms) → IsPointMark m
all_head m ms all = all 0 m (omega arith)

-- marks of points hold no mark of an SCCP
pub no_sccp : (ms : List Mark) (pc : ℕ) → All IsPointMark ms → holds ms (Sccp pc) ≡ false
no_sccp [] pc all = refl
no_sccp (PointCode p ∷ ms) pc all = no_sccp ms pc (all_tail (PointCode p) ms all)
no_sccp (Sccp p ∷ ms) pc all = absurd (all_head (Sccp p) ms all)
no_sccp (Subsystem p s ∷ ms) pc all = absurd (all_head (Subsystem p s) ms all)

-- nor of a subsystem
pub no_subsystem : (ms : List Mark) (pc ssn : ℕ) → All IsPointMark ms → holds ms (Subsystem pc ssn) ≡ false
no_subsystem [] pc ssn all = refl
no_subsystem (PointCode p ∷ ms) pc ssn all = no_subsystem ms pc ssn (all_tail (PointCode p) ms all)
no_subsystem (Sccp p ∷ ms) pc ssn all = absurd (all_head (Sccp p) ms all)
no_subsystem (Subsystem p s ∷ ms) pc ssn all = absurd (all_head (Subsystem p s) ms all)

-- the first of some marks that is held, if the first one is not
pub found_later : (m : Mark) (rest held : List Mark) → holds held m ≡ false → find (holds held) rest ≡ None
    → find (holds held) (m ∷ rest) ≡ None
found_later m rest held h e = ap (λ (b : Bool). cond b (Some m) (find (holds held) rest)) h ∙ e

-- if one of the marks passes, something is found
found_one : (p : Mark → Bool) (m : Mark) (ms : List Mark) → Among m ms → p m ≡ true → is_none (find p ms) ≡ false
found_one p m ms among h = elim (find p ms) as (λ o. find p ms ≡ o → is_none o ≡ false) [
  | Some x ↦ λ e. refl
  | None ↦ λ e. absurd (false≢true (sym (find-None p m ms e among) ∙ h))
] refl

-- if none does, nothing is
found_none : (p : Mark → Bool) (ms : List Mark) → ((m : Mark) → Among m ms → p m ≡ true → ⊥) → find p ms ≡ None
found_none p ms never = elim (find p ms) as (λ o. find p ms ≡ o → o ≡ None) [
  | Some x ↦ λ e. let s = find-Some p x ms e in absurd (never x s.0 s.1)
  | None ↦ λ e. refl
] refl

-- a target is closed in each outage if one of its marks is lost in the set
pub lost_closes : (plan : Network) (set : OutageSet) (ms held : List Mark) → is_none (find (holds set.lost) ms) ≡ false
    → IsIn plan set held → is_none (find (holds held) ms) ≡ false
lost_closes plan set ms held shut inside =
    elim (find (holds set.lost) ms) as (λ o. find (holds set.lost) ms ≡ o → is_none o ≡ false → is_none (find (holds held) ms) ≡ false) [
      | Some x ↦ λ e h. let s = find-Some (holds set.lost) x ms e in found_one (holds held) x ms s.0 (inside.lost x s.1)
      | None ↦ λ e h. absurd (false≢true (sym h))
    ] refl shut

-- it is open in each outage if none of its marks is free in the set
pub taken_opens : (plan : Network) (set : OutageSet) (ms held : List Mark) → find (is_free plan set) ms ≡ None → IsIn plan set held
    → find (holds held) ms ≡ None
taken_opens plan set ms held none inside = found_none (holds held) ms (λ m among h. ⊎_elim
    (λ (up : holds set.up m ≡ true). false≢true (sym (inside.up m up) ∙ h))
    (λ (free : holds set.up m ≡ false). false≢true (sym (find-None (is_free plan set) m ms none among)
    ∙ and_from (is_loss plan set.kinds m) (not (holds set.up m))
    (All-among (IsLoss plan set.kinds) m held inside.losses (among_holds held m h)) (ap not free)))
    (cases_Bool (holds set.up m)))

-- it is closed in an outage that holds a free one
pub either_closed : (plan : Network) (set : OutageSet) (ms held : List Mark) (m : Mark) → find (is_free plan set) ms ≡ Some m
    → holds held m ≡ true → is_none (find (holds held) ms) ≡ false
either_closed plan set ms held m first h = found_one (holds held) m ms (find-Some (is_free plan set) m ms first).0 h
