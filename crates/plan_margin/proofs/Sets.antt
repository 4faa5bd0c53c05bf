-- sets of outages, and what they say of a target
use Rattle.std.specs.Prelude.{ℕ, ◌≡◌, ◌+◌, ◌<◌, ◌≤◌, true, false, not, List, length, Option, None, IsSomeAnd, slice_get, is_none}
use Rattle.std.specs.Prelude.{refl}
use Rattle.std.specs.List.{All}
use Rattle.std.proofs.Common.{suc, sym, ◌∙◌, ap, subst, ⊎_elim, arith}
use Rattle.std.proofs.lemmas.Bool.{false≢true, cases_lt, or_cases, or_left, or_right, false_from_ne_true}
use Rattle.std.proofs.lemmas.Bool.{and_parts, not-true}
use Rattle.std.proofs.lemmas.Option.{slice_get_within}
use Rattle.sccp_base.specs.declared.mark.Mark.{Mark}
use Rattle.sccp_base.specs.Marks.{IsAscending, same_mark, holds}
use Rattle.sccp_base.proofs.Among.{find-Some, find-None}
use Rattle.sccp_base.proofs.MarkPlaces.{same_mark_is}
use Rattle.plan_rules.specs.declared.target.Target.{Target}
use Rattle.plan_model.specs.declared.node.Node.{Node}
use Rattle.plan_model.specs.Network.{Network}
use Rattle.plan_model.specs.Steps.{marks as closing_marks, closing}
use Rattle.plan_classes.specs.Titles.{Titles}
use Rattle.plan_classes.specs.Classes.{class_targets}
use Rattle.plan_classes.proofs.Openings.{own_mark}
use Rattle.plan_check.proofs.Soundness.{some_of}
use Rattle.plan_margin.specs.declared.choice.Choice.{Choice}
use Rattle.plan_margin.specs.declared.loss_kinds.LossKinds.{LossKinds}
use Rattle.plan_margin.specs.declared.outage_set.OutageSet.{OutageSet}
use Rattle.plan_margin.specs.declared.turn.Turn.TheVariants.{Lost, Taken, Either}
use Rattle.plan_margin.specs.Outages.{is_loss, IsLoss}
use Rattle.plan_margin.specs.Searching.{IsIn, IsOutageSet, OfTarget, IsClosedAt, IsOpenAt, PassesOver, IsTurnBy, IsTurn, IsInWith}
use Rattle.plan_margin.specs.Searching.{MayChoose, IsWithUp, IsWithLost, is_free}
use Rattle.plan_margin.proofs.Closing.{lost_closes, taken_opens, either_closed}
use Rattle.plan_margin.proofs.Counting.{one_more_held, at_most_one_more, held_of_all, all_from_held}

-- the losses of each outage are themselves one of the set
pub own_outage : (plan : Network) (set : OutageSet) → IsOutageSet plan set → IsIn plan set set.lost
own_outage plan set is = record { losses = is.losses; lost = λ m h. h; up = is.apart }

-- a fact on the target at a place from another one
pub of_target_map : (plan : Network) (c : Titles) (place : ℕ) (P Q : Node → Target → Type 0)
    → ((node : Node) (t : Target) → P node t → Q node t)
    → OfTarget plan c place P → OfTarget plan c place Q
of_target_map plan c place P Q f h =
    let n = some_of (slice_get plan.nodes c.node) (λ x. IsSomeAnd (slice_get (class_targets plan c) place) (P x)) h in
    let t = some_of (slice_get (class_targets plan c) place) (P n.0) n.2 in
    subst (λ (o : Option Node). IsSomeAnd o (λ x. IsSomeAnd (slice_get (class_targets plan c) place) (Q x))) (sym n.1)
    (subst (λ (o : Option Target). IsSomeAnd o (Q n.0)) (sym t.1) (f n.0 t.0 t.2))

pub of_target_within : (plan : Network) (c : Titles) (place : ℕ) (P : Node → Target → Type 0) → OfTarget plan c place P
    → place < length (class_targets plan c)
of_target_within plan c place P h =
    let n = some_of (slice_get plan.nodes c.node) (λ x. IsSomeAnd (slice_get (class_targets plan c) place) (P x)) h in
    let t = some_of (slice_get (class_targets plan c) place) (P n.0) n.2 in
    slice_get_within (class_targets plan c) place t.0 t.1

-- a target with a mark that is lost in the set is closed in each outage
pub lost_is_closed : (plan : Network) (c : Titles) (place : ℕ) (set : OutageSet) (marks : List Mark) → IsTurn plan c place set Lost
    → IsIn plan set marks → IsClosedAt plan c marks place
lost_is_closed plan c place set marks turn inside =
    of_target_map plan c place (λ node t. IsTurnBy plan (closing_marks node c.ssn t) set Lost)
    (λ node t. is_none (closing node c.ssn marks t) ≡ false)
    (λ node t h. lost_closes plan set (closing_marks node c.ssn t) marks h inside) turn

-- a target that the set takes is open in each outage
pub taken_is_open : (plan : Network) (c : Titles) (place : ℕ) (set : OutageSet) (marks : List Mark) → IsTurn plan c place set Taken
    → IsIn plan set marks → IsOpenAt plan c marks place
taken_is_open plan c place set marks turn inside =
    of_target_map plan c place (λ node t. IsTurnBy plan (closing_marks node c.ssn t) set Taken) (λ node t. closing node c.ssn marks t
    ≡ None)
    (λ node t h. taken_opens plan set (closing_marks node c.ssn t) marks h inside) turn

-- what is known of a mark that is held in some outages of the set and not in others
pub record IsFree (plan : Network) (set : OutageSet) (mark : Mark) : Type 0 where
  pub loss : IsLoss plan set.kinds mark
  pub not_lost : holds set.lost mark ≡ false
  pub not_up : holds set.up mark ≡ false

pub either_is_free : (plan : Network) (c : Titles) (place : ℕ) (mark : Mark) (set : OutageSet) → IsTurn plan c place set (Either mark)
    → IsFree plan set mark
either_is_free plan c place mark set turn =
    let n = some_of (slice_get plan.nodes c.node) (λ x. IsSomeAnd (slice_get (class_targets plan c) place)
    (λ t. IsTurnBy plan (closing_marks x c.ssn t) set (Either mark))) turn in
    let t = some_of (slice_get (class_targets plan c) place) (λ t. IsTurnBy plan (closing_marks n.0 c.ssn t) set (Either mark)) n.2 in
    let ms : List Mark = closing_marks n.0 c.ssn t.0 in
    let found = find-Some (is_free plan set) mark ms t.2.0 in
    let both = and_parts (is_loss plan set.kinds mark) (not (holds set.up mark)) found.1 in
    record {
      loss = both.0;
      not_lost = find-None (holds set.lost) mark ms t.2.1 found.0;
      not_up = not-true (holds set.up mark) both.1;
    }

-- such a mark closes the target if it is held
pub either_closes : (plan : Network) (c : Titles) (place : ℕ) (mark : Mark) (set : OutageSet) (marks : List Mark)
    → IsTurn plan c place set (Either mark) → holds marks mark ≡ true → IsClosedAt plan c marks place
either_closes plan c place mark set marks turn held =
    of_target_map plan c place (λ node t. IsTurnBy plan (closing_marks node c.ssn t) set (Either mark))
    (λ node t. is_none (closing node c.ssn marks t) ≡ false)
    (λ node t h. either_closed plan set (closing_marks node c.ssn t) marks mark h.0 held) turn

-- the same choice at another place of the row
pub may_at : (plan : Network) (choice : Choice) (place : ℕ) → MayChoose plan choice
    → MayChoose plan (record { class = choice.class; row = choice.row; place = place; left = choice.left })
may_at plan choice place may =
    record { some = may.some; few = may.few; may = may.may; class = may.class; decided = may.decided; row = may.row }

-- one more target is passed over
pub passes_more : (plan : Network) (c : Titles) (place : ℕ) (set more : OutageSet) → PassesOver plan c place set
    → ((marks : List Mark) → IsIn plan more marks → IsIn plan set marks)
    → ((marks : List Mark) → IsIn plan more marks → IsClosedAt plan c marks place)
    → place < length (class_targets plan c) → PassesOver plan c (place + 1) more
passes_more plan c place set more passes inner shut lt = record {
  closed = λ marks inside k near. ⊎_elim
      (λ (before : k < place). passes.closed marks (inner marks inside) k before)
      (λ (here : place ≤ k). subst (IsClosedAt plan c marks) (let e : place ≡ k = omega (arith, near, here) in e) (shut marks inside))
      (cases_lt k place);
  within = omega (arith, lt);
}

-- the same targets are passed over in fewer outages
pub passes_same : (plan : Network) (c : Titles) (place : ℕ) (set more : OutageSet) → PassesOver plan c place set
    → ((marks : List Mark) → IsIn plan more marks → IsIn plan set marks) → PassesOver plan c place more
passes_same plan c place set more passes inner =
    record { closed = λ marks inside k near. passes.closed marks (inner marks inside) k near; within = passes.within }

-- marks that are losses of one kind are losses of the same kind
same_losses : (plan : Network) (kinds others : LossKinds) (ms ns : List Mark) → kinds ≡ others → ms ≡ ns → All (IsLoss plan kinds) ms
    → All (IsLoss plan others) ns
same_losses plan kinds others ms ns e f all =
    subst (λ (k : LossKinds). All (IsLoss plan k) ns) e (subst (All (IsLoss plan kinds)) f all)

pub up_set : (plan : Network) (set more : OutageSet) (mark : Mark) → IsOutageSet plan set → IsFree plan set mark → IsWithUp set mark more
    → IsOutageSet plan more
up_set plan set more mark is free made = record {
  losses = same_losses plan set.kinds more.kinds set.lost more.lost (sym made.kinds) (sym made.lost) is.losses;
  few = omega (arith, ap length made.lost, made.most, is.few);
  apart = λ m h. ap (λ (ms : List Mark). holds ms m) made.lost ∙ ⊎_elim
      (λ (e : same_mark mark m ≡ true). subst (λ (k : Mark). holds set.lost k ≡ false)
      (same_mark_is mark m e) free.not_lost)
      (λ (e : holds set.up m ≡ true). is.apart m e)
      (or_cases (same_mark mark m) (holds set.up m) (sym (made.up m) ∙ h));
}

pub up_inner : (plan : Network) (set more : OutageSet) (mark : Mark) (marks : List Mark) → IsWithUp set mark more → IsIn plan more marks
    → IsInWith plan set mark false marks
up_inner plan set more mark marks made inside = record {
  inside = record {
    losses = same_losses plan more.kinds set.kinds marks marks made.kinds refl inside.losses;
    lost = λ m h. inside.lost m (ap (λ (ms : List Mark). holds ms m) made.lost ∙ h);
    up = λ m h. inside.up m (made.up m ∙ or_right (same_mark mark m) (holds set.up m) h);
  };
  held = inside.up mark (made.up mark
      ∙ or_left (same_mark mark mark) (holds set.up mark) (own_mark mark));
}

pub up_outer : (plan : Network) (set more : OutageSet) (mark : Mark) (marks : List Mark) → IsWithUp set mark more
    → IsInWith plan set mark false marks
    → IsIn plan more marks
up_outer plan set more mark marks made h = record {
  losses = same_losses plan set.kinds more.kinds marks marks (sym made.kinds) refl h.inside.losses;
  lost = λ m k. h.inside.lost m (sym (ap (λ (ms : List Mark). holds ms m) made.lost) ∙ k);
  up = λ m k. ⊎_elim
      (λ (e : same_mark mark m ≡ true). subst (λ (x : Mark). holds marks x ≡ false)
      (same_mark_is mark m e) h.held)
      (λ (e : holds set.up m ≡ true). h.inside.up m e)
      (or_cases (same_mark mark m) (holds set.up m) (sym (made.up m) ∙ k));
}

pub lost_set : (plan : Network) (set more : OutageSet) (mark : Mark) → IsOutageSet plan set → IsFree plan set mark
    → (length set.lost ≡ set.most → ⊥)
    → IsWithLost set mark more → IsOutageSet plan more
lost_set plan set more mark is free room made = record {
  losses = all_from_held (IsLoss plan more.kinds) more.lost (λ m h. ⊎_elim
      (λ (e : same_mark mark m ≡ true). subst (IsLoss plan more.kinds) (same_mark_is mark m e)
      (subst (λ (k : LossKinds). IsLoss plan k mark) (sym made.kinds) free.loss))
      (λ (e : holds set.lost m ≡ true). subst (λ (k : LossKinds). IsLoss plan k m) (sym made.kinds)
      (held_of_all (IsLoss plan set.kinds) set.lost is.losses m e))
      (or_cases (same_mark mark m) (holds set.lost m) (sym (made.lost m) ∙ h)));
  few = (let size : length more.lost ≤ suc (length set.lost) =
      at_most_one_more mark set.lost more.lost made.ascending made.lost in
      let below : length set.lost < set.most = ⊎_elim (λ (lt : length set.lost < set.most). lt)
      (λ (le : set.most ≤ length set.lost). absurd (room (let e : length set.lost ≡ set.most = omega (arith, le, is.few) in e)))
      (cases_lt (length set.lost) set.most) in
      omega (arith, size, below, made.most));
  apart = λ m h.
      let up : holds set.up m ≡ true = sym (ap (λ (ms : List Mark). holds ms m) made.up) ∙ h in
      false_from_ne_true (holds more.lost m) (λ k. ⊎_elim
      (λ (e : same_mark mark m ≡ true). false≢true (sym free.not_up
      ∙ (ap (holds set.up) (same_mark_is mark m e) ∙ up)))
      (λ (e : holds set.lost m ≡ true). false≢true (sym (is.apart m up) ∙ e))
      (or_cases (same_mark mark m) (holds set.lost m) (sym (made.lost m) ∙ k)));
}

pub lost_inner : (plan : Network) (set more : OutageSet) (mark : Mark) (marks : List Mark) → IsWithLost set mark more → IsIn plan more marks
    → IsInWith plan set mark true marks
lost_inner plan set more mark marks made inside = record {
  inside = record {
    losses = same_losses plan more.kinds set.kinds marks marks made.kinds refl inside.losses;
    lost = λ m h. inside.lost m (made.lost m ∙ or_right (same_mark mark m) (holds set.lost m) h);
    up = λ m h. inside.up m (ap (λ (ms : List Mark). holds ms m) made.up ∙ h);
  };
  held = inside.lost mark (made.lost mark
      ∙ or_left (same_mark mark mark) (holds set.lost mark) (own_mark mark));
}

pub lost_outer : (plan : Network) (set more : OutageSet) (mark : Mark) (marks : List Mark) → IsWithLost set mark more
    → IsInWith plan set mark true marks
    → IsIn plan more marks
lost_outer plan set more mark marks made h = record {
  losses = same_losses plan set.kinds more.kinds marks marks (sym made.kinds) refl h.inside.losses;
  lost = λ m k. ⊎_elim
      (λ (e : same_mark mark m ≡ true). subst (λ (x : Mark). holds marks x ≡ true) (same_mark_is mark m e) h.held)
      (λ (e : holds set.lost m ≡ true). h.inside.lost m e)
      (or_cases (same_mark mark m) (holds set.lost m) (sym (made.lost m) ∙ k));
  up = λ m k. h.inside.up m (sym (ap (λ (ms : List Mark). holds ms m) made.up) ∙ k);
}

-- with one more loss the marks of an outage of the set are too many
pub too_many : (plan : Network) (set : OutageSet) (mark : Mark) (marks : List Mark) → IsAscending set.lost → length set.lost ≡ set.most
    → IsFree plan set mark
    → IsInWith plan set mark true marks → length marks ≤ set.most → ⊥
too_many plan set mark marks ascending full free h few =
    let more : length set.lost < length marks =
    one_more_held mark set.lost marks ascending free.not_lost h.held h.inside.lost in
    omega (arith, more, full, few)
