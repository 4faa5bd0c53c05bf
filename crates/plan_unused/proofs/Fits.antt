-- the titles that a target makes of those of a class, without those that get too many digits
use Rattle.std.specs.Prelude.{ℕ, ◌≡◌, ◌+◌, ◌-◌, ◌<◌, ◌≤◌, ◌⊎◌, ◌&&◌, ◌==◌, min, nat_lt, not, if◌then◌else◌, Bool, true, false, List, ◌++◌}
use Rattle.std.specs.Prelude.{length, Option, Some, None, IsSomeAnd, IfSome, slice_get, get_or, refl}
use Rattle.std.specs.List.{list_any}
use Rattle.std.specs.Option.{unwrap_or, option_and_then}
use Rattle.std.proofs.Common.{sym, ◌∙◌, ap, subst, inl, inr, ⊎_elim, arith, length-append}
use Rattle.std.proofs.lemmas.Bool.{ltb-false, le-ltb}
use Rattle.std.proofs.lemmas.Option.{slice_get_cases}
use Rattle.sccp_base.specs.Selector.{Numbers}
use Rattle.sccp_base.specs.declared.mark.Mark.{Mark}
use Rattle.plan_rules.specs.Rule.{Rule}
use Rattle.plan_rules.specs.declared.target.Target.{Target}
use Rattle.plan_rules.specs.declared.target.Target.TheVariants.{Relay, Final}
use Rattle.plan_model.specs.declared.node.Node.{Node}
use Rattle.plan_model.specs.declared.spot.Spot.{Spot}
use Rattle.plan_model.specs.declared.hop.Step.TheVariants.{Sent, Ended, NoRow, Overgrown}
use Rattle.plan_model.specs.Network.{Network, IsPlan, LeadsOn}
use Rattle.plan_model.specs.Steps.{row_for, first_open, led, rewritten, passed, taken, step_by, step_at, step}
use Rattle.plan_classes.specs.Titles.{Titles, IsClass, IsMember, HasTitle, spot_of}
use Rattle.plan_classes.specs.Classes.{sample_of, Decided, class_row, class_targets, IsReached, Reaches}
use Rattle.plan_classes.specs.Leading.{brought}
use Rattle.plan_classes.proofs.Images.{sample_member, rewritten_known, rewritten_member}
use Rattle.plan_classes.proofs.Taking.{row_targets, target_leads, target_strips, brought_at, grown}
use Rattle.plan_classes.proofs.Openings.{first_open-at}
use Rattle.plan_check.proofs.Soundness.{some_of}
use Rattle.plan_unused.specs.Fitting.{at_most_32, fitting, HasFitting, IsSentOnAs}

pub is_some_and : {X : Type 0} (o : Option X) (P : X → Type 0) (x : X) → o ≡ Some x → P x → IsSomeAnd o P
is_some_and o P x e p = subst (λ q. IsSomeAnd q P) (sym e) p

pub node_of_class : (plan : Network) (c : Titles) → c.node < length plan.nodes → (node : Node) × (slice_get plan.nodes c.node ≡ Some node)
node_of_class plan c lt =
    ⊎_elim
    (λ (at : (x : Node) × (c.node < length plan.nodes) × (slice_get plan.nodes c.node ≡ Some x) × (get_or plan.nodes c.node x ≡ x)).
    (at.0, at.2))
    (λ (past : (length plan.nodes ≤ c.node) × (slice_get plan.nodes c.node ≡ None)). absurd (omega (arith, past.0, lt)))
    (slice_get_cases plan.nodes c.node).1

-- a class cut at 32 digits
abbrev pub cut : Titles → Titles
cut g = record g { most = min g.most (32 - length g.known) }

cut_is : (g next : Titles) → at_most_32 g ≡ Some next → (length g.known + g.least ≤ 32) × (cut g ≡ next)
cut_is g next e =
    elim (nat_lt 32 (length g.known + g.least)) as (λ b. nat_lt 32 (length g.known + g.least) ≡ b
    → (if b then None else Some (cut g)) ≡ Some next → (length g.known + g.least ≤ 32) × (cut g ≡ next)) [
      | true ↦ λ long k. absurd (cc)
      | false ↦ λ fits k. (ltb-false 32 (length g.known + g.least) fits, cc)
    ] refl e

is_cut : (g : Titles) → length g.known + g.least ≤ 32 → at_most_32 g ≡ Some (cut g)
is_cut g le = ap (λ (b : Bool). if b then None else Some (cut g)) (le-ltb 32 (length g.known + g.least) le)

-- a member with at most 32 digits is one of the cut class
into_cut : (g : Titles) (digits : List ℕ) → IsMember g digits → length digits ≤ 32 → IsMember (cut g) digits
into_cut g digits m few =
    record {
      rest = m.rest;
      whole = m.whole;
      decimal = m.decimal;
      least = m.least;
      most = omega (arith, m.most, few, ap length m.whole, length-append g.known m.rest);
    }

out_of_cut : (g : Titles) (digits : List ℕ) → IsMember (cut g) digits → IsMember g digits
out_of_cut g digits m =
    record { rest = m.rest; whole = m.whole; decimal = m.decimal; least = m.least; most = omega (arith, m.most) }

cut_short : (g : Titles) (digits : List ℕ) → length g.known + g.least ≤ 32 → IsMember (cut g) digits → length digits ≤ 32
cut_short g digits le m = omega (arith, m.most, ap length m.whole, length-append g.known m.rest, le)

-- what holds of a class that a target makes
pub record Fits (plan : Network) (c : Titles) (place : ℕ) (next : Titles) : Type 0 where
  pub class : IsClass next
  pub node : next.node < length plan.nodes
  pub cover : next.cover ≡ c.cover
  pub sent : IsSentOnAs plan c place next

fits_relay : (plan : Network) (node : Node) (c : Titles) (place pc strip : ℕ) (put : List ℕ) (selector : Option Numbers)
    (named : Option ℕ) → IsPlan plan → IsClass c → Decided plan c → slice_get plan.nodes c.node ≡ Some node
    → slice_get (class_targets plan c) place ≡ Some (Relay pc strip put selector named)
    → length (rewritten strip put c.known) + c.least ≤ 32 → Fits plan c place (cut (grown plan c pc strip put selector named))
fits_relay plan node c place pc strip put selector named is class decided at here short =
    record {
      class = record { range = omega (arith, short, class.range); room = omega (arith, short) };
      node = (target_leads plan node c place t is at here).0;
      cover = refl;
      sent = record { each = each; every = every };
    }
  where
    t : Target
    t = Relay pc strip put selector named

    g : Titles
    g = grown plan c pc strip put selector named

    within : strip ≤ length c.known
    within = target_strips plan node c place pc strip put selector named is class decided at here

    each : (digits : List ℕ) → IsMember c digits → ((on : List ℕ) × IsMember (cut g) on
        × (brought plan c place digits ≡ Some (Sent (spot_of (cut g) on) place))) ⊎ (brought plan c place digits ≡ Some Overgrown)
    each digits m =
        elim (nat_lt 32 (length (rewritten strip put digits))) as (λ b. nat_lt 32 (length (rewritten strip put digits)) ≡ b
        → ((on : List ℕ) × IsMember (cut g) on × (brought plan c place digits ≡ Some (Sent (spot_of (cut g) on) place)))
        ⊎ (brought plan c place digits ≡ Some Overgrown)) [
          | true ↦ λ e. inr (brought_at plan node c place t digits at here
              ∙ ap (λ (b : Bool). Some (if b then Overgrown else Sent (spot_of g (rewritten strip put digits)) place)) e)
          | false ↦ λ e. inl (
            rewritten strip put digits,
            into_cut g (rewritten strip put digits) (rewritten_member c g strip put digits within refl refl refl m)
                (ltb-false 32 (length (rewritten strip put digits)) e),
            brought_at plan node c place t digits at here
                ∙ ap (λ (b : Bool). Some (if b then Overgrown else Sent (spot_of g (rewritten strip put digits)) place)) e,
          )
        ] refl

    every : (on : List ℕ) → IsMember (cut g) on → (digits : List ℕ) × IsMember c digits
        × (brought plan c place digits ≡ Some (Sent (spot_of (cut g) on) place))
    every on m = (
      c.known ++ m.rest,
      record { rest = m.rest; whole = refl; decimal = m.decimal; least = m.least; most = omega (arith, m.most) },
      brought_at plan node c place t (c.known ++ m.rest) at here
          ∙ (ap (λ (ds : List ℕ). Some (passed (spot_of g ds) place)) (rewritten_known strip put c.known m.rest within ∙ sym m.whole)
          ∙ ap (λ (b : Bool). Some (if b then Overgrown else Sent (spot_of g on) place)) (le-ltb 32 (length on) (cut_short g on short m))),
    )

fits_at : (plan : Network) (node : Node) (c : Titles) (place : ℕ) (t : Target) (next : Titles) → IsPlan plan → IsClass c → Decided plan c
    → slice_get plan.nodes c.node ≡ Some node → slice_get (class_targets plan c) place ≡ Some t → fitting plan c t ≡ Some next
    → Fits plan c place next
fits_at plan node c place (Final pc named) next is class decided at here e = absurd (cc)
fits_at plan node c place (Relay pc strip put selector named) next is class decided at here e =
    let k = cut_is (grown plan c pc strip put selector named) next e in
    subst (Fits plan c place) k.1 (fits_relay plan node c place pc strip put selector named is class decided at here k.0)

pub fits : (plan : Network) (c : Titles) (place : ℕ) (next : Titles) → IsPlan plan → IsClass c → c.node < length plan.nodes
    → Decided plan c → HasFitting plan c place next → Fits plan c place next
fits plan c place next is class lt decided has =
    let node = node_of_class plan c lt in
    let t = some_of (slice_get (class_targets plan c) place) (λ t. fitting plan c t ≡ Some next) has in
    fits_at plan node.0 c place t.0 next is class decided node.1 t.1 t.2

-- a title that a target sends on is one of those that the target makes
led_sent : (plan : Network) (node : Node) (c : Titles) (digits : List ℕ) (place : ℕ) (t : Target) (u : Spot) (target : ℕ)
    → ((pc strip : ℕ) (put : List ℕ) (selector : Option Numbers) (named : Option ℕ) → t ≡ Relay pc strip put selector named
    → strip ≤ length c.known) → IsMember c digits → led plan node (spot_of c digits) place t ≡ Sent u target
    → (next : Titles) × (fitting plan c t ≡ Some next) × HasTitle next u × (next.cover ≡ c.cover)
led_sent plan node c digits place (Final pc named) u target within m e =
    absurd (elim (pc == node.pc && not (list_any (λ own. own == unwrap_or named c.ssn) node.subsystems)) as (λ b.
    (if b then NoRow 4 else Ended pc (unwrap_or named c.ssn) place) ≡ Sent u target → ⊥) [ true ↦ λ k. cc | false ↦ λ k. cc ] e)
led_sent plan node c digits place (Relay pc strip put selector named) u target within m e =
    elim (nat_lt 32 (length (rewritten strip put digits))) as (λ b. nat_lt 32 (length (rewritten strip put digits)) ≡ b
    → (if b then Overgrown else Sent (spot_of g (rewritten strip put digits)) place) ≡ Sent u target
    → (next : Titles) × (fitting plan c (Relay pc strip put selector named) ≡ Some next) × HasTitle next u × (next.cover ≡ c.cover)) [
      | true ↦ λ long k. absurd (cc)
      | false ↦ λ few k.
          let same : spot_of g (rewritten strip put digits) ≡ u = cc in
          let short : length (rewritten strip put digits) ≤ 32 = ltb-false 32 (length (rewritten strip put digits)) few in
          let member : IsMember g (rewritten strip put digits) =
          rewritten_member c g strip put digits (within pc strip put selector named refl) refl refl refl m in (
            cut g,
            is_cut g (omega (arith, short, ap length member.whole, length-append g.known member.rest, member.least)),
            (rewritten strip put digits, into_cut g (rewritten strip put digits) member short, sym same),
            refl,
          )
    ] refl e
  where
    g : Titles
    g = grown plan c pc strip put selector named

-- what a title of a decided class is sent on as: a reached target makes it
pub record IsSentBy (plan : Network) (c : Titles) (u : Spot) : Type 0 where
  pub place : ℕ
  pub next : Titles
  pub reached : Reaches plan c place
  pub has : HasFitting plan c place next
  pub title : HasTitle next u
  pub cover : next.cover ≡ c.cover

pub sent_by : (plan : Network) (c : Titles) (digits : List ℕ) (marking : List Mark) (u : Spot) (target : ℕ) → IsPlan plan → IsClass c
    → c.node < length plan.nodes → Decided plan c → IsMember c digits → step plan (spot_of c digits) marking ≡ Sent u target
    → IsSentBy plan c u
sent_by plan c digits marking u target is class lt decided member e = by_row (class_row plan c) refl
  where
    node : (node : Node) × (slice_get plan.nodes c.node ≡ Some node)
    node = node_of_class plan c lt

    row_is : row_for node.0 (spot_of c digits) ≡ class_row plan c
    row_is = sym (ap (option_and_then (λ (n : Node). row_for n (spot_of c digits))) node.1)
        ∙ decided digits (sample_of c) member (sample_member c class)

    acts : (o : Option Rule) → class_row plan c ≡ o → step plan (spot_of c digits) marking
        ≡ step_by plan node.0 (spot_of c digits) marking o
    acts o k = ap (step_at plan (spot_of c digits) marking) node.1 ∙ ap (step_by plan node.0 (spot_of c digits) marking) (row_is ∙ k)

    by_target : (r : Rule) → class_row plan c ≡ Some r → (q : ℕ × Target) → first_open node.0 c.ssn marking 0 r.targets ≡ Some q
        → led plan node.0 (spot_of c digits) q.0 q.1 ≡ Sent u target → IsSentBy plan c u
    by_target r k q first sends =
        record {
          place = q.0;
          next = made.0;
          reached = is_some_and (slice_get plan.nodes c.node) (λ n. IsReached n c.ssn (class_targets plan c) q.0) node.0 node.1
              (subst (λ (ts : List Target). IsReached node.0 c.ssn ts q.0) (sym (row_targets plan c r k)) (marking, q.1, first));
          has = is_some_and (slice_get (class_targets plan c) q.0) (λ t. fitting plan c t ≡ Some made.0) q.1 among made.1;
          title = made.2;
          cover = made.3;
        }
      where
        among : slice_get (class_targets plan c) q.0 ≡ Some q.1
        among =
            let at = first_open-at node.0 c.ssn marking 0 r.targets q first in
            let place : at.0 ≡ q.0 = omega (arith, at.1) in
            ap (λ (ts : List Target). slice_get ts q.0) (row_targets plan c r k) ∙ (ap (slice_get r.targets) (sym place) ∙ at.2)

        strips : (pc strip : ℕ) (put : List ℕ) (selector : Option Numbers) (named : Option ℕ) → q.1 ≡ Relay pc strip put selector named
            → strip ≤ length c.known
        strips pc strip put selector named same =
            target_strips plan node.0 c q.0 pc strip put selector named is class decided node.1 (among ∙ ap Some same)

        made : (next : Titles) × (fitting plan c q.1 ≡ Some next) × HasTitle next u × (next.cover ≡ c.cover)
        made = led_sent plan node.0 c digits q.0 q.1 u target strips member sends

    by_open : (r : Rule) → class_row plan c ≡ Some r → (o : Option (ℕ × Target)) → first_open node.0 c.ssn marking 0 r.targets ≡ o
        → taken plan node.0 (spot_of c digits) marking r o ≡ Sent u target → IsSentBy plan c u
    by_open r k None first sends = absurd (cc)
    by_open r k (Some q) first sends = by_target r k q first sends

    by_row : (o : Option Rule) → class_row plan c ≡ o → IsSentBy plan c u
    by_row None k = absurd (let clash : step_by plan node.0 (spot_of c digits) marking None ≡ Sent u target = sym (acts None k) ∙ e in cc)
    by_row (Some r) k =
        by_open r k (first_open node.0 c.ssn marking 0 r.targets) refl (sym (acts (Some r) k) ∙ e)

-- a place within a list has an element
pub not_past : {X : Type 0} (xs : List X) (i : ℕ) → i < length xs → slice_get xs i ≡ None → ⊥
not_past xs i lt none =
    ⊎_elim
    (λ (at : (x : _) × (i < length xs) × (slice_get xs i ≡ Some x) × (get_or xs i x ≡ x)).
    let clash : None ≡ Some at.0 = sym none ∙ at.2 in absurd (cc))
    (λ (past : (length xs ≤ i) × (slice_get xs i ≡ None)). omega (arith, past.0, lt))
    (slice_get_cases xs i).1

-- what a target makes of a class is at a node of the plan
pub fitting_node : (plan : Network) (node : Node) (c : Titles) (t : Target) (o : Option Titles) → LeadsOn plan.nodes node t
    → o ≡ fitting plan c t → IfSome o (λ next. next.node < length plan.nodes)
fitting_node plan node c t None leads e = tt
fitting_node plan node c (Final pc named) (Some next) leads e = absurd (cc)
fitting_node plan node c (Relay pc strip put selector named) (Some next) leads e =
    let k = cut_is (grown plan c pc strip put selector named) next (sym e) in
    subst (λ (n : Titles). n.node < length plan.nodes) k.1 leads.0
