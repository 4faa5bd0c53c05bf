-- the spots that covered titles reach
use Rattle.std.specs.Prelude.{ℕ, ◌≡◌, ◌+◌, ◌-◌, ◌<◌, ◌≤◌, ◌%◌, ◌==◌, ◌&&◌, Bool, true, false, List, [], ◌∷◌, ◌++◌, length, drop, Option}
use Rattle.std.specs.Prelude.{Some, None, IfSome, slice_get, refl}
use Rattle.std.specs.List.{All}
use Rattle.std.specs.Option.{unwrap_or}
use Rattle.std.proofs.Common.{zero, suc, sym, ◌∙◌, ap, subst, arith, length-append, length-drop}
use Rattle.std.proofs.lemmas.Bool.{ltb-false}
use Rattle.std.proofs.lemmas.List.Elements.{All-append, All-drop, All-cons, All-nil}
use Rattle.std.proofs.lemmas.Option.{slice_get_within, get_or_from_slice_get}
use Rattle.sccp_base.specs.Selector.{Numbers, IsSelector}
use Rattle.sccp_base.specs.Marks.{IsMarking}
use Rattle.sccp_base.specs.declared.mark.Mark.{Mark}
use Rattle.sccp_base.proofs.Among.{Among-slice_get}
use Rattle.sccp_base.proofs.Prefix.{fits-starts_with}
use Rattle.plan_rules.specs.declared.target.Target.TheVariants.{Relay}
use Rattle.plan_rules.specs.Target.{change_makes_odd}
use Rattle.plan_rules.proofs.Counting.{matching_parts}
use Rattle.plan_model.specs.declared.cover.Cover.{Cover}
use Rattle.plan_model.specs.declared.spot.Spot.{Spot}
use Rattle.plan_model.specs.declared.hop.Hop.{Hop}
use Rattle.plan_model.specs.declared.hop.Step.{Step}
use Rattle.plan_model.specs.declared.hop.Step.TheVariants.{Sent, Ended, Blocked, NoRow, Overgrown}
use Rattle.plan_model.specs.Network.{Network, IsSubsystem, IsCover, IsPlan}
use Rattle.plan_model.specs.Covered.{Covers, Covered}
use Rattle.plan_model.specs.Next.{next_of}
use Rattle.plan_model.specs.Steps.{step}
use Rattle.plan_model.specs.Routes.{route, onward}
use Rattle.plan_model.specs.Spots.{IsSpotOf, IsInRange}
use Rattle.plan_model.proofs.Leading.{IsSentBy, Facts, step_facts}
use Rattle.plan_model.proofs.SoundTargets.{IsTargetOf, sound_target}

digits_small : (ds : List ℕ) → All (λ d. d < 10) ds → All (λ d. d < 16) ds
digits_small ds h = λ k d lt. let small = h k d lt in omega (arith, small)

-- a spot that a cover has
covered_by_one : (plan : Network) (cover : Cover) (s : Spot) → IsCover plan.nodes cover → Covers cover s → IsSpotOf plan s
covered_by_one plan cover s is h = record {
  node = subst (λ (n : ℕ). n < length plan.nodes) h.node is.node;
  selector = subst IsSelector h.selector is.selector;
  ssn = subst (λ (n : ℕ). n < 256) h.ssn is.ssn;
  few = (let a = h.most in let b = is.most in omega (arith, a, b));
  halves = digits_small s.digits h.decimal;
  even = λ two. absurd (is.kind (ap (λ (n : Numbers). n.kind) h.selector ∙ two));
}

-- a cover of a plan is sound
pub cover_at : (plan : Network) (number : ℕ) (cover : Cover) → IsPlan plan → slice_get plan.covers number ≡ Some cover
    → IsCover plan.nodes cover
cover_at plan number cover is at =
    subst (IsCover plan.nodes) (get_or_from_slice_get plan.covers number cover cover at)
    (is.sound_covers number cover (slice_get_within plan.covers number cover at))

pub covered_spot : (plan : Network) (s : Spot) → IsPlan plan → Covered plan s → IsSpotOf plan s
covered_spot plan s is h =
    covered_by_one plan h.1 s (subst (IsCover plan.nodes) h.3 (is.sound_covers h.0 h.1 h.2)) h.4

-- the selector after a target is in range, a new one or the title's own
pub selector_fits : (o : Option Numbers) (s : Numbers) → IfSome o IsSelector → IsSelector s → IsSelector (unwrap_or o s)
selector_fits None s h k = k
selector_fits (Some t) s h k = h

ssn_fits : (o : Option ℕ) (ssn : ℕ) → IfSome o IsSubsystem → ssn < 256 → unwrap_or o ssn < 256
ssn_fits None ssn h lt = lt
ssn_fits (Some named) ssn h lt = let most = h.1 in omega (arith, most)

both_false : (a b : Bool) → a ≡ true → (a && b) ≡ false → b ≡ false
both_false true b e f = f
both_false false b e f = absurd (cc)

not_one : (n : ℕ) → n < 2 → (n == 1) ≡ false → n ≡ 0
not_one zero lt e = refl
not_one (suc zero) lt e = absurd (cc)
not_one (suc (suc n)) lt e = absurd (omega arith)

true_false : (b : Bool) → b ≡ false → b ≡ true → ⊥
true_false true e f = cc
true_false false e f = cc

-- with kind 2 the number of digits stays even
pub stays_even : (o : Option Numbers) (s : Numbers) (kind strip : ℕ) (put digits : List ℕ) → kind ≡ s.kind
    → change_makes_odd kind (strip + length put) o ≡ false → strip ≤ length digits → (s.kind ≡ 2 → length digits % 2 ≡ 0)
    → (unwrap_or o s).kind ≡ 2 → length (put ++ drop strip digits) % 2 ≡ 0
stays_even (Some t) s kind strip put digits same even le h two =
    absurd (true_false (t.kind == 2) even (let e : (t.kind == 2) ≡ true = rw two refl in e))
stays_even None s kind strip put digits same even le h two =
    let size : length (put ++ drop strip digits) ≡ length put + (length digits - strip) = length-append put (drop strip digits)
    ∙ ap (λ n. length put + n) (length-drop strip digits) in
    let old : length digits % 2 ≡ 0 = h two in
    let change : (strip + length put) % 2 ≡ 0 = not_one ((strip + length put) % 2) (omega arith)
    (both_false (kind == 2) ((strip + length put) % 2 == 1) (rw (same ∙ two) refl) even) in
    omega (arith, size, old, change, le)

-- a title that is sent on is in range again
sent_by : (plan : Network) (s next : Spot) → IsPlan plan → IsSpotOf plan s → IsSentBy plan s next → IsSpotOf plan next
sent_by plan s next is h t =
    let target : IsTargetOf plan t.node t.row (Relay t.pc t.strip t.put t.selector t.named) =
    sound_target plan t.node t.row (Relay t.pc t.strip t.put t.selector t.named) is
    (Among-slice_get plan.nodes s.node t.node t.at) t.among t.target in
    let parts = matching_parts s.selector s.ssn s.digits t.row t.matching in
    let short : t.strip ≤ length t.row.prefix = ltb-false (length t.row.prefix) t.strip target.strips in
    let inside : length t.row.prefix ≤ length s.digits = fits-starts_with s.digits t.row.prefix parts.2 in
    let le : t.strip ≤ length s.digits = omega (arith, short, inside) in
    record {
      node = subst (λ (n : ℕ). n < length plan.nodes) (sym t.there) target.leads.0;
      selector = subst IsSelector (sym t.selected) (selector_fits t.selector s.selector target.sound.selector h.selector);
      ssn = subst (λ (n : ℕ). n < 256) (sym t.ssn) (ssn_fits t.named s.ssn target.ssn h.ssn);
      few = t.few;
      halves = subst (All (λ d. d < 16)) (sym t.digits) (All-append (λ d. d < 16) t.put (drop t.strip s.digits) target.sound.halves
          (All-drop (λ d. d < 16) t.strip s.digits h.halves));
      even = λ two. subst (λ (ds : List ℕ). length ds % 2 ≡ 0) (sym t.digits)
          (stays_even t.selector s.selector t.row.selector.kind t.strip t.put s.digits
          (ap (λ (n : Numbers). n.kind) parts.0) target.even le h.even (sym (ap (λ (n : Numbers). n.kind) t.selected) ∙ two));
    }

next_spot : (plan : Network) (s next : Spot) (m : List Mark) (x : Step) → IsPlan plan → IsSpotOf plan s → Facts plan s m x
    → next_of x ≡ Some next → IsSpotOf plan next
next_spot plan s next m (Sent there place) is h facts e = let same : there ≡ next =
    cc in subst (IsSpotOf plan) same (sent_by plan s there is h facts)
next_spot plan s next m (Ended pc ssn place) is h facts e = absurd (cc)
next_spot plan s next m (Blocked cause marks) is h facts e = absurd (cc)
next_spot plan s next m (NoRow cause) is h facts e = absurd (cc)
next_spot plan s next m Overgrown is h facts e = absurd (cc)

pub sent_spot : (plan : Network) (s next : Spot) (m : List Mark) → IsPlan plan → IsSpotOf plan s → next_of (step plan s m) ≡ Some next
    → IsSpotOf plan next
sent_spot plan s next m is h e = next_spot plan s next m (step plan s m) is h (step_facts plan is s m) e

-- each spot of a route from a spot in range is in range
pub route_spots : (plan : Network) (s : Spot) (ms : List (List Mark)) → IsPlan plan → IsSpotOf plan s
    → All (λ (hop : Hop). IsSpotOf plan hop.spot) (route plan s ms)
route_spots plan s [] is h = All-nil (λ (hop : Hop). IsSpotOf plan hop.spot)
route_spots plan s (m ∷ ms) is h =
    All-cons (λ (hop : Hop). IsSpotOf plan hop.spot) (record { spot = s; step = step plan s m })
    (onward (next_of (step plan s m)) (λ next. route plan next ms)) h
    (elim (next_of (step plan s m)) as (λ o. next_of (step plan s m) ≡ o
    → All (λ (hop : Hop). IsSpotOf plan hop.spot) (onward o (λ next. route plan next ms))) [
      | None ↦ λ e. All-nil (λ (hop : Hop). IsSpotOf plan hop.spot)
      | Some next ↦ λ e. route_spots plan next ms is (sent_spot plan s next m is h e)
    ] refl)

-- the route of a covered title is in range
pub in_range : (plan : Network) (s : Spot) (ms : List (List Mark)) → IsPlan plan → Covered plan s → All IsMarking ms → IsInRange plan s ms
in_range plan s ms is covered marked = record { markings = marked; spots = route_spots plan s ms is (covered_spot plan s is covered) }
