-- An arrival that is the same as an earlier one needs no look at the plan.
use Rattle.std.proofs.Common.{◌≡◌, ℕ, ◌+◌, ◌<◌, ◌≤◌, Bool, true, false, List, length, take, Option, Some, None, refl, sym, ◌∙◌, ap}
use Rattle.std.proofs.Common.{subst, get_or, arith}
use Rattle.std.specs.Prelude.{◌==◌, ◌&&◌, nat_eq, nat_lt, if◌then◌else◌, IsSomeAnd}
use Rattle.std.specs.Cmp.Lexicographic.{pointwise}
use Rattle.std.specs.List.{All}
use Rattle.std.proofs.lemmas.Bool.{le-ltb, ltb-false, ltb-true}
use Rattle.std.proofs.lemmas.List.Elements.{All-get_or, All-more}
use Rattle.std.proofs.lemmas.Option.{get_or_from_slice_get, slice_get_within}
use Rattle.sccp_message.specs.declared.message.Message.{Message}
use Rattle.plan_model.specs.Network.{Network}
use Rattle.relay_ways.specs.WhyNot.{rank, why_not}
use Rattle.relay_watch.specs.Arrivals.{data_of}
use Rattle.relay_watch.specs.Reasons.{NeverSends, IsNoReason}
use Rattle.relay_watch.specs.Repeats.{IsSame, IsRepeat, IsReached, with_near}
use Rattle.relay_watch.specs.Whys.{has_data, near_of, nearer}
use Rattle.relay_watch.specs.declared.near.Near.{Near}
use Rattle.relay_watch.specs.declared.waiting.Waiting.{Waiting}

-- what holds of all earlier ones holds of the one that is the same
same_holds : (P : Waiting → Type 0) (earlier : List Waiting) (w : Waiting) → (r : IsRepeat earlier w) → All P earlier → P r.one
same_holds P earlier w r all =
    subst P (get_or_from_slice_get earlier r.place r.one r.one r.at)
    (All-get_or P earlier r.place r.one (slice_get_within earlier r.place r.one r.at) all)

-- ---- a reason to send

same_none : (plan : Network) (node to : ℕ) (sent : Message) (one w : Waiting) → IsSame one w → IsNoReason plan node to sent one
    → IsNoReason plan node to sent w
same_none plan node to sent one w same none here =
    subst (λ (o : ℕ). NeverSends plan node o w.octets to sent) same.from
    (subst (λ (b : List ℕ). NeverSends plan node one.origin b to sent) same.octets_are (none (same.here ∙ here)))

pub repeat_none : (plan : Network) (node to : ℕ) (sent : Message) (earlier : List Waiting) (w : Waiting) → IsRepeat earlier w
    → All (IsNoReason plan node to sent) earlier → IsNoReason plan node to sent w
repeat_none plan node to sent earlier w r all =
    same_none plan node to sent r.one w r.same (same_holds (IsNoReason plan node to sent) earlier w r all)

-- ---- the nearest

same_data : (node : ℕ) (sent : Message) (one w : Waiting) → IsSame one w → has_data node sent one ≡ has_data node sent w
same_data node sent one w same =
    ap (λ n. (n == node) && pointwise nat_eq one.payload (data_of sent)) same.here
    ∙ ap (λ d. (w.node == node) && pointwise nat_eq d (data_of sent)) same.data_are

same_reason : (plan : Network) (node to : ℕ) (sent : Message) (one w : Waiting) → IsSame one w
    → (near_of plan node to sent one).reason ≡ (near_of plan node to sent w).reason
same_reason plan node to sent one w same =
    ap (λ o. why_not plan node o one.octets to sent) same.from ∙ ap (λ b. why_not plan node w.origin b to sent) same.octets_are

-- one that passes no more tests comes no nearer
no_nearer : (best : Option Near) (n : Near) → IsSomeAnd best (λ b. rank n.reason ≤ rank b.reason) → nearer best n ≡ best
no_nearer None n h = absurd h
no_nearer (Some b) n h = by (nat_lt (rank b.reason) (rank n.reason)) (le-ltb (rank b.reason) (rank n.reason) h) where
  by : (c : Bool) → c ≡ false → (if c then Some n else Some b) ≡ Some b
  by true e = cc
  by false e = refl

pub repeat_near : (plan : Network) (node to : ℕ) (sent : Message) (earlier : List Waiting) (best : Option Near) (w : Waiting)
    → IsRepeat earlier w → All (IsReached plan node to sent best) earlier → best ≡ with_near plan node to sent best w
repeat_near plan node to sent earlier best w r all = by (has_data node sent w) refl where
  reached : IsReached plan node to sent best w
  reached has =
      subst (λ x. IsSomeAnd best (λ (b : Near). rank x ≤ rank b.reason)) (same_reason plan node to sent r.one w r.same)
      (same_holds (IsReached plan node to sent best) earlier w r all (same_data node sent r.one w r.same ∙ has))

  by : (b : Bool) → has_data node sent w ≡ b → best ≡ (if b then nearer best (near_of plan node to sent w) else best)
  by true e = sym (no_nearer best (near_of plan node to sent w) (reached e))
  by false e = refl

-- ---- one more arrival

-- what was found passes as many tests
abbrev Reaches : Option Near → Near → Type 0
Reaches best n = IsSomeAnd best (λ b. rank n.reason ≤ rank b.reason)

still_reached : (best : Option Near) (n m : Near) → Reaches best n → Reaches (nearer best m) n
still_reached None n m h = absurd h
still_reached (Some b) n m h = by (nat_lt (rank b.reason) (rank m.reason)) refl where
  by : (c : Bool) → nat_lt (rank b.reason) (rank m.reason) ≡ c → Reaches (if c then Some m else Some b) n
  by true e = omega (arith, h, ltb-true (rank b.reason) (rank m.reason) e)
  by false e = h

own_reached : (best : Option Near) (n : Near) → Reaches (nearer best n) n
own_reached None n = omega arith
own_reached (Some b) n = by (nat_lt (rank b.reason) (rank n.reason)) refl where
  by : (c : Bool) → nat_lt (rank b.reason) (rank n.reason) ≡ c → Reaches (if c then Some n else Some b) n
  by true e = omega arith
  by false e = let le : rank n.reason ≤ rank b.reason = ltb-false (rank b.reason) (rank n.reason) e in le

reached_more : (plan : Network) (node to : ℕ) (sent : Message) (best : Option Near) (w v : Waiting) → IsReached plan node to sent best v
    → IsReached plan node to sent (with_near plan node to sent best w) v
reached_more plan node to sent best w v h has = by (has_data node sent w) where
  by : (b : Bool) → Reaches (if b then nearer best (near_of plan node to sent w) else best) (near_of plan node to sent v)
  by true = still_reached best (near_of plan node to sent v) (near_of plan node to sent w) (h has)
  by false = h has

reached_own : (plan : Network) (node to : ℕ) (sent : Message) (best : Option Near) (w : Waiting)
    → IsReached plan node to sent (with_near plan node to sent best w) w
reached_own plan node to sent best w has =
    subst (λ b. Reaches (if b then nearer best (near_of plan node to sent w) else best) (near_of plan node to sent w)) (sym has)
    (own_reached best (near_of plan node to sent w))

pub reached_next : (plan : Network) (node to : ℕ) (sent : Message) (best : Option Near) (ws : List Waiting) (i : ℕ) (w : Waiting)
    → i < length ws → w ≡ get_or ws i w → All (IsReached plan node to sent best) (take i ws)
    → All (IsReached plan node to sent (with_near plan node to sent best w)) (take (i + 1) ws)
reached_next plan node to sent best ws i w inside is all =
    All-more (IsReached plan node to sent (with_near plan node to sent best w)) ws i w inside
    (λ k v within. reached_more plan node to sent best w (get_or (take i ws) k v) (all k v within))
    (subst (IsReached plan node to sent (with_near plan node to sent best w)) is (reached_own plan node to sent best w))
