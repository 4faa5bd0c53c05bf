-- Why a message is unexplained, as it is looked for.
use Rattle.std.proofs.Common.{◌≡◌, ℕ, zero, suc, ◌+◌, ◌<◌, Bool, true, false, List, [], ◌∷◌, length, take, drop, map, Option, Some, None}
use Rattle.std.proofs.Common.{refl}
use Rattle.std.proofs.Common.{sym, ◌∙◌, ap, subst, get_or, arith}
use Rattle.std.specs.Prelude.{if◌then◌else◌, IfOk, Result, Ok, Err}
use Rattle.std.specs.List.{All, filter}
use Rattle.std.proofs.lemmas.List.Elements.{All-more}
use Rattle.sccp_address.specs.declared.address.Address.{Address}
use Rattle.sccp_message.specs.declared.message.Message.{Message}
use Rattle.plan_model.specs.Network.{Network}
use Rattle.relay_ways.specs.declared.explanation.Explanation.{Explanation}
use Rattle.relay_watch.specs.Arrivals.{target}
use Rattle.relay_watch.specs.Judging.{IsWithout, IsOfSent, IsVerdict}
use Rattle.relay_watch.specs.Kept.{is_unexplained}
use Rattle.relay_watch.specs.Reasons.{AreReasons}
use Rattle.relay_watch.specs.Repeats.{with_near}
use Rattle.relay_watch.specs.Whys.{has_data, near_of, nearer, nearest_of, IsNoAnswered, IsAgain, SaysWhy}
use Rattle.relay_watch.specs.Verdicts.{of_unsent}
use Rattle.relay_watch.specs.declared.answered.Answered.{Answered}
use Rattle.relay_watch.specs.declared.event.Event.{Event}
use Rattle.relay_watch.specs.declared.found.Found.{Found}
use Rattle.relay_watch.specs.declared.near.Near.{Near}
use Rattle.relay_watch.specs.declared.verdict.Verdict.{Verdict}
use Rattle.relay_watch.specs.declared.verdict.Verdict.TheVariants as verdicts
use Rattle.relay_watch.specs.declared.waiting.Waiting.{Waiting}
use Rattle.relay_watch.specs.declared.why.Why.TheVariants.{NoArrival}
use Rattle.relay_watch.proofs.Reasoned.{at_place, no_ways, some_ways}

-- ---- the nearest

next_at : (plan : Network) (node to : ℕ) (sent : Message) (best : Option Near) (ws : List Waiting) (i : ℕ) (w : Waiting) → i < length ws
    → w ≡ get_or ws i w
    → nearest_of (with_near plan node to sent best w) (map (near_of plan node to sent) (filter (has_data node sent) (drop (suc i) ws)))
    ≡ nearest_of best (map (near_of plan node to sent) (filter (has_data node sent) (drop i ws)))
next_at plan node to sent best [] i w inside is = absurd (omega (arith, inside))
next_at plan node to sent best (v ∷ vs) zero w inside is =
    subst (λ (z : Waiting). nearest_of (with_near plan node to sent best w)
    (map (near_of plan node to sent) (filter (has_data node sent) vs))
    ≡ nearest_of best (map (near_of plan node to sent)
    (if has_data node sent z then z ∷ filter (has_data node sent) vs else filter (has_data node sent) vs))) is
    (by (has_data node sent w))
  where
    by : (b : Bool)
        → nearest_of (if b then nearer best (near_of plan node to sent w) else best)
        (map (near_of plan node to sent) (filter (has_data node sent) vs))
        ≡ nearest_of best (map (near_of plan node to sent) (if b then w ∷ filter (has_data node sent) vs
        else filter (has_data node sent) vs))
    by true = refl
    by false = refl
next_at plan node to sent best (v ∷ vs) (suc i) w inside is = next_at plan node to sent best vs i w (omega (arith, inside)) is

one_more : (i : ℕ) → i + 1 ≡ suc i
one_more i = omega arith

pub nearest_next : (plan : Network) (node to : ℕ) (sent : Message) (best : Option Near) (ws : List Waiting) (i : ℕ) (w : Waiting)
    → i < length ws → w ≡ get_or ws i w
    → nearest_of (with_near plan node to sent best w) (map (near_of plan node to sent) (filter (has_data node sent) (drop (i + 1) ws)))
    ≡ nearest_of best (map (near_of plan node to sent) (filter (has_data node sent) (drop i ws)))
nearest_next plan node to sent best ws i w inside is =
    ap (λ n. nearest_of (with_near plan node to sent best w) (map (near_of plan node to sent) (filter (has_data node sent) (drop n ws))))
    (one_more i)
    ∙ next_at plan node to sent best ws i w inside is

-- ---- answered arrivals

pub again_found : (plan : Network) (answered : List Answered) (node to : ℕ) (sent : Message) (place : ℕ) (ways : List Explanation)
    (x : Answered) → place < length answered → x ≡ get_or answered place x → All (IsNoAnswered plan node to sent) (take place answered)
    → (length ways ≡ 0 → ⊥) → AreReasons plan node to sent x.arrival ways → IsAgain plan answered node to sent x.by
again_found plan answered node to sent place ways x inside is before some are = record {
  place = place;
  one = x;
  at = at_place answered place x inside is;
  numbered = refl;
  ways = ways;
  reason = some_ways plan node to sent x.arrival ways some are;
  first = before;
}

pub again_passed : (plan : Network) (answered : List Answered) (node to : ℕ) (sent : Message) (place : ℕ) (ways : List Explanation)
    (x : Answered) → place < length answered → x ≡ get_or answered place x → All (IsNoAnswered plan node to sent) (take place answered)
    → length ways ≡ 0 → AreReasons plan node to sent x.arrival ways → All (IsNoAnswered plan node to sent) (take (place + 1) answered)
again_passed plan answered node to sent place ways x inside is before none are =
    All-more (IsNoAnswered plan node to sent) answered place x inside before
    (subst (IsNoAnswered plan node to sent) is (no_ways plan node to sent x.arrival ways none are))

-- ---- verdicts

-- a verdict that is not that the message is unexplained has nothing to say of why
pub known_says : (plan : Network) (ws : List Waiting) (xs : List Answered) (node to : ℕ) (m : Message) (v : Verdict)
    → is_unexplained v ≡ false → SaysWhy plan ws xs node to m v
known_says plan ws xs node to m (verdicts.Undecodable fault) e = tt
known_says plan ws xs node to m verdicts.Connection e = tt
known_says plan ws xs node to m verdicts.Other e = tt
known_says plan ws xs node to m verdicts.Arrived e = tt
known_says plan ws xs node to m (verdicts.Explained by ways) e = tt
known_says plan ws xs node to m (verdicts.Management status) e = tt
known_says plan ws xs node to m (verdicts.Own ssn) e = tt
known_says plan ws xs node to m (verdicts.Unexplained why) e = absurd cc

-- by what was found, and by the relay that sent the message

pub without_found : {E : Type 0} (r : Result Verdict E) (plan : Network) (ws : List Waiting) (xs : List Answered) (node to : ℕ)
    (m : Message) (a : Address) (found : Option Found) → found ≡ None → IfOk r (IsWithout plan ws xs node to m a)
    → IfOk r (IsOfSent plan ws xs node to m a found)
without_found (Ok v) plan ws xs node to m a found e h =
    subst (λ (o : Option Found). IsOfSent plan ws xs node to m a o v) (sym e) (record { why = h.why; is = h.is; says = h.says })
without_found (Err x) plan ws xs node to m a found e h = tt

pub sent_by : {E : Type 0} (r : Result Verdict E) (plan : Network) (ws : List Waiting) (xs : List Answered) (e : Event) (node : ℕ)
    (m : Message) (a : Address) (found : Option Found) (place : Option ℕ) → place ≡ Some node
    → IfOk r (IsOfSent plan ws xs node e.destination m a found) → IfOk r (IsVerdict plan ws xs e m a found place)
sent_by (Ok v) plan ws xs e node m a found place at h =
    subst (λ (o : Option ℕ). IsVerdict plan ws xs e m a found o v) (sym at) (record { why = h.why; is = h.is; says = h.says })
sent_by (Err x) plan ws xs e node m a found place at h = tt

pub unsent_by : (plan : Network) (ws : List Waiting) (xs : List Answered) (e : Event) (m : Message) (a : Address) (found : Option Found)
    (place : Option ℕ) (v : Verdict) → place ≡ None → v ≡ of_unsent m a (target plan e) → IsVerdict plan ws xs e m a found place v
unsent_by plan ws xs e m a found place v at is =
    subst (λ (o : Option ℕ). IsVerdict plan ws xs e m a found o v) (sym at) (record { why = NoArrival; is = is; says = tt })

pub found_by : (plan : Network) (ws : List Waiting) (xs : List Answered) (node to : ℕ) (m : Message) (a : Address) (found : Option Found)
    (f : Found) (v : Verdict) → found ≡ Some f → v ≡ verdicts.Explained f.by f.ways → IsOfSent plan ws xs node to m a found v
found_by plan ws xs node to m a found f v at is =
    subst (λ (o : Option Found). IsOfSent plan ws xs node to m a o v) (sym at)
    (record { why = NoArrival; is = is; says = subst (SaysWhy plan ws xs node to m) (sym is) tt })
