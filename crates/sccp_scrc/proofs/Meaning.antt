-- what an arrival's answer says
use Rattle.std.specs.Prelude.{◌≡◌, ℕ, ◌<◌, Bool, true, false, not, ◌==◌, List, [], ◌∷◌, length, map, Option, Some, None, is_none}
use Rattle.std.specs.Prelude.{if◌then◌else◌, unwrap_or, refl, Result, Ok, Err, IfOk}
use Rattle.std.specs.List.{list_any, list_all}
use Rattle.std.proofs.Common.{sym, ◌∙◌, subst}
use Rattle.std.proofs.lemmas.Bool.{eqb-true, eq-eqb, false≢true}
use Rattle.sccp_base.specs.Marks.{holds}
use Rattle.sccp_base.specs.declared.mark.Mark.{Mark}
use Rattle.sccp_base.specs.declared.mark.Mark.TheVariants.{Subsystem}
use Rattle.sccp_base.proofs.Among.{find-Some}
use Rattle.sccp_address.specs.declared.address.Address.{Address}
use Rattle.sccp_layout.specs.declared.parts.JoinFault.{JoinFault}
use Rattle.sccp_message.specs.declared.message.Message.{Message}
use Rattle.sccp_message.specs.declared.fault.DecodeFault.{DecodeFault}
use Rattle.sccp_message.specs.Reading.{reading}
use Rattle.sccp_message.specs.Written.{message_octets}
use Rattle.sccp_message.specs.Unitdata.{called_of, hops_of}
use Rattle.plan_rules.specs.declared.target.Target.{Target}
use Rattle.plan_model.specs.declared.node.Node.{Node}
use Rattle.plan_model.specs.declared.spot.Spot.{Spot}
use Rattle.plan_model.specs.declared.hop.Step.{Step}
use Rattle.plan_model.specs.declared.hop.Step.TheVariants as steps
use Rattle.plan_model.specs.Network.{Network, IsPlan}
use Rattle.plan_model.specs.Steps.{step, closing, marks}
use Rattle.plan_model.specs.Named.{NamesMarks}
use Rattle.plan_model.proofs.Leading.{Facts, step_facts}
use Rattle.sccp_scrc.specs.declared.arrival.Arrival.{Arrival}
use Rattle.sccp_scrc.specs.declared.arrival.Arrival.TheVariants.{Relayed, Ended, Local, Returned, Connection, Management, Undecodable}
use Rattle.sccp_scrc.specs.declared.service.Service.{Service}
use Rattle.sccp_scrc.specs.Unitdata.{redirected, write_fault, octets_of}
use Rattle.sccp_scrc.specs.Rewriting.{one_less, to_relay, to_place, spot_of}
use Rattle.sccp_scrc.specs.Returning.{returned}
use Rattle.sccp_scrc.specs.Unchanged.{SameData}
use Rattle.sccp_scrc.specs.Outcomes.{IsRelayed, IsEnded, IsLocal, IsReturned}
use Rattle.sccp_scrc.specs.Arriving.{point_of, subsystems_of, at_subsystem, leaving, after_step, translated, is_last_hop, at_title}
use Rattle.sccp_scrc.specs.Arriving.{by_called, of_message, arrival}
use Rattle.sccp_scrc.proofs.Redirected.{redirected-own, own_hops, redirected_counted}
use Rattle.sccp_scrc.proofs.Arrivals.{spot_title, next_again, next_within, next_other, IsOpen, open_place}
use Rattle.sccp_scrc.proofs.StepEnds.{EndsRightly, ends_rightly}

abbrev pub Means : Network → ℕ → List Mark → List ℕ → Arrival → Type 0
Means plan node marking b (Relayed pc sent) = IsRelayed plan node b pc sent
Means plan node marking b (Ended pc ssn sent) = IsEnded plan node marking b pc ssn sent
Means plan node marking b (Local ssn m) = IsLocal plan node marking b ssn m
Means plan node marking b (Returned cause names service) = IsReturned marking cause names
Means plan node marking b (Connection m) = Unit {0}
Means plan node marking b (Management m) = Unit {0}
Means plan node marking b (Undecodable fault) = Unit {0}

-- each of the marks that close targets is held
all_held : (node : Node) (ssn : ℕ) (marking : List Mark) (ts : List Target) (shut : List Mark)
    → map (closing node ssn marking) ts ≡ map Some shut → list_all (holds marking) shut ≡ true
all_held node ssn marking ts [] e = refl
all_held node ssn marking [] (m ∷ ms) e = absurd (cc)
all_held node ssn marking (t ∷ ts) (m ∷ ms) e =
    let first : closing node ssn marking t ≡ Some m = cc in
    let rest : map (closing node ssn marking) ts ≡ map Some ms = cc in
    rw (find-Some (holds marking) m (marks node ssn t) first).1 (all_held node ssn marking ts ms rest)

blocked_means : (plan : Network) (s : Spot) (marking : List Mark) (cause : ℕ) (shut : List Mark) → NamesMarks plan s marking cause shut
    → IsReturned marking cause shut
blocked_means plan s marking cause [] h = absurd (h.cause_is)
blocked_means plan s marking cause (m ∷ ms) h = record {
  held = all_held h.node s.ssn marking h.row.targets
      (m ∷ ms) h.closed;
  why = h.cause_is;
}

-- the octets of what can be written
pub octets_are : (m : Message) (sent : List ℕ) (o : Option JoinFault) → (if is_none o then Some (message_octets m) else None) ≡ Some sent
    → sent ≡ message_octets m
octets_are m sent None e = let same : message_octets m ≡ sent = cc in sym same
octets_are m sent (Some f) e = absurd (cc)

same_data : (m : Message) (x : Address) → SameData m (redirected x one_less m)
same_data m x = record { called = x; hops = one_less (unwrap_or (hops_of m) 0); same = sym (redirected_counted x one_less m) }

places : (plan : Network) (s : Spot) (marking : List Mark) (origin : ℕ) (b : List ℕ) (m : Message) (a : Address) (pc ssn : ℕ) (c : Bool)
    → reading b ≡ Ok m → (pc == point_of plan s.node) ≡ c → IsOpen plan s marking pc ssn
    → ((pc == point_of plan s.node) ≡ true → list_any (λ own. own == ssn) (subsystems_of plan s.node) ≡ true) →
    Means plan s.node marking b (if c then Local ssn (redirected (to_place a ssn) one_less m)
    else leaving marking origin m (Ended pc ssn) (octets_of (redirected (to_place a ssn) one_less m)))
places plan s marking origin b m a pc ssn true reads e is equipped =
    let own : pc ≡ point_of plan s.node = eqb-true pc (point_of plan s.node) e in
    record {
      equipped = equipped e;
      allowed = subst (λ p. holds marking (Subsystem p ssn)
          ≡ false) own is.subsystem;
      message = m;
      reads = reads;
      same = same_data m (to_place a ssn);
    }
places plan s marking origin b m a pc ssn false reads e is equipped =
    let new : Message = redirected (to_place a ssn) one_less m in
    elim (octets_of new) as (λ o. octets_of new ≡ o → Means plan s.node marking b (leaving marking origin m (Ended pc ssn) o)) [
      | None ↦ λ w. record { held = refl; why = refl }
      | Some sent ↦ λ w.
          let k = is.point e in
          record {
            other = λ same. false≢true (sym e ∙ eq-eqb pc (point_of plan s.node) same);
            point = k.0;
            sccp = k.1;
            subsystem = is.subsystem;
            message = m;
            reads = reads;
            called = to_place a ssn;
            on_ssn = refl;
            named = refl;
            pointless = refl;
            octets = octets_are new sent (write_fault new) w;
          }
    ] refl

stepped : (plan : Network) (s : Spot) (marking : List Mark) (origin : ℕ) (b : List ℕ) (m : Message) (a : Address) (x : Step) → IsPlan plan
    → reading b ≡ Ok m → Facts plan s marking x → EndsRightly plan s.node x
    → Means plan s.node marking b (after_step plan s.node marking origin m a x)
stepped plan s marking origin b m a (steps.Sent next place) is reads facts ends =
    let new : Message = redirected (to_relay a next) one_less m in
    elim (octets_of new) as (λ o. octets_of new ≡ o
    → Means plan s.node marking b (leaving marking origin m (Relayed (point_of plan next.node)) o)) [
      | None ↦ λ w. record { held = refl; why = refl }
      | Some sent ↦ λ w. record {
        relay = subst (λ n. n < length plan.nodes) (sym (next_again plan s next is facts)) (next_within plan s next is facts);
        other = next_other plan s next is facts;
        message = m;
        reads = reads;
        called = to_relay a next;
        by_title = refl;
        pointless = refl;
        octets = octets_are new sent (write_fault new) w;
      }
    ] refl
stepped plan s marking origin b m a (steps.Ended pc ssn place) is reads facts ends =
    places plan s marking origin b m a pc ssn (pc == point_of plan s.node) reads refl (open_place plan s marking pc ssn facts) ends
stepped plan s marking origin b m a (steps.Blocked cause shut) is reads facts ends = blocked_means plan s marking cause shut facts
stepped plan s marking origin b m a (steps.NoRow cause) is reads facts ends = record { held = refl; why = ends }
stepped plan s marking origin b m a steps.Overgrown is reads facts ends = record { held = refl; why = refl }

by_spot : (plan : Network) (node : ℕ) (marking : List Mark) (origin : ℕ) (b : List ℕ) (m : Message) (a : Address) (o : Option Spot)
    → IsPlan plan → reading b ≡ Ok m → spot_of node a ≡ o → Means plan node marking b (translated plan node marking origin m a o)
by_spot plan node marking origin b m a None is reads e = record { held = refl; why = refl }
by_spot plan node marking origin b m a (Some s) is reads e =
    subst (λ n. Means plan n marking b (after_step plan n marking origin m a (step plan s marking))) (sym (spot_title node a s e).2)
    (stepped plan s marking origin b m a (step plan s marking) is reads (step_facts plan is s marking) (ends_rightly plan s marking))

by_hops : (plan : Network) (node : ℕ) (marking : List Mark) (origin : ℕ) (b : List ℕ) (m : Message) (a : Address) (last : Bool)
    → IsPlan plan → reading b ≡ Ok m
    → Means plan node marking b (if last then returned marking origin m 12 [] else translated plan node marking origin m a (spot_of node a))
by_hops plan node marking origin b m a true is reads = record { held = refl; why = refl }
by_hops plan node marking origin b m a false is reads = by_spot plan node marking origin b m a (spot_of node a) is reads refl

own_data : (m : Message) (a : Address) → called_of m ≡ Some a → SameData m m
own_data m a e = record { called = a; hops = own_hops (hops_of m); same = redirected-own a m e }

on_ssn : (plan : Network) (node : ℕ) (marking : List Mark) (origin : ℕ) (b : List ℕ) (m : Message) (ssn : ℕ)
    (management equipped prohibited : Bool) → reading b ≡ Ok m → SameData m m
    → list_any (λ own. own == ssn) (subsystems_of plan node) ≡ equipped → holds marking (Subsystem (point_of plan node) ssn) ≡ prohibited →
    Means plan node marking b (if management then Management m else if not equipped then returned marking origin m 4 [] else if prohibited
    then returned marking origin m 3 (Subsystem (point_of plan node) ssn ∷ []) else Local ssn m)
on_ssn plan node marking origin b m ssn true equipped prohibited reads same e h = tt
on_ssn plan node marking origin b m ssn false false prohibited reads same e h = record { held = refl; why = refl }
on_ssn plan node marking origin b m ssn false true true reads same e h = record { held = rw h refl; why = refl }
on_ssn plan node marking origin b m ssn false true false reads same e h =
    record { equipped = e; allowed = h; message = m; reads = reads; same = same }

by_ssn : (plan : Network) (node : ℕ) (marking : List Mark) (origin : ℕ) (b : List ℕ) (m : Message) (o : Option ℕ) → reading b ≡ Ok m
    → SameData m m → Means plan node marking b (at_subsystem plan node marking origin m o)
by_ssn plan node marking origin b m None reads same = record { held = refl; why = refl }
by_ssn plan node marking origin b m (Some ssn) reads same =
    on_ssn plan node marking origin b m ssn (ssn == 1) (list_any (λ own. own == ssn) (subsystems_of plan node))
    (holds marking (Subsystem (point_of plan node) ssn)) reads same refl refl

by_routing : (plan : Network) (node : ℕ) (marking : List Mark) (origin : ℕ) (b : List ℕ) (m : Message) (a : Address) (ssn : Bool)
    → IsPlan plan → reading b ≡ Ok m → SameData m m → Means plan node marking b (if ssn then at_subsystem plan node marking origin m a.ssn
    else at_title plan node marking origin m a)
by_routing plan node marking origin b m a true is reads same = by_ssn plan node marking origin b m a.ssn reads same
by_routing plan node marking origin b m a false is reads same = by_hops plan node marking origin b m a (is_last_hop (hops_of m)) is reads

by_type : (plan : Network) (node : ℕ) (marking : List Mark) (origin : ℕ) (b : List ℕ) (m : Message) (o : Option Address) → IsPlan plan
    → reading b ≡ Ok m → called_of m ≡ o → Means plan node marking b (by_called plan node marking origin m o)
by_type plan node marking origin b m None is reads e = tt
by_type plan node marking origin b m (Some a) is reads e = by_routing plan node marking origin b m a a.by_ssn is reads (own_data m a e)

by_reading : (plan : Network) (node : ℕ) (marking : List Mark) (origin : ℕ) (b : List ℕ) (r : Result Message DecodeFault) → IsPlan plan
    → reading b ≡ r → Means plan node marking b (of_message plan node marking origin r)
by_reading plan node marking origin b (Ok m) is e = by_type plan node marking origin b m (called_of m) is e refl
by_reading plan node marking origin b (Err fault) is e = tt

pub means : (plan : Network) (node : ℕ) (marking : List Mark) (origin : ℕ) (b : List ℕ) → IsPlan plan
    → Means plan node marking b (arrival plan node marking origin b)
means plan node marking origin b is = by_reading plan node marking origin b (reading b) is refl

-- an answer that is the arrival says what the arrival says
pub said : {E : Type 0} (r : Result Arrival E) (plan : Network) (node : ℕ) (marking : List Mark) (origin : ℕ) (b : List ℕ) → IsPlan plan
    → IfOk r (λ a. a ≡ arrival plan node marking origin b) → IfOk r (λ a. Means plan node marking b a)
said (Ok a) plan node marking origin b is h = subst (Means plan node marking b) (sym h) (means plan node marking origin b is)
said (Err e) plan node marking origin b is h = tt

pub relayed : {E : Type 0} (r : Result Arrival E) (plan : Network) (node : ℕ) (marking : List Mark) (b : List ℕ)
    → IfOk r (λ a. Means plan node marking b a) → IfOk r (λ a. (pc : ℕ) (sent : List ℕ) → a ≡ Relayed pc sent
    → IsRelayed plan node b pc sent)
relayed (Ok a) plan node marking b h = λ pc sent e. subst (Means plan node marking b) e h
relayed (Err e) plan node marking b h = tt

pub ended : {E : Type 0} (r : Result Arrival E) (plan : Network) (node : ℕ) (marking : List Mark) (b : List ℕ)
    → IfOk r (λ a. Means plan node marking b a) → IfOk r (λ a. (pc ssn : ℕ) (sent : List ℕ) → a ≡ Ended pc ssn sent
    → IsEnded plan node marking b pc ssn sent)
ended (Ok a) plan node marking b h = λ pc ssn sent e. subst (Means plan node marking b) e h
ended (Err e) plan node marking b h = tt

pub local : {E : Type 0} (r : Result Arrival E) (plan : Network) (node : ℕ) (marking : List Mark) (b : List ℕ)
    → IfOk r (λ a. Means plan node marking b a) → IfOk r (λ a. (ssn : ℕ) (m : Message) → a ≡ Local ssn m
    → IsLocal plan node marking b ssn m)
local (Ok a) plan node marking b h = λ ssn m e. subst (Means plan node marking b) e h
local (Err e) plan node marking b h = tt

pub names : {E : Type 0} (r : Result Arrival E) (plan : Network) (node : ℕ) (marking : List Mark) (b : List ℕ)
    → IfOk r (λ a. Means plan node marking b a) → IfOk r (λ a. (cause : ℕ) (shut : List Mark) (service : Option Service)
    → a ≡ Returned cause shut service → IsReturned marking cause shut)
names (Ok a) plan node marking b h = λ cause shut service e. subst (Means plan node marking b) e h
names (Err e) plan node marking b h = tt
