-- What sending a message on ends with, and what is shown of an arrival of octets.
use Rattle.std.proofs.Common.{◌≡◌, ℕ, List, [], ◌∷◌, Option, Some, None, Result, Ok, Err, refl, sym, ◌∙◌, ap, subst}
use Rattle.std.specs.Prelude.{Bool, true, false, not, ◌==◌, if◌then◌else◌}
use Rattle.std.specs.List.{list_all, list_any}
use Rattle.plan_model.specs.Network.{Network}
use Rattle.plan_model.specs.Steps.{step}
use Rattle.plan_model.specs.declared.hop.Step.{Step}
use Rattle.plan_model.specs.declared.hop.Step.TheVariants as steps
use Rattle.plan_model.specs.declared.spot.Spot.{Spot}
use Rattle.sccp_address.specs.declared.address.Address.{Address}
use Rattle.sccp_base.specs.Marks.{holds}
use Rattle.sccp_base.specs.declared.mark.Mark.{Mark}
use Rattle.sccp_base.specs.declared.mark.Mark.TheVariants.{Subsystem}
use Rattle.sccp_message.specs.Reading.{reading}
use Rattle.sccp_message.specs.declared.fault.DecodeFault.{DecodeFault}
use Rattle.sccp_message.specs.declared.message.Message.{Message}
use Rattle.sccp_message.specs.declared.message.Message.TheVariants as messages
use Rattle.sccp_message.specs.Unitdata.{called_of, hops_of}
use Rattle.sccp_report.specs.Events.{connection_words, coupling_words}
use Rattle.sccp_report.specs.MessageText.{decoded_text, message_text}
use Rattle.sccp_scrc.specs.Arriving.{arrival, at_subsystem, at_title, after_step, by_called, is_last_hop, leaving, of_message, point_of}
use Rattle.sccp_scrc.specs.Arriving.{subsystems_of, translated}
use Rattle.sccp_scrc.specs.Outcomes.{IsReturned}
use Rattle.sccp_scrc.specs.Returning.{returned}
use Rattle.sccp_scrc.specs.Rewriting.{rewritten, spot_of}
use Rattle.sccp_scrc.specs.Unitdata.{octets_of}
use Rattle.sccp_scrc.specs.declared.arrival.Arrival.{Arrival}
use Rattle.sccp_scrc.specs.declared.arrival.Arrival.TheVariants.{Relayed, Ended, Local, Returned, Connection, Management, Undecodable}
use Rattle.sccp_scrc.specs.declared.service.Service.{Service}
use Rattle.sccp_tool.specs.SendOn.{IsOfOctets, connection_line, first_line, type_line, send_on_text}
use Rattle.sccp_tool.specs.Task.{SendOn}
use Rattle.sccp_work.specs.PlanFile.{PlanFile}
use Rattle.sccp_work.specs.Work.{answered}
use Rattle.sccp_tool.specs.declared.send_on.Incoming.{Incoming}
use Rattle.sccp_work.specs.declared.status.Status.TheVariants.{Done, Usage}
use Rattle.sccp_tool.proofs.Causes.{Causes}
use Rattle.sccp_tool.proofs.SegmentLemmas.{send_on_tells}
use Rattle.plan_model.proofs.Sound.{AreLimits}
use Rattle.sccp_tool.proofs.TaskWords.{IsGiven}
use Rattle.sccp_work.specs.Verdict.{IsOnVerdict}
use Rattle.sccp_work.proofs.PlanLemmas.{plan_files, text_always, text_only}

pub send_on_causes : (file : PlanFile) (incoming : Incoming) → AreLimits file.limits × IsGiven incoming
    → Causes (Some (SendOn file incoming))
send_on_causes file incoming given = record {
  only = λ c s text h. text_only (Some c) file (λ plan. send_on_text plan incoming) s text h;
  usage = λ contents text h. absurd (text_only contents file (λ plan. send_on_text plan incoming) Usage text h);
  always = λ c t s text cause h. text_always c file (λ plan. send_on_text plan incoming) t s text cause h;
  refused = λ c s text cause h. absurd cause;
  tells = λ c s text taken taken' is ends done. send_on_tells (Some c) file incoming s text taken taken' given.0 given.1 is
      (ends (subst IsOnVerdict (sym done) tt)) done;
  journeys = λ c s b a is o. tt;
  files = λ c there. plan_files c file (λ plan. answered (Done, send_on_text plan incoming)) (λ plan. tt) there;
}

-- ---- the type of a connection-oriented message is the first line of what is shown of it

type_shown : (octets : List ℕ) (m : Message) → called_of m ≡ None → type_line (first_line (decoded_text octets (Ok m))) ≡ connection_line m
unfolding connection_line type_line first_line coupling_words connection_words
type_shown octets (messages.Cr slr class to params) e = refl
type_shown octets (messages.Cc dlr slr class params) e = refl
type_shown octets (messages.Cref dlr cause params) e = refl
type_shown octets (messages.Rlsd dlr slr cause params) e = refl
type_shown octets (messages.Rlc dlr slr) e = refl
type_shown octets (messages.Dt1 dlr more payload) e = refl
type_shown octets (messages.Dt2 dlr send receive more payload) e = refl
type_shown octets (messages.Ak dlr receive credit) e = refl
type_shown octets (messages.Ed dlr payload) e = refl
type_shown octets (messages.Ea dlr) e = refl
type_shown octets (messages.Rsr dlr slr cause) e = refl
type_shown octets (messages.Rsc dlr slr) e = refl
type_shown octets (messages.Err dlr cause) e = refl
type_shown octets (messages.It dlr slr class send receive more credit) e = refl
type_shown octets (messages.Udt class to from payload) e = cc
type_shown octets (messages.Udts cause to from payload) e = cc
type_shown octets (messages.Xudt class hops to from payload params) e = cc
type_shown octets (messages.Xudts cause hops to from payload params) e = cc
type_shown octets (messages.Ludt class hops to from payload params) e = cc
type_shown octets (messages.Ludts cause hops to from payload params) e = cc

shown : (octets : List ℕ) (m : Message) → reading octets ≡ Ok m → message_text octets ≡ decoded_text octets (Ok m)
unfolding message_text
shown octets m is = ap (decoded_text octets) is

pub connection_shown : (octets : List ℕ) (m : Message) → reading octets ≡ Ok m → called_of m ≡ None
    → type_line (first_line (message_text octets)) ≡ connection_line m
connection_shown octets m is e = ap (λ t. type_line (first_line t)) (shown octets m is) ∙ type_shown octets m e

-- ---- an arrival is of its octets

-- what the octets say of an arrival that is not routed
abbrev SaysOctets : List ℕ → Arrival → Type 0
SaysOctets b (Connection m) = (reading b ≡ Ok m) × (called_of m ≡ None)
SaysOctets b (Undecodable fault) = reading b ≡ Err fault
SaysOctets b (Returned cause marks service) = Unit {0}
SaysOctets b (Relayed pc octets) = Unit {0}
SaysOctets b (Ended pc ssn octets) = Unit {0}
SaysOctets b (Local ssn m) = Unit {0}
SaysOctets b (Management m) = Unit {0}

leaves : (b : List ℕ) (marking : List Mark) (origin : ℕ) (m : Message) (way : List ℕ → Arrival) (o : Option (List ℕ))
    → ((octets : List ℕ) → SaysOctets b (way octets)) → SaysOctets b (leaving marking origin m way o)
leaves b marking origin m way None says = tt
leaves b marking origin m way (Some octets) says = says octets

placed : (plan : Network) (node : ℕ) (marking : List Mark) (origin : ℕ) (b : List ℕ) (m new : Message) (pc ssn : ℕ) (own : Bool)
    (o : Option (List ℕ)) → SaysOctets b (if own then Local ssn new else leaving marking origin m (Ended pc ssn) o)
placed plan node marking origin b m new pc ssn true o = tt
placed plan node marking origin b m new pc ssn false o = leaves b marking origin m (Ended pc ssn) o (λ octets. tt)

stepped : (plan : Network) (node : ℕ) (marking : List Mark) (origin : ℕ) (b : List ℕ) (m : Message) (a : Address) (x : Step)
    → SaysOctets b (after_step plan node marking origin m a x)
stepped plan node marking origin b m a (steps.Sent next target) =
    leaves b marking origin m (Relayed (point_of plan next.node)) (octets_of (rewritten a (steps.Sent next target) m)) (λ octets. tt)
stepped plan node marking origin b m a (steps.Ended pc ssn target) =
    placed plan node marking origin b m (rewritten a (steps.Ended pc ssn target) m) pc ssn (pc == point_of plan node)
    (octets_of (rewritten a (steps.Ended pc ssn target) m))
stepped plan node marking origin b m a (steps.Blocked cause marks) = tt
stepped plan node marking origin b m a (steps.NoRow cause) = tt
stepped plan node marking origin b m a steps.Overgrown = tt

by_spot : (plan : Network) (node : ℕ) (marking : List Mark) (origin : ℕ) (b : List ℕ) (m : Message) (a : Address) (o : Option Spot)
    → SaysOctets b (translated plan node marking origin m a o)
by_spot plan node marking origin b m a None = tt
by_spot plan node marking origin b m a (Some spot) = stepped plan node marking origin b m a (step plan spot marking)

by_hops : (plan : Network) (node : ℕ) (marking : List Mark) (origin : ℕ) (b : List ℕ) (m : Message) (a : Address) (last : Bool)
    → SaysOctets b (if last then returned marking origin m 12 [] else translated plan node marking origin m a (spot_of node a))
by_hops plan node marking origin b m a true = tt
by_hops plan node marking origin b m a false = by_spot plan node marking origin b m a (spot_of node a)

on_ssn : (plan : Network) (node : ℕ) (marking : List Mark) (origin : ℕ) (b : List ℕ) (m : Message) (ssn : ℕ)
    (management equipped prohibited : Bool) →
    SaysOctets b (if management then Management m else if not equipped then returned marking origin m 4 [] else if prohibited
    then returned marking origin m 3 (Subsystem (point_of plan node) ssn ∷ []) else Local ssn m)
on_ssn plan node marking origin b m ssn true equipped prohibited = tt
on_ssn plan node marking origin b m ssn false false prohibited = tt
on_ssn plan node marking origin b m ssn false true true = tt
on_ssn plan node marking origin b m ssn false true false = tt

by_ssn : (plan : Network) (node : ℕ) (marking : List Mark) (origin : ℕ) (b : List ℕ) (m : Message) (o : Option ℕ)
    → SaysOctets b (at_subsystem plan node marking origin m o)
by_ssn plan node marking origin b m None = tt
by_ssn plan node marking origin b m (Some ssn) =
    on_ssn plan node marking origin b m ssn (ssn == 1) (list_any (λ own. own == ssn) (subsystems_of plan node))
    (holds marking (Subsystem (point_of plan node) ssn))

by_routing : (plan : Network) (node : ℕ) (marking : List Mark) (origin : ℕ) (b : List ℕ) (m : Message) (a : Address) (ssn : Bool)
    → SaysOctets b (if ssn then at_subsystem plan node marking origin m a.ssn else at_title plan node marking origin m a)
by_routing plan node marking origin b m a true = by_ssn plan node marking origin b m a.ssn
by_routing plan node marking origin b m a false = by_hops plan node marking origin b m a (is_last_hop (hops_of m))

by_type : (plan : Network) (node : ℕ) (marking : List Mark) (origin : ℕ) (b : List ℕ) (m : Message) (o : Option Address) → reading b ≡ Ok m
    → called_of m ≡ o → SaysOctets b (by_called plan node marking origin m o)
by_type plan node marking origin b m None is e = (is, e)
by_type plan node marking origin b m (Some a) is e = by_routing plan node marking origin b m a a.by_ssn

by_reading : (plan : Network) (node : ℕ) (marking : List Mark) (origin : ℕ) (b : List ℕ) (r : Result Message DecodeFault) → reading b ≡ r
    → SaysOctets b (of_message plan node marking origin r)
by_reading plan node marking origin b (Ok m) is = by_type plan node marking origin b m (called_of m) is refl
by_reading plan node marking origin b (Err fault) is = is

-- none of the marks that are held while nothing is prohibited
none_held : (marks : List Mark) → list_all (holds []) marks ≡ true → marks ≡ []
none_held [] h = refl
none_held (mark ∷ marks) h = absurd (cc)

of_octets : (b : List ℕ) (a : Arrival) → SaysOctets b a → ((cause : ℕ) (marks : List Mark) (service : Option Service)
    → a ≡ Returned cause marks service → IsReturned [] cause marks) → IsOfOctets b a
of_octets b (Returned cause marks service) says names = none_held marks (names cause marks service refl).held
of_octets b (Connection m) says names = says
of_octets b (Undecodable fault) says names = says
of_octets b (Relayed pc octets) says names = tt
of_octets b (Ended pc ssn octets) says names = tt
of_octets b (Local ssn m) says names = tt
of_octets b (Management m) says names = tt

pub arrived : (plan : Network) (node : ℕ) (marking : List Mark) (origin : ℕ) (b : List ℕ) (a : Arrival) → marking ≡ []
    → a ≡ arrival plan node marking origin b
    → ((cause : ℕ) (marks : List Mark) (service : Option Service) → a ≡ Returned cause marks service → IsReturned marking cause marks)
    → IsOfOctets b a
arrived plan node marking origin b a none is names =
    of_octets b a (subst (SaysOctets b) (sym is) (by_reading plan node marking origin b (reading b) refl))
    (λ cause marks service e. subst (λ (held : List Mark). IsReturned held cause marks) none (names cause marks service e))
