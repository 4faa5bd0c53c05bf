-- What is said of an event, by what reading gives.
use Rattle.std.proofs.Common.{◌≡◌, ℕ, List, Option, Some, None, true, refl, sym, ◌∙◌, ap, subst}
use Rattle.std.specs.Prelude.{⊤, IfOk, Result, Ok, Err}
use Rattle.std.specs.Bool.{MatchBool}
use Rattle.sccp_address.specs.declared.address.Address.{Address}
use Rattle.sccp_message.specs.declared.fault.DecodeFault.{DecodeFault}
use Rattle.sccp_message.specs.declared.fault.DecodeFault.TheVariants as faults
use Rattle.sccp_message.specs.declared.message.Message.{Message}
use Rattle.sccp_message.specs.Reading.{is_memory}
use Rattle.sccp_message.specs.Unitdata.{called_of}
use Rattle.plan_model.specs.Network.{Network}
use Rattle.relay_watch.specs.Arrivals.{source, begins_by, is_other_by}
use Rattle.relay_watch.specs.Judging.{IsFoundBy, IsSaid, IsSaidAt}
use Rattle.relay_watch.specs.Verdicts.{by_called}
use Rattle.relay_watch.specs.Whys.{IsWhyFrom}
use Rattle.relay_watch.specs.declared.answered.Answered.{Answered}
use Rattle.relay_watch.specs.declared.event.Event.{Event}
use Rattle.relay_watch.specs.declared.judged.Judged.{Judged}
use Rattle.relay_watch.specs.declared.verdict.Verdict.{Verdict}
use Rattle.relay_watch.specs.declared.verdict.Verdict.TheVariants as verdicts
use Rattle.relay_watch.specs.declared.waiting.Waiting.{Waiting}
use Rattle.relay_watch.specs.declared.why.Why.TheVariants.{NoArrival}

pub said_called : (plan : Network) (ws : List Waiting) (xs : List Answered) (e : Event) (m : Message) (a : Address) (j : Judged)
    → Some a ≡ called_of m
    → IsSaidAt plan ws xs e m a j → IsSaid plan ws xs e (Ok m) j
said_called plan ws xs e m a j at said = record {
  found = said.found;
  search = subst (IsFoundBy plan ws e m said.found) at said.search;
  why = said.why;
  verdict_is = said.verdict_is ∙ ap (by_called plan e m said.found said.why) at;
  says_why = said.says_why;
  place_is = said.place_is;
  begins_is = said.begins_is ∙ ap (begins_by plan e m) at;
  other_is = said.other_is ∙ ap is_other_by at;
}

pub said_connection : (plan : Network) (ws : List Waiting) (xs : List Answered) (e : Event) (m : Message) (j : Judged) → None ≡ called_of m
    → j.verdict ≡ verdicts.Connection → j.place ≡ None → j.begins ≡ None → j.other ≡ true → IsSaid plan ws xs e (Ok m) j
said_connection plan ws xs e m j at verdict place new other = record {
  found = None;
  search = subst (IsFoundBy plan ws e m None) at refl;
  why = NoArrival;
  verdict_is = verdict ∙ ap (by_called plan e m None NoArrival) at;
  says_why = subst (λ (v : Verdict). IsWhyFrom plan ws xs e.destination m v (source plan e)) (sym verdict) (none (source plan e));
  place_is = place;
  begins_is = new ∙ ap (begins_by plan e m) at;
  other_is = other ∙ ap is_other_by at;
} where
  none : (o : Option ℕ) → IsWhyFrom plan ws xs e.destination m verdicts.Connection o
  none None = tt
  none (Some node) = tt

pub said_fault : (plan : Network) (ws : List Waiting) (xs : List Answered) (e : Event) (fault : DecodeFault)
    (r : Result Message DecodeFault) (j : Judged)
    → r ≡ Err fault → j.verdict ≡ verdicts.Undecodable fault → j.place ≡ None → j.begins ≡ None → j.other ≡ true → IsSaid plan ws xs e r j
said_fault plan ws xs e fault r j at verdict place new other =
    subst (λ (x : Result Message DecodeFault). IsSaid plan ws xs e x j) (sym at)
    (record {
      found = None;
      search = refl;
      why = NoArrival;
      verdict_is = verdict;
      says_why = tt;
      place_is = place;
      begins_is = new;
      other_is = other;
    })

-- a fault other than want of memory is what reading gives
pub fault_read : (fault : DecodeFault) (r : Result Message DecodeFault) → MatchBool (is_memory fault) ⊤ (r ≡ Err fault)
    → (fault ≡ faults.OutOfMemory → ⊥) → r ≡ Err fault
fault_read (faults.Split f) r given other = given
fault_read (faults.Address i f) r given other = given
fault_read (faults.Field name) r given other = given
fault_read faults.OutOfMemory r given other = absurd (other refl)

-- the same of an answer
pub if_called : {E : Type 0} (r : Result Judged E) (plan : Network) (ws : List Waiting) (xs : List Answered) (e : Event) (m : Message)
    (a : Address)
    → Some a ≡ called_of m → IfOk r (IsSaidAt plan ws xs e m a) → IfOk r (IsSaid plan ws xs e (Ok m))
if_called (Ok j) plan ws xs e m a at said = said_called plan ws xs e m a j at said
if_called (Err x) plan ws xs e m a at said = tt

pub if_read : {E : Type 0} (r : Result Judged E) (plan : Network) (ws : List Waiting) (xs : List Answered) (e : Event) (m : Message)
    (read : Result Message DecodeFault) → read ≡ Ok m → IfOk r (IsSaid plan ws xs e (Ok m)) → IfOk r (IsSaid plan ws xs e read)
if_read (Ok j) plan ws xs e m read at said = subst (λ (x : Result Message DecodeFault). IsSaid plan ws xs e x j) (sym at) said
if_read (Err x) plan ws xs e m read at said = tt
