-- The conditions of turns, as the code makes them.
use Rattle.std.proofs.Common.{◌≡◌, ℕ, true, Some, List, [], ◌∷◌, ◌++◌, map, refl, sym, ◌∙◌, ap, append_assoc}
use Rattle.std.proofs.lemmas.List.{append-nil}
use Rattle.sccp_base.specs.declared.mark.Mark.{Mark}
use Rattle.sccp_address.specs.declared.address.Address.{Address}
use Rattle.sccp_message.specs.declared.message.Message.{Message}
use Rattle.plan_rules.specs.declared.target.Target.{Target}
use Rattle.plan_model.specs.declared.node.Node.{Node}
use Rattle.plan_model.specs.Network.{Network}
use Rattle.plan_model.specs.Targets.{marks}
use Rattle.relay_ways.specs.Outcomes.{after_turn, outcome_conditions, is_user, at_user, on_subsystem}
use Rattle.relay_ways.specs.Turns.{Turn, closed_turns, closed_row, turn_conditions}

-- all targets are closed: the marks of each earlier one, and one of the last one's
pub closed_last : (node : Node) (ssn : ℕ) (before : List (List Mark)) (ts : List Target) (t : Target)
    → closed_row node ssn before (ts ++ t ∷ []) ≡ closed_turns (before ++ map (marks node ssn) ts) [] (marks node ssn t)
closed_last node ssn before [] t = ap (λ ls. closed_turns ls [] (marks node ssn t)) (sym (append-nil before))
closed_last node ssn before (u ∷ []) t = refl
closed_last node ssn before (u ∷ v ∷ vs) t =
    closed_last node ssn (before ++ marks node ssn u ∷ []) (v ∷ vs) t
    ∙ ap (λ ls. closed_turns ls [] (marks node ssn t)) (append_assoc before (marks node ssn u ∷ []) (map (marks node ssn) (v ∷ vs)))

pub closed_made : (node : Node) (ssn : ℕ) (targets earlier : List Target) (last : Target) (before : List (List Mark)) (own : List Mark)
    → targets ≡ earlier ++ last ∷ [] → before ≡ map (marks node ssn) earlier → own ≡ marks node ssn last
    → turn_conditions (closed_turns before [] own) ≡ turn_conditions (closed_row node ssn [] targets)
closed_made node ssn targets earlier last before own split each one =
    ap (λ ls. turn_conditions (closed_turns ls [] own)) each
    ∙ ap (λ ms. turn_conditions (closed_turns (map (marks node ssn) earlier) [] ms)) one
    ∙ sym (ap turn_conditions (closed_last node ssn [] earlier last))
    ∙ sym (ap (λ ts. turn_conditions (closed_row node ssn [] ts)) split)

-- the outcomes of a title have the conditions of its turns
pub conditions_turned : (plan : Network) (node origin : ℕ) (m : Message) (a : Address) (ts : List Turn)
    → outcome_conditions (map (after_turn plan node origin m a) ts) ≡ turn_conditions ts
conditions_turned plan node origin m a [] = refl
conditions_turned plan node origin m a (t ∷ ts) = ap (λ cs. t.condition ∷ cs) (conditions_turned plan node origin m a ts)

pub user_outcomes : (plan : Network) (node origin : ℕ) (m : Message) (ssn : ℕ) → is_user plan node ssn ≡ true
    → on_subsystem plan node origin m (Some ssn) ≡ at_user plan node origin m ssn
user_outcomes plan node origin m ssn e = rw e refl
