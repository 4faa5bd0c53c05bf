-- The steps of turns, and what would be sent by each.
use Rattle.std.proofs.Common.{◌≡◌, ℕ, ◌+◌, Bool, true, false, List, [], ◌∷◌, ◌++◌, map, Option, Some, None, refl, sym, ◌∙◌, ap, subst}
use Rattle.std.proofs.Common.{◌&&◌}
use Rattle.std.specs.Prelude.{◌==◌, not, if◌then◌else◌}
use Rattle.std.specs.List.{flat_map, list_any}
use Rattle.std.proofs.lemmas.List.{append-nil, map-append}
use Rattle.sccp_base.specs.declared.mark.Mark.{Mark}
use Rattle.sccp_address.specs.declared.address.Address.{Address}
use Rattle.sccp_message.specs.declared.message.Message.{Message}
use Rattle.sccp_message.specs.Unitdata.{hops_of}
use Rattle.plan_rules.specs.declared.target.Target.{Target}
use Rattle.plan_model.specs.declared.hop.Step.{Step}
use Rattle.plan_model.specs.declared.hop.Step.TheVariants as steps
use Rattle.plan_model.specs.declared.node.Node.{Node}
use Rattle.plan_model.specs.declared.spot.Spot.{Spot}
use Rattle.plan_model.specs.Network.{Network}
use Rattle.plan_model.specs.Steps.{led}
use Rattle.plan_model.specs.Targets.{marks}
use Rattle.sccp_scrc.specs.Arriving.{at_subsystem, is_last_hop, leaving, point_of, subsystems_of}
use Rattle.sccp_scrc.specs.Returning.{returned, service_for}
use Rattle.sccp_scrc.specs.Rewriting.{one_less, to_relay, to_place}
use Rattle.sccp_scrc.specs.Unitdata.{redirected, octets_of}
use Rattle.sccp_scrc.specs.declared.arrival.Arrival.TheVariants.{Relayed, Ended, Local, Returned, Management}
use Rattle.sccp_scrc.specs.declared.service.Service.{Service}
use Rattle.relay_ways.specs.Candidates.{taken_steps, closed_step, step_candidates, step_going_on, outcome_candidates, outcome_going_on}
use Rattle.relay_ways.specs.Candidates.{if_written, going_on, toward, onward, onward_or_returned, written_or_returned, returns, cause_at}
use Rattle.relay_ways.specs.Candidates.{candidates_of, returned_by}
use Rattle.relay_ways.specs.Conditions.{always}
use Rattle.relay_ways.specs.Outcomes.{after_turn, outcome, is_user, at_user, on_subsystem, by_address}
use Rattle.relay_ways.specs.Turns.{Turn, taken_turns, closed_turns, closed_row}
use Rattle.relay_ways.proofs.TurnConditions.{closed_last}

pub taken_turn_steps : (plan : Network) (node : Node) (spot : Spot) (before : List (List Mark)) (place : ℕ) (ts : List Target)
    → taken_steps plan node spot place ts ≡ map (λ (t : Turn). t.step) (taken_turns plan node spot before place ts)
taken_turn_steps plan node spot before place [] = refl
taken_turn_steps plan node spot before place (t ∷ ts) =
    ap (λ xs. led plan node spot place t ∷ xs)
    (taken_turn_steps plan node spot (before ++ marks node spot.ssn t ∷ []) (place + 1) ts)

pub closed_turn_steps : (before : List (List Mark)) (free ms : List Mark)
    → map closed_step ms ≡ map (λ (t : Turn). t.step) (closed_turns before free ms)
closed_turn_steps before free [] = refl
closed_turn_steps before free (m ∷ ms) = ap (λ xs. closed_step m ∷ xs) (closed_turn_steps before (free ++ m ∷ []) ms)

pub closed_row_steps : (node : Node) (ssn : ℕ) (targets : List Target) (earlier : List Target) (last : Target) (own : List Mark)
    → targets ≡ earlier ++ last ∷ [] → own ≡ marks node ssn last
    → map closed_step own ≡ map (λ (t : Turn). t.step) (closed_row node ssn [] targets)
closed_row_steps node ssn targets earlier last own split one =
    ap (map closed_step) one ∙ closed_turn_steps (map (marks node ssn) earlier) [] (marks node ssn last)
    ∙ sym (ap (map (λ (t : Turn). t.step)) (closed_last node ssn [] earlier last))
    ∙ sym (ap (λ ts. map (λ (t : Turn). t.step) (closed_row node ssn [] ts)) split)

-- of a title
pub titled_candidates : (plan : Network) (node origin : ℕ) (m : Message) (a : Address) (ts : List Turn)
    → flat_map (step_candidates plan node origin m a) (map (λ (t : Turn). t.step) ts)
    ≡ flat_map (outcome_candidates plan node) (map (after_turn plan node origin m a) ts)
titled_candidates plan node origin m a [] = refl
titled_candidates plan node origin m a (t ∷ ts) =
    ap (λ xs. step_candidates plan node origin m a t.step ++ xs) (titled_candidates plan node origin m a ts)

pub titled_going_on : (plan : Network) (node cause : ℕ) (m : Message) (a : Address) (ts : List Turn)
    → flat_map (step_going_on plan node cause m a) (map (λ (t : Turn). t.step) ts)
    ≡ flat_map (outcome_going_on (Some cause)) (map (after_turn plan node (point_of plan node) m a) ts)
titled_going_on plan node cause m a [] = refl
titled_going_on plan node cause m a (t ∷ ts) =
    ap (λ xs. step_going_on plan node cause m a t.step ++ xs) (titled_going_on plan node cause m a ts)

-- the steps of a row, as the code adds them
pub row_steps : (plan : Network) (node : Node) (spot : Spot) (ts : List Target) (start first all : List Step)
    → start ≡ [] → first ≡ start ++ taken_steps plan node spot 0 ts
    → all ≡ first ++ map (λ (t : Turn). t.step) (closed_row node spot.ssn [] ts)
    → all ≡ map (λ (t : Turn). t.step) (taken_turns plan node spot [] 0 ts ++ closed_row node spot.ssn [] ts)
row_steps plan node spot ts start first all none a b =
    b ∙ ap (λ xs. xs ++ map (λ (t : Turn). t.step) (closed_row node spot.ssn [] ts)) (a
    ∙ ap (λ xs. xs ++ taken_steps plan node spot 0 ts) none ∙ taken_turn_steps plan node spot [] 0 ts)
    ∙ sym (map-append (λ (t : Turn). t.step) (taken_turns plan node spot [] 0 ts) (closed_row node spot.ssn [] ts))

-- ---- one step

written_on : (cause : Option ℕ) (m : Message) (origin pc : ℕ) (o : Option (List ℕ))
    → if_written cause pc o ≡ going_on cause (leaving [] origin m (Relayed pc) o)
written_on cause m origin pc None = refl
written_on cause m origin pc (Some octets) = refl

written_end : (cause : Option ℕ) (m : Message) (origin pc ssn : ℕ) (o : Option (List ℕ))
    → if_written cause pc o ≡ going_on cause (leaving [] origin m (Ended pc ssn) o)
written_end cause m origin pc ssn None = refl
written_end cause m origin pc ssn (Some octets) = refl

-- the point and the address of a step that leads on

abbrev point_in : ℕ → Option (ℕ × Address) → ℕ
point_in none None = none
point_in none (Some p) = p.0

abbrev called_in : Address → Option (ℕ × Address) → Address
called_in none None = none
called_in none (Some p) = p.1

pair_is : (x u : ℕ) (y v : Address) → toward x y ≡ toward u v → (x ≡ u) × (y ≡ v)
pair_is x u y v e = (ap (point_in x) e, ap (called_in y) e)

-- what goes on of a service message
pub going_on_is : (plan : Network) (node cause : ℕ) (m : Message) (a : Address) (s : Step) (to : ℕ) (called : Address)
    → onward plan node a s ≡ toward to called
    → if_written (Some cause) to (octets_of (redirected called one_less m)) ≡ step_going_on plan node cause m a s
going_on_is plan node cause m a (steps.Sent next target) to called e =
    let p = pair_is (point_of plan next.node) to (to_relay a next) called e in
    sym (λ i. if_written (Some cause) (p.0 i) (octets_of (redirected (p.1 i) one_less m)))
    ∙ written_on (Some cause) m (point_of plan node) (point_of plan next.node) (octets_of (redirected (to_relay a next) one_less m))
going_on_is plan node cause m a (steps.Ended pc ssn target) to called e = by (pc == point_of plan node) e where
  by : (b : Bool) → (if b then None else toward pc (to_place a ssn)) ≡ toward to called
      → if_written (Some cause) to (octets_of (redirected called one_less m))
      ≡ going_on (Some cause) (if b then Local ssn (redirected (to_place a ssn) one_less m)
      else leaving [] (point_of plan node) m (Ended pc ssn) (octets_of (redirected (to_place a ssn) one_less m)))
  by true k = absurd cc
  by false k =
      let p = pair_is pc to (to_place a ssn) called k in
      sym (λ i. if_written (Some cause) (p.0 i) (octets_of (redirected (p.1 i) one_less m)))
      ∙ written_end (Some cause) m (point_of plan node) pc ssn (octets_of (redirected (to_place a ssn) one_less m))
going_on_is plan node cause m a (steps.Blocked c ms) to called e = absurd cc
going_on_is plan node cause m a (steps.NoRow c) to called e = absurd cc
going_on_is plan node cause m a steps.Overgrown to called e = absurd cc

onward_on : (plan : Network) (node origin : ℕ) (m : Message) (pc : ℕ) (o : Option (List ℕ))
    → onward_or_returned plan node origin m pc o ≡ candidates_of plan node (leaving [] origin m (Relayed pc) o)
onward_on plan node origin m pc None = refl
onward_on plan node origin m pc (Some octets) = refl

onward_end : (plan : Network) (node origin : ℕ) (m : Message) (pc ssn : ℕ) (o : Option (List ℕ))
    → onward_or_returned plan node origin m pc o ≡ candidates_of plan node (leaving [] origin m (Ended pc ssn) o)
onward_end plan node origin m pc ssn None = refl
onward_end plan node origin m pc ssn (Some octets) = refl

-- what would be sent of a message that goes on
pub onward_is : (plan : Network) (node origin : ℕ) (m : Message) (a : Address) (s : Step) (to : ℕ) (called : Address)
    → onward plan node a s ≡ toward to called
    → written_or_returned plan node origin m to called ≡ step_candidates plan node origin m a s
onward_is plan node origin m a (steps.Sent next target) to called e =
    let p = pair_is (point_of plan next.node) to (to_relay a next) called e in
    sym (λ i. written_or_returned plan node origin m (p.0 i) (p.1 i))
    ∙ onward_on plan node origin m (point_of plan next.node) (octets_of (redirected (to_relay a next) one_less m))
onward_is plan node origin m a (steps.Ended pc ssn target) to called e = by (pc == point_of plan node) e where
  by : (b : Bool) → (if b then None else toward pc (to_place a ssn)) ≡ toward to called
      → written_or_returned plan node origin m to called
      ≡ candidates_of plan node (if b then Local ssn (redirected (to_place a ssn) one_less m)
      else leaving [] origin m (Ended pc ssn) (octets_of (redirected (to_place a ssn) one_less m)))
  by true k = absurd cc
  by false k =
      let p = pair_is pc to (to_place a ssn) called k in
      sym (λ i. written_or_returned plan node origin m (p.0 i) (p.1 i))
      ∙ onward_end plan node origin m pc ssn (octets_of (redirected (to_place a ssn) one_less m))
onward_is plan node origin m a (steps.Blocked c ms) to called e = absurd cc
onward_is plan node origin m a (steps.NoRow c) to called e = absurd cc
onward_is plan node origin m a steps.Overgrown to called e = absurd cc

-- of one that stays
pub stays_here : (plan : Network) (node origin : ℕ) (m : Message) (a : Address) (s : Step) → onward plan node a s ≡ None → returns s ≡ None
    → step_candidates plan node origin m a s ≡ []
stays_here plan node origin m a (steps.Sent next target) e f = absurd cc
stays_here plan node origin m a (steps.Ended pc ssn target) e f = by (pc == point_of plan node) e where
  by : (b : Bool) → (if b then None else toward pc (to_place a ssn)) ≡ None
      → candidates_of plan node (if b then Local ssn (redirected (to_place a ssn) one_less m)
      else leaving [] origin m (Ended pc ssn) (octets_of (redirected (to_place a ssn) one_less m))) ≡ []
  by true k = refl
  by false k = absurd cc
stays_here plan node origin m a (steps.Blocked c ms) e f = absurd cc
stays_here plan node origin m a (steps.NoRow c) e f = absurd cc
stays_here plan node origin m a steps.Overgrown e f = absurd cc

-- the marks of a return do not count
marks_apart : (plan : Network) (node cause : ℕ) (ms others : List Mark) (s : Option Service)
    → candidates_of plan node (Returned cause ms s) ≡ candidates_of plan node (Returned cause others s)
marks_apart plan node cause ms others None = refl
marks_apart plan node cause ms others (Some service) = refl

-- of one that is returned
pub returned_is : (plan : Network) (node origin : ℕ) (m : Message) (a : Address) (s : Step) (cause : ℕ) → returns s ≡ Some cause
    → candidates_of plan node (returned [] origin m cause []) ≡ step_candidates plan node origin m a s
returned_is plan node origin m a (steps.Sent next target) cause e = absurd cc
returned_is plan node origin m a (steps.Ended pc ssn target) cause e = absurd cc
returned_is plan node origin m a (steps.Blocked c ms) cause e =
    let same : c ≡ cause = cc in
    subst (λ x. candidates_of plan node (returned [] origin m x []) ≡ step_candidates plan node origin m a (steps.Blocked c ms)) same
    (marks_apart plan node c [] ms (service_for [] origin c m))
returned_is plan node origin m a (steps.NoRow c) cause e =
    let same : c ≡ cause = cc in
    subst (λ x. candidates_of plan node (returned [] origin m x []) ≡ step_candidates plan node origin m a (steps.NoRow c)) same refl
returned_is plan node origin m a steps.Overgrown cause e =
    let same : 9 ≡ cause = cc in
    subst (λ x. candidates_of plan node (returned [] origin m x []) ≡ step_candidates plan node origin m a steps.Overgrown) same refl

-- ---- routed on the subsystem number

-- a service message goes on by its title only
pub subsystem_stays : (plan : Network) (node origin cause : ℕ) (m : Message) (ssn : Option ℕ)
    → flat_map (outcome_going_on (Some cause)) (on_subsystem plan node origin m ssn) ≡ []
subsystem_stays plan node origin cause m None = refl
subsystem_stays plan node origin cause m (Some ssn) = by (is_user plan node ssn) where
  at : (b c : Bool) → going_on (Some cause) (if b then Management m else if c then returned [] origin m 4 [] else Local ssn m) ≡ []
  at true c = refl
  at false true = refl
  at false false = refl

  by : (u : Bool)
      → flat_map (outcome_going_on (Some cause))
      (if u then at_user plan node origin m ssn else outcome always (at_subsystem plan node [] origin m (Some ssn)) ∷ []) ≡ []
  by true = refl
  by false =
      ap (λ xs. xs ++ []) (at (ssn == 1) (not (list_any (λ own. own == ssn) (subsystems_of plan node))))

-- by the cause for which the message may be returned
pub subsystem_returns : (plan : Network) (node origin : ℕ) (m : Message) (ssn : Option ℕ)
    → returned_by plan node origin m (cause_at plan node ssn)
    ≡ flat_map (outcome_candidates plan node) (on_subsystem plan node origin m ssn)
subsystem_returns plan node origin m None = sym (append-nil (candidates_of plan node (returned [] origin m 4 [])))
subsystem_returns plan node origin m (Some ssn) = by (ssn == 1) (list_any (λ own. own == ssn) (subsystems_of plan node)) where
  by : (b u : Bool)
      → returned_by plan node origin m (if b then None else if u then Some 3 else Some 4)
      ≡ flat_map (outcome_candidates plan node) (if not b && u then at_user plan node origin m ssn
      else outcome always (if b then Management m else if not u then returned [] origin m 4 [] else Local ssn m) ∷ [])
  by true true = refl
  by true false = refl
  by false true = sym (append-nil (candidates_of plan node (returned [] origin m 3 [])))
  by false false = sym (append-nil (candidates_of plan node (returned [] origin m 4 [])))

-- the hop counter is used up
pub last_hop_returns : (plan : Network) (node origin : ℕ) (m : Message) (a : Address) → a.by_ssn ≡ false → is_last_hop (hops_of m) ≡ true
    → candidates_of plan node (returned [] origin m 12 [])
    ≡ flat_map (outcome_candidates plan node) (by_address plan node origin m (Some a))
last_hop_returns plan node origin m a e f = rw (e, f) (sym (append-nil (candidates_of plan node (returned [] origin m 12 []))))
