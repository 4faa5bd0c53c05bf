-- What the account of a replay settles, worked on small traces.
use Rattle.std.specs.Prelude.{◌≡◌, ℕ, ◌-◌, List, [], ◌∷◌, ◌++◌, Some, slice_get, refl}
use Rattle.std.proofs.Common.{sym, ◌∙◌}
use Rattle.plan_model.specs.Network.{Network, network}
use Rattle.plan_model.specs.declared.node.Node.{Node}
use Rattle.relay_net.specs.Batches.{Incoming}
use Rattle.sccp_base.specs.declared.mark.Mark.TheVariants.{PointCode, Sccp, Subsystem}
use Rattle.sccp_manage.specs.Managing.{marked}
use Rattle.trace_text.specs.declared.line.Line.{Line}
use Rattle.trace_text.specs.declared.line.Line.TheVariants.{Pause, Resume, Down, Plan, Fence, Skip}
use Rattle.trace_text.specs.declared.line.Numbered.{Numbered}
use Rattle.sccp_replay.specs.Account.{Piece, Published, plans_after, TellsJourney}
use Rattle.sccp_replay.specs.BatchEnds.{begun_after}
use Rattle.sccp_replay.specs.Holding.{held_after}

abbrev relay : List ℕ → ℕ → Node
relay name pc = record { name = name; pc = pc; subsystems = 8 ∷ []; concerned = []; table = [] }

-- the relays a and b
abbrev two : Network
two = network (relay (97 ∷ []) 10 ∷ relay (98 ∷ []) 11 ∷ []) []

abbrev at_line : ℕ → Line → Numbered
at_line number line = record { number = number; line = line }

-- ---- what is held

-- relay a can no longer reach the point 20, and from the next line on it holds so
paused : held_after two (at_line 1 (Pause (97 ∷ []) 20) ∷ []) ≡ (PointCode 20 ∷ Sccp 20 ∷ []) ∷ [] ∷ []
unfolding marked
paused = refl

-- lines that are skipped, that name a plan, or that are a fence leave it so
still_paused : held_after two (at_line 1 (Pause (97 ∷ []) 20) ∷ at_line 2 Skip ∷ at_line 3 (Plan (120 ∷ [])) ∷ at_line 4 Fence ∷ [])
    ≡ (PointCode 20 ∷ Sccp 20 ∷ []) ∷ [] ∷ []
unfolding marked
still_paused = refl

-- then it can again, and subsystem 8 of relay b goes down
resumed : held_after two (at_line 1 (Pause (97 ∷ []) 20) ∷ at_line 2 (Resume (97 ∷ []) 20) ∷ at_line 3 (Down (98 ∷ []) 8) ∷ [])
    ≡ [] ∷ (Subsystem 11 8 ∷ []) ∷ []
unfolding marked
resumed = refl

-- ---- batches

-- a plan line and a skipped one are a batch, and a fence ends it
begun : begun_after two (at_line 1 Fence ∷ at_line 2 (Plan (120 ∷ [])) ∷ at_line 3 Skip ∷ [])
    ≡ at_line 2 (Plan (120 ∷ [])) ∷ at_line 3 Skip ∷ []
begun = refl

ended : begun_after two (at_line 1 (Plan (120 ∷ [])) ∷ at_line 2 Fence ∷ []) ≡ []
ended = refl

-- ---- numbers

-- two messages of one account that have one number went under one plan
pub one_plan : (workers : ℕ) (first : Published) (pieces b c : List Piece) (p q : Piece) (a d : List Piece) (x y : Incoming)
    → pieces ≡ b ++ p ∷ a → pieces ≡ c ++ q ∷ d → (t : TellsJourney workers first b p a x) → (u : TellsJourney workers first c q d y)
    → t.number ≡ u.number → t.under ≡ u.under
one_plan workers first pieces b c p q a d x y e f t u n =
    same (sym t.is_published ∙ (λ i. slice_get (plans_after first ((sym e ∙ f) i)) (n i - 1)) ∙ u.is_published) where
      same : {v w : Published} → Some v ≡ Some w → v ≡ w
      same g = cc
