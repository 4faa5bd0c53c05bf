-- What every world keeps in which no relay gave one own reference to two sections.
use Rattle.std.specs.Prelude.{ℕ, ◌≡◌, ◌≢◌, ◌<◌, ◌≤◌, ◌==◌, Bool, true, false, cond, List, [], ◌∷◌, ◌++◌, Some, None, All}
use Rattle.sccp_message.specs.declared.message.Message.{Message}
use Rattle.sccp_couple.specs.declared.section.Section.{Section}
use Rattle.sccp_couple.specs.Sections.{section_at}
use Rattle.sccp_couple.specs.Laws.{AreApart}
use Rattle.sccp_couple.specs.Events.{Piece}
use Rattle.sccp_couple.specs.Runs.{Pair, Moment}
use Rattle.sccp_couple.proofs.Fairness.{IsFair}
use Rattle.sccp_couple.proofs.Ledger.{IsKept}
use Rattle.couple_chain.specs.World.{Network, is_node, World, put_on, requests, confirms, names}
use Rattle.couple_chain.specs.Line.{pieces_for}
use Rattle.couple_chain.proofs.Counts.{number, carries, answers, Each}

abbrev pub has_near : ℕ → Pair → Bool
has_near own p = p.near == own

abbrev pub has_far : ℕ → Pair → Bool
has_far own p = p.far == own

-- the DT1 with this DLR that are before each CC with it
abbrev pub early_of : Bool → List Piece → List Piece
early_of true pieces = []
early_of false pieces = pieces

abbrev pub early : ℕ → List Message → List Piece
early dlr [] = []
early dlr (x ∷ xs) = early_of (answers dlr x) (pieces_for (Some dlr) (x ∷ []) ++ early dlr xs)

-- the CR gave the near section its remote, the CC the far one
abbrev pub names_by : Bool → ℕ → Message → Bool
names_by near own message = cond near (requests own message) (confirms own message)

-- A pair that a relay has, with its two sections. `put` is what the relay put on its link to each point, and `arrived` what
-- it received from each.
pub record StretchFor (network : Network) (put arrived : ℕ → List Message) (p : Pair) (s t : Section) : Type 0 where
  pub near_sent : (q : ℕ) → s.remote ≡ Some q → p.sent_near ≡ pieces_for (Some q) (put s.point)
  pub far_sent : (q : ℕ) → t.remote ≡ Some q → p.sent_far ≡ pieces_for (Some q) (put t.point)
  pub far_unsent : t.remote ≡ None → p.sent_far ≡ []
  pub near_passed : is_node network s.point ≡ true → p.passed_near ≡ pieces_for (Some p.near) (arrived s.point)
  pub far_passed : is_node network t.point ≡ true → p.passed_far ≡ pieces_for (Some p.far) (arrived t.point)
  pub unconfirmed : t.remote ≡ None → (to : ℕ) → number (confirms p.near) (put to) ≡ 0
  pub confirmed : t.remote ≢ None → (r : ℕ) → s.remote ≡ Some r → 0 < number (answers r) (put s.point)
  pub unanswered : is_node network t.point ≡ true → t.remote ≡ None → number (answers p.far) (arrived t.point) ≡ 0

abbrev pub StandsFor : Network → (ℕ → List Message) → (ℕ → List Message) → Moment → Pair → Type 0
StandsFor network put arrived m p =
    (s t : Section) → p.stands ≡ true → section_at m.sections p.near ≡ Some s → section_at m.sections p.far ≡ Some t
    → StretchFor network put arrived p s t

-- a relay, with the pairs of all relays
pub record HoldsFor (network : Network) (put arrived : ℕ → List Message) (pairs : ℕ → List Pair) (m : Moment) : Type 0 where
  pub kept : IsKept m
  pub fair : All (IsFair m.sections) m.pairs
  pub requested : (to own : ℕ) → number (requests own) (put to) ≤ number (has_far own) m.pairs
  pub confirmed : (to own : ℕ) → 0 < number (confirms own) (put to) → 0 < number (has_near own) m.pairs
  pub remote_named : (own q : ℕ) (s : Section) → section_at m.sections own ≡ Some s → s.remote ≡ Some q
      → 0 < number (names_by s.near q) (arrived s.point)
  pub away : AreApart m.sections
  pub data_named : (to q : ℕ) → 0 < number (carries q) (put to) → 0 < number (names q) (arrived to)
  pub answers_named : (to q : ℕ) → 0 < number (answers q) (put to) → 0 < number (requests q) (arrived to)
  pub data_answered : (to q : ℕ) → is_node network to ≡ true → number (has_near q) (pairs to) ≡ 0 → early q (put to) ≡ []
  pub stretches : Each (StandsFor network put arrived m) m.pairs

-- the same in a world
abbrev pub coming : World → ℕ → ℕ → List Message
coming w node = λ from. w.arrived from node

abbrev pub pairs_of : World → ℕ → List Pair
pairs_of w = λ node. (w.moments node).pairs

abbrev pub Stretch : Network → World → ℕ → Pair → Section → Section → Type 0
Stretch network w node = StretchFor network (put_on w node) (coming w node)

abbrev pub Stands : Network → World → ℕ → Pair → Type 0
Stands network w node = StandsFor network (put_on w node) (coming w node) (w.moments node)

abbrev pub Holds : Network → World → ℕ → Type 0
Holds network w node = HoldsFor network (put_on w node) (coming w node) (pairs_of w) (w.moments node)

pub record AllHold (network : Network) (w : World) : Type 0 where
  pub each : (node : ℕ) → is_node network node ≡ true → Holds network w node
  -- on each of its links, each point uses a source local reference in at most one CR or CC
  pub once : (from to own : ℕ) → number (names own) (put_on w from to) ≤ 1
