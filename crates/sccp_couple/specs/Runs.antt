-- Runs of a relay's coupling, and what its pairs pass and send. A run is a list of events that begins without sections.
use Rattle.std.specs.Prelude.{ℕ, ◌==◌, Bool, true, false, not, ◌&&◌, if◌then◌else◌, List, [], ◌∷◌, ◌++◌, map, Option, Some, None, is_some}
use Rattle.std.specs.List.{filter_map}
use Rattle.sccp_couple.specs.declared.section.Section.{Section}
use Rattle.sccp_couple.specs.Sections.{is_that, section_at, known, is_established, first_new, second_new}
use Rattle.sccp_couple.specs.Events.{Event, Answer, Piece, Data, data_of, dlr_of}
use Rattle.sccp_couple.specs.Coupling.{coupled}

-- the event belongs to the section with this own reference
abbrev pub knows : List Section → ℕ → Event → Bool
knows sections own event = is_that (dlr_of event.message) own && is_some (known sections event.origin own)

-- the section is there, and data can pass
abbrev pub is_open : List Section → Option Section → Bool
is_open sections None = false
is_open sections (Some s) = is_established sections s

-- what a DT1 carries, as a list
abbrev pub piece_of : Option Data → List Piece
piece_of None = []
piece_of (Some d) = d.piece ∷ []

-- what the section with this own reference passes on: a DT1 that belongs to it while it and its other both have a remote
abbrev pub passed_in : List Section → ℕ → Event → List Piece
passed_in sections own event =
    if knows sections own event && is_open sections (section_at sections own) then piece_of (data_of event.message) else []

-- what a DT1 carries, if it goes to this point and has this remote as its destination reference
abbrev pub piece_if : ℕ → Option ℕ → ℕ → Option Data → Option Piece
piece_if point remote to None = None
piece_if point remote to (Some d) = if (to == point) && is_that remote d.dlr then Some d.piece else None

-- the data of a message, if it is a DT1 to this section's point and remote
abbrev pub piece_toward : Section → Answer → Option Piece
piece_toward s sent = piece_if s.point s.remote sent.to (data_of sent.message)

-- the data of these messages that go to this section, if it is there
abbrev pub pieces_toward : Option Section → List Answer → List Piece
pieces_toward None sent = []
pieces_toward (Some s) sent = filter_map (piece_toward s) sent

-- what is sent to the section `own`: the DT1 to its point and remote that answer an event of the section `other`
abbrev pub sent_in : List Section → ℕ → ℕ → Event → List Piece
sent_in sections own other event =
    if knows sections other event then pieces_toward (section_at sections own) (coupled sections event).sent else []

-- The two sections that one CR made, and whether the pair is still there. Then what was passed from each side and sent to
-- each side while it was.
pub record Pair : Type 0 where
  pub near : ℕ
  pub far : ℕ
  pub stands : Bool
  pub passed_near : List Piece
  pub passed_far : List Piece
  pub sent_near : List Piece
  pub sent_far : List Piece

-- the section is there, has this other, and is on this side
abbrev pub is_half : ℕ → Bool → Option Section → Bool
is_half other near None = false
is_half other near (Some s) = is_that s.other other && (if near then s.near else not s.near)

-- both sections are there, each the other's other
abbrev pub is_joined : List Section → ℕ → ℕ → Bool
is_joined sections near far = is_half far true (section_at sections near) && is_half near false (section_at sections far)

-- a pair that is there, after one more event
abbrev pub grown : List Section → Event → Pair → Pair
grown sections event p =
    record {
      near = p.near;
      far = p.far;
      stands = is_joined (coupled sections event).sections p.near p.far;
      passed_near = p.passed_near ++ passed_in sections p.near event;
      passed_far = p.passed_far ++ passed_in sections p.far event;
      sent_near = p.sent_near ++ sent_in sections p.near p.far event;
      sent_far = p.sent_far ++ sent_in sections p.far p.near event;
    }

-- a pair after one more event; one that has ended stays as it was
abbrev pub carried : List Section → Event → Pair → Pair
carried sections event p = if p.stands then grown sections event p else p

-- a pair without data yet
abbrev pub new_pair : ℕ → ℕ → Pair
new_pair near far = record { near = near; far = far; stands = true; passed_near = []; passed_far = []; sent_near = []; sent_far = [] }

-- a new pair, if one is made
abbrev pub made_if : Bool → ℕ → ℕ → List Pair
made_if true near far = new_pair near far ∷ []
made_if false near far = []

-- the pair that the event makes: the two sections that now have the two smallest references unused before
abbrev pub made : List Section → Event → List Pair
made sections event =
    made_if (is_joined (coupled sections event).sections (first_new sections) (second_new sections)) (first_new sections)
    (second_new sections)

-- a node at one moment of a run: its sections, and the pairs so far in the order of their CRs
pub record Moment : Type 0 where
  pub sections : List Section
  pub pairs : List Pair

-- a moment after one more event
abbrev pub happens : Moment → Event → Moment
happens m event =
    record {
      sections = (coupled m.sections event).sections;
      pairs = map (carried m.sections event) m.pairs ++ made m.sections event;
    }

-- a moment after these events
abbrev pub run : Moment → List Event → Moment
run m [] = m
run m (event ∷ events) = run (happens m event) events

-- the moment before the first event
abbrev pub start : Moment
start = record { sections = []; pairs = [] }

-- after a run that begins without sections
abbrev pub after : List Event → Moment
after events = run start events

-- what data carry, if there are any
abbrev pub any_piece : Option Data → Option Piece
any_piece None = None
any_piece (Some d) = Some d.piece

-- the data of a message, if it is a DT1
abbrev pub piece_in : Answer → Option Piece
piece_in sent = any_piece (data_of sent.message)

-- the data of each DT1 that answers an event
abbrev pub answered : List Section → Event → List Piece
answered sections event = filter_map piece_in (coupled sections event).sent

-- what the event adds to the `sent` lists of a pair, on both sides
abbrev pub added : List Section → Event → Pair → List Piece
added sections event p = if p.stands then sent_in sections p.near p.far event ++ sent_in sections p.far p.near event else []
