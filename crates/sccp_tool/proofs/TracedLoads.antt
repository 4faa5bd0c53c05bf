-- What a load counts is what is counted of the replay of its trace.
use Rattle.std.specs.Prelude.{◌≡◌, ◌<◌, ℕ, zero, suc, ◌+◌, ◌%◌, ◌==◌, Bool, true, false, cond, List, [], ◌∷◌, ◌++◌, length, map, fold}
use Rattle.std.specs.Prelude.{slice_get, slice_set, Option, Some, None, option_map, refl}
use Rattle.std.specs.Fmt.{digits}
use Rattle.std.specs.Option.{option_map_or}
use Rattle.std.proofs.Common.{sym, ◌∙◌, ap, arith}
use Rattle.std.proofs.lemmas.List.{append_assoc, append-nil, map-set}
use Rattle.made_load.specs.Draws.{after, after_digits, drawn}
use Rattle.made_load.specs.Loads.{Load, all_sent, before_message, begun, counted, drawn_point, drawn_relay, load_counts, no_counts, sent}
use Rattle.made_load.specs.Loads.{turn, turned}
use Rattle.made_load.specs.Messages.{made_octets, origin}
use Rattle.made_load.specs.Relays.{load_plan}
use Rattle.made_load.specs.declared.counts.Counts.{Counts}
use Rattle.plan_model.specs.Network.{Network}
use Rattle.relay_net.specs.Batches.{due}
use Rattle.relay_net.specs.Journeys.{held_at, journey}
use Rattle.relay_net.specs.States.{State, applied_at, first_states, happened, markings_of}
use Rattle.relay_net.specs.declared.happening.Happening.TheVariants.{Managed}
use Rattle.sccp_address.specs.Reading.{address_of}
use Rattle.sccp_base.specs.Marks.{holds}
use Rattle.sccp_base.specs.declared.mark.Mark.{Mark}
use Rattle.sccp_base.specs.declared.mark.Mark.TheVariants.{PointCode}
use Rattle.sccp_layout.specs.Splitting.{parts_by}
use Rattle.sccp_manage.specs.Managing.{Management, managed}
use Rattle.sccp_manage.specs.declared.event.Event.{Event}
use Rattle.sccp_manage.specs.declared.event.Event.TheVariants as events
use Rattle.sccp_message.specs.Reading.{message_in, reading}
use Rattle.sccp_replay.specs.Holding.{after_line, after_role, held_after, managed_at, managers_after, managers_of}
use Rattle.sccp_report.specs.Roles.{Role, routed, alone, incoming, named, role_at, role_of, role_of_message}
use Rattle.sccp_tool.specs.LoadTrace.{Made, all_lines, before_line, counted_role, counts_after, load_lines, message_line, no_lines}
use Rattle.sccp_tool.specs.LoadTrace.{relay_name, replay_counts, turn_line, with_line, with_turn}
use Rattle.trace_text.specs.declared.line.Line.{Line}
use Rattle.trace_text.specs.declared.line.Line.TheVariants.{Msg, Pause, Resume}
use Rattle.trace_text.specs.declared.line.Numbered.{Numbered}

-- ---- one more line

fold_one : {A B : Type 0} (f : B → A → B) (b : B) (xs : List A) (x : A) → fold f b (xs ++ x ∷ []) ≡ f (fold f b xs) x
fold_one f b [] x = refl
fold_one f b (y ∷ ys) x = fold_one f (f b y) ys x

counts_one : (plan : Network) (before lines : List Numbered) (line : Numbered) (c : Counts)
    → counts_after plan before (lines ++ line ∷ []) c
    ≡ counted_role plan (before ++ lines) (role_of plan line.line) (counts_after plan before lines c)
counts_one plan before [] line c = ap (λ b. counted_role plan b (role_of plan line.line) c) (sym (append-nil before))
counts_one plan before (l ∷ lines) line c =
    counts_one plan (before ++ l ∷ []) lines line (counted_role plan before (role_of plan l.line) c)
    ∙ ap (λ b. counted_role plan b (role_of plan line.line) (counts_after plan before (l ∷ lines) c)) (append_assoc before (l ∷ []) lines)

-- by the role of a line its counts and what is held after it
managers_with : (plan : Network) (line : Line) (lines : List Numbered) (role : Role) (managers : List Management)
    → managers_after plan lines ≡ managers → role_of plan line ≡ role
    → managers_after plan (with_line line lines) ≡ after_role managers role
managers_with plan line lines role managers held is =
    fold_one (after_line plan) (managers_of (first_states plan)) lines (record { number = length lines + 1; line = line })
    ∙ ap (λ r. after_role (managers_after plan lines) r) is ∙ ap (λ ms. after_role ms role) held

counts_with : (plan : Network) (line : Line) (lines : List Numbered) (role : Role) → role_of plan line ≡ role
    → replay_counts plan (with_line line lines) ≡ counted_role plan lines role (replay_counts plan lines)
unfolding replay_counts
counts_with plan line lines role is =
    counts_one plan [] lines (record { number = length lines + 1; line = line }) no_counts
    ∙ ap (λ r. counted_role plan lines r (counts_after plan [] lines no_counts)) is

-- ---- what the relays hold

get_map : {X Y : Type 0} (f : X → Y) (xs : List X) (place : ℕ) → slice_get (map f xs) place ≡ option_map f (slice_get xs place)
get_map f [] place = refl
get_map f (x ∷ xs) zero = refl
get_map f (x ∷ xs) (suc place) = get_map f xs place

markings_are : (states : List State) → map (λ m. m.marking) (managers_of states) ≡ markings_of states
markings_are [] = refl
markings_are (s ∷ states) = ap (λ ms. s.manager.marking ∷ ms) (markings_are states)

held_are : (plan : Network) (lines : List Numbered) (states : List State) → managers_after plan lines ≡ managers_of states
    → held_after plan lines ≡ markings_of states
held_are plan lines states e = ap (λ ms. map (λ m. m.marking) ms) e ∙ markings_are states

turned_at : (plan : Network) (states : List State) (node : ℕ) (event : Event) (o : Option State) → slice_get states node ≡ o
    → managers_of (applied_at plan states node (Managed event) o).states ≡ managed_at (managers_of states) node event
turned_at plan states node event None e =
    sym (ap (λ o. option_map_or (λ m. slice_set (managers_of states) node (managed m event)) o (managers_of states))
    (get_map (λ s. s.manager) states node ∙ ap (option_map (λ s. s.manager)) e))
turned_at plan states node event (Some s) e =
    map-set (λ s. s.manager) states node (happened plan node s (Managed event)).state
    ∙ sym (ap (λ o. option_map_or (λ m. slice_set (managers_of states) node (managed m event)) o (managers_of states))
    (get_map (λ s. s.manager) states node ∙ ap (option_map (λ s. s.manager)) e))

-- ---- the roles of the lines

named_is : (number i : ℕ) → i < 8 → named (load_plan number) (relay_name i) ≡ Some i
unfolding load_plan digits
named_is number zero lt = refl
named_is number (suc zero) lt = refl
named_is number (suc (suc zero)) lt = refl
named_is number (suc (suc (suc zero))) lt = refl
named_is number (suc (suc (suc (suc zero)))) lt = refl
named_is number (suc (suc (suc (suc (suc zero))))) lt = refl
named_is number (suc (suc (suc (suc (suc (suc zero)))))) lt = refl
named_is number (suc (suc (suc (suc (suc (suc (suc zero))))))) lt = refl
named_is number (suc (suc (suc (suc (suc (suc (suc (suc i)))))))) lt = absurd (omega (arith, lt))

abbrev line_by : Bool → ℕ → ℕ → Line
line_by lost node pc = cond lost (Resume (relay_name node) pc) (Pause (relay_name node) pc)

abbrev event_by : Bool → ℕ → Event
event_by lost pc = cond lost (events.Resume pc) (events.Pause pc)

turn_role : (number node pc : ℕ) (lost : Bool) → node < 8
    → role_of (load_plan number) (line_by lost node pc) ≡ alone (Some (due node (Managed (event_by lost pc))))
turn_role number node pc true lt =
    ap (λ o. alone (option_map (λ k. due k (Managed (events.Resume pc))) o)) (named_is number node lt)
turn_role number node pc false lt =
    ap (λ o. alone (option_map (λ k. due k (Managed (events.Pause pc))) o)) (named_is number node lt)

made_role : (i x : ℕ) → role_of_message (incoming 0 origin (made_octets i x)) (reading (made_octets i x))
    ≡ routed (incoming 0 origin (made_octets i x))
unfolding made_octets digits address_of parts_by message_in
made_role i x = refl

message_role : (number i x : ℕ) → role_of (load_plan number) (Msg (relay_name 0) origin (made_octets i x))
    ≡ routed (incoming 0 origin (made_octets i x))
message_role number i x = ap (role_at origin (made_octets i x)) (named_is number 0 (omega arith)) ∙ made_role i x

-- ---- line after line

-- the lines so far leave what the load has reached
record Follows (plan : Network) (l : Load) (m : Made) : Type 0 where
  pub at : m.at ≡ l.at
  pub managers : managers_after plan m.lines ≡ managers_of l.states
  pub counts : replay_counts plan m.lines ≡ l.counts

-- a relay loses or finds a point
turn_held : (number : ℕ) (states : List State) (lines : List Numbered) (node pc : ℕ) → node < 8
    → managers_after (load_plan number) lines ≡ managers_of states
    → role_of (load_plan number) (turn_line (load_plan number) lines node pc) ≡ alone (Some (due node (Managed (turn states node pc))))
turn_held number states lines node pc lt held =
    let same : holds (held_at (held_after (load_plan number) lines) node) (PointCode pc)
    ≡ holds (held_at (markings_of states) node) (PointCode pc) =
    ap (λ (ms : List (List Mark)). holds (held_at ms node) (PointCode pc)) (held_are (load_plan number) lines states held) in
    ap (λ b. role_of (load_plan number) (line_by b node pc)) same
    ∙ turn_role number node pc (holds (held_at (markings_of states) node) (PointCode pc)) lt

turned_follows : (number value : ℕ) (states : List State) (lines : List Numbered)
    → managers_after (load_plan number) lines ≡ managers_of states
    → (managers_after (load_plan number) (with_turn (load_plan number) value lines) ≡ managers_of (turned (load_plan number) states value))
    × (replay_counts (load_plan number) (with_turn (load_plan number) value lines) ≡ replay_counts (load_plan number) lines)
turned_follows number value states lines held =
    let plan : Network = load_plan number in
    let node : ℕ = drawn_relay value in
    let pc : ℕ = drawn_point value in
    let role = turn_held number states lines node pc (omega arith) held in
    let managers = managers_with plan (turn_line plan lines node pc) lines
    (alone (Some (due node (Managed (turn states node pc))))) (managers_of states) held role in
    let counts = counts_with plan (turn_line plan lines node pc) lines (alone (Some (due node (Managed (turn states node pc))))) role in
    (managers ∙ sym (turned_at plan states node (turn states node pc) (slice_get states node) refl), counts)

follow_turn : (number i : ℕ) (l : Load) (m : Made) → Follows (load_plan number) l m
    → Follows (load_plan number) (before_message (load_plan number) i l) (before_line (load_plan number) i m)
follow_turn number i l m f = by (i % 64 == 63) where
  plan : Network
  plan = load_plan number

  by : (due : Bool) → Follows plan (cond due (record l { at = after l.at; states = turned plan l.states (drawn l.at) }) l)
      (cond due (record { at = after m.at; lines = with_turn plan (drawn m.at) m.lines }) m)
  by true =
      let t = turned_follows number (drawn m.at) l.states m.lines f.managers in
      record {
        at = ap after f.at;
        managers = t.0 ∙ ap (λ x. managers_of (turned plan l.states (drawn x))) f.at;
        counts = t.1 ∙ f.counts;
      }
  by false = f

follow_message : (number i : ℕ) (l : Load) (m : Made) → Follows (load_plan number) l m
    → Follows (load_plan number) (sent (load_plan number) i l) (message_line i m)
follow_message number i l m f =
    let plan : Network = load_plan number in
    let line : Line = Msg (relay_name 0) origin (made_octets i m.at) in
    let x = incoming 0 origin (made_octets i m.at) in
    let role = message_role number i m.at in
    record {
      at = ap (λ x. after_digits 10 x) f.at;
      managers = managers_with plan line m.lines (routed x) (managers_of l.states) f.managers role;
      counts = counts_with plan line m.lines (routed x) role
          ∙ ap (λ (ms : List (List Mark)). counted (journey plan ms 0 origin (made_octets i m.at)) (replay_counts plan m.lines))
          (held_are plan m.lines l.states f.managers)
          ∙ ap (λ y. counted (journey plan (markings_of l.states) 0 origin (made_octets i y)) (replay_counts plan m.lines)) f.at
          ∙ ap (λ c. counted (journey plan (markings_of l.states) 0 origin (made_octets i l.at)) c) f.counts;
    }

all_follow : (number count i : ℕ) (l : Load) (m : Made) → Follows (load_plan number) l m
    → Follows (load_plan number) (all_sent (load_plan number) count i l) (all_lines (load_plan number) count i m)
all_follow number zero i l m f = f
all_follow number (suc count) i l m f =
    all_follow number count (i + 1) (sent (load_plan number) i (before_message (load_plan number) i l))
    (message_line i (before_line (load_plan number) i m))
    (follow_message number i (before_message (load_plan number) i l) (before_line (load_plan number) i m) (follow_turn number i l m f))

none_follow : (number : ℕ) → Follows (load_plan number) (begun number (load_plan number)) (no_lines number)
unfolding replay_counts
none_follow number = record { at = refl; managers = refl; counts = refl }

-- the counts of a load are those of the replay of its trace
pub counts_are_replayed : (number size : ℕ) → load_counts number size ≡ replay_counts (load_plan number) (load_lines number size)
unfolding load_counts load_lines
counts_are_replayed number size =
    sym (all_follow number size 0 (begun number (load_plan number)) (no_lines number) (none_follow number)).counts
