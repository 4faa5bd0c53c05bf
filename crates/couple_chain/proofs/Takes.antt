-- One delivery at a relay. What holds before it holds after.
use Rattle.std.specs.Prelude.{ℕ, ◌≡◌, ◌≢◌, ◌<◌, ◌≤◌, Bool, true, false, not, cond, ◌&&◌, List, [], ◌∷◌, ◌++◌, Option, Some, None, is_some}
use Rattle.std.specs.Prelude.{option_and_then, refl}
use Rattle.std.specs.List.{cons_option}
use Rattle.std.proofs.Common.{sym, ◌∙◌, ap, ⊎_elim}
use Rattle.std.proofs.lemmas.Bool.{cases_eq, eq-eqb, ne_eqb, and_parts, and_from}
use Rattle.sccp_message.specs.declared.message.Message.{Message}
use Rattle.sccp_message.specs.declared.message.Message.TheVariants as messages
use Rattle.sccp_couple.specs.declared.section.Section.{Section}
use Rattle.sccp_couple.specs.Sections.{is_that, section_at, known, if_from, other_of, has_remote}
use Rattle.sccp_couple.specs.Events.{Event, Piece, Data, data_of, dlr_of}
use Rattle.sccp_couple.specs.Coupling.{coupled}
use Rattle.sccp_couple.specs.Runs.{Pair, Moment, is_half, knows, is_open, passed_in, sent_in, piece_of}
use Rattle.sccp_couple.proofs.Answers.{quiet, quiet_toward}
use Rattle.sccp_couple.proofs.Fairness.{that_is}
use Rattle.sccp_couple.proofs.Keeping.{none_some}
use Rattle.sccp_couple.proofs.Shares.{by_kind, with_message}
use Rattle.couple_chain.specs.World.{Network, is_node, requests, confirms, names, messages_to}
use Rattle.couple_chain.specs.Line.{pieces_for}
use Rattle.couple_chain.proofs.Counts.{number, number-or, number-or_right, none_of, has_dlr, carries, answers, no_pieces}
use Rattle.couple_chain.proofs.Holds.{has_near, early, names_by}

-- what the laws of the other relays say of the links that end here
pub record Peers (network : Network) (put toward : ℕ → List Message) (pairs : ℕ → List Pair) (m : Moment) : Type 0 where
  pub once : (from q : ℕ) → number (names q) (toward from) ≤ 1
  pub once_here : (to q : ℕ) → number (names q) (put to) ≤ 1
  pub data_named : (from q : ℕ) → is_node network from ≡ true → 0 < number (carries q) (toward from) → 0 < number (names q) (put from)
  pub confirmed : (from q : ℕ) → is_node network from ≡ true → 0 < number (confirms q) (toward from) → 0 < number (has_near q) (pairs from)
  pub answers_named : (from q : ℕ) → is_node network from ≡ true → 0 < number (answers q) (toward from) → 0 < number (requests q) (put from)
  pub data_answered : (from q : ℕ) → is_node network from ≡ true → number (has_near q) m.pairs ≡ 0 → early q (toward from) ≡ []

-- the delivery
pub record Takes (put arrived toward put_then arrived_then : ℕ → List Message) (m : Moment) (event : Event) : Type 0 where
  pub rest : List Message
  pub queue : toward event.origin ≡ (arrived event.origin ++ event.message ∷ []) ++ rest
  pub come : (from : ℕ) → (more : List Message) × (toward from ≡ arrived from ++ more)
  pub sends : (to : ℕ) → put_then to ≡ put to ++ messages_to to (coupled m.sections event).sent
  pub here : arrived_then event.origin ≡ arrived event.origin ++ event.message ∷ []
  pub elsewhere : (from : ℕ) → (from ≡ event.origin → ⊥) → arrived_then from ≡ arrived from

-- the sections of a joined pair
pub half_is : (o : Option Section) (s : Section) (other : ℕ) (near : Bool) → is_half other near o ≡ true → o ≡ Some s
    → (s.other ≡ Some other) × (cond near s.near (not s.near) ≡ true)
half_is None s other near h e = absurd (cc)
half_is (Some x) s other near h e =
    let same : x ≡ s = cc in
    let parts = and_parts (is_that x.other other) (cond near x.near (not x.near)) h in (
      ap (λ (y : Section). y.other) (sym same) ∙ that_is x.other other parts.0,
      ap (λ (y : Section). cond near y.near (not y.near))
          (sym same) ∙ parts.1,
    )

pub by_names : (near : Bool) (q : ℕ) (xs : List Message) → number (names_by near q) xs ≤ number (names q) xs
by_names true q xs = number-or (requests q) (confirms q) xs
by_names false q xs = number-or_right (requests q) (confirms q) xs

not_none : (o : Option ℕ) (n : ℕ) → o ≡ Some n → o ≢ None
not_none o n h e = none_some n o e h

is_there : (o : Option ℕ) → o ≢ None → is_some o ≡ true
is_there None h = absurd (h refl)
is_there (Some n) h = refl

-- a section is open if both it and its other have a remote
pub opens : (l : List Section) (own other : ℕ) (s t : Section) → section_at l own ≡ Some s → s.other ≡ Some other
    → section_at l other ≡ Some t → s.remote ≢ None → t.remote ≢ None → is_open l (section_at l own) ≡ true
opens l own other s t at joined there one two =
    ap (is_open l) at
    ∙ and_from (is_some s.remote) (has_remote (other_of l s)) (is_there s.remote one)
    (ap has_remote (ap (λ (o : Option ℕ). option_and_then (section_at l) o) joined ∙ there) ∙ is_there t.remote two)

-- what the section passes of a message, if it is open to each DT1 that is for it
pub passes_in : (l : List Section) (own : ℕ) (s : Section) → section_at l own ≡ Some s → (event : Event) → s.point ≡ event.origin
    → (carries own event.message ≡ true → is_open l (section_at l own) ≡ true) →
    passed_in l own event ≡ pieces_for (Some own) (event.message ∷ [])
passes_in l own s at event from opened =
    by_kind (λ m. (carries own m ≡ true → is_open l (section_at l own) ≡ true)
    → passed_in l own (with_message event m) ≡ pieces_for (Some own) (m ∷ [])) event.message
    (λ none g.
    ap (λ (d : Option Data). cond (knows l own event && is_open l (section_at l own)) (piece_of d) []) none
    ∙ elim (knows l own event && is_open l (section_at l own)) as (λ b. cond {A = List Piece} b [] [] ≡ []) [ true ↦ refl | false ↦ refl ]
    ∙ sym (no_pieces own (event.message ∷ []) (none_of (carries own) event.message (ap (λ (d : Option Data). has_dlr own d) none))))
    (λ dlr more payload g.
    let piece : List Piece = record { more = more; payload = payload } ∷ [] in
    let known_is : known l event.origin own ≡ Some s = ap (λ (o : Option Section). option_and_then (if_from event.origin) o) at
    ∙ ap (λ (b : Bool). cond b (Some s) None) (eq-eqb s.point event.origin from) in
    ⊎_elim
    (λ (e : dlr ≡ own).
    ap (λ (b : Bool). cond ((b && is_some (known l event.origin own)) && is_open l (section_at l own)) piece []) (eq-eqb dlr own e)
    ∙ ap (λ (o : Option Section). cond (is_some o && is_open l (section_at l own)) piece []) known_is
    ∙ ap (λ (b : Bool). cond b piece []) (g (eq-eqb dlr own e))
    ∙ sym (ap (λ (b : Bool). cons_option (cond b (Some (record { more = more; payload = payload })) None) []) (eq-eqb own dlr (sym e))))
    (λ (n : dlr ≡ own → ⊥).
    ap (λ (b : Bool). cond ((b && is_some (known l event.origin own)) && is_open l (section_at l own)) piece []) (ne_eqb dlr own n)
    ∙ sym (no_pieces own (messages.Dt1 dlr more payload ∷ []) (none_of (carries own) (messages.Dt1 dlr more payload) (ne_eqb dlr own n))))
    (cases_eq dlr own))
    opened

-- a message from elsewhere is not passed
pub passes_not : (l : List Section) (own : ℕ) (s : Section) → section_at l own ≡ Some s → (event : Event) → (s.point ≡ event.origin → ⊥)
    → passed_in l own event ≡ []
passes_not l own s at event from =
    let known_is : known l event.origin own ≡ None = ap (λ (o : Option Section). option_and_then (if_from event.origin) o) at
    ∙ ap (λ (b : Bool). cond b (Some s) None) (ne_eqb s.point event.origin from) in
    ap (λ (o : Option Section). cond ((is_that (dlr_of event.message) own && is_some o) && is_open l (section_at l own))
    (piece_of (data_of event.message)) []) known_is
    ∙ elim (is_that (dlr_of event.message) own) as (λ b. cond ((b && false) && is_open l (section_at l own))
    (piece_of (data_of event.message)) [] ≡ []) [ true ↦ refl | false ↦ refl ]

-- a message other than a DT1 sends no DT1
pub quiet_sent : (l : List Section) (own other : ℕ) (event : Event) → data_of event.message ≡ None → sent_in l own other event ≡ []
quiet_sent l own other event none =
    ap (λ (x : List Piece). cond (knows l other event) x [])
    (quiet_toward (section_at l own) (coupled l event).sent (quiet l event.origin event.way event.message none))
    ∙ elim (knows l other event) as (λ b. cond {A = List Piece} b [] [] ≡ []) [ true ↦ refl | false ↦ refl ]
