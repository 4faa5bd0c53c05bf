-- what one step answers
use Rattle.std.specs.Prelude.{ℕ, ◌≡◌, ◌==◌, nat_lt, Bool, true, false, not, cond, ◌&&◌, List, [], ◌∷◌, ◌++◌, length, Option, Some, None}
use Rattle.std.specs.Prelude.{is_some, is_none, option_and_then, refl}
use Rattle.std.specs.List.{list_any, filter_map}
use Rattle.std.proofs.Common.{sym, ◌∙◌, ap, subst, ⊎_elim}
use Rattle.std.proofs.lemmas.Bool.{eqb-true, eq-eqb, and_parts}
use Rattle.sccp_layout.specs.Parameter.{Parameter}
use Rattle.sccp_message.specs.declared.message.Message.{Message}
use Rattle.sccp_message.specs.declared.message.Message.TheVariants as messages
use Rattle.sccp_couple.specs.declared.section.Section.{Section}
use Rattle.sccp_couple.specs.Sections.{is_that, section_at, known, if_from, other_of, has_remote, is_near_of, changed, confirmed, released}
use Rattle.sccp_couple.specs.Sections.{without, without_both, with_pair, first_new, second_new}
use Rattle.sccp_couple.specs.declared.way.Way.{Way}
use Rattle.sccp_couple.specs.declared.way.Way.TheVariants.{Refused, Onward}
use Rattle.sccp_couple.specs.Events.{Event, Answer, Outcome, Piece, Data, data_of}
use Rattle.sccp_couple.specs.Coupling.{coupled, on_message, on_request, request_goes, on_confirm, on_refusal, on_data, on_release, release}
use Rattle.sccp_couple.specs.Coupling.{on_complete, toward, to_remote, to_one, only_sends}
use Rattle.sccp_couple.specs.Runs.{knows, is_open, passed_in, piece_of, sent_in, pieces_toward, piece_toward, piece_if, piece_in, answered}
use Rattle.sccp_couple.proofs.Lookups.{option_cases}

-- none of these messages is a DT1
abbrev pub NoData : List Answer → Type 0
NoData [] = Unit {0}
NoData (x ∷ xs) = (data_of x.message ≡ None) × NoData xs

pub NoData-append : (a b : List Answer) → NoData a → NoData b → NoData (a ++ b)
NoData-append [] b p q = q
NoData-append (x ∷ xs) b p q = (p.0, NoData-append xs b p.1 q)

to_remote_quiet : (point own : ℕ) (o : Option ℕ) (m : ℕ → ℕ → Message) → ((r w : ℕ) → data_of (m r w) ≡ None)
    → NoData (to_remote point own o m)
to_remote_quiet point own None m h = tt
to_remote_quiet point own (Some r) m h = (h r own, tt)

toward_quiet : (o : Option Section) (m : ℕ → ℕ → Message) → ((r w : ℕ) → data_of (m r w) ≡ None) → NoData (toward o m)
toward_quiet None m h = tt
toward_quiet (Some s) m h = to_remote_quiet s.point s.own s.remote m h

request_goes_quiet : (sections : List Section) (origin slr class : ℕ) (way : Way) → NoData (request_goes sections origin slr class way).sent
request_goes_quiet sections origin slr class (Refused cause) = (refl, tt)
request_goes_quiet sections origin slr class (Onward to called params) =
    elim (nat_lt 4094 (length sections)) as (λ b. NoData (cond b (only_sends sections (to_one origin (messages.Cref slr 7 [])))
    (record {
      sections = with_pair (first_new sections) (second_new sections) origin slr to sections;
      sent = to_one to
          (messages.Cr (second_new sections) class called params);
    })).sent) [
      | true ↦ (refl, tt)
      | false ↦ (refl, tt)
    ]

request_quiet : (sections : List Section) (origin slr class : ℕ) (way : Way) → NoData (on_request sections origin slr class way).sent
request_quiet sections origin slr class way =
    elim (list_any (is_near_of origin slr) sections) as (λ b. NoData
    (cond b (only_sends sections []) (request_goes sections origin slr class way)).sent) [
      | true ↦ tt
      | false ↦ request_goes_quiet sections origin slr class way
    ]

confirm_quiet : (sections : List Section) (origin slr class : ℕ) (params : List Parameter) (o : Option Section)
    → NoData (on_confirm sections origin slr class params o).sent
confirm_quiet sections origin slr class params None = (refl, tt)
confirm_quiet sections origin slr class params (Some s) =
    elim (not s.near && is_none s.remote) as (λ b. NoData
    (cond b (record {
      sections = changed (confirmed slr) s.own sections;
      sent = toward (other_of sections s)
          (λ remote own. messages.Cc remote own class params);
    })
    (only_sends sections (cond (is_that s.remote slr) [] (to_one origin (messages.Err slr 1))))).sent) [
      | true ↦ toward_quiet (other_of sections s) (λ remote own. messages.Cc remote own class params) (λ r w. refl)
      | false ↦ elim (is_that s.remote slr) as (λ b. NoData (cond b [] (to_one origin (messages.Err slr 1))))
          [ true ↦ tt | false ↦ (refl, tt) ]
    ]

refusal_quiet : (sections : List Section) (cause : ℕ) (params : List Parameter) (o : Option Section)
    → NoData (on_refusal sections cause params o).sent
refusal_quiet sections cause params None = tt
refusal_quiet sections cause params (Some s) =
    elim (not s.near && is_none s.remote) as (λ b. NoData
    (cond b (record {
      sections = without_both s sections;
      sent = toward (other_of sections s)
          (λ remote own. messages.Cref remote cause params);
    }) (only_sends sections [])).sent) [
      | true ↦ toward_quiet (other_of sections s) (λ remote own. messages.Cref remote cause params) (λ r w. refl)
      | false ↦ tt
    ]

release_goes_quiet : (sections : List Section) (s : Section) (complete : List Answer) (cause : ℕ) (params : List Parameter) (o : Option ℕ)
    → NoData complete → NoData (release sections s complete cause params o).sent
release_goes_quiet sections s complete cause params None q = q
release_goes_quiet sections s complete cause params (Some other) q =
    elim (has_remote (section_at sections other)) as (λ b. NoData
    (cond {A = Outcome} b (record {
      sections = changed released other (without s.own sections);
      sent = complete
          ++ toward (section_at sections other) (λ remote own. messages.Rlsd remote own cause params);
    })
    (record { sections = without_both s sections; sent = complete })).sent) [
      | true ↦ NoData-append complete (toward (section_at sections other) (λ remote own. messages.Rlsd remote own cause params)) q
          (toward_quiet (section_at sections other) (λ remote own. messages.Rlsd remote own cause params) (λ r w. refl))
      | false ↦ q
    ]

release_quiet : (sections : List Section) (origin dlr slr cause : ℕ) (params : List Parameter) (o : Option Section)
    → NoData (on_release sections origin dlr slr cause params o).sent
release_quiet sections origin dlr slr cause params None = (refl, tt)
release_quiet sections origin dlr slr cause params (Some s) =
    elim (is_that s.remote slr) as (λ b. NoData (cond b (release sections s (to_one origin (messages.Rlc slr dlr)) cause params s.other)
    (only_sends sections (to_one origin (messages.Err slr 1)))).sent) [
      | true ↦ release_goes_quiet sections s (to_one origin (messages.Rlc slr dlr)) cause params s.other (refl, tt)
      | false ↦ (refl, tt)
    ]

complete_quiet : (sections : List Section) (slr : ℕ) (o : Option Section) → NoData (on_complete sections slr o).sent
complete_quiet sections slr None = tt
complete_quiet sections slr (Some s) =
    elim (is_none s.other && is_that s.remote slr) as (λ b. NoData
    (cond b (record { sections = without s.own sections; sent = [] }) (only_sends sections [])).sent) [ true ↦ tt | false ↦ tt ]

-- a message other than a DT1 is not answered by a DT1
pub quiet : (sections : List Section) (origin : ℕ) (way : Way) (m : Message) → data_of m ≡ None
    → NoData (on_message sections origin way m).sent
quiet sections origin way (messages.Cr slr class called params) h = request_quiet sections origin slr class way
quiet sections origin way (messages.Cc dlr slr class params) h = confirm_quiet sections origin slr class params (known sections origin dlr)
quiet sections origin way (messages.Cref dlr cause params) h = refusal_quiet sections cause params (known sections origin dlr)
quiet sections origin way (messages.Rlsd dlr slr cause params) h = release_quiet sections origin dlr slr cause params
    (known sections origin dlr)
quiet sections origin way (messages.Rlc dlr slr) h = complete_quiet sections slr (known sections origin dlr)
quiet sections origin way (messages.Dt1 dlr more payload) h = absurd (cc)
quiet sections origin way _ h = tt

pub is_dt1 : (m : Message) (d : Data) → data_of m ≡ Some d → m ≡ messages.Dt1 d.dlr d.piece.more d.piece.payload
is_dt1 (messages.Dt1 dlr more payload) d h = ap (λ (o : Option Data). elim o as (λ _. Message)
    [ None ↦ messages.Ea 0 | Some e ↦ messages.Dt1 e.dlr e.piece.more e.piece.payload ]) h
is_dt1 _ d h = absurd (cc)

none_in : (xs : List Answer) → NoData xs → filter_map piece_in xs ≡ []
none_in [] h = refl
none_in (x ∷ xs) h = rw h.0 (none_in xs h.1)

none_toward : (s : Section) (xs : List Answer) → NoData xs → filter_map (piece_toward s) xs ≡ []
none_toward s [] h = refl
none_toward s (x ∷ xs) h = rw h.0 (none_toward s xs h.1)

pub quiet_toward : (o : Option Section) (xs : List Answer) → NoData xs → pieces_toward o xs ≡ []
quiet_toward None xs h = refl
quiet_toward (Some s) xs h = none_toward s xs h

pub quiet_answer : (sections : List Section) (event : Event) → data_of event.message ≡ None → answered sections event ≡ []
quiet_answer sections event h = none_in (coupled sections event).sent (quiet sections event.origin event.way event.message h)

-- the section that a message belongs to
pub known_is : (sections : List Section) (origin own : ℕ) (s : Section) → section_at sections own ≡ Some s
    → is_some (known sections origin own) ≡ true → (known sections origin own ≡ Some s) × (s.point ≡ origin)
known_is sections origin own s h k =
    let e : known sections origin own ≡ if_from origin s = ap (λ (o : Option Section). option_and_then (if_from origin) o) h in
    let f : is_some (if_from origin s) ≡ true = ap (λ (o : Option Section). is_some o) (sym e) ∙ k in
    elim (s.point == origin) as (λ b. (s.point == origin) ≡ b → known sections origin own ≡ cond b (Some s) None
    → is_some (cond b (Some s) None) ≡ true → (known sections origin own ≡ Some s) × (s.point ≡ origin)) [
      | true ↦ λ g i j. (i, eqb-true s.point origin g)
      | false ↦ λ g i j. absurd (let z : false ≡ true = j in cc)
    ] refl e f

-- a DT1 to a section's point and remote goes toward that section
remote_own : (point own : ℕ) (o : Option ℕ) (more : Bool) (payload : List ℕ) → is_some o ≡ true →
    filter_map (λ (sent : Answer). piece_if point o sent.to (data_of sent.message))
    (to_remote point own o (λ remote w. messages.Dt1 remote more payload)) ≡ record { more = more; payload = payload } ∷ []
remote_own point own None more payload h = absurd (cc)
remote_own point own (Some r) more payload h = rw (eq-eqb point point refl, eq-eqb r r refl) refl

remote_in : (point own : ℕ) (o : Option ℕ) (more : Bool) (payload : List ℕ) → is_some o ≡ true →
    filter_map piece_in (to_remote point own o (λ remote w. messages.Dt1 remote more payload)) ≡ record { more = more; payload = payload }
    ∷ []
remote_in point own None more payload h = absurd (cc)
remote_in point own (Some r) more payload h = refl

-- a DT1 of one section is sent toward the other one, while both have a remote
data_sent : (sections : List Section) (s t : Section) (more : Bool) (payload : List ℕ) → other_of sections s ≡ Some t →
    (on_data sections more payload (Some s)).sent ≡ cond (is_some s.remote && is_some t.remote)
    (to_remote t.point t.own t.remote (λ remote w. messages.Dt1 remote more payload)) []
data_sent sections s t more payload h =
    ap (λ (o : Option Section). cond (is_some s.remote && has_remote o) (toward o (λ remote own. messages.Dt1 remote more payload)) []) h

same_nothing : (a b : Bool) → cond {A = List Piece} a [] [] ≡ cond (a && b) [] []
same_nothing true true = refl
same_nothing true false = refl
same_nothing false b = refl

-- what goes toward a section of a DT1 that was passed on, if it was
open_sent : (t : Section) (a b : Bool) (more : Bool) (payload : List ℕ) → b ≡ is_some t.remote →
    pieces_toward (Some t) (cond (a && b) (to_remote t.point t.own t.remote (λ remote w. messages.Dt1 remote more payload)) [])
    ≡ cond (a && b) (record { more = more; payload = payload } ∷ []) []
open_sent t true true more payload h = remote_own t.point t.own t.remote more payload (sym h)
open_sent t true false more payload h = refl
open_sent t false b more payload h = refl

passed_data : (sections : List Section) (own other : ℕ) (s t : Section) (origin : ℕ) (way : Way) (dlr : ℕ) (more : Bool)
    (payload : List ℕ) →
    section_at sections own ≡ Some s → other_of sections s ≡ Some t → section_at sections other ≡ Some t →
    is_open sections (section_at sections own) ≡ (is_some s.remote && is_some t.remote) →
    sent_in sections other own (record { origin = origin; message = messages.Dt1 dlr more payload; way = way })
    ≡ passed_in sections own (record { origin = origin; message = messages.Dt1 dlr more payload; way = way })
passed_data sections own other s t origin way dlr more payload here others there open_is =
    let event : Event = record { origin = origin; message = messages.Dt1 dlr more payload; way = way } in
    let piece : List Piece = record { more = more; payload = payload } ∷ [] in
    elim (knows sections own event) as (λ b. knows sections own event ≡ b →
    cond b (pieces_toward (section_at sections other) (coupled sections event).sent) []
    ≡ cond (b && is_open sections (section_at sections own)) piece []) [
      | true ↦ λ e.
          let parts = and_parts (dlr == own) (is_some (known sections origin own)) e in
          let is_dlr : dlr ≡ own = eqb-true dlr own parts.0 in
          let known_here : known sections origin dlr ≡ Some s = subst (λ (n : ℕ). known sections origin n ≡ Some s) (sym is_dlr)
          (known_is sections origin own s here parts.1).0 in
          let sent_is : (coupled sections event).sent ≡ cond (is_some s.remote && is_some t.remote)
          (to_remote t.point t.own t.remote (λ remote w. messages.Dt1 remote more payload)) [] =
          ap (λ (o : Option Section). (on_data sections more payload o).sent) known_here ∙ data_sent sections s t more payload others in
          ap (λ (o : Option Section). pieces_toward o (coupled sections event).sent) there
          ∙ ap (λ (l : List Answer). pieces_toward (Some t) l) sent_is
          ∙ open_sent t (is_some s.remote) (is_some t.remote) more payload refl
          ∙ sym (ap (λ (b : Bool). cond b piece []) open_is)
      | false ↦ λ e. refl
    ] refl

-- both sections of the pair are there, each the other's other: what belongs to the one is passed, and sent to the other
pub all_passed : (sections : List Section) (own other : ℕ) (s t : Section) (origin : ℕ) (way : Way) (m : Message) →
    section_at sections own ≡ Some s → s.other ≡ Some other → section_at sections other ≡ Some t →
    sent_in sections other own (record { origin = origin; message = m; way = way })
    ≡ passed_in sections own (record { origin = origin; message = m; way = way })
all_passed sections own other s t origin way m here joined there =
    let event : Event = record { origin = origin; message = m; way = way } in
    let others : other_of sections s ≡ Some t = ap (λ (o : Option ℕ). option_and_then (section_at sections) o) joined ∙ there in
    let open_is : is_open sections (section_at sections own) ≡ (is_some s.remote && is_some t.remote) =
    ap (λ (o : Option Section). is_open sections o) here ∙ ap (λ (o : Option Section). is_some s.remote && has_remote o) others in
    ⊎_elim
    (λ (none : data_of m ≡ None).
    let left : pieces_toward (section_at sections other) (coupled sections event).sent ≡ [] =
    quiet_toward (section_at sections other) (coupled sections event).sent (quiet sections origin way m none) in
    let right : piece_of (data_of m) ≡ [] = ap piece_of none in
    rw (left, right) (same_nothing (knows sections own event) (is_open sections (section_at sections own))))
    (λ (some : (d : Data) × (data_of m ≡ Some d)).
    subst (λ (n : Message). sent_in sections other own (record { origin = origin; message = n; way = way })
    ≡ passed_in sections own (record { origin = origin; message = n; way = way }))
    (sym (is_dt1 m some.0 some.1))
    (passed_data sections own other s t origin way some.0.dlr some.0.piece.more some.0.piece.payload here others there open_is))
    (option_cases (data_of m))
