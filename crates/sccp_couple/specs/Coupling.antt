-- What a relay does with a connection-oriented message: one definition for each type that it acts on (ITU-T Q.714 section 3).
-- What goes past coupling and release is this project's profile.
use Rattle.std.specs.Prelude.{ℕ, nat_lt, Bool, not, ◌&&◌, if◌then◌else◌, List, [], ◌∷◌, ◌++◌, length, Option, Some, None, is_none}
use Rattle.std.specs.List.{list_any}
use Rattle.sccp_layout.specs.Parameter.{Parameter}
use Rattle.sccp_message.specs.declared.message.Message.{Message}
use Rattle.sccp_message.specs.declared.message.Message.TheVariants as messages
use Rattle.sccp_couple.specs.declared.section.Section.{Section}
use Rattle.sccp_couple.specs.Sections.{is_that, section_at, known, other_of, has_remote, is_established, is_near_of, changed, confirmed}
use Rattle.sccp_couple.specs.Sections.{released, without, without_both, with_pair, first_new, second_new}
use Rattle.sccp_couple.specs.declared.way.Way.{Way}
use Rattle.sccp_couple.specs.declared.way.Way.TheVariants.{Refused, Onward}
use Rattle.sccp_couple.specs.Events.{Event, Outcome, Answer}

-- all sections stay, and these messages are sent
abbrev pub only_sends : List Section → List Answer → Outcome
only_sends sections sent = record { sections = sections; sent = sent }

-- one message to one point
abbrev pub to_one : ℕ → Message → List Answer
to_one point message = record { to = point; message = message } ∷ []

-- what goes to a section's point: a message with its remote and own reference, if it has a remote
abbrev pub to_remote : ℕ → ℕ → Option ℕ → (ℕ → ℕ → Message) → List Answer
to_remote point own None message = []
to_remote point own (Some remote) message = to_one point (message remote own)

-- the same for a section, if it is there
abbrev pub toward : Option Section → (ℕ → ℕ → Message) → List Answer
toward None message = []
toward (Some s) message = to_remote s.point s.own s.remote message

-- ---- CR: a connection request

-- a pair is made, and the request goes on with the far reference
abbrev pub couple : List Section → ℕ → ℕ → ℕ → ℕ → ℕ → (ℕ → Message) → Outcome
couple sections near far origin slr to message =
    record { sections = with_pair near far origin slr to sections; sent = to_one to (message far) }

-- A pair needs two of the 4,096 references, so there must be at most 4,094 sections. Otherwise the request is refused for
-- want of a resource (refusal cause 7).
abbrev pub request_goes : List Section → ℕ → ℕ → ℕ → Way → Outcome
request_goes sections origin slr class (Refused cause) = only_sends sections (to_one origin (messages.Cref slr cause []))
request_goes sections origin slr class (Onward to called params) =
    if nat_lt 4094 (length sections)
    then only_sends sections (to_one origin (messages.Cref slr 7 []))
    else couple sections (first_new sections) (second_new sections) origin slr to (λ far. messages.Cr far class called params)

-- one that was received before, as a near section shows, is not answered again
abbrev pub on_request : List Section → ℕ → ℕ → ℕ → Way → Outcome
on_request sections origin slr class way =
    if list_any (is_near_of origin slr) sections then only_sends sections [] else request_goes sections origin slr class way

-- ---- CC: the far side confirms
-- If no section knows it, its destination reference is unassigned (error cause 0). If its source reference is another one
-- than the first, it is inconsistent (error cause 1).

-- a CC at the section that knows it
abbrev pub on_confirm : List Section → ℕ → ℕ → ℕ → List Parameter → Option Section → Outcome
on_confirm sections origin slr class params None = only_sends sections (to_one origin (messages.Err slr 0))
on_confirm sections origin slr class params (Some s) =
    if not s.near && is_none s.remote
    then record {
      sections = changed (confirmed slr) s.own sections;
      sent = toward (other_of sections s) (λ remote own. messages.Cc remote own class params);
    }
    else only_sends sections (if is_that s.remote slr then [] else to_one origin (messages.Err slr 1))

-- ---- CREF: the far side refuses, so both sections end

-- a CREF at the section that knows it; without one nothing changes
abbrev pub on_refusal : List Section → ℕ → List Parameter → Option Section → Outcome
on_refusal sections cause params None = only_sends sections []
on_refusal sections cause params (Some s) =
    if not s.near && is_none s.remote
    then record {
      sections = without_both s sections;
      sent = toward (other_of sections s) (λ remote own. messages.Cref remote cause params);
    }
    else only_sends sections []

-- ---- DT1: data go on over an established section

-- a DT1 at the section that knows it; it changes no section
abbrev pub on_data : List Section → Bool → List ℕ → Option Section → Outcome
on_data sections more payload None = only_sends sections []
on_data sections more payload (Some s) =
    only_sends sections (if is_established sections s then toward (other_of sections s) (λ remote own. messages.Dt1 remote more payload)
    else [])

-- ---- RLSD: it is completed at once and its section ends; the other section is released, or ends too if it has no remote yet

-- a release that its section accepts, with the other section's own reference, and its completion
abbrev pub release : List Section → Section → List Answer → ℕ → List Parameter → Option ℕ → Outcome
release sections s complete cause params None = record { sections = without s.own sections; sent = complete }
release sections s complete cause params (Some other) =
    if has_remote (section_at sections other)
    then record {
      sections = changed released other (without s.own sections);
      sent = complete ++ toward (section_at sections other) (λ remote own. messages.Rlsd remote own cause params);
    }
    else record { sections = without_both s sections; sent = complete }

-- an RLSD at the section that knows it; without one it is completed all the same
abbrev pub on_release : List Section → ℕ → ℕ → ℕ → ℕ → List Parameter → Option Section → Outcome
on_release sections origin dlr slr cause params None = only_sends sections (to_one origin (messages.Rlc slr dlr))
on_release sections origin dlr slr cause params (Some s) =
    if is_that s.remote slr
    then release sections s (to_one origin (messages.Rlc slr dlr)) cause params s.other
    else only_sends sections (to_one origin (messages.Err slr 1))

-- ---- RLC: a section that is being released ends

-- an RLC at the section that knows it; it is never answered
abbrev pub on_complete : List Section → ℕ → Option Section → Outcome
on_complete sections slr None = only_sends sections []
on_complete sections slr (Some s) =
    if is_none s.other && is_that s.remote slr
    then record { sections = without s.own sections; sent = [] }
    else only_sends sections []

-- ---- every other type changes nothing and is not answered

-- what a message from this point does
abbrev pub on_message : List Section → ℕ → Way → Message → Outcome
on_message sections origin way (messages.Cr slr class called params) = on_request sections origin slr class way
on_message sections origin way (messages.Cc dlr slr class params) = on_confirm sections origin slr class params (known sections origin dlr)
on_message sections origin way (messages.Cref dlr cause params) = on_refusal sections cause params (known sections origin dlr)
on_message sections origin way (messages.Rlsd dlr slr cause params) = on_release sections origin dlr slr cause params
    (known sections origin dlr)
on_message sections origin way (messages.Rlc dlr slr) = on_complete sections slr (known sections origin dlr)
on_message sections origin way (messages.Dt1 dlr more payload) = on_data sections more payload (known sections origin dlr)
on_message sections origin way _ = only_sends sections []

-- one step: the sections afterwards, and the messages sent
abbrev pub coupled : List Section → Event → Outcome
coupled sections event = on_message sections event.origin event.way event.message
