-- A step sends at most two messages.
use Rattle.std.specs.Prelude.{ℕ, ◌≤◌, nat_lt, Bool, true, false, not, cond, ◌&&◌, List, [], ◌++◌, length, Option, Some, None, is_none}
use Rattle.std.specs.List.{list_any}
use Rattle.std.proofs.Common.{arith}
use Rattle.sccp_layout.specs.Parameter.{Parameter}
use Rattle.sccp_message.specs.declared.message.Message.{Message}
use Rattle.sccp_message.specs.declared.message.Message.TheVariants as messages
use Rattle.sccp_couple.specs.declared.section.Section.{Section}
use Rattle.sccp_couple.specs.Sections.{is_that, section_at, known, other_of, has_remote, is_established, is_near_of, changed, confirmed}
use Rattle.sccp_couple.specs.Sections.{released, without, without_both, with_pair, first_new, second_new}
use Rattle.sccp_couple.specs.declared.way.Way.{Way}
use Rattle.sccp_couple.specs.declared.way.Way.TheVariants.{Refused, Onward}
use Rattle.sccp_couple.specs.Events.{Event, Outcome}
use Rattle.sccp_couple.specs.Coupling.{coupled, on_message, request_goes, on_confirm, on_refusal, on_data, on_release, release, on_complete}
use Rattle.sccp_couple.specs.Coupling.{toward, to_remote, to_one, only_sends}

abbrev Few : Outcome → Type 0
Few out = length out.sent ≤ 2

to_remote_few : (point own : ℕ) (o : Option ℕ) (m : ℕ → ℕ → Message) → length (to_remote point own o m) ≤ 1
to_remote_few point own None m = omega arith
to_remote_few point own (Some r) m = omega arith

toward_few : (o : Option Section) (m : ℕ → ℕ → Message) → length (toward o m) ≤ 1
toward_few None m = omega arith
toward_few (Some s) m = to_remote_few s.point s.own s.remote m

request_few : (l : List Section) (origin slr class : ℕ) (way : Way) → Few (request_goes l origin slr class way)
request_few l origin slr class (Refused cause) = omega arith
request_few l origin slr class (Onward to called params) =
    elim (nat_lt 4094 (length l)) as (λ b. Few (cond b (only_sends l (to_one origin (messages.Cref slr 7 [])))
    (record {
      sections = with_pair (first_new l) (second_new l) origin slr to l;
      sent = to_one to
          (messages.Cr (second_new l) class called params);
    }))) [ true ↦ omega arith | false ↦ omega arith ]

confirm_few : (l : List Section) (origin slr class : ℕ) (params : List Parameter) (o : Option Section)
    → Few (on_confirm l origin slr class params o)
confirm_few l origin slr class params None = omega arith
confirm_few l origin slr class params (Some s) =
    let a = toward_few (other_of l s) (λ remote own. messages.Cc remote own class params) in
    elim (not s.near && is_none s.remote) as (λ b. Few (cond b
    (record {
      sections = changed (confirmed slr) s.own l;
      sent = toward (other_of l s)
          (λ remote own. messages.Cc remote own class params);
    })
    (only_sends l (cond (is_that s.remote slr) [] (to_one origin (messages.Err slr 1)))))) [
      | true ↦ omega arith
      | false ↦ elim (is_that s.remote slr) as (λ b. length (cond b [] (to_one origin (messages.Err slr 1))) ≤ 2)
          [ true ↦ omega arith | false ↦ omega arith ]
    ]

refusal_few : (l : List Section) (cause : ℕ) (params : List Parameter) (o : Option Section) → Few (on_refusal l cause params o)
refusal_few l cause params None = omega arith
refusal_few l cause params (Some s) =
    let a = toward_few (other_of l s) (λ remote own. messages.Cref remote cause params) in
    elim (not s.near && is_none s.remote) as (λ b. Few (cond b
    (record { sections = without_both s l; sent = toward (other_of l s) (λ remote own. messages.Cref remote cause params) })
    (only_sends l []))) [ true ↦ omega arith | false ↦ omega arith ]

data_few : (l : List Section) (more : Bool) (payload : List ℕ) (o : Option Section) → Few (on_data l more payload o)
data_few l more payload None = omega arith
data_few l more payload (Some s) =
    let a = toward_few (other_of l s) (λ remote own. messages.Dt1 remote more payload) in
    elim (is_established l s) as (λ b. length (cond b (toward (other_of l s) (λ remote own. messages.Dt1 remote more payload)) []) ≤ 2)
    [ true ↦ omega arith | false ↦ omega arith ]

release_goes_few : (l : List Section) (s : Section) (origin slr dlr cause : ℕ) (params : List Parameter) (o : Option ℕ)
    → Few (release l s (to_one origin (messages.Rlc slr dlr)) cause params o)
release_goes_few l s origin slr dlr cause params None = omega arith
release_goes_few l s origin slr dlr cause params (Some other) =
    let a = toward_few (section_at l other) (λ remote own. messages.Rlsd remote own cause params) in
    elim (has_remote (section_at l other)) as (λ b. Few (cond b
    (record {
      sections = changed released other (without s.own l);
      sent = to_one origin (messages.Rlc slr dlr)
          ++ toward (section_at l other) (λ remote own. messages.Rlsd remote own cause params);
    })
    (record { sections = without_both s l; sent = to_one origin (messages.Rlc slr dlr) }))) [ true ↦ omega arith | false ↦ omega arith ]

release_few : (l : List Section) (origin dlr slr cause : ℕ) (params : List Parameter) (o : Option Section)
    → Few (on_release l origin dlr slr cause params o)
release_few l origin dlr slr cause params None = omega arith
release_few l origin dlr slr cause params (Some s) =
    elim (is_that s.remote slr) as (λ b. Few (cond b (release l s (to_one origin (messages.Rlc slr dlr)) cause params s.other)
    (only_sends l (to_one origin (messages.Err slr 1))))) [
      | true ↦ release_goes_few l s origin slr dlr cause params s.other
      | false ↦ omega arith
    ]

complete_few : (l : List Section) (slr : ℕ) (o : Option Section) → Few (on_complete l slr o)
complete_few l slr None = omega arith
complete_few l slr (Some s) = elim (is_none s.other && is_that s.remote slr) as (λ b. Few
    (cond b (record { sections = without s.own l; sent = [] }) (only_sends l []))) [ true ↦ omega arith | false ↦ omega arith ]

few_by : (l : List Section) (origin : ℕ) (way : Way) (m : Message) → Few (on_message l origin way m)
few_by l origin way (messages.Cr slr class called params) =
    elim (list_any (is_near_of origin slr) l) as (λ b. Few (cond b (only_sends l []) (request_goes l origin slr class way)))
    [ true ↦ omega arith | false ↦ request_few l origin slr class way ]
few_by l origin way (messages.Cc dlr slr class params) = confirm_few l origin slr class params (known l origin dlr)
few_by l origin way (messages.Cref dlr cause params) = refusal_few l cause params (known l origin dlr)
few_by l origin way (messages.Rlsd dlr slr cause params) = release_few l origin dlr slr cause params (known l origin dlr)
few_by l origin way (messages.Rlc dlr slr) = complete_few l slr (known l origin dlr)
few_by l origin way (messages.Dt1 dlr more payload) = data_few l more payload (known l origin dlr)
few_by l origin way _ = omega arith

-- what a relay sends for one message is at most two messages
pub few_sent : (l : List Section) (event : Event) → length (coupled l event).sent ≤ 2
few_sent l event = few_by l event.origin event.way event.message
