-- the ways in which a step changes the sections
use Rattle.std.specs.Prelude.{ℕ, ◌≡◌, ◌≢◌, ◌==◌, nat_lt, ◌≤◌, Bool, true, false, not, cond, ◌&&◌, List, [], ◌++◌, length, Option, Some}
use Rattle.std.specs.Prelude.{None, is_some, is_none, option_and_then, refl}
use Rattle.std.specs.List.{list_any}
use Rattle.std.proofs.Common.{sym, ◌∙◌, ap, subst, ⊎_elim}
use Rattle.std.proofs.lemmas.Bool.{and_parts, ltb-false, not-true}
use Rattle.sccp_layout.specs.Parameter.{Parameter}
use Rattle.sccp_message.specs.declared.message.Message.{Message}
use Rattle.sccp_message.specs.declared.message.Message.TheVariants as messages
use Rattle.sccp_couple.specs.declared.section.Section.{Section}
use Rattle.sccp_couple.specs.Sections.{is_that, section_at, known, if_from, other_of, has_remote, is_near_of, changed, confirmed, released}
use Rattle.sccp_couple.specs.Sections.{without, without_other, without_both, with_pair, first_new, second_new}
use Rattle.sccp_couple.specs.declared.way.Way.{Way}
use Rattle.sccp_couple.specs.declared.way.Way.TheVariants.{Refused, Onward}
use Rattle.sccp_couple.specs.Events.{Event, Answer, Outcome}
use Rattle.sccp_couple.specs.Coupling.{coupled, on_message, on_request, request_goes, on_confirm, on_refusal, on_data, on_release, release}
use Rattle.sccp_couple.specs.Coupling.{on_complete, toward, to_one, only_sends}
use Rattle.sccp_couple.proofs.Lookups.{option_cases, own_at}

pub data Change (l : List Section) : List Section → Type 0 where
  Same : Change l l
  Confirms : (s : Section) (remote : ℕ) → section_at l s.own ≡ Some s → s.near ≡ false → s.remote ≡ None
      → Change l (changed (confirmed remote) s.own l)
  Ends : (s : Section) → section_at l s.own ≡ Some s → s.other ≡ None → Change l (without s.own l)
  EndsBoth : (s : Section) (other : ℕ) → section_at l s.own ≡ Some s → s.other ≡ Some other → Change l (without other (without s.own l))
  Releases : (s : Section) (other : ℕ) (t : Section) → section_at l s.own ≡ Some s → s.other ≡ Some other → section_at l other ≡ Some t
      → t.remote ≢ None → Change l (changed released other (without s.own l))
  Couples : (origin remote to : ℕ) → list_any (is_near_of origin remote) l ≡ false → length l ≤ 4094
      → Change l (with_pair (first_new l) (second_new l) origin remote to l)

-- a section that knows a message is found under its own reference
knows_at : (l : List Section) (origin dlr : ℕ) (s : Section) → known l origin dlr ≡ Some s → section_at l s.own ≡ Some s
knows_at l origin dlr s h =
    ⊎_elim
    (λ (none : section_at l dlr ≡ None). absurd (let g : None
    ≡ Some s = sym (ap (λ (o : Option Section). option_and_then (if_from origin) o) none) ∙ h in cc))
    (λ (some : (t : Section) × (section_at l dlr ≡ Some t)).
    let g : if_from origin some.0 ≡ Some s = sym (ap (λ (o : Option Section). option_and_then (if_from origin) o) some.1) ∙ h in
    elim (some.0.point == origin) as (λ b. cond b (Some some.0) None ≡ Some s → section_at l s.own ≡ Some s) [
      | true ↦ λ k. let e : some.0 ≡ s = cc in
          let at : section_at l dlr ≡ Some s = some.1 ∙ ap Some e in
          subst (λ (n : ℕ). section_at l n ≡ Some s) (sym (own_at l dlr s at)) at
      | false ↦ λ k. absurd (let z : None ≡ Some s = k in cc)
    ] g)
    (option_cases (section_at l dlr))

pub is_none_true : (o : Option ℕ) → is_none o ≡ true → o ≡ None
is_none_true None h = refl
is_none_true (Some n) h = absurd (cc)

both_end : (l : List Section) (s : Section) (o : Option ℕ) → section_at l s.own ≡ Some s → s.other ≡ o
    → Change l (without_other o (without s.own l))
both_end l s None h k = Ends s h k
both_end l s (Some other) h k = EndsBoth s other h k

request_changes : (l : List Section) (origin slr class : ℕ) (way : Way) → Change l (on_request l origin slr class way).sections
request_changes l origin slr class (Refused cause) =
    elim (list_any (is_near_of origin slr) l) as (λ b. Change l
    (cond {A = Outcome} b (only_sends l []) (request_goes l origin slr class (Refused cause))).sections) [ true ↦ Same | false ↦ Same ]
request_changes l origin slr class (Onward to called params) =
    elim (list_any (is_near_of origin slr) l) as (λ b. list_any (is_near_of origin slr) l ≡ b
    → Change l (cond {A = Outcome} b (only_sends l []) (request_goes l origin slr class (Onward to called params))).sections) [
      | true ↦ λ e. Same
      | false ↦ λ e.
          elim (nat_lt 4094 (length l)) as (λ b. nat_lt 4094 (length l) ≡ b
          → Change l (cond {A = Outcome} b (only_sends l (to_one origin (messages.Cref slr 7 [])))
          (record {
            sections = with_pair (first_new l) (second_new l) origin slr to l;
            sent = to_one to
                (messages.Cr (second_new l) class called params);
          })).sections) [
            | true ↦ λ f. Same
            | false ↦ λ f. Couples origin slr to e (ltb-false 4094 (length l) f)
          ] refl
    ] refl

confirm_changes : (l : List Section) (origin slr class : ℕ) (params : List Parameter) (o : Option Section)
    → ((s : Section) → o ≡ Some s → section_at l s.own ≡ Some s) → Change l (on_confirm l origin slr class params o).sections
confirm_changes l origin slr class params None h = Same
confirm_changes l origin slr class params (Some s) h =
    elim (not s.near && is_none s.remote) as (λ b. (not s.near && is_none s.remote) ≡ b
    → Change l (cond {A = Outcome} b (record {
      sections = changed (confirmed slr) s.own l;
      sent = toward (other_of l s)
          (λ remote own. messages.Cc remote own class params);
    })
    (only_sends l (cond (is_that s.remote slr) [] (to_one origin (messages.Err slr 1))))).sections) [
      | true ↦ λ e. let parts = and_parts (not s.near) (is_none s.remote) e in Confirms s slr (h s refl) (not-true s.near parts.0)
          (is_none_true s.remote parts.1)
      | false ↦ λ e. Same
    ] refl

refusal_changes : (l : List Section) (cause : ℕ) (params : List Parameter) (o : Option Section)
    → ((s : Section) → o ≡ Some s → section_at l s.own ≡ Some s) → Change l (on_refusal l cause params o).sections
refusal_changes l cause params None h = Same
refusal_changes l cause params (Some s) h =
    elim (not s.near && is_none s.remote) as (λ b. Change l
    (cond {A = Outcome} b (record {
      sections = without_both s l;
      sent = toward (other_of l s)
          (λ remote own. messages.Cref remote cause params);
    }) (only_sends l [])).sections) [
      | true ↦ both_end l s s.other (h s refl) refl
      | false ↦ Same
    ]

has_remote_parts : (o : Option Section) → has_remote o ≡ true → (t : Section) × (o ≡ Some t) × (t.remote ≢ None)
has_remote_parts None h = absurd (cc)
has_remote_parts (Some t) h = (t, refl, λ e. absurd (let g : false ≡ true = sym (ap (λ (o : Option ℕ). is_some o) e) ∙ h in cc))

release_goes_changes : (l : List Section) (s : Section) (complete : List Answer) (cause : ℕ) (params : List Parameter) (o : Option ℕ)
    → section_at l s.own ≡ Some s → s.other ≡ o → Change l (release l s complete cause params o).sections
release_goes_changes l s complete cause params None h k = Ends s h k
release_goes_changes l s complete cause params (Some other) h k =
    elim (has_remote (section_at l other)) as (λ b. has_remote (section_at l other) ≡ b
    → Change l (cond {A = Outcome} b (record {
      sections = changed released other (without s.own l);
      sent = complete
          ++ toward (section_at l other) (λ remote own. messages.Rlsd remote own cause params);
    })
    (record { sections = without_both s l; sent = complete })).sections) [
      | true ↦ λ e. let r = has_remote_parts (section_at l other) e in Releases s other r.0 h k r.1 r.2
      | false ↦ λ e. both_end l s s.other h refl
    ] refl

release_changes : (l : List Section) (origin dlr slr cause : ℕ) (params : List Parameter) (o : Option Section)
    → ((s : Section) → o ≡ Some s → section_at l s.own ≡ Some s) → Change l (on_release l origin dlr slr cause params o).sections
release_changes l origin dlr slr cause params None h = Same
release_changes l origin dlr slr cause params (Some s) h =
    elim (is_that s.remote slr) as (λ b. Change l (cond {A = Outcome} b
    (release l s (to_one origin (messages.Rlc slr dlr)) cause params s.other)
    (only_sends l (to_one origin (messages.Err slr 1)))).sections) [
      | true ↦ release_goes_changes l s (to_one origin (messages.Rlc slr dlr)) cause params s.other (h s refl) refl
      | false ↦ Same
    ]

complete_changes : (l : List Section) (slr : ℕ) (o : Option Section) → ((s : Section) → o ≡ Some s → section_at l s.own ≡ Some s)
    → Change l (on_complete l slr o).sections
complete_changes l slr None h = Same
complete_changes l slr (Some s) h =
    elim (is_none s.other && is_that s.remote slr) as (λ b. (is_none s.other && is_that s.remote slr) ≡ b
    → Change l (cond {A = Outcome} b (record { sections = without s.own l; sent = [] }) (only_sends l [])).sections) [
      | true ↦ λ e. Ends s (h s refl) (is_none_true s.other (and_parts (is_none s.other) (is_that s.remote slr) e).0)
      | false ↦ λ e. Same
    ] refl

data_changes : (l : List Section) (more : Bool) (payload : List ℕ) (o : Option Section) → Change l (on_data l more payload o).sections
data_changes l more payload None = Same
data_changes l more payload (Some s) = Same

changes_by : (l : List Section) (origin : ℕ) (way : Way) (m : Message) → Change l (on_message l origin way m).sections
changes_by l origin way (messages.Cr slr class called params) = request_changes l origin slr class way
changes_by l origin way (messages.Cc dlr slr class params) = confirm_changes l origin slr class params (known l origin dlr)
    (knows_at l origin dlr)
changes_by l origin way (messages.Cref dlr cause params) = refusal_changes l cause params (known l origin dlr) (knows_at l origin dlr)
changes_by l origin way (messages.Rlsd dlr slr cause params) = release_changes l origin dlr slr cause params (known l origin dlr)
    (knows_at l origin dlr)
changes_by l origin way (messages.Rlc dlr slr) = complete_changes l slr (known l origin dlr) (knows_at l origin dlr)
changes_by l origin way (messages.Dt1 dlr more payload) = data_changes l more payload (known l origin dlr)
changes_by l origin way _ = Same

pub changes : (l : List Section) (event : Event) → Change l (coupled l event).sections
changes l event = changes_by l event.origin event.way event.message
