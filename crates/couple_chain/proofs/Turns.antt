-- the kinds of step that a relay's coupling makes: what it sends, and what the sections were before
use Rattle.std.specs.Prelude.{ℕ, ◌≡◌, ◌==◌, nat_lt, Bool, true, false, not, cond, ◌&&◌, List, [], ◌++◌, length, Option, Some, None, is_none}
use Rattle.std.specs.Prelude.{option_and_then, refl}
use Rattle.std.specs.List.{list_any}
use Rattle.std.proofs.Common.{sym, ◌∙◌, ap, subst, ⊎_elim}
use Rattle.std.proofs.lemmas.Bool.{and_parts, not-true, eqb-true, eq-eqb}
use Rattle.sccp_address.specs.declared.address.Address.{Address}
use Rattle.sccp_layout.specs.Parameter.{Parameter}
use Rattle.sccp_message.specs.declared.message.Message.{Message}
use Rattle.sccp_message.specs.declared.message.Message.TheVariants as messages
use Rattle.sccp_couple.specs.declared.section.Section.{Section}
use Rattle.sccp_couple.specs.Sections.{is_that, section_at, known, if_from, other_of, has_remote, is_near_of, changed, confirmed, released}
use Rattle.sccp_couple.specs.Sections.{without, without_other, without_both, with_pair, first_new, second_new}
use Rattle.sccp_couple.specs.declared.way.Way.{Way}
use Rattle.sccp_couple.specs.declared.way.Way.TheVariants.{Refused, Onward}
use Rattle.sccp_couple.specs.Events.{Event, Answer, Outcome, data_of}
use Rattle.sccp_couple.specs.Coupling.{coupled, on_request, request_goes, on_confirm, on_refusal, on_data, on_release, release, on_complete}
use Rattle.sccp_couple.specs.Coupling.{toward, to_remote, to_one, only_sends}
use Rattle.sccp_couple.specs.Invariant.{IsCoupling}
use Rattle.sccp_couple.proofs.Changes.{is_none_true}
use Rattle.sccp_couple.proofs.Lookups.{option_cases, own_at, without_cases, changed_cases}
use Rattle.couple_chain.proofs.Counts.{Each, Each-append, answers}

-- no CR, no CC and no DT1
abbrev pub is_plain : Message → Bool
is_plain (messages.Cr slr class called params) = false
is_plain (messages.Cc dlr slr class params) = false
is_plain (messages.Dt1 dlr more payload) = false
is_plain _ = true

abbrev pub ArePlain : List Answer → Type 0
ArePlain sent = Each (λ (s : Answer). is_plain s.message ≡ true) sent

-- each section was there before, with the same side, point and remote
abbrev pub Loses : List Section → List Section → Type 0
Loses l m = (q : ℕ) (t : Section) → section_at m q ≡ Some t → (s : Section) × (section_at l q ≡ Some s) × (t.near ≡ s.near)
    × (t.point ≡ s.point) × (t.remote ≡ s.remote)

-- no CC that gives a far section its remote
abbrev pub ConfirmsNone : List Section → Event → Type 0
ConfirmsNone l event = (dlr : ℕ) (s : Section) → answers dlr event.message ≡ true → section_at l dlr ≡ Some s → s.point ≡ event.origin
    → s.near ≡ false → s.remote ≡ None → ⊥

pub data TurnOf (l : List Section) (event : Event) (out : Outcome) : Type 0 where
  Plain : data_of event.message ≡ None → ConfirmsNone l event → ArePlain out.sent → Loses l out.sections → TurnOf l event out
  Passes : (dlr : ℕ) (more : Bool) (payload : List ℕ) → event.message ≡ messages.Dt1 dlr more payload → out.sections ≡ l
      → TurnOf l event out
  Requests : (slr class to : ℕ) (called : Address) (params : List Parameter) (called_on : Address) (params_on : List Parameter)
      → event.message ≡ messages.Cr slr class called params →
      out.sections ≡ with_pair (first_new l) (second_new l) event.origin slr to l
      → out.sent ≡ to_one to (messages.Cr (second_new l) class called_on params_on) → TurnOf l event out
  Confirms : (dlr slr class o r : ℕ) (params : List Parameter) (s n : Section) → event.message ≡ messages.Cc dlr slr class params
      → section_at l dlr ≡ Some s → s.point ≡ event.origin → s.near ≡ false → s.remote ≡ None → s.other ≡ Some o →
      section_at l o ≡ Some n → n.near ≡ true → n.other ≡ Some dlr → n.remote ≡ Some r → out.sections ≡ changed (confirmed slr) dlr l
      → out.sent ≡ to_one n.point (messages.Cc r o class params) → TurnOf l event out

abbrev pub Turn : List Section → Event → Type 0
Turn l event = TurnOf l event (coupled l event)

same_loses : (l : List Section) → Loses l l
same_loses l q t h = (t, h, refl, refl, refl)

loses_twice : (l m n : List Section) → Loses l m → Loses m n → Loses l n
loses_twice l m n h k q t e =
    let a = k q t e in
    let b = h q a.0 a.1 in
    (b.0, b.1, a.2 ∙ b.2, a.3 ∙ b.3, a.4 ∙ b.4)

without_loses : (l : List Section) (own : ℕ) → Loses l (without own l)
without_loses l own q t h = (t, (without_cases l own q t h).1, refl, refl, refl)

other_loses : (l : List Section) (o : Option ℕ) → Loses l (without_other o l)
other_loses l None = same_loses l
other_loses l (Some own) = without_loses l own

both_loses : (l : List Section) (s : Section) → Loses l (without_both s l)
both_loses l s = loses_twice l (without s.own l) (without_both s l) (without_loses l s.own) (other_loses (without s.own l) s.other)

released_loses : (l : List Section) (own : ℕ) → Loses l (changed released own l)
released_loses l own q t h =
    ⊎_elim
    (λ (same : (u : Section) × (q ≡ own) × (section_at l own ≡ Some u) × (t ≡ released u)). (
      same.0,
      subst (λ (k : ℕ). section_at l k ≡ Some same.0) (sym same.1) same.2,
      ap (λ (x : Section). x.near) same.3,
      ap (λ (x : Section). x.point) same.3,
      ap (λ (x : Section). x.remote) same.3,
    ))
    (λ (other : (q ≡ own → ⊥) × (section_at l q ≡ Some t)). (t, other.1, refl, refl, refl))
    (changed_cases released (λ x. refl) l own q t h)

to_remote_plain : (point own : ℕ) (o : Option ℕ) (m : ℕ → ℕ → Message) → ((r w : ℕ) → is_plain (m r w) ≡ true)
    → ArePlain (to_remote point own o m)
to_remote_plain point own None m h = tt
to_remote_plain point own (Some r) m h = (h r own, tt)

toward_plain : (o : Option Section) (m : ℕ → ℕ → Message) → ((r w : ℕ) → is_plain (m r w) ≡ true) → ArePlain (toward o m)
toward_plain None m h = tt
toward_plain (Some s) m h = to_remote_plain s.point s.own s.remote m h

known_at : (l : List Section) (origin dlr : ℕ) (s : Section) → known l origin dlr ≡ Some s
    → (section_at l dlr ≡ Some s) × (s.point ≡ origin)
known_at l origin dlr s h =
    ⊎_elim
    (λ (none : section_at l dlr ≡ None). absurd (let g : None
    ≡ Some s = sym (ap (λ (o : Option Section). option_and_then (if_from origin) o) none) ∙ h in cc))
    (λ (some : (t : Section) × (section_at l dlr ≡ Some t)).
    let g : if_from origin some.0 ≡ Some s = sym (ap (λ (o : Option Section). option_and_then (if_from origin) o) some.1) ∙ h in
    elim (some.0.point == origin) as (λ b. (some.0.point == origin) ≡ b → cond b (Some some.0) None ≡ Some s
    → (section_at l dlr ≡ Some s) × (s.point ≡ origin)) [
      | true ↦ λ e k. let f : some.0 ≡ s = cc in (
        some.1 ∙ ap Some f,
        ap (λ (x : Section). x.point) (sym f)
            ∙ eqb-true some.0.point origin e,
      )
      | false ↦ λ e k. absurd (let z : None ≡ Some s = k in cc)
    ] refl g)
    (option_cases (section_at l dlr))

no_answer : false ≡ true → ⊥
no_answer h = cc

at_known : (l : List Section) (origin dlr : ℕ) (s : Section) → section_at l dlr ≡ Some s → s.point ≡ origin → known l origin dlr ≡ Some s
at_known l origin dlr s h k = ap (λ (o : Option Section). option_and_then (if_from origin) o) h
    ∙ ap (λ (b : Bool). cond b (Some s) None) (eq-eqb s.point origin k)

request_turn : (l : List Section) (origin slr class : ℕ) (called : Address) (params : List Parameter) (way : Way) →
    TurnOf l (record { origin = origin; message = messages.Cr slr class called params; way = way }) (on_request l origin slr class way)
request_turn l origin slr class called params (Refused cause) =
    let event : Event = record { origin = origin; message = messages.Cr slr class called params; way = Refused cause } in
    elim (list_any (is_near_of origin slr) l) as (λ b. TurnOf l event
    (cond b (only_sends l []) (request_goes l origin slr class (Refused cause)))) [
      | true ↦ Plain refl (λ dlr s h. absurd (no_answer h)) tt (same_loses l)
      | false ↦ Plain refl (λ dlr s h. absurd (no_answer h)) (refl, tt) (same_loses l)
    ]
request_turn l origin slr class called params (Onward to called_on params_on) =
    let event : Event = record { origin = origin; message = messages.Cr slr class called params; way = Onward to called_on params_on } in
    elim (list_any (is_near_of origin slr) l) as (λ b. TurnOf l event
    (cond b (only_sends l []) (request_goes l origin slr class (Onward to called_on params_on)))) [
      | true ↦ Plain refl (λ dlr s h. absurd (no_answer h)) tt (same_loses l)
      | false ↦ elim (nat_lt 4094 (length l)) as (λ b. TurnOf l event
          (cond b (only_sends l (to_one origin (messages.Cref slr 7 [])))
          (record {
            sections = with_pair (first_new l) (second_new l) origin slr to l;
            sent = to_one to
                (messages.Cr (second_new l) class called_on params_on);
          }))) [
            | true ↦ Plain refl (λ dlr s h. absurd (no_answer h)) (refl, tt) (same_loses l)
            | false ↦ Requests slr class to called params called_on params_on refl refl refl
          ]
    ]

confirm_turn : (l : List Section) → IsCoupling l → (origin : ℕ) (way : Way) (dlr slr class : ℕ) (params : List Parameter)
    (o : Option Section) → ((s : Section) → o ≡ Some s → (section_at l dlr ≡ Some s) × (s.point ≡ origin))
    → ((s : Section) → section_at l dlr ≡ Some s → s.point ≡ origin → o ≡ Some s) →
    TurnOf l (record { origin = origin; message = messages.Cc dlr slr class params; way = way }) (on_confirm l origin slr class params o)
confirm_turn l c origin way dlr slr class params None h back =
    Plain refl (λ d s e at point near none. let g : None
    ≡ Some s = back s (subst (λ (n : ℕ). section_at l n ≡ Some s) (sym (eqb-true dlr d e)) at) point in absurd (cc)) (refl, tt)
    (same_loses l)
confirm_turn l c origin way dlr slr class params (Some s) h back =
    let event : Event = record { origin = origin; message = messages.Cc dlr slr class params; way = way } in
    let at = h s refl in
    let sent : List Answer = toward (other_of l s) (λ remote own. messages.Cc remote own class params) in
    elim (not s.near && is_none s.remote) as (λ b. (not s.near && is_none s.remote) ≡ b
    → TurnOf l event (cond b (record { sections = changed (confirmed slr) s.own l; sent = sent })
    (only_sends l (cond (is_that s.remote slr) [] (to_one origin (messages.Err slr 1)))))) [
      | true ↦ λ e.
          let parts = and_parts (not s.near) (is_none s.remote) e in
          let none : s.remote ≡ None = is_none_true s.remote parts.1 in
          ⊎_elim
          (λ (alone : s.other ≡ None). absurd (c.released_has_remote dlr s at.0 alone none))
          (λ (o : (o : ℕ) × (s.other ≡ Some o)).
          let j = c.joined dlr s o.0 at.0 o.1 in
          let is_near : j.0.near ≡ true = j.3 ∙ parts.0 in
          ⊎_elim
          (λ (lost : j.0.remote ≡ None). absurd (c.near_has_remote o.0 j.0 j.1 is_near lost))
          (λ (r : (r : ℕ) × (j.0.remote ≡ Some r)).
          Confirms dlr slr class o.0 r.0 params s j.0 refl at.0 at.1 (not-true s.near parts.0) none o.1 j.1 is_near j.2 r.1
          (ap (λ (n : ℕ). changed (confirmed slr) n l) (own_at l dlr s at.0))
          (ap (λ (x : Option ℕ). toward (option_and_then (section_at l) x) (λ remote own. messages.Cc remote own class params)) o.1
          ∙ ap (λ (x : Option Section). toward x (λ remote own. messages.Cc remote own class params)) j.1
          ∙ ap (λ (x : Option ℕ). to_remote j.0.point j.0.own x (λ remote own. messages.Cc remote own class params)) r.1
          ∙ ap (λ (x : ℕ). to_one j.0.point (messages.Cc r.0 x class params)) (own_at l o.0 j.0 j.1)))
          (option_cases j.0.remote))
          (option_cases s.other)
      | false ↦ λ e.
          let not_it : ConfirmsNone l event = λ d u f at point near none.
          let g : Some s ≡ Some u = back u (subst (λ (n : ℕ). section_at l n ≡ Some u) (sym (eqb-true dlr d f)) at) point in
          let same : s ≡ u = cc in
          no_answer (sym e ∙ (ap (λ (x : Section). not x.near && is_none x.remote) same ∙ ap (λ (b : Bool). not b && is_none u.remote) near
          ∙ ap (λ (o : Option ℕ). is_none o) none)) in
          elim (is_that s.remote slr) as (λ b. TurnOf l event (only_sends l (cond b [] (to_one origin (messages.Err slr 1))))) [
            | true ↦ Plain refl not_it tt (same_loses l)
            | false ↦ Plain refl not_it (refl, tt) (same_loses l)
          ]
    ] refl

refusal_turn : (l : List Section) (event : Event) → data_of event.message ≡ None → ConfirmsNone l event
    → (cause : ℕ) (params : List Parameter) (o : Option Section) → TurnOf l event (on_refusal l cause params o)
refusal_turn l event none unheard cause params None = Plain none unheard tt (same_loses l)
refusal_turn l event none unheard cause params (Some s) =
    elim (not s.near && is_none s.remote) as (λ b. TurnOf l event
    (cond b (record { sections = without_both s l; sent = toward (other_of l s) (λ remote own. messages.Cref remote cause params) })
    (only_sends l []))) [
      | true ↦ Plain none unheard (toward_plain (other_of l s) (λ remote own. messages.Cref remote cause params) (λ r w. refl))
          (both_loses l s)
      | false ↦ Plain none unheard tt (same_loses l)
    ]

release_goes_turn : (l : List Section) (event : Event) → data_of event.message ≡ None → ConfirmsNone l event
    → (s : Section) (complete : List Answer) → ArePlain complete → (cause : ℕ) (params : List Parameter) (o : Option ℕ)
    → TurnOf l event (release l s complete cause params o)
release_goes_turn l event none unheard s complete quiet cause params None = Plain none unheard quiet (without_loses l s.own)
release_goes_turn l event none unheard s complete quiet cause params (Some other) =
    elim (has_remote (section_at l other)) as (λ b. TurnOf l event
    (cond b (record {
      sections = changed released other (without s.own l);
      sent = complete
          ++ toward (section_at l other) (λ remote own. messages.Rlsd remote own cause params);
    })
    (record { sections = without_both s l; sent = complete }))) [
      | true ↦ Plain none unheard (Each-append (λ (s : Answer). is_plain s.message ≡ true) complete
          (toward (section_at l other) (λ remote own. messages.Rlsd remote own cause params)) quiet
          (toward_plain (section_at l other) (λ remote own. messages.Rlsd remote own cause params) (λ r w. refl)))
          (loses_twice l (without s.own l) (changed released other (without s.own l)) (without_loses l s.own)
          (released_loses (without s.own l) other))
      | false ↦ Plain none unheard quiet (both_loses l s)
    ]

release_turn : (l : List Section) (event : Event) → data_of event.message ≡ None → ConfirmsNone l event
    → (origin dlr slr cause : ℕ) (params : List Parameter) (o : Option Section)
    → TurnOf l event (on_release l origin dlr slr cause params o)
release_turn l event none unheard origin dlr slr cause params None = Plain none unheard (refl, tt) (same_loses l)
release_turn l event none unheard origin dlr slr cause params (Some s) =
    elim (is_that s.remote slr) as (λ b. TurnOf l event (cond b (release l s (to_one origin (messages.Rlc slr dlr)) cause params s.other)
    (only_sends l (to_one origin (messages.Err slr 1))))) [
      | true ↦ release_goes_turn l event none unheard s (to_one origin (messages.Rlc slr dlr)) (refl, tt) cause params s.other
      | false ↦ Plain none unheard (refl, tt) (same_loses l)
    ]

complete_turn : (l : List Section) (event : Event) → data_of event.message ≡ None → ConfirmsNone l event → (slr : ℕ) (o : Option Section)
    → TurnOf l event (on_complete l slr o)
complete_turn l event none unheard slr None = Plain none unheard tt (same_loses l)
complete_turn l event none unheard slr (Some s) =
    elim (is_none s.other && is_that s.remote slr) as (λ b. TurnOf l event
    (cond b (record { sections = without s.own l; sent = [] }) (only_sends l []))) [
      | true ↦ Plain none unheard tt (without_loses l s.own)
      | false ↦ Plain none unheard tt (same_loses l)
    ]

data_turn : (l : List Section) (event : Event) (dlr : ℕ) (more : Bool) (payload : List ℕ) → event.message ≡ messages.Dt1 dlr more payload
    → (o : Option Section) → TurnOf l event (on_data l more payload o)
data_turn l event dlr more payload is None = Passes dlr more payload is refl
data_turn l event dlr more payload is (Some s) = Passes dlr more payload is refl

turn_by : (l : List Section) → IsCoupling l → (origin : ℕ) (way : Way) (m : Message)
    → Turn l (record { origin = origin; message = m; way = way })
turn_by l c origin way (messages.Cr slr class called params) = request_turn l origin slr class called params way
turn_by l c origin way (messages.Cc dlr slr class params) = confirm_turn l c origin way dlr slr class params (known l origin dlr)
    (known_at l origin dlr) (at_known l origin dlr)
turn_by l c origin way (messages.Cref dlr cause params) =
    refusal_turn l (record { origin = origin; message = messages.Cref dlr cause params; way = way }) refl
    (λ dlr s h. absurd (no_answer h)) cause params (known l origin dlr)
turn_by l c origin way (messages.Rlsd dlr slr cause params) =
    release_turn l (record { origin = origin; message = messages.Rlsd dlr slr cause params; way = way }) refl
    (λ dlr s h. absurd (no_answer h)) origin dlr slr cause params (known l origin dlr)
turn_by l c origin way (messages.Rlc dlr slr) = complete_turn l (record { origin = origin; message = messages.Rlc dlr slr; way = way }) refl
    (λ dlr s h. absurd (no_answer h)) slr (known l origin dlr)
turn_by l c origin way (messages.Dt1 dlr more payload) =
    data_turn l (record { origin = origin; message = messages.Dt1 dlr more payload; way = way }) dlr more payload refl (known l origin dlr)
turn_by l c origin way _ = Plain refl (λ dlr s h. absurd (no_answer h)) tt (same_loses l)

pub turn : (l : List Section) → IsCoupling l → (event : Event) → Turn l event
turn l c event = turn_by l c event.origin event.way event.message
