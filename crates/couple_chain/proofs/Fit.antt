-- What a relay sends for a message that it can handle is again such a message.
use Rattle.std.specs.Prelude.{ℕ, ◌≡◌, ◌==◌, nat_lt, Bool, true, false, not, cond, ◌&&◌, List, [], ◌∷◌, ◌++◌, length, find, Option, Some}
use Rattle.std.specs.Prelude.{None, is_none, option_map, Ok, refl}
use Rattle.std.specs.List.{list_any, AllByRecursion}
use Rattle.std.proofs.Common.{sym, ◌∙◌, ap, subst}
use Rattle.std.proofs.lemmas.Bool.{eqb-true}
use Rattle.sccp_base.specs.Bits.{bits}
use Rattle.sccp_base.specs.Marks.{holds}
use Rattle.sccp_base.specs.declared.mark.Mark.{Mark}
use Rattle.sccp_base.specs.declared.mark.Mark.TheVariants.{Subsystem}
use Rattle.sccp_address.specs.declared.address.Address.{Address}
use Rattle.sccp_address.specs.Written.{IsAddress}
use Rattle.sccp_layout.specs.Joining.{are_short}
use Rattle.sccp_layout.specs.Parameter.{Parameter, parameter}
use Rattle.sccp_layout.specs.Table as names
use Rattle.sccp_message.specs.declared.message.Message.{Message}
use Rattle.sccp_message.specs.declared.message.Message.TheVariants as messages
use Rattle.sccp_message.specs.Fields.{param, field_reads, reads_if, first_unread}
use Rattle.sccp_message.specs.Reading.{reading}
use Rattle.sccp_message.specs.Written.{AreNamed, message_octets}
use Rattle.plan_model.specs.declared.hop.Step.{Step}
use Rattle.plan_model.specs.declared.hop.Step.TheVariants as steps
use Rattle.plan_model.specs.declared.spot.Spot.{Spot}
use Rattle.plan_model.specs.Network.{Network, IsPlan}
use Rattle.plan_model.specs.Steps.{step}
use Rattle.plan_model.proofs.Leading.{Facts, step_facts}
use Rattle.sccp_scrc.specs.Arriving.{point_of, subsystems_of}
use Rattle.sccp_scrc.specs.Rewriting.{spot_of, to_place}
use Rattle.sccp_scrc.proofs.Addresses.{IsSpot, IsSpot-sent, IsAddress-relay, IsAddress-place}
use Rattle.sccp_scrc.proofs.Arrivals.{is_spot, ended_ssn}
use Rattle.sccp_scrc.proofs.Redirected.{reads_again}
use Rattle.sccp_couple.specs.declared.section.Section.{Section}
use Rattle.sccp_couple.specs.declared.way.Way.{Way}
use Rattle.sccp_couple.specs.declared.way.Way.TheVariants.{Refused, Onward}
use Rattle.sccp_couple.specs.Sections.{is_that, section_at, known, other_of, has_remote, is_established, is_near_of, changed, confirmed}
use Rattle.sccp_couple.specs.Sections.{released, without, without_both, with_pair, first_new, second_new}
use Rattle.sccp_couple.specs.Events.{Answer, Outcome}
use Rattle.sccp_couple.specs.Coupling.{coupled, on_message, request_goes, on_confirm, on_refusal, on_data, on_release, release, on_complete}
use Rattle.sccp_couple.specs.Coupling.{toward, to_remote, to_one, only_sends}
use Rattle.sccp_couple.specs.Ways.{counted, count_first, at_subsystem, after_step, translated, is_used_up, request_way, way_of, event_of}
use Rattle.sccp_couple.proofs.Counting.{count_short}
use Rattle.couple_chain.specs.Fit.{IsFit}

-- ---- the parameters of a request that goes on

-- a hop counter has one octet
counter : (name n : ℕ) → name ≡ names.hops → field_reads name (n ∷ []) ≡ true
counter name n e = subst (λ (m : ℕ). field_reads m (n ∷ []) ≡ true) (sym e) refl

abbrev octets_in : Option Parameter → Option (List ℕ)
octets_in o = option_map (λ (p : Parameter). p.octets) o

abbrev first_named : ℕ → List Parameter → Option Parameter
first_named name params = find (λ (p : Parameter). p.name == name) params

reads_counted : (name : ℕ) (params : List Parameter) → reads_if name (param params name) ≡ true
    → reads_if name (param (count_first params) name) ≡ true
reads_counted name [] h = h
reads_counted name (p ∷ params) h =
    elim (p.name == names.hops) as (λ b. (p.name == names.hops) ≡ b
    → reads_if name (param (cond b (parameter p.name (counted p.octets) ∷ params) (p ∷ count_first params)) name) ≡ true) [
      | true ↦ λ e.
          elim (p.name == name) as (λ b. (p.name == name) ≡ b → reads_if name (octets_in (cond b (Some p) (first_named name params))) ≡ true
          → reads_if name (octets_in (cond b (Some (parameter p.name (counted p.octets))) (first_named name params))) ≡ true) [
            | true ↦ λ f k. counter name _ (sym (eqb-true p.name name f) ∙ eqb-true p.name names.hops e)
            | false ↦ λ f k. k
          ] refl h
      | false ↦ λ e.
          elim (p.name == name) as (λ b. reads_if name (octets_in (cond b (Some p) (first_named name params))) ≡ true
          → reads_if name (octets_in (cond b (Some p) (first_named name (count_first params)))) ≡ true) [
            | true ↦ λ k. k
            | false ↦ λ k. reads_counted name params k
          ] h
    ] refl

unread_counted : (ns : List ℕ) (params : List Parameter) → first_unread ns params ≡ None → first_unread ns (count_first params) ≡ None
unread_counted [] params h = refl
unread_counted (n ∷ ns) params h =
    elim (reads_if n (param params n)) as (λ b. reads_if n (param params n) ≡ b → cond b (first_unread ns params) (Some n) ≡ None
    → first_unread (n ∷ ns) (count_first params) ≡ None) [
      | true ↦ λ e k. ap (λ (b : Bool). cond b (first_unread ns (count_first params)) (Some n)) (reads_counted n params e)
          ∙ unread_counted ns params k
      | false ↦ λ e k. absurd (let z : Some n ≡ None = k in cc)
    ] refl h

named_counted : (params : List Parameter) → AreNamed params → AreNamed (count_first params)
named_counted [] h = tt
named_counted (p ∷ params) h =
    elim (p.name == names.hops) as (λ b. AreNamed (cond b (parameter p.name (counted p.octets) ∷ params) (p ∷ count_first params))) [
      | true ↦ (h.0, h.1)
      | false ↦ (h.0, named_counted params h.1)
    ]

-- ---- what the plan makes of a request

abbrev of_request : List ℕ
of_request = names.credit ∷ names.calling ∷ names.payload ∷ names.hops ∷ names.importance ∷ []

record AreFitParams (params : List Parameter) : Type 0 where
  pub named : AreNamed params
  pub sound : first_unread of_request params ≡ None
  pub short : are_short params ≡ true

fit_counted : (params : List Parameter) → AreFitParams params → AreFitParams (count_first params)
fit_counted params h = record
    { named = named_counted params h.named; sound = unread_counted of_request params h.sound; short = count_short params h.short }

abbrev FitsOn : Way → Type 0
FitsOn (Refused cause) = Unit {0}
FitsOn (Onward to called params) = IsAddress called × AreFitParams params

either : (b : Bool) (v w : Way) → FitsOn v → FitsOn w → FitsOn (cond b v w)
either true v w h k = h
either false v w h k = k

subsystem_fits : (plan : Network) (node : ℕ) (marking : List Mark) (o : Option ℕ) → FitsOn (at_subsystem plan node marking o)
subsystem_fits plan node marking None = tt
subsystem_fits plan node marking (Some ssn) =
    either (not (list_any (λ own. own == ssn) (subsystems_of plan node))) (Refused 19)
    (cond (holds marking (Subsystem (point_of plan node) ssn)) (Refused 10) (Refused 6)) tt
    (either (holds marking (Subsystem (point_of plan node) ssn)) (Refused 10) (Refused 6) tt tt)

after_fits : (plan : Network) (node : ℕ) (marking : List Mark) (called : Address) (params : List Parameter) (s : Spot) (x : Step)
    → IsPlan plan → IsAddress called → AreFitParams params → IsSpot s → Facts plan s marking x
    → FitsOn (after_step plan node called params x)
after_fits plan node marking called params s (steps.Sent next target) is h k spot facts =
    (IsAddress-relay called next (IsSpot-sent plan s next is spot facts), fit_counted params k)
after_fits plan node marking called params s (steps.Ended pc ssn target) is h k spot facts =
    either (pc == point_of plan node) (Refused 6) (Onward pc (to_place called ssn) (count_first params)) tt
    (IsAddress-place called ssn h (ended_ssn plan s marking pc ssn is spot facts), fit_counted params k)
after_fits plan node marking called params s (steps.Blocked cause marks) is h k spot facts = tt
after_fits plan node marking called params s (steps.NoRow cause) is h k spot facts = tt
after_fits plan node marking called params s steps.Overgrown is h k spot facts = tt

title_fits : (plan : Network) (node : ℕ) (marking : List Mark) (called : Address) (params : List Parameter) (o : Option Spot)
    → spot_of node called ≡ o → IsPlan plan → IsAddress called → AreFitParams params → FitsOn (translated plan node marking called params o)
title_fits plan node marking called params None e is h k = tt
title_fits plan node marking called params (Some s) e is h k = after_fits plan node marking called params s (step plan s marking) is h k
    (is_spot node called s h e) (step_facts plan is s marking)

request_fits : (plan : Network) (node : ℕ) (marking : List Mark) (class : ℕ) (called : Address) (params : List Parameter) → IsPlan plan
    → IsAddress called → AreFitParams params → FitsOn (request_way plan node marking class called params)
request_fits plan node marking class called params is h k =
    let by_title : Way = translated plan node marking called params (spot_of node called) in
    let by_hops : Way = cond (is_used_up (param params names.hops)) (Refused 16) by_title in
    either (not (bits class 1 4 == 2)) (Refused 6) (cond called.by_ssn (at_subsystem plan node marking called.ssn) by_hops) tt
    (either called.by_ssn (at_subsystem plan node marking called.ssn) by_hops (subsystem_fits plan node marking called.ssn)
    (either (is_used_up (param params names.hops)) (Refused 16) by_title tt
    (title_fits plan node marking called params (spot_of node called) refl is h k)))

-- ---- messages that are built

fit_error : (dlr cause : ℕ) → IsFit (messages.Err dlr cause)
fit_error dlr cause = record {
  message = record { addresses = tt; named = tt; sevens_fit = tt };
  sound = refl;
  short = record
      { payload = tt; params = refl };
}

fit_completed : (dlr slr : ℕ) → IsFit (messages.Rlc dlr slr)
fit_completed dlr slr = record {
  message = record { addresses = tt; named = tt; sevens_fit = tt };
  sound = refl;
  short = record
      { payload = tt; params = refl };
}

fit_refused : (dlr cause : ℕ) → IsFit (messages.Cref dlr cause [])
fit_refused dlr cause = record {
  message = record { addresses = tt; named = tt; sevens_fit = tt };
  sound = refl;
  short = record
      { payload = tt; params = refl };
}

fit_refusal : (dlr cause other by : ℕ) (params : List Parameter) → IsFit (messages.Cref dlr cause params)
    → IsFit (messages.Cref other by params)
fit_refusal dlr cause other by params h =
    record {
      message = record { addresses = tt; named = h.message.named; sevens_fit = tt };
      sound = h.sound;
      short = record
          { payload = tt; params = h.short.params };
    }

fit_confirm : (dlr slr class other own : ℕ) (params : List Parameter) → IsFit (messages.Cc dlr slr class params)
    → IsFit (messages.Cc other own class params)
fit_confirm dlr slr class other own params h =
    record {
      message = record { addresses = tt; named = h.message.named; sevens_fit = tt };
      sound = h.sound;
      short = record
          { payload = tt; params = h.short.params };
    }

fit_release : (dlr slr cause other own : ℕ) (params : List Parameter) → IsFit (messages.Rlsd dlr slr cause params)
    → IsFit (messages.Rlsd other own cause params)
fit_release dlr slr cause other own params h =
    record {
      message = record { addresses = tt; named = h.message.named; sevens_fit = tt };
      sound = h.sound;
      short = record
          { payload = tt; params = h.short.params };
    }

fit_data : (dlr other : ℕ) (more : Bool) (payload : List ℕ) → IsFit (messages.Dt1 dlr more payload)
    → IsFit (messages.Dt1 other more payload)
fit_data dlr other more payload h = record {
  message = record { addresses = tt; named = tt; sevens_fit = tt };
  sound = refl;
  short = record
      { payload = h.short.payload; params = refl };
}

fit_request : (slr class : ℕ) (called : Address) (params : List Parameter) → IsAddress called → AreFitParams params
    → IsFit (messages.Cr slr class called params)
fit_request slr class called params h k =
    record {
      message = record { addresses = (h, tt); named = k.named; sevens_fit = tt };
      sound = k.sound;
      short = record
          { payload = tt; params = k.short };
    }

-- ---- what is sent

abbrev AreFit : List Answer → Type 0
AreFit sent = AllByRecursion (λ (a : Answer). IsFit a.message) sent

fit_append : (xs ys : List Answer) → AreFit xs → AreFit ys → AreFit (xs ++ ys)
fit_append [] ys h k = k
fit_append (x ∷ xs) ys h k = (h.0, fit_append xs ys h.1 k)

pick : (b : Bool) (x y : Outcome) → AreFit x.sent → AreFit y.sent → AreFit (cond {A = Outcome} b x y).sent
pick true x y h k = h
pick false x y h k = k

pick_sent : (b : Bool) (x y : List Answer) → AreFit x → AreFit y → AreFit (cond {A = List Answer} b x y)
pick_sent true x y h k = h
pick_sent false x y h k = k

to_remote_fit : (point own : ℕ) (o : Option ℕ) (m : ℕ → ℕ → Message) → ((r w : ℕ) → IsFit (m r w)) → AreFit (to_remote point own o m)
to_remote_fit point own None m h = tt
to_remote_fit point own (Some r) m h = (h r own, tt)

toward_fit : (o : Option Section) (m : ℕ → ℕ → Message) → ((r w : ℕ) → IsFit (m r w)) → AreFit (toward o m)
toward_fit None m h = tt
toward_fit (Some s) m h = to_remote_fit s.point s.own s.remote m h

goes_fit : (l : List Section) (origin slr class : ℕ) (way : Way) → FitsOn way → AreFit (request_goes l origin slr class way).sent
goes_fit l origin slr class (Refused cause) h = (fit_refused slr cause, tt)
goes_fit l origin slr class (Onward to called params) h =
    pick (nat_lt 4094 (length l)) (only_sends l (to_one origin (messages.Cref slr 7 [])))
    (record {
      sections = with_pair (first_new l) (second_new l) origin slr to l;
      sent = to_one to
          (messages.Cr (second_new l) class called params);
    })
    (fit_refused slr 7, tt) (fit_request (second_new l) class called params h.0 h.1, tt)

confirm_fit : (l : List Section) (origin dlr slr class : ℕ) (params : List Parameter) (o : Option Section)
    → IsFit (messages.Cc dlr slr class params) → AreFit (on_confirm l origin slr class params o).sent
confirm_fit l origin dlr slr class params None h = (fit_error slr 0, tt)
confirm_fit l origin dlr slr class params (Some s) h =
    pick (not s.near && is_none s.remote)
    (record {
      sections = changed (confirmed slr) s.own l;
      sent = toward (other_of l s)
          (λ remote own. messages.Cc remote own class params);
    })
    (only_sends l (cond (is_that s.remote slr) [] (to_one origin (messages.Err slr 1))))
    (toward_fit (other_of l s) (λ remote own. messages.Cc remote own class params) (λ r w. fit_confirm dlr slr class r w params h))
    (pick_sent (is_that s.remote slr) [] (to_one origin (messages.Err slr 1)) tt (fit_error slr 1, tt))

refusal_fit : (l : List Section) (dlr cause : ℕ) (params : List Parameter) (o : Option Section) → IsFit (messages.Cref dlr cause params)
    → AreFit (on_refusal l cause params o).sent
refusal_fit l dlr cause params None h = tt
refusal_fit l dlr cause params (Some s) h =
    pick (not s.near && is_none s.remote)
    (record { sections = without_both s l; sent = toward (other_of l s) (λ remote own. messages.Cref remote cause params) })
    (only_sends l [])
    (toward_fit (other_of l s) (λ remote own. messages.Cref remote cause params) (λ r w. fit_refusal dlr cause r cause params h))
    tt

data_fit : (l : List Section) (dlr : ℕ) (more : Bool) (payload : List ℕ) (o : Option Section) → IsFit (messages.Dt1 dlr more payload)
    → AreFit (on_data l more payload o).sent
data_fit l dlr more payload None h = tt
data_fit l dlr more payload (Some s) h =
    pick_sent (is_established l s) (toward (other_of l s) (λ remote own. messages.Dt1 remote more payload)) []
    (toward_fit (other_of l s) (λ remote own. messages.Dt1 remote more payload) (λ r w. fit_data dlr r more payload h)) tt

goes_release_fit : (l : List Section) (s : Section) (complete : List Answer) (dlr slr cause : ℕ) (params : List Parameter) (o : Option ℕ)
    → AreFit complete → IsFit (messages.Rlsd dlr slr cause params) → AreFit (release l s complete cause params o).sent
goes_release_fit l s complete dlr slr cause params None h k = h
goes_release_fit l s complete dlr slr cause params (Some other) h k =
    pick (has_remote (section_at l other))
    (record {
      sections = changed released other (without s.own l);
      sent = complete
          ++ toward (section_at l other) (λ remote own. messages.Rlsd remote own cause params);
    })
    (record { sections = without_both s l; sent = complete })
    (fit_append complete (toward (section_at l other) (λ remote own. messages.Rlsd remote own cause params)) h
    (toward_fit (section_at l other) (λ remote own. messages.Rlsd remote own cause params)
    (λ r w. fit_release dlr slr cause r w params k)))
    h

release_fit : (l : List Section) (origin dlr slr cause : ℕ) (params : List Parameter) (o : Option Section)
    → IsFit (messages.Rlsd dlr slr cause params) → AreFit (on_release l origin dlr slr cause params o).sent
release_fit l origin dlr slr cause params None h = (fit_completed slr dlr, tt)
release_fit l origin dlr slr cause params (Some s) h =
    pick (is_that s.remote slr) (release l s (to_one origin (messages.Rlc slr dlr)) cause params s.other)
    (only_sends l (to_one origin (messages.Err slr 1)))
    (goes_release_fit l s (to_one origin (messages.Rlc slr dlr)) dlr slr cause params s.other (fit_completed slr dlr, tt) h)
    (fit_error slr 1, tt)

complete_fit : (l : List Section) (slr : ℕ) (o : Option Section) → AreFit (on_complete l slr o).sent
complete_fit l slr None = tt
complete_fit l slr (Some s) = pick (is_none s.other && is_that s.remote slr) (record { sections = without s.own l; sent = [] })
    (only_sends l []) tt tt

message_fit : (plan : Network) (node : ℕ) (marking : List Mark) (l : List Section) (origin : ℕ) (m : Message) → IsPlan plan → IsFit m
    → AreFit (on_message l origin (way_of plan node marking m) m).sent
message_fit plan node marking l origin (messages.Cr slr class called params) is h =
    let way : Way = request_way plan node marking class called params in
    pick (list_any (is_near_of origin slr) l) (only_sends l []) (request_goes l origin slr class way) tt
    (goes_fit l origin slr class way (request_fits plan node marking class called params is h.message.addresses.0
    (record { named = h.message.named; sound = h.sound; short = h.short.params })))
message_fit plan node marking l origin (messages.Cc dlr slr class params) is h =
    confirm_fit l origin dlr slr class params (known l origin dlr) h
message_fit plan node marking l origin (messages.Cref dlr cause params) is h = refusal_fit l dlr cause params (known l origin dlr) h
message_fit plan node marking l origin (messages.Rlsd dlr slr cause params) is h =
    release_fit l origin dlr slr cause params (known l origin dlr) h
message_fit plan node marking l origin (messages.Rlc dlr slr) is h = complete_fit l slr (known l origin dlr)
message_fit plan node marking l origin (messages.Dt1 dlr more payload) is h = data_fit l dlr more payload (known l origin dlr) h
message_fit plan node marking l origin _ is h = tt

pub sent_fit : (plan : Network) (node : ℕ) (marking : List Mark) (l : List Section) (origin : ℕ) (m : Message) → IsPlan plan → IsFit m
    → AllByRecursion (λ (a : Answer). IsFit a.message) (coupled l (event_of plan node marking origin m)).sent
sent_fit plan node marking l origin m is h = message_fit plan node marking l origin m is h

pub fit_reads : (sent : List Answer) → AllByRecursion (λ (a : Answer). IsFit a.message) sent
    → AllByRecursion (λ (a : Answer). reading (message_octets a.message) ≡ Ok a.message) sent
fit_reads [] h = tt
fit_reads (a ∷ sent) h = (reads_again a.message h.0.message h.0.sound, fit_reads sent h.1)
