-- A connection with nothing before it is refused or opened.
use Rattle.std.specs.Prelude.{ℕ, ◌≡◌, ◌==◌, ◌≤◌, ◌+◌, Bool, true, false, cond, ◌&&◌, List, [], ◌∷◌, ◌++◌, length, map, filter_map, Some}
use Rattle.std.specs.Prelude.{None, refl}
use Rattle.std.specs.Prelude.{is_none, ◌||◌}
use Rattle.std.specs.List.{list_any}
use Rattle.std.proofs.Common.{suc, sym, ◌∙◌, ap, subst, inl, arith}
use Rattle.std.proofs.lemmas.Bool.{eq-eqb}
use Rattle.sccp_message.specs.declared.message.Message.{Message}
use Rattle.sccp_message.specs.declared.message.Message.TheVariants as messages
use Rattle.sccp_message.specs.Written.{IsMessage}
use Rattle.plan_model.specs.Network as plans
use Rattle.sccp_scrc.specs.Unitdata.{write_fault}
use Rattle.sccp_scrc.proofs.Addresses.{few_octets}
use Rattle.sccp_couple.specs.declared.section.Section.{Section}
use Rattle.sccp_couple.specs.Sections.{section_at}
use Rattle.sccp_couple.proofs.Fits.{request_fits}
use Rattle.couple_chain.specs.World.{Network, World, is_node, start, put, put_on, offer_fault, unread, is_writable, names as named}
use Rattle.chain_world.specs.Kept.{kept, network_of}
use Rattle.chain_call.specs.Answered.{IsCall}
use Rattle.chain_call.specs.Course.{Course, beginning, world_at}
use Rattle.chain_call.specs.Notes.{first_request, first_refusal, or_later}
use Rattle.chain_call.specs.Steps.{called_of, counter, requested, confirmed, settled, settled_in, carried_on, name_at, refused_or, on_line}
use Rattle.chain_call.specs.Steps.{if_settled}
use Rattle.chain_call.specs.Steps.{with_line, answer_to, outcome}
use Rattle.chain_call.specs.declared.call.Call.{Call}
use Rattle.chain_call.specs.declared.handed.Handed.{Handed}
use Rattle.chain_call.specs.declared.note.Note.TheVariants.{Request, Refusal}
use Rattle.chain_call.specs.declared.outcome.Outcome.{Outcome}
use Rattle.chain_call.specs.declared.outcome.Outcome.TheVariants.{Refused, Opened as opened}
use Rattle.chain_call.proofs.Tokens.{sections_at}
use Rattle.chain_call.proofs.Hops.{Hop, waits_more}
use Rattle.chain_call.proofs.HopSteps.{Opens, Crossed}
use Rattle.chain_call.proofs.Courses.{network_at, after_offer, offer_is, world_offered, no_fault, next_empty, turns_end}
use Rattle.chain_call.proofs.Requests.{S, Enters, Asked, Denied, Answer, is_asked, is_denied, Calling, Goes, Fine, request}
use Rattle.chain_call.proofs.Confirms.{Opened, Confirming, before, confirm}
use Rattle.chain_call.proofs.OpenLines.{has_line, no_line}

pub settled_is : (c : Course) → settled c ≡ settled_in 18446744073709551615 c
unfolding settled
settled_is c = refl

-- ---- the request is offered

abbrev request_of : Call → Message
request_of call = messages.Cr 1 2 (called_of call) counter

request_message : (plan : plans.Network) (call : Call) → IsCall plan call → IsMessage (request_of call)
request_message plan call is = record { addresses = (is.called, tt); named = ((λ e. cc), tt); sevens_fit = tt }

request_writable : (plan : plans.Network) (call : Call) → IsCall plan call → is_writable (request_of call) ≡ true
request_writable plan call is =
    let room = few_octets false false call.ssn call.selector call.digits is.called.title.1 in
    let fits : write_fault (request_of call) ≡ None = request_fits 1 2 (called_of call) counter room refl in
    ap (λ o. is_none o && is_none (unread (request_of call))) fits

not_used : (from : ℕ) (nodes : List ℕ) → list_any (λ to. list_any (named 1) (put_on start from to)) nodes ≡ false
not_used from [] = refl
not_used from (n ∷ nodes) = not_used from nodes

no_section : {A : Type 0} (s : Section) → None ≡ Some s → A
no_section s e = absurd (cc)

called_first : (plan : plans.Network) (call : Call) → IsCall plan call →
    (requested call (beginning (kept plan [])) ≡ after_offer call.from call.entry (request_of call) (beginning (kept plan [])))
    × Calling (after_offer call.from call.entry (request_of call) (beginning (kept plan []))) call.from call.entry call.entry []
    (called_of call) 15
unfolding requested
called_first plan call is =
    let c : Course = beginning (kept plan []) in
    let m : Message = request_of call in
    let none : offer_fault (network_of plan) start call.from call.entry m ≡ None =
    no_fault (network_of plan) start call.from call.entry m is.from is.entry refl (not_used call.from (network_of plan).nodes)
    (request_writable plan call is) in
    let then : Course = after_offer call.from call.entry m c in
    let e : world_at then ≡ put start call.from call.entry m = world_offered call.from call.entry m c none in
    let nothing : (p own : ℕ) (s : Section) → section_at (S then p) own ≡ Some s → None ≡ Some s = λ p own s at.
    sym (ap (λ v. section_at (sections_at v p) own) e) ∙ at in (
      offer_is call.from call.entry m c (request_message plan call is) none,
      record {
        holds = λ a b. ap (λ (v : World). v.waiting a b) e;
        asks = record {
          outer = is.from;
          waits = tt;
          all = λ p own s at. no_section s (nothing p own s at);
          few = λ p. let f = ap (λ v. length (sections_at v p)) e in omega (arith, f);
          named = λ p own s at near. no_section s (nothing p own s at);
          first = λ p own s at near point remote. no_section s (nothing p own s at);
        };
        left = refl;
        some = omega arith;
        enters = refl;
        inner = is.entry;
        unused = λ a b outer. ap (λ v. list_any (named 2) (put_on v a b)) e
            ∙ elim ((a == call.from) && (b == call.entry)) as (λ k. list_any (named 2) (cond k (m ∷ []) []) ≡ false)
            [ true ↦ refl | false ↦ refl ];
        offers = refl;
        deliveries = refl;
        handed = refl;
      },
    )

-- ---- the request was refused

-- of an outcome that is refused, with this cause
denied_outcome : (plan : plans.Network) (call : Call) (c : Course) (cause : ℕ) → Denied c plan call.from cause
    → answer_to call c ≡ Refused cause
unfolding answer_to with_line confirmed
denied_outcome plan call c cause d =
    let h : Handed = record { from = d.point; to = call.from; note = Refusal cause } in
    let idle : settled c ≡ Some c = settled_is c ∙ turns_end 18446744073709551615 c (next_empty c d.empty) (omega arith) in
    ap (λ (l : List Handed). if_settled (with_line call) (settled (confirmed (first_request l) c))) d.handed
    ∙ ap (if_settled (with_line call)) idle
    ∙ ap (on_line call c) (no_line (network_at c) (world_at c) call.from (λ p own s at. d.none p own s at))
    ∙ ap (λ (l : List Handed). refused_or (first_refusal call.from l)) d.handed
    ∙ ap (λ (b : Bool). refused_or (or_later (cond b (Some cause) None) None)) (eq-eqb call.from call.from refl)

-- ---- it came to an end, which confirms it

abbrev asked_handed : ℕ → Hop → List Handed
asked_handed y h = record { from = h.node; to = y; note = Request h.far } ∷ []

no_use : (w : World) (y : ℕ) (nodes : List ℕ) → ((to : ℕ) → list_any (named 2) (put_on w y to) ≡ false)
    → list_any (λ to. list_any (named 2) (put_on w y to)) nodes ≡ false
no_use w y [] h = refl
no_use w y (n ∷ nodes) h = ap (λ (b : Bool). b || list_any (λ to. list_any (named 2) (put_on w y to)) nodes) (h n) ∙ no_use w y nodes h

crossed_nothing : (back : List Hop) → Crossed back []
crossed_nothing [] = tt
crossed_nothing (h ∷ back) = (tt, crossed_nothing back)

asked_then : (plan : plans.Network) (from entry y : ℕ) (h : Hop) (hops : List Hop) (c : Course) → is_node (network_at c) from ≡ false
    → Asked c plan from entry y h hops →
    (confirmed (first_request c.handed) c ≡ after_offer y h.node (messages.Cc h.far 2 2 []) c)
    × Confirming (after_offer y h.node (messages.Cc h.far 2 2 []) c) from y (h ∷ hops) [] (asked_handed y h)
unfolding confirmed
asked_then plan from entry y h hops c outer a =
    let w : World = world_at c in
    let m : Message = messages.Cc h.far 2 2 [] in
    let none : offer_fault (network_at c) w y h.node m ≡ None =
    no_fault (network_at c) w y h.node m a.outer a.waits.0.inner refl
    (no_use w y (network_at c).nodes (λ to. a.unused y to a.outer)) refl in
    let e : world_at (after_offer y h.node m c) ≡ put w y h.node m = world_offered y h.node m c none in
    let keeps : (p own : ℕ) (s : Section) → section_at (S c p) own ≡ Some s → section_at (S (after_offer y h.node m c) p) own ≡ Some s =
    λ p own s at. ap (λ v. section_at (sections_at v p) own) e ∙ at in (
      ap (λ (l : List Handed). confirmed (first_request l) c) a.handed
          ∙ offer_is y h.node m c (record { addresses = tt; named = tt; sevens_fit = tt }) none,
      record {
        outer = outer;
        holds = λ p q. ap (λ (v : World). v.waiting p q) e
            ∙ ap (λ (l : List Message). cond ((p == y) && (q == h.node)) (l ++ m ∷ []) (w.waiting p q)) (a.empty y h.node)
            ∙ ap (λ (l : List Message). cond ((p == y) && (q == h.node)) (m ∷ []) l) (a.empty p q);
        accepts = record {
          waits = waits_more (network_at c) (S c) (S (after_offer y h.node m c)) from y (h ∷ hops) keeps a.waits;
          opens = tt;
          crossed = crossed_nothing (h ∷ hops);
          all = λ p own s at. inl (a.all p own s (sym (ap (λ v. section_at (sections_at v p) own) e) ∙ at));
        };
        offers = (let o = a.offers in omega (arith, o));
        deliveries = (let d = a.deliveries in let f = a.few in omega (arith, d, f));
        handed = a.handed;
      },
    )

-- the first of the relays is the one that the end sent its request to
pub record Front (entry : ℕ) (list : List Hop) (count : ℕ) : Type 0 where
  pub first : Hop
  pub rest : List Hop
  pub is : list ≡ first ∷ rest
  pub node : first.node ≡ entry
  pub long : length rest ≡ count

pub front_of : (entry : ℕ) (h : Hop) (back hops : List Hop) → Enters entry h back
    → Front entry (before (h ∷ back) hops) (length back + length hops)
front_of entry h [] hops e = record { first = h; rest = hops; is = refl; node = e; long = omega arith }
front_of entry h (g ∷ back) hops e =
    let r = front_of entry g back (h ∷ hops) e in
    record { first = r.first; rest = r.rest; is = r.is; node = r.node; long = (let l = r.long in omega (arith, l)) }

-- the outcome over open relays
pub record IsOpened (plan : plans.Network) (call : Call) (out : Outcome) (end : ℕ) (h : Hop) (back : List Hop) : Type 0 where
  pub course : Course
  pub front : Front call.entry (before (h ∷ back) []) (length back)
  pub few : length back ≤ 13
  pub outer : is_node (network_of plan) end ≡ false
  pub is : Opened course plan call.from end (before (h ∷ back) []) (asked_handed end h)
  pub out_is : out ≡ opened (filter_map (name_at plan) (map (λ (g : Hop). g.node) (before (h ∷ back) []))) end (carried_on call end course)

pub data Answered (plan : plans.Network) (call : Call) (out : Outcome) : Type 0 where
  refused : (cause : ℕ) → out ≡ Refused cause → Answered plan call out
  connected : (end : ℕ) (h : Hop) (back : List Hop) → IsOpened plan call out end h back → Answered plan call out

asked_outcome : (plan : plans.Network) (call : Call) (c : Course) (y : ℕ) (h : Hop) (hops : List Hop) → IsCall plan call
    → Asked c plan call.from call.entry y h hops → IsOpened plan call (answer_to call c) y h hops
unfolding answer_to with_line
asked_outcome plan call c y h hops is a =
    let same : network_at c ≡ network_of plan = ap network_of a.plan_is in
    let outer : is_node (network_at c) call.from ≡ false = ap (λ (n : Network). is_node n call.from) same ∙ is.from in
    let t = asked_then plan call.from call.entry y h hops c outer a in
    let then : Course = after_offer y h.node (messages.Cc h.far 2 2 []) c in
    let r = confirm 18446744073709551615 then call.from y (h ∷ hops) [] (asked_handed y h) t.1 (omega arith) in
    let after : Course = r.0 in
    let o = r.2 in
    let front = front_of call.entry h hops [] a.enters in
    let plan_is : after.plan ≡ plan = o.plan_is ∙ a.plan_is in
    let opens : Opens (network_at after) (S after) y call.from 1 (front.first ∷ front.rest) =
    subst (Opens (network_at after) (S after) y call.from 1) front.is o.opens in
    let net : network_at after ≡ network_of plan = ap network_of plan_is in
    let few = a.few in
    let line_there = has_line (network_at after) after.history call.from y front.first front.rest
    (ap (λ (n : Network). is_node n call.from) net ∙ is.from)
    (ap (λ (n : Network). is_node n y) (ap network_of o.plan_is) ∙ a.outer)
    (let l = front.long in omega (arith, l, few)) opens in
    record {
      course = after;
      front = record {
        first = front.first;
        rest = front.rest;
        is = front.is;
        node = front.node;
        long = (let l = front.long in omega
            (arith, l));
      };
      few = few;
      outer = ap (λ (n : Network). is_node n y) (sym same) ∙ a.outer;
      is = record {
        plan_is = plan_is;
        empty = o.empty;
        opens = o.opens;
        all = o.all;
        handed = o.handed;
        offers = o.offers;
        deliveries = o.deliveries;
      };
      out_is =
          ap (λ (k : Course). if_settled (with_line call) (settled k)) t.0
          ∙ ap (if_settled (with_line call)) (settled_is then ∙ r.1)
          ∙ ap (on_line call after) line_there.line_is
          ∙ ap (λ (ns : List ℕ). opened (filter_map (name_at after.plan) ns) line_there.found.end_point
          (carried_on call line_there.found.end_point after))
          (line_there.path ∙ ap (map (λ (g : Hop). g.node)) (sym front.is))
          ∙ ap (λ (k : ℕ). opened (filter_map (name_at after.plan) (map (λ (g : Hop). g.node) (before (h ∷ hops) []))) k
          (carried_on call k after)) line_there.end_is
          ∙ ap (λ (k : plans.Network). opened (filter_map (name_at k) (map (λ (g : Hop). g.node) (before (h ∷ hops) []))) y
          (carried_on call y after)) plan_is;
    }

-- it is open to an end that is allowed, over at most so many relays
abbrev pub FineAnswered : {plan : plans.Network} {call : Call} {out : Outcome} → (ℕ → Type 0) → ℕ → Answered plan call out → Type 0
FineAnswered allowed most (refused cause e) = ⊥
FineAnswered allowed most (connected end h back o) = allowed end × (suc (length back) ≤ most)

-- an outcome, and that it is fine if the request goes to such an end
abbrev pub Leading : (ℕ → Type 0) → plans.Network → Call → Outcome → Type 0
Leading allowed plan call out = (answer : Answered plan call out)
    × ((k : ℕ) → Goes (network_of plan) allowed k call.entry (called_of call) 15 → FineAnswered allowed k answer)

by_answer : (allowed : ℕ → Type 0) (plan : plans.Network) (call : Call) (c : Course) → IsCall plan call
    → (answer : Answer c plan call.from call.entry)
    → ((k : ℕ) → Goes (network_of plan) allowed k call.entry (called_of call) 15 → Fine allowed k answer)
    → Leading allowed plan call (answer_to call c)
by_answer allowed plan call c is (is_asked y h hops a) fine = (connected y h hops (asked_outcome plan call c y h hops is a), fine)
by_answer allowed plan call c is (is_denied cause d) fine = (refused cause (denied_outcome plan call c cause d), fine)

-- a connection with nothing before it is refused, or open over relays
pub answered : (allowed : ℕ → Type 0) (plan : plans.Network) (call : Call) → IsCall plan call
    → Leading allowed plan call (outcome call (beginning (kept plan [])))
unfolding outcome
answered allowed plan call is =
    let f = called_first plan call is in
    let c : Course = after_offer call.from call.entry (request_of call) (beginning (kept plan [])) in
    let r = request allowed 15 18446744073709551615 c call.from call.entry call.entry [] (called_of call) f.1 (omega arith) in
    subst (Leading allowed plan call)
    (sym (ap (λ (k : Course). if_settled (answer_to call) (settled k)) f.0 ∙ ap (if_settled (answer_to call)) (settled_is c ∙ r.1)))
    (by_answer allowed plan call r.0 is r.2
    (λ k goes. subst (λ (j : ℕ). Fine allowed j r.2) (let z : 0 + k ≡ k = omega arith in z) (r.3 k goes)))
