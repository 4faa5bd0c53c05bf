-- A request on its way: it comes to an end, or a refusal comes back.
use Rattle.std.specs.Prelude.{ℕ, ◌≡◌, ◌==◌, ◌⊎◌, ◌≤◌, ◌+◌, Bool, true, false, cond, not, List, [], ◌∷◌, ◌++◌, length, Option, Some, None}
use Rattle.std.specs.Prelude.{refl}
use Rattle.std.specs.Prelude.{nat_le, ◌-◌}
use Rattle.std.specs.List.{list_any}
use Rattle.std.proofs.Common.{zero, suc, sym, ◌∙◌, ap, subst, ⊎_elim, inl, inr, arith}
use Rattle.std.proofs.lemmas.Bool.{cases_eq, cases_Bool, le-leb, lt-leb, leb-false}
use Rattle.sccp_address.specs.declared.address.Address.{Address}
use Rattle.sccp_layout.specs.Parameter.{Parameter, parameter}
use Rattle.sccp_layout.specs.Table as names
use Rattle.sccp_message.specs.declared.message.Message.{Message}
use Rattle.sccp_message.specs.declared.message.Message.TheVariants as messages
use Rattle.plan_model.specs.Network as plans
use Rattle.plan_model.specs.Network.{node_of}
use Rattle.plan_model.specs.declared.hop.Step.{Step}
use Rattle.plan_model.specs.declared.hop.Step.TheVariants as steps
use Rattle.plan_model.specs.declared.spot.Spot.{Spot}
use Rattle.plan_model.specs.Steps.{step}
use Rattle.sccp_base.specs.Marks.{holds}
use Rattle.sccp_base.specs.declared.mark.Mark.TheVariants.{Subsystem}
use Rattle.sccp_scrc.specs.Arriving.{point_of, subsystems_of}
use Rattle.sccp_scrc.specs.Rewriting.{one_less, spot_of, to_place}
use Rattle.sccp_couple.specs.declared.section.Section.{Section}
use Rattle.sccp_couple.specs.declared.way.Way.{Way}
use Rattle.sccp_couple.specs.declared.way.Way.TheVariants.{Refused, Onward}
use Rattle.sccp_couple.specs.Sections.{section_at, first_new, second_new}
use Rattle.sccp_couple.specs.Events.{Event, Outcome}
use Rattle.sccp_couple.specs.Coupling.{coupled, to_one, couple}
use Rattle.sccp_couple.specs.Invariant.{OwnDiffer}
use Rattle.sccp_couple.specs.Ways.{way_of, at_subsystem, translated, after_step}
use Rattle.sccp_couple.proofs.Fresh.{fresh}
use Rattle.couple_chain.specs.World.{Network, World, is_node, put_on, event_at, handled, left, names as named}
use Rattle.couple_chain.proofs.Worlds.{put_left, put_there}
use Rattle.chain_world.proofs.Happens.{regular}
use Rattle.chain_call.specs.Course.{Course, world_at}
use Rattle.chain_call.specs.Steps.{delivered, settled_in}
use Rattle.chain_call.specs.declared.note.Note.TheVariants.{Request, Refusal}
use Rattle.chain_call.specs.declared.handed.Handed.{Handed}
use Rattle.chain_call.proofs.Tokens.{sections_at, Holds, Empty, at_link, at_relay, at_end, left_empty, moves, sections_here, sections_there}
use Rattle.chain_call.proofs.Hops.{Hop, Sections, back_point, back_ref, Waits, AllAmong, Asks, asks_on, waits_more}
use Rattle.chain_call.proofs.HopSteps.{not_before, event_with, request_refused, request_onward, refusal_back, Refuses, refuses_on}
use Rattle.chain_call.proofs.Courses.{network_at, after_delivery, after_note, world_delivered, relay_delivery, end_delivery, next_single}
use Rattle.chain_call.proofs.Courses.{next_empty}
use Rattle.chain_call.proofs.Courses.{turn_on, turns_end}

-- ---- one message from one relay to the next

-- no end used the reference 2 in a request or confirmation
abbrev pub Unused : Network → World → Type 0
Unused network w = (a b : ℕ) → is_node network a ≡ false → list_any (named 2) (put_on w a b) ≡ false

abbrev pub S : Course → Sections
S c = sections_at (world_at c)

-- a relay was handed the only message, and sends one on
pub record Moved (c : Course) (x y : ℕ) (sections : List Section) (z : ℕ) (n : Message) : Type 0 where
  pub step : delivered x y c ≡ after_delivery x y c
  pub holds : Holds (world_at (after_delivery x y c)) y z n
  pub here : S (after_delivery x y c) y ≡ sections
  pub there : (p : ℕ) → (p ≡ y → ⊥) → S (after_delivery x y c) p ≡ S c p
  pub unused : Unused (network_at c) (world_at c) → Unused (network_at c) (world_at (after_delivery x y c))

node_differs : (network : Network) (a b : ℕ) → is_node network a ≡ false → is_node network b ≡ true → a ≡ b → ⊥
node_differs network a b outer inner e = let z : false ≡ true = sym outer ∙ ap (is_node network) e ∙ inner in cc

pub moved : (c : Course) (x y : ℕ) (m : Message) (z : ℕ) (n : Message) (sections : List Section) → Holds (world_at c) x y m
    → is_node (network_at c) y ≡ true
    → coupled (S c y) (event_with x m ((network_at c).way y x m)) ≡ record { sections = sections; sent = to_one z n }
    → Moved c x y sections z n
moved c x y m z n sections h inner out =
    let w : World = world_at c in
    let network : Network = network_at c in
    let u : World = left w x y m [] in
    let event : Event = event_at network y x m in
    let e : world_at (after_delivery x y c) ≡ handled u y event = world_delivered x y c ∙ at_relay network w x y m h inner in
    record {
      step = relay_delivery x y m [] c (at_link w x y m h) inner;
      holds = subst (λ v. Holds v y z n) (sym e) (moves u y z n event (left_empty w x y m h) (ap (λ (o : Outcome). o.sent) out));
      here = ap (λ v. sections_at v y) e ∙ sections_here u y event ∙ ap (λ (o : Outcome). o.sections) out;
      there = λ p k. ap (λ v. sections_at v p) e ∙ sections_there u y event p k;
      unused = λ before a b outer.
          ap (λ v. list_any (named 2) (put_on v a b)) e
          ∙ ap (list_any (named 2)) (put_there u y event a b (node_differs network a y outer inner)
          ∙ put_left w x y m [] (at_link w x y m h) a b)
          ∙ before a b outer;
    }

-- an end was handed the only message
pub record Out (c : Course) (x y : ℕ) (m : Message) : Type 0 where
  pub empty : Empty (world_at (after_delivery x y c))
  pub same : (p : ℕ) → S (after_delivery x y c) p ≡ S c p
  pub unused : Unused (network_at c) (world_at c) → Unused (network_at c) (world_at (after_delivery x y c))

pub out : (c : Course) (x y : ℕ) (m : Message) → Holds (world_at c) x y m → is_node (network_at c) y ≡ false → Out c x y m
out c x y m h outer =
    let w : World = world_at c in
    let u : World = left w x y m [] in
    let e : world_at (after_delivery x y c) ≡ u = world_delivered x y c ∙ at_end (network_at c) w x y m h outer in
    record {
      empty = λ a b. ap (λ (v : World). v.waiting a b) e ∙ left_empty w x y m h a b;
      same = λ p. ap (λ v. sections_at v p) e;
      unused = λ before a b k.
          ap (λ v. list_any (named 2) (put_on v a b)) e ∙ ap (list_any (named 2)) (put_left w x y m [] (at_link w x y m h) a b)
          ∙ before a b k;
    }

-- ---- what a plan makes of a request

abbrev pub hops_param : ℕ → List Parameter
hops_param n = parameter names.hops (n ∷ []) ∷ []

-- a request goes on only with a smaller hop counter
abbrev pub Counted : ℕ → Way → Type 0
Counted n (Refused cause) = Unit {0}
Counted n (Onward to called params) = (nat_le n 1 ≡ false) × (params ≡ hops_param (one_less n))

counted_step : (plan : plans.Network) (node n : ℕ) (called : Address) (s : Step) → nat_le n 1 ≡ false
    → Counted n (after_step plan node called (hops_param n) s)
counted_step plan node n called (steps.Sent next target) few = (few, refl)
counted_step plan node n called (steps.Ended pc ssn target) few =
    elim (pc == point_of plan node) as (λ b. Counted n (cond b (Refused 6) (Onward pc (to_place called ssn) (hops_param (one_less n)))))
    [ true ↦ tt | false ↦ (few, refl) ]
counted_step plan node n called (steps.Blocked cause marks) few = tt
counted_step plan node n called (steps.NoRow cause) few = tt
counted_step plan node n called steps.Overgrown few = tt

counted_spot : (plan : plans.Network) (node n : ℕ) (called : Address) (o : Option Spot) → nat_le n 1 ≡ false
    → Counted n (translated plan node [] called (hops_param n) o)
counted_spot plan node n called None few = tt
counted_spot plan node n called (Some spot) few = counted_step plan node n called (step plan spot []) few

counted_ssn : (plan : plans.Network) (node n : ℕ) (o : Option ℕ) → Counted n (at_subsystem plan node [] o)
counted_ssn plan node n None = tt
counted_ssn plan node n (Some ssn) =
    elim (not (list_any (λ own. own == ssn) (subsystems_of plan node))) as (λ b. Counted n
    (cond b (Refused 19) (cond (holds [] (Subsystem (point_of plan node) ssn)) (Refused 10) (Refused 6)))) [
      | true ↦ tt
      | false ↦ elim (holds [] (Subsystem (point_of plan node) ssn)) as (λ b. Counted n (cond b (Refused 10) (Refused 6)))
          [ true ↦ tt | false ↦ tt ]
    ]

pub way_counts : (plan : plans.Network) (node n slr : ℕ) (called : Address)
    → Counted n (way_of plan node [] (messages.Cr slr 2 called (hops_param n)))
way_counts plan node n slr called =
    elim called.by_ssn as (λ b. Counted n (cond b (at_subsystem plan node [] called.ssn)
    (cond (nat_le n 1) (Refused 16) (translated plan node [] called (hops_param n) (spot_of node called))))) [
      | true ↦ counted_ssn plan node n called.ssn
      | false ↦ elim (nat_le n 1) as (λ b. nat_le n 1 ≡ b
          → Counted n (cond b (Refused 16) (translated plan node [] called (hops_param n) (spot_of node called)))) [
            | true ↦ λ e. tt
            | false ↦ λ e. counted_spot plan node n called (spot_of node called) e
          ] refl
    ]

pub one_less_is : (n : ℕ) → suc n ≤ 15 → one_less (suc n) ≡ n
one_less_is n h = ap (λ (b : Bool). cond b (suc n) 15 - 1) (le-leb (suc n) 15 h) ∙ (let z : suc n - 1 ≡ n = omega arith in z)

-- ---- a refusal comes back

-- the end that calls was handed a refusal, and nothing is left
pub record Denied (c : Course) (plan : plans.Network) (from cause : ℕ) : Type 0 where
  pub plan_is : c.plan ≡ plan
  pub empty : Empty (world_at c)
  pub none : AllAmong (S c) []
  pub point : ℕ
  pub handed : c.handed ≡ record { from = point; to = from; note = Refusal cause } ∷ []
  pub offers : c.offers ≡ 1
  pub deliveries : c.deliveries ≤ 32

-- a refusal is on its way back from y
pub record Refusing (c : Course) (from y : ℕ) (hops : List Hop) (cause : ℕ) : Type 0 where
  pub outer : is_node (network_at c) from ≡ false
  pub holds : Holds (world_at c) y (back_point from hops) (messages.Cref (back_ref hops) cause [])
  pub refuses : Refuses (network_at c) (S c) from y hops
  pub offers : c.offers ≡ 1
  pub deliveries : c.deliveries + length hops ≤ 31
  pub handed : c.handed ≡ []

pub refusal : (turns : ℕ) (c : Course) (from y : ℕ) (hops : List Hop) (cause : ℕ) → Refusing c from y hops cause → 64 ≤ turns + c.deliveries
    → (after : Course) × (settled_in turns c ≡ Some after) × Denied after c.plan from cause
refusal zero c from y hops cause r enough = let d = r.deliveries in absurd (omega (arith, d, enough))
refusal (suc turns) c from y [] cause r enough =
    let m : Message = messages.Cref 1 cause [] in
    let o = out c y from m r.holds r.outer in
    let d = r.deliveries in
    let e = r.offers in
    let after : Course = after_note y from (Refusal cause) c in (
      after,
      turn_on turns c (y, from) (next_single y from m c r.holds) (omega (arith, d, e))
          ∙ ap (settled_in turns) (end_delivery y from m [] c (at_link (world_at c) y from m r.holds) r.outer)
          ∙ turns_end turns after (next_empty after o.empty) (omega (arith, d, enough)),
      record {
        plan_is = refl;
        empty = o.empty;
        none = λ p own s at. r.refuses.all p own s (sym (ap (λ l. section_at l own) (o.same p)) ∙ at);
        point = y;
        handed = ap (λ (l : List Handed). l ++ record { from = y; to = from; note = Refusal cause } ∷ []) r.handed;
        offers = e;
        deliveries = omega (arith, d);
      },
    )
refusal (suc turns) c from y (h ∷ hops) cause r enough =
    let m : Message = messages.Cref h.far cause [] in
    let stands = r.refuses.waits.0 in
    let d = r.deliveries in
    let e = r.offers in
    let move = moved c y h.node m (back_point from hops) (messages.Cref (back_ref hops) cause []) _ r.holds stands.inner
    (refusal_back (network_at c) (S c) from y h hops cause [] ((network_at c).way h.node y m) stands) in
    let then : Course = after_delivery y h.node c in
    let rest = refusal turns then from h.node hops cause (record {
      outer = r.outer;
      holds = move.holds;
      refuses = refuses_on (network_at c) (S c) (S then) from y h hops r.refuses (record { here = move.here; there = move.there });
      offers = e;
      deliveries = omega (arith, d);
      handed = r.handed;
    }) (omega (arith, enough)) in (
      rest.0,
      turn_on turns c (y, h.node) (next_single y h.node m c r.holds) (omega (arith, d, e)) ∙ ap (settled_in turns) move.step ∙ rest.1,
      rest.2,
    )

-- ---- the request goes on

-- the first of these relays, which is the last in the list, is the one that the end sent the request to
abbrev pub Enters : ℕ → Hop → List Hop → Type 0
Enters entry h [] = h.node ≡ entry
Enters entry h (g ∷ hops) = Enters entry g hops

abbrev pub EntersAt : ℕ → ℕ → List Hop → Type 0
EntersAt entry y [] = y ≡ entry
EntersAt entry y (h ∷ hops) = Enters entry h hops

enters_on : (entry : ℕ) (h : Hop) (hops : List Hop) → EntersAt entry h.node hops → Enters entry h hops
enters_on entry h [] e = e
enters_on entry h (g ∷ hops) e = e

-- an end y was handed the request
pub record Asked (c : Course) (plan : plans.Network) (from entry y : ℕ) (h : Hop) (hops : List Hop) : Type 0 where
  pub enters : Enters entry h hops
  pub plan_is : c.plan ≡ plan
  pub outer : is_node (network_at c) y ≡ false
  pub empty : Empty (world_at c)
  pub waits : Waits (network_at c) (S c) from y (h ∷ hops)
  pub all : AllAmong (S c) (h ∷ hops)
  pub few : length hops ≤ 13
  pub handed : c.handed ≡ record { from = h.node; to = y; note = Request h.far } ∷ []
  pub unused : Unused (network_at c) (world_at c)
  pub offers : c.offers ≡ 1
  pub deliveries : c.deliveries ≡ length hops + 2

pub data Answer (c : Course) (plan : plans.Network) (from entry : ℕ) : Type 0 where
  is_asked : (y : ℕ) (h : Hop) (hops : List Hop) → Asked c plan from entry y h hops → Answer c plan from entry
  is_denied : (cause : ℕ) → Denied c plan from cause → Answer c plan from entry

-- From y on, this request goes over at most k relays, and then to an end that is allowed.
abbrev pub Goes : Network → (ℕ → Type 0) → ℕ → ℕ → Address → ℕ → Type 0
Goes network allowed zero y called n = (is_node network y ≡ false) × allowed y
Goes network allowed (suc k) y called n = ((is_node network y ≡ false) × allowed y)
    ⊎ ((is_node network y ≡ true) × (to : ℕ) × (next : Address)
    × ((origin slr : ℕ) → network.way y origin (messages.Cr slr 2 called (hops_param n)) ≡ Onward to next (hops_param (one_less n)))
    × Goes network allowed k to next (one_less n))

-- it came to such an end, over at most so many relays
abbrev pub Fine : {c : Course} {plan : plans.Network} {from entry : ℕ} → (ℕ → Type 0) → ℕ → Answer c plan from entry → Type 0
Fine allowed most (is_asked y h hops a) = allowed y × (suc (length hops) ≤ most)
Fine allowed most (is_denied cause d) = ⊥

-- a request is on its way to y
pub record Calling (c : Course) (from entry y : ℕ) (hops : List Hop) (called : Address) (n : ℕ) : Type 0 where
  pub holds : Holds (world_at c) (back_point from hops) y (messages.Cr (back_ref hops) 2 called (hops_param n))
  pub asks : Asks (network_at c) (S c) from y hops
  pub left : length hops + n ≡ 15
  pub some : 1 ≤ n
  pub enters : EntersAt entry y hops
  pub inner : is_node (network_at c) entry ≡ true
  pub unused : Unused (network_at c) (world_at c)
  pub offers : c.offers ≡ 1
  pub deliveries : c.deliveries ≡ length hops
  pub handed : c.handed ≡ []

differ_at : (c : Course) (y : ℕ) → OwnDiffer (S c y)
differ_at c y = (regular (network_at c) c.history y).kept.coupling.differ

-- what the turns of a request lead to
abbrev pub Leads : (ℕ → Type 0) → ℕ → Course → ℕ → ℕ → ℕ → List Hop → Address → ℕ → Type 0
Leads allowed turns c from entry y hops called n = (after : Course) × (settled_in turns c ≡ Some after)
    × (answer : Answer after c.plan from entry)
    × ((k : ℕ) → Goes (network_at c) allowed k y called n → Fine allowed (length hops + k) answer)

abbrev Later : (ℕ → Type 0) → ℕ → ℕ → ℕ → ℕ → Type 0
Later allowed turns from entry n = (k : ℕ) → n ≡ suc k → (c : Course) (y : ℕ) (hops : List Hop) (called : Address)
    → Calling c from entry y hops called k → 64 ≤ turns + c.deliveries → Leads allowed turns c from entry y hops called k

-- one turn of a request
request_turn : (allowed : ℕ → Type 0) (n turns : ℕ) (c : Course) (from entry y : ℕ) (hops : List Hop) (called : Address)
    → Later allowed turns from entry n → Calling c from entry y hops called n → 64 ≤ suc turns + c.deliveries
    → Leads allowed (suc turns) c from entry y hops called n
request_turn allowed n turns c from entry y hops called later r enough =
    ⊎_elim (λ inner. at_node n inner) (λ outer. at_last hops r outer) (cases_Bool (is_node (network_at c) y))
  where
    m : List Hop → ℕ → Message
    m hops n = messages.Cr (back_ref hops) 2 called (hops_param n)

    first : settled_in (suc turns) c ≡ settled_in turns (delivered (back_point from hops) y c)
    first = let d = r.deliveries in let l = r.left in let e = r.offers in
        turn_on turns c (back_point from hops, y) (next_single (back_point from hops) y (m hops n) c r.holds) (omega (arith, d, l, e))

    come_out : (hops : List Hop) → is_node (network_at c) y ≡ false → (k : ℕ) → Goes (network_at c) allowed k y called n
        → allowed y × (length hops ≤ length hops + k)
    come_out hops outer zero goes = (goes.1, omega arith)
    come_out hops outer (suc k) (inl goes) = (goes.1, omega arith)
    come_out hops outer (suc k) (inr goes) = absurd (let z : true ≡ false = sym goes.0 ∙ outer in cc)

    not_refused : (n : ℕ) → is_node (network_at c) y ≡ true → (cause : ℕ)
        → (network_at c).way y (back_point from hops) (m hops n) ≡ Refused cause
        → (k : ℕ) → Goes (network_at c) allowed k y called n → ⊥
    not_refused n inner cause is zero goes = let z : true ≡ false = sym inner ∙ goes.0 in cc
    not_refused n inner cause is (suc k) (inl goes) = let z : true ≡ false = sym inner ∙ goes.0 in cc
    not_refused n inner cause is (suc k) (inr goes) =
        let z : Refused cause ≡ Onward goes.1 goes.2 (hops_param (one_less n)) = sym is
        ∙ goes.3 (back_point from hops) (back_ref hops) in cc

    further : (n : ℕ) → is_node (network_at c) y ≡ true → (to : ℕ) (next : Address) (params : List Parameter)
        → (network_at c).way y (back_point from hops) (m hops (suc n)) ≡ Onward to next params → one_less (suc n) ≡ n
        → {after : Course} (answer : Answer after c.plan from entry)
        → ((k : ℕ) → Goes (network_at c) allowed k to next n → Fine allowed (suc (length hops) + k) answer)
        → (k : ℕ) → Goes (network_at c) allowed k y called (suc n) → Fine allowed (length hops + k) answer
    further n inner to next params is less answer fine zero goes = absurd (let z : true ≡ false = sym inner ∙ goes.0 in cc)
    further n inner to next params is less answer fine (suc k) (inl goes) = absurd (let z : true ≡ false = sym inner ∙ goes.0 in cc)
    further n inner to next params is less answer fine (suc k) (inr goes) =
        let e : Onward to next params ≡ Onward goes.1 goes.2 (hops_param (one_less (suc n))) =
        sym is ∙ goes.3 (back_point from hops) (back_ref hops) in
        let a : goes.1 ≡ to = cc in
        let b : goes.2 ≡ next = cc in
        let there : Goes (network_at c) allowed k to next n =
        subst (λ (x : ℕ). Goes (network_at c) allowed k x next n) a
        (subst (λ (x : Address). Goes (network_at c) allowed k goes.1 x n) b
        (subst (λ (x : ℕ). Goes (network_at c) allowed k goes.1 goes.2 x) less goes.4)) in
        subst (λ (x : ℕ). Fine allowed x answer) (let z : suc (length hops) + k ≡ length hops + suc k = omega arith in z) (fine k there)

    at_last : (hops : List Hop) → Calling c from entry y hops called n → is_node (network_at c) y ≡ false
        → Leads allowed (suc turns) c from entry y hops called n
    at_last [] r outer = absurd (let z : true ≡ false = sym r.inner ∙ ap (is_node (network_at c)) (sym r.enters) ∙ outer in cc)
    at_last (h ∷ hops) r outer =
        let k : Message = m (h ∷ hops) n in
        let o = out c h.node y k r.holds outer in
        let d = r.deliveries in
        let l = r.left in
        let e = r.offers in
        let s = r.some in
        let after : Course = after_note h.node y (Request h.far) c in (
          after,
          turn_on turns c (h.node, y) (next_single h.node y k c r.holds) (omega (arith, d, l, e))
              ∙ ap (settled_in turns) (end_delivery h.node y k [] c (at_link (world_at c) h.node y k r.holds) outer)
              ∙ turns_end turns after (next_empty after o.empty) (omega (arith, d, l, enough)),
          is_asked y h hops (record {
            enters = r.enters;
            plan_is = refl;
            outer = outer;
            empty = o.empty;
            waits = waits_more (network_at c) (S c) (S after) from y (h ∷ hops)
                (λ p own s at. ap (λ l. section_at l own) (o.same p) ∙ at) r.asks.waits;
            all = λ p own s at. r.asks.all p own s (sym (ap (λ l. section_at l own) (o.same p)) ∙ at);
            few = omega (arith, l, s);
            handed = ap (λ (l : List Handed). l ++ record { from = h.node; to = y; note = Request h.far } ∷ []) r.handed;
            unused = o.unused r.unused;
            offers = e;
            deliveries = omega (arith, d);
          }),
          λ k goes. come_out (h ∷ hops) outer k goes,
        )

    by_way : (n : ℕ) → Later allowed turns from entry n → Calling c from entry y hops called n → is_node (network_at c) y ≡ true
        → (way : Way)
        → (network_at c).way y (back_point from hops) (m hops n) ≡ way → Counted n way
        → Leads allowed (suc turns) c from entry y hops called n
    by_way n later r inner (Refused cause) is counts =
        let x : ℕ = back_point from hops in
        let d = r.deliveries in
        let l = r.left in
        let e = r.offers in
        let s = r.some in
        let none = not_before (network_at c) (S c) from y hops r.asks (differ_at c y) in
        let move = moved c x y (m hops n) x (messages.Cref (back_ref hops) cause []) _ r.holds inner
        (ap (λ w. coupled (S c y) (event_with x (m hops n) w)) is
        ∙ request_refused (S c y) x (back_ref hops) 2 cause called (hops_param n) none) in
        let then : Course = after_delivery x y c in
        let keeps : (p : ℕ) → S then p ≡ S c p = λ p. ⊎_elim (λ (k : p ≡ y). ap (S then) k ∙ move.here ∙ ap (S c) (sym k))
        (λ k. move.there p k)
        (cases_eq p y) in
        let rest = refusal turns then from y hops cause (record {
          outer = r.asks.outer;
          holds = move.holds;
          refuses = record {
            waits = waits_more (network_at c) (S c) (S then) from y hops
                (λ p own s at. ap (λ l. section_at l own) (keeps p) ∙ at) r.asks.waits;
            all = λ p own s at. r.asks.all p own s (sym (ap (λ l. section_at l own) (keeps p)) ∙ at);
          };
          offers = e;
          deliveries = omega (arith, d, l, s);
          handed = r.handed;
        }) (omega (arith, enough)) in (
          rest.0,
          turn_on turns c (x, y) (next_single x y (m hops n) c r.holds) (omega (arith, d, l, e)) ∙ ap (settled_in turns) move.step ∙ rest.1,
          is_denied cause rest.2,
          λ k goes. not_refused n inner cause is k goes,
        )
    by_way zero later r inner (Onward to next params) is counts = absurd (let z : true ≡ false = counts.0 in cc)
    by_way (suc n) later r inner (Onward to next params) is counts =
        let x : ℕ = back_point from hops in
        let d = r.deliveries in
        let l = r.left in
        let e = r.offers in
        let list : List Section = S c y in
        let h : Hop = record { node = y; near = first_new list; far = second_new list } in
        let none = not_before (network_at c) (S c) from y hops r.asks (differ_at c y) in
        let few = r.asks.few y in
        let less : one_less (suc n) ≡ n = one_less_is n (omega (arith, l)) in
        let more : 1 ≤ n = (let z = leb-false (suc n) 1 counts.0 in omega (arith, z)) in
        let move = moved c x y (m hops (suc n)) to (messages.Cr h.far 2 next (hops_param n)) _ r.holds inner
        (ap (λ w. coupled list (event_with x (m hops (suc n)) w)) is
        ∙ request_onward list x (back_ref hops) 2 to called next (hops_param (suc n)) params none
        (lt-leb 4095 (length list) (omega (arith, few, l)))
        ∙ ap (λ ps. couple list (first_new list) (second_new list) x (back_ref hops) to (λ far. messages.Cr far 2 next ps))
        (counts.1 ∙ ap hops_param less)) in
        let then : Course = after_delivery x y c in
        let rest = later n refl then to (h ∷ hops) next (record {
          holds = move.holds;
          asks = asks_on (network_at c) (S c) (S then) from to h hops r.asks inner
              (record { here = move.here; there = move.there; fresh = fresh list });
          left = omega (arith, l);
          some = more;
          enters = enters_on entry h hops r.enters;
          inner = r.inner;
          unused = move.unused r.unused;
          offers = e;
          deliveries = omega (arith, d);
          handed = r.handed;
        }) (omega (arith, enough)) in (
          rest.0,
          turn_on turns c (x, y) (next_single x y (m hops (suc n)) c r.holds) (omega (arith, d, l, e)) ∙ ap (settled_in turns) move.step
              ∙ rest.1,
          rest.2,
          λ k goes. further n inner to next params is less rest.2 rest.3 k goes,
        )

    at_node : (k : ℕ) → is_node (network_at c) y ≡ true → Leads allowed (suc turns) c from entry y hops called n
    at_node k inner = by_way n later r inner ((network_at c).way y (back_point from hops) (m hops n)) refl
        (way_counts c.plan (node_of c.plan.nodes y) n (back_ref hops) called)

pub request : (allowed : ℕ → Type 0) (n turns : ℕ) (c : Course) (from entry y : ℕ) (hops : List Hop) (called : Address)
    → Calling c from entry y hops called n → 64 ≤ turns + c.deliveries → Leads allowed turns c from entry y hops called n
request allowed n zero c from entry y hops called r enough = let d = r.deliveries in let l = r.left in absurd (omega (arith, d, l, enough))
request allowed zero (suc turns) c from entry y hops called r enough = request_turn allowed zero turns c from entry y hops called
    (λ k e. absurd (omega (arith, e))) r enough
request allowed (suc n) (suc turns) c from entry y hops called r enough =
    request_turn allowed (suc n) turns c from entry y hops called
    (λ k e c y hops called r enough.
    let same : n ≡ k = omega (arith, e) in
    subst (λ (j : ℕ). Leads allowed turns c from entry y hops called j) same
    (request allowed n turns c from entry y hops called (subst (λ (j : ℕ). Calling c from entry y hops called j)
    (sym same) r) enough)) r enough
