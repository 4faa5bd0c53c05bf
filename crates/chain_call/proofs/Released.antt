-- After the release no section is left, and no link holds a message.
use Rattle.std.specs.Prelude.{ℕ, ◌≡◌, ◌==◌, ◌⊎◌, ◌<◌, ◌≤◌, ◌+◌, ◌*◌, Bool, true, false, cond, ◌&&◌, List, [], ◌∷◌, ◌++◌, length, filter}
use Rattle.std.specs.Prelude.{map, sum, Some, None, refl}
use Rattle.std.specs.List.{cons_option}
use Rattle.std.proofs.Common.{zero, suc, sym, ◌∙◌, ap, subst, ⊎_elim, arith, append_assoc, append-nil}
use Rattle.std.proofs.lemmas.Bool.{cases_Bool, eqb-true, eq-eqb, and_parts}
use Rattle.sccp_message.specs.declared.message.Message.{Message}
use Rattle.sccp_message.specs.declared.message.Message.TheVariants as messages
use Rattle.sccp_couple.specs.declared.section.Section.{Section}
use Rattle.sccp_couple.specs.Sections.{section_at}
use Rattle.sccp_couple.specs.Events.{Event, Answer, Outcome}
use Rattle.sccp_couple.specs.Coupling.{coupled, to_one}
use Rattle.sccp_couple.proofs.Lookups.{own_at}
use Rattle.couple_chain.specs.World.{Network, World, is_node, put, messages_to, event_at, handled, left, delivered_of, offer_fault}
use Rattle.chain_world.specs.Kept.{network_of}
use Rattle.chain_world.specs.Running.{sections_of}
use Rattle.chain_call.specs.Course.{Course, world_at}
use Rattle.chain_call.specs.Notes.{data_at, data_in, data_of}
use Rattle.chain_call.specs.Steps.{delivered, next_of, settled_in}
use Rattle.chain_call.specs.declared.handed.Handed.{Handed}
use Rattle.chain_call.specs.declared.note.Note.{Note}
use Rattle.chain_call.specs.declared.note.Note.TheVariants.{Release, Other}
use Rattle.chain_call.proofs.Tokens.{sections_at, Empty, sections_here, sections_there}
use Rattle.chain_call.proofs.Hops.{Hop, back_point, back_ref, front_point, front_ref}
use Rattle.chain_call.proofs.Flows.{Every, rest_at}
use Rattle.chain_call.proofs.Courses.{network_at, after_offer, offer_is, world_offered, no_fault, after_delivery, after_note}
use Rattle.chain_call.proofs.Courses.{world_delivered}
use Rattle.chain_call.proofs.Courses.{relay_delivery, end_delivery, turn_on, turn_end}
use Rattle.chain_call.proofs.DataCourses.{flat_append, option_parts, next_waits, none_waiting}
use Rattle.chain_call.proofs.Requests.{S}
use Rattle.chain_call.proofs.Marks.{Mark, is_at, on_link, Marked, Taken, taken, added, sent_added, every_out, filter_one, length_out}
use Rattle.chain_call.proofs.Marks.{length_in}
use Rattle.chain_call.proofs.Releases.{release_on, Completes, completes_same, complete_silent, complete_at, releases, is_release, Aimed}
use Rattle.chain_call.proofs.Releases.{is_done, is_rlsd, FarIn}
use Rattle.chain_call.proofs.Freed.{Going, Ended, tail, release_mark, answers, going_ends, ended_ends, going_done, ended_done, going_on}
use Rattle.chain_call.proofs.Freed.{going_out}
use Rattle.chain_call.proofs.Freed.{nothing_left}

-- ---- one delivery

-- the world after a delivery to a relay
relay_world : (c : Course) (a b : ℕ) (m : Message) (rest : List Message) → (world_at c).waiting a b ≡ m ∷ rest
    → is_node (network_at c) b ≡ true
    → world_at (after_delivery a b c) ≡ handled (left (world_at c) a b m rest) b (event_at (network_at c) b a m)
relay_world c a b m rest queued inner =
    world_delivered a b c ∙ ap (delivered_of (network_at c) (world_at c) a b) queued
    ∙ ap (λ (k : Bool). cond k (handled (left (world_at c) a b m rest) b (event_at (network_at c) b a m))
    (left (world_at c) a b m rest)) inner

end_world : (c : Course) (a b : ℕ) (m : Message) (rest : List Message) → (world_at c).waiting a b ≡ m ∷ rest
    → is_node (network_at c) b ≡ false
    → world_at (after_delivery a b c) ≡ left (world_at c) a b m rest
end_world c a b m rest queued outer =
    world_delivered a b c ∙ ap (delivered_of (network_at c) (world_at c) a b) queued
    ∙ ap (λ (k : Bool). cond k (handled (left (world_at c) a b m rest) b (event_at (network_at c) b a m))
    (left (world_at c) a b m rest)) outer

-- the marks that are left
rest_marked : (w : World) (a b : ℕ) (m : Message) (rest : List Message) (ts : List Mark) → Marked w ts → (t : Taken a b m rest ts)
    → (x y : ℕ)
    → rest_at w a b rest x y ≡ on_link x y (t.front ++ t.back)
rest_marked w a b m rest ts marked t x y =
    ap (λ (l : List Message). cond ((x == a) && (y == b)) rest l) (marked x y) ∙ sym (t.left x y)

-- after a relay that answers nothing
silent_marked : (c : Course) (a b : ℕ) (m : Message) (rest : List Message) (ts : List Mark) → Marked (world_at c) ts
    → (t : Taken a b m rest ts)
    → (world_at c).waiting a b ≡ m ∷ rest → is_node (network_at c) b ≡ true
    → (coupled (S c b) (event_at (network_at c) b a m)).sent ≡ [] → Marked (world_at (after_delivery a b c)) (t.front ++ t.back)
silent_marked c a b m rest ts marked t queued inner silent x y =
    let w : World = world_at c in
    ap (λ (v : World). v.waiting x y) (relay_world c a b m rest queued inner)
    ∙ ap (λ (s : List Answer). cond (x == b) (rest_at w a b rest x y ++ messages_to y s) (rest_at w a b rest x y)) silent
    ∙ elim (x == b) as (λ k. cond k (rest_at w a b rest x y ++ []) (rest_at w a b rest x y) ≡ rest_at w a b rest x y)
    [ true ↦ append-nil (rest_at w a b rest x y) | false ↦ refl ]
    ∙ rest_marked w a b m rest ts marked t x y

two_sent : (y a z : ℕ) (m n : Message) → messages_to y (to_one a m ++ to_one z n) ≡ messages_to y (to_one a m) ++ messages_to y (to_one z n)
two_sent y a z m n =
    elim (a == y) as (λ k. cons_option (cond k (Some m) None) (messages_to y (to_one z n))
    ≡ cons_option (cond k (Some m) None) [] ++ messages_to y (to_one z n)) [ true ↦ refl | false ↦ refl ]

-- after a relay that answers with two messages
two_marked : (c : Course) (a b : ℕ) (m : Message) (rest : List Message) (ts : List Mark) → Marked (world_at c) ts
    → (t : Taken a b m rest ts)
    → (world_at c).waiting a b ≡ m ∷ rest → is_node (network_at c) b ≡ true → (o z : ℕ) (p q : Message)
    → (coupled (S c b) (event_at (network_at c) b a m)).sent ≡ to_one o p ++ to_one z q
    → Marked (world_at (after_delivery a b c)) (((t.front ++ t.back) ++ record { from = b; to = o; message = p } ∷ [])
    ++ record { from = b; to = z; message = q } ∷ [])
two_marked c a b m rest ts marked t queued inner o z p q sent x y =
    let w : World = world_at c in
    let u : List Message = rest_at w a b rest x y in
    let us : List Mark = t.front ++ t.back in
    ap (λ (v : World). v.waiting x y) (relay_world c a b m rest queued inner)
    ∙ ap (λ (s : List Answer). cond (x == b) (u ++ messages_to y s) u) sent
    ∙ ap (λ (l : List Message). cond (x == b) (u ++ l) u) (two_sent y o z p q)
    ∙ elim (x == b) as (λ k. cond k (u ++ (messages_to y (to_one o p) ++ messages_to y (to_one z q))) u
    ≡ cond k (cond k (u ++ messages_to y (to_one o p)) u ++ messages_to y (to_one z q)) (cond k (u ++ messages_to y (to_one o p)) u)) [
      | true ↦ sym (append_assoc u (messages_to y (to_one o p)) (messages_to y (to_one z q)))
      | false ↦ refl
    ]
    ∙ ap (λ (l : List Message). cond (x == b) (l ++ messages_to y (to_one z q)) l)
    (ap (λ (l : List Message). cond (x == b) (l ++ messages_to y (to_one o p)) l) (rest_marked w a b m rest ts marked t x y)
    ∙ sent_added x y b o p us)
    ∙ sent_added x y b z q (us ++ record { from = b; to = o; message = p } ∷ [])

-- after an end
end_marked : (c : Course) (a b : ℕ) (m : Message) (rest : List Message) (ts : List Mark) → Marked (world_at c) ts
    → (t : Taken a b m rest ts)
    → (world_at c).waiting a b ≡ m ∷ rest → is_node (network_at c) b ≡ false → Marked (world_at (after_delivery a b c)) (t.front ++ t.back)
end_marked c a b m rest ts marked t queued outer x y =
    ap (λ (v : World). v.waiting x y) (end_world c a b m rest queued outer) ∙ rest_marked (world_at c) a b m rest ts marked t x y

-- ---- what ends are handed now are no data

pub no_data : (q r : ℕ) (note : Note) (a b : ℕ) (handed : List Handed) → data_in q r (record { from = a; to = b; note = note }) ≡ []
    → data_at q r (handed ++ record { from = a; to = b; note = note } ∷ []) ≡ data_at q r handed
no_data q r note a b handed none =
    let h : Handed = record { from = a; to = b; note = note } in
    flat_append (data_in q r) handed (h ∷ [])
    ∙ ap (λ (l : List ℕ). data_at q r handed ++ l) (append-nil (data_in q r h) ∙ none) ∙ append-nil (data_at q r handed)

nothing_in : (q r a b : ℕ) (note : Note) → data_of r note ≡ [] → data_in q r (record { from = a; to = b; note = note }) ≡ []
nothing_in q r a b note none =
    ap (λ (l : List ℕ). cond (b == q) l []) none ∙ elim (b == q) as (λ k. cond {A = List ℕ} k [] [] ≡ []) [ true ↦ refl | false ↦ refl ]

-- ---- until nothing is under way

pub record Quiet (c after : Course) : Type 0 where
  pub plan_is : after.plan ≡ c.plan
  pub none : (p own : ℕ) (s : Section) → section_at (S after p) own ≡ Some s → ⊥
  pub data_stay : (q r : ℕ) → data_at q r after.handed ≡ data_at q r c.handed

no_marks : (ts : List Mark) → ((x y : ℕ) → on_link x y ts ≡ []) → ts ≡ []
no_marks [] h = refl
no_marks (t ∷ ts) h =
    let e : is_at t.from t.to t ≡ true = ap (λ (k : Bool). k && (t.to == t.to)) (eq-eqb t.from t.from refl) ∙ eq-eqb t.to t.to refl in
    let z : t.message ∷ on_link t.from t.to ts ≡ [] =
    sym (ap (λ (k : Bool). cond k (t.message ∷ on_link t.from t.to ts) (on_link t.from t.to ts)) e) ∙ h t.from t.to in
    absurd (cc)

empty_marks : (w : World) (ts : List Mark) → Marked w ts → Empty w → ts ≡ []
empty_marks w ts marked empty = no_marks ts (λ x y. sym (marked x y) ∙ empty x y)

abbrev Ends : ℕ → Course → Type 0
Ends turns c = (after : Course) × (settled_in turns c ≡ Some after) × Quiet c after

owns : (c : Course) (b own : ℕ) (s : Section) → section_at (S c b) own ≡ Some s → s.own ≡ own
owns c b own s at = own_at (S c b) own s at

-- what a completion does to a course
record Completed (c : Course) (a b d n : ℕ) (front back : List Mark) : Type 0 where
  pub then : Course
  pub step : delivered a b c ≡ then
  pub plan_is : then.plan ≡ c.plan
  pub marked : Marked (world_at then) (front ++ back)
  pub does : Completes (S c) (S then) a b d n
  pub data_stay : (q r : ℕ) → data_at q r then.handed ≡ data_at q r c.handed
  pub offers : then.offers ≡ c.offers
  pub deliveries : then.deliveries ≡ c.deliveries + 1

completed : (c : Course) (a b d n : ℕ) (rest : List Message) (ts : List Mark) → Marked (world_at c) ts
    → (t : Taken a b (messages.Rlc d n) rest ts)
    → (world_at c).waiting a b ≡ messages.Rlc d n ∷ rest
    → ((own : ℕ) (s : Section) → is_node (network_at c) b ≡ false → section_at (S c b) own ≡ Some s → ⊥)
    → Completed c a b d n t.front t.back
completed c a b d n rest ts marked t queued ends =
    let m : Message = messages.Rlc d n in
    ⊎_elim
    (λ (inner : is_node (network_at c) b ≡ true).
    let then : Course = after_delivery a b c in
    let way = (network_at c).way b a m in
    let silent = complete_silent (S c b) a d n way in
    let u : World = left (world_at c) a b m rest in
    let event : Event = event_at (network_at c) b a m in
    let e = relay_world c a b m rest queued inner in
    record {
      then = then;
      step = relay_delivery a b m rest c queued inner;
      plan_is = refl;
      marked = silent_marked c a b m rest ts marked t queued inner silent;
      does = complete_at (S c) (S then) a b d n way (owns c b) (ap (λ v. sections_at v b) e ∙ sections_here u b event)
          (λ p k. ap (λ v. sections_at v p) e ∙ sections_there u b event p k);
      data_stay = λ q r. refl;
      offers = refl;
      deliveries = refl;
    })
    (λ (outer : is_node (network_at c) b ≡ false).
    let then : Course = after_note a b Other c in
    record {
      then = then;
      step = end_delivery a b m rest c queued outer;
      plan_is = refl;
      marked = end_marked c a b m rest ts marked t queued outer;
      does = completes_same (S c) (S then) a b d n (λ p. ap (λ v. sections_at v p) (end_world c a b m rest queued outer))
          (λ s at point remote other. ends d s outer at);
      data_stay = λ q r. no_data q r Other a b c.handed (nothing_in q r a b Other refl);
      offers = refl;
      deliveries = refl;
    })
    (cases_Bool (is_node (network_at c) b))

quiet_on : (turns : ℕ) (c then : Course) (l : ℕ × ℕ) → next_of c ≡ Some l → c.deliveries < 64 * c.offers → delivered l.0 l.1 c ≡ then
    → then.plan ≡ c.plan
    → ((q r : ℕ) → data_at q r then.handed ≡ data_at q r c.handed) → Ends turns then → Ends (suc turns) c
quiet_on turns c then l next lt step plan_is stay r = (
  r.0,
  turn_on turns c l next lt ∙ ap (settled_in turns) step ∙ r.1,
  record {
    plan_is = r.2.plan_is ∙ plan_is;
    none = r.2.none;
    data_stay = λ q k. r.2.data_stay q k ∙ stay q k;
  },
)

-- what is left of the turns, from any state of completions
abbrev LaterEnded : ℕ → ℕ → ℕ → Type 0
LaterEnded turns from end = (c : Course) (ts : List Mark) (back : List Hop) → Ended (network_at c) (S c) ts from end back
    → Marked (world_at c) ts → length ts < turns → c.deliveries + length ts ≤ 64 * c.offers → Ends turns c

ended_one : (turns : ℕ) (c : Course) (ts : List Mark) (from end : ℕ) (back : List Hop) (a b d n : ℕ) (rest : List Message)
    → Ended (network_at c) (S c) ts from end back → Marked (world_at c) ts → length ts < suc turns
    → c.deliveries + length ts ≤ 64 * c.offers
    → LaterEnded turns from end → Taken a b (messages.Rlc d n) rest ts → (world_at c).waiting a b ≡ messages.Rlc d n ∷ rest
    → next_of c ≡ Some (a, b) → Ends (suc turns) c
ended_one turns c ts from end back a b d n rest g marked enough few later t queued next =
    let done = completed c a b d n rest ts marked t queued
    (λ own s outer at. ended_ends (network_at c) (S c) ts from end back g b own s outer at) in
    let long = ap (λ (l : List Mark). length l) t.is in
    let less = length_out t.front t.back (record { from = a; to = b; message = messages.Rlc d n }) in
    let offers = done.offers in
    let deliveries = done.deliveries in
    quiet_on turns c done.then (a, b) next (omega (arith, few, long, less)) done.step done.plan_is done.data_stay
    (later done.then (t.front ++ t.back) back
    (subst (λ k. Ended (network_of k) (S done.then) (t.front ++ t.back) from end back) (sym done.plan_is)
    (ended_done (network_at c) (S c) (S done.then) from end a b d n t.front t.back back done.does
    (subst (λ (k : List Mark). Ended (network_at c) (S c) k from end back) t.is g)))
    done.marked (omega (arith, enough, long, less)) (omega (arith, few, long, less, offers, deliveries)))

none_there : (front back : List Mark) (t : Mark) → is_release t ≡ true → filter is_release (front ++ t ∷ back) ≡ [] → ⊥
none_there [] back t is h =
    let k : t ∷ filter is_release back ≡ [] = sym (ap (λ (k : Bool). cond k (t ∷ filter is_release back) (filter is_release back)) is)
    ∙ h in cc
none_there (x ∷ front) back t is h =
    elim (is_release x) as (λ k. cond k (x ∷ filter is_release (front ++ t ∷ back)) (filter is_release (front ++ t ∷ back)) ≡ [] → ⊥) [
      | true ↦ λ g. let z : x ∷ filter is_release (front ++ t ∷ back) ≡ [] = g in cc
      | false ↦ λ g. none_there front back t is g
    ] h

ended_turn : (turns : ℕ) (c : Course) (ts : List Mark) (from end : ℕ) (back : List Hop) → LaterEnded turns from end
    → Ended (network_at c) (S c) ts from end back → Marked (world_at c) ts → length ts < suc turns
    → c.deliveries + length ts ≤ 64 * c.offers
    → Ends (suc turns) c
ended_turn turns c ts from end back later g marked enough few =
    ⊎_elim
    (λ (none : next_of c ≡ None).
    let e : ts ≡ [] = empty_marks (world_at c) ts marked (none_waiting c none) in (
      c,
      turn_end turns c none,
      record {
        plan_is = refl;
        none = nothing_left (network_at c) (S c) from end back (subst (λ (l : List Mark). Ended (network_at c) (S c) l from end back) e g);
        data_stay = λ q r. refl;
      },
    ))
    (λ (some : (l : ℕ × ℕ) × (next_of c ≡ Some l)).
    let q = next_waits c some.0 some.1 in
    let t = taken some.0.0 some.0.1 q.0 q.1 ts (sym (marked some.0.0 some.0.1) ∙ q.2) in
    by some.0.0 some.0.1 q.0 q.1 t q.2 some.1
    (every_out (Aimed from back) t.front t.back (record { from = some.0.0; to = some.0.1; message = q.0 })
    (subst (Every (Aimed from back)) t.is g.aimed)).0)
    (option_parts (next_of c))
  where
    by : (a b : ℕ) (m : Message) (rest : List Message) → Taken a b m rest ts → (world_at c).waiting a b ≡ m ∷ rest → next_of c ≡ Some (a, b)
        → Aimed from back (record { from = a; to = b; message = m }) → Ends (suc turns) c
    by a b m rest t queued next (is_rlsd d s e) =
        let u : Mark = record { from = a; to = b; message = m } in
        let rel : is_release u ≡ true = ap releases e in
        absurd (none_there t.front t.back u rel (sym (ap (filter is_release) t.is) ∙ g.none))
    by a b m rest t queued next (is_done d n e aim) =
        subst (λ (x : Message). Taken a b x rest ts → (world_at c).waiting a b ≡ x ∷ rest → Ends (suc turns) c) (sym e)
        (λ t queued. ended_one turns c ts from end back a b d n rest g marked enough few later t queued next) t queued

-- completions only
pub ended : (turns : ℕ) (c : Course) (ts : List Mark) (from end : ℕ) (back : List Hop) → Ended (network_at c) (S c) ts from end back
    → Marked (world_at c) ts → length ts < turns → c.deliveries + length ts ≤ 64 * c.offers → Ends turns c
ended zero c ts from end back g marked enough few = absurd (omega (arith, enough))
ended (suc turns) c ts from end back g marked enough few =
    ended_turn turns c ts from end back
    (λ c ts back g marked enough few. ended turns c ts from end back g marked enough few) g marked enough few

-- ---- the release and completions

abbrev LaterGoing : ℕ → ℕ → ℕ → Type 0
LaterGoing turns from end = (c : Course) (ts : List Mark) (back hops : List Hop) → 1 ≤ length back + length hops
    → Going (network_at c) (S c) ts from end back hops → Marked (world_at c) ts → is_node (network_at c) end ≡ false
    → length ts + 2 * length hops + 1 < turns → c.deliveries + (length ts + 2 * length hops + 1) ≤ 64 * c.offers → Ends turns c

-- what holds at one turn
record Turn (turns : ℕ) (c : Course) (ts : List Mark) (from end : ℕ) (back hops : List Hop) : Type 0 where
  pub some : 1 ≤ length back + length hops
  pub going : Going (network_at c) (S c) ts from end back hops
  pub marked : Marked (world_at c) ts
  pub outer : is_node (network_at c) end ≡ false
  pub enough : length ts + 2 * length hops + 1 < suc turns
  pub few : c.deliveries + (length ts + 2 * length hops + 1) ≤ 64 * c.offers
  pub later : LaterGoing turns from end

-- a completion arrives
going_one : (turns : ℕ) (c : Course) (ts : List Mark) (from end : ℕ) (back hops : List Hop) (a b d n : ℕ) (rest : List Message)
    → Turn turns c ts from end back hops → Taken a b (messages.Rlc d n) rest ts → (world_at c).waiting a b ≡ messages.Rlc d n ∷ rest
    → next_of c ≡ Some (a, b) → (b ≡ from) ⊎ FarIn b d (tail back) → Ends (suc turns) c
going_one turns c ts from end back hops a b d n rest k t queued next aim =
    let g = k.going in
    let done = completed c a b d n rest ts k.marked t queued
    (λ own s outer at. going_ends (network_at c) (S c) ts from end back hops g b own s outer at) in
    let long = ap (λ (l : List Mark). length l) t.is in
    let less = length_out t.front t.back (record { from = a; to = b; message = messages.Rlc d n }) in
    let offers = done.offers in
    let deliveries = done.deliveries in
    let few = k.few in
    let enough = k.enough in
    quiet_on turns c done.then (a, b) next (omega (arith, few)) done.step done.plan_is done.data_stay
    (k.later done.then (t.front ++ t.back) back hops k.some
    (subst (λ p. Going (network_of p) (S done.then) (t.front ++ t.back) from end back hops) (sym done.plan_is)
    (going_done (network_at c) (S c) (S done.then) from end a b d n t.front t.back back hops done.does aim
    (subst (λ (l : List Mark). Going (network_at c) (S c) l from end back hops) t.is g)))
    done.marked (ap (λ p. is_node (network_of p) end) done.plan_is ∙ k.outer)
    (omega (arith, enough, long, less)) (omega (arith, few, long, less, offers, deliveries)))

-- the release arrives at a relay
going_next : (turns : ℕ) (c : Course) (ts : List Mark) (from end : ℕ) (back hops : List Hop) (h : Hop) (rest : List Message)
    → Turn turns c ts from end back (h ∷ hops) → Taken (back_point from back) h.node (messages.Rlsd h.near (back_ref back) 0 []) rest ts
    → (world_at c).waiting (back_point from back) h.node ≡ messages.Rlsd h.near (back_ref back) 0 [] ∷ rest
    → next_of c ≡ Some (back_point from back, h.node) → Ends (suc turns) c
going_next turns c ts from end back hops h rest k t queued next =
    let g = k.going in
    let a : ℕ = back_point from back in
    let b : ℕ = h.node in
    let m : Message = messages.Rlsd h.near (back_ref back) 0 [] in
    let o = g.opens.0 in
    let then : Course = after_delivery a b c in
    let u : World = left (world_at c) a b m rest in
    let event : Event = event_at (network_at c) b a m in
    let e = relay_world c a b m rest queued o.inner in
    let out = release_on (network_at c) (S c) end a (back_ref back) h hops ((network_at c).way b a m) o in
    let us : List Mark = answers from end back h hops (t.front ++ t.back) in
    let long = ap (λ (l : List Mark). length l) t.is in
    let less = length_out t.front t.back (record { from = a; to = b; message = m }) in
    let one = length_in (t.front ++ t.back) (record { from = b; to = a; message = messages.Rlc (back_ref back) h.near }) in
    let two = length_in ((t.front ++ t.back) ++ record { from = b; to = a; message = messages.Rlc (back_ref back) h.near } ∷ [])
    (release_mark from end (h ∷ back) hops) in
    let few = k.few in
    let enough = k.enough in
    quiet_on turns c then (a, b) next (omega (arith, few)) (relay_delivery a b m rest c queued o.inner) refl (λ q r. refl)
    (k.later then us (h ∷ back) hops (omega arith)
    (going_on (network_at c) (S c) (S then) from end t.front t.back back hops h
    (record {
      here = ap (λ v. sections_at v b) e ∙ sections_here u b event ∙ ap (λ (x : Outcome). x.sections) out;
      there = λ p n. ap (λ v. sections_at v p) e ∙ sections_there u b event p n;
    })
    (subst (λ (l : List Mark). Going (network_at c) (S c) l from end back (h ∷ hops)) t.is g))
    (two_marked c a b m rest ts k.marked t queued o.inner a (front_point end hops) (messages.Rlc (back_ref back) h.near)
    (messages.Rlsd (front_ref hops) h.far 0 []) (ap (λ (x : Outcome). x.sent) out))
    k.outer (omega (arith, enough, long, less, one, two)) (omega (arith, few, long, less, one, two)))

-- the release arrives at the far end
going_last : (turns : ℕ) (c : Course) (ts : List Mark) (from end : ℕ) (back : List Hop) (h : Hop) (rest : List Message)
    → Turn turns c ts from end (h ∷ back) [] → Taken h.node end (messages.Rlsd 2 h.far 0 []) rest ts
    → (world_at c).waiting h.node end ≡ messages.Rlsd 2 h.far 0 [] ∷ rest → next_of c ≡ Some (h.node, end) → Ends (suc turns) c
going_last turns c ts from end back h rest k t queued next =
    let g = k.going in
    let a : ℕ = h.node in
    let m : Message = messages.Rlsd 2 h.far 0 [] in
    let n : Message = messages.Rlc h.far 2 in
    let note : Course = after_note a end (Release 2 h.far) c in
    let none : offer_fault (network_at note) (world_at note) end a n ≡ None =
    no_fault (network_at c) (world_at note) end a n k.outer g.inner.0 refl refl refl in
    let then : Course = after_offer end a n note in
    let put_is : world_at then ≡ put (world_at note) end a n = world_offered end a n note none in
    let was = end_world c a end m rest queued k.outer in
    let rest_marks : Marked (world_at note) (t.front ++ t.back) = end_marked c a end m rest ts k.marked t queued k.outer in
    let us : List Mark = (t.front ++ t.back) ++ record { from = end; to = a; message = n } ∷ [] in
    let long = ap (λ (l : List Mark). length l) t.is in
    let less = length_out t.front t.back (record { from = a; to = end; message = m }) in
    let one = length_in (t.front ++ t.back) (record { from = end; to = a; message = n }) in
    let few = k.few in
    let enough = k.enough in
    quiet_on turns c then (a, end) next (omega (arith, few))
    (end_delivery a end m rest c queued k.outer ∙ offer_is end a n note (record { addresses = tt; named = tt; sevens_fit = tt }) none)
    refl (λ q r. no_data q r (Release 2 h.far) a end c.handed (nothing_in q r a end (Release 2 h.far) refl))
    (ended turns then us from end (h ∷ back)
    (going_out (network_at c) (S c) (S then) from end t.front t.back h back
    (λ p. ap (λ v. sections_at v p) put_is ∙ ap (λ v. sections_at v p) was)
    (subst (λ (l : List Mark). Going (network_at c) (S c) l from end (h ∷ back) []) t.is g))
    (λ x y. ap (λ (v : World). v.waiting x y) put_is ∙ put_marked (world_at note) end a n (t.front ++ t.back) rest_marks x y)
    (omega (arith, enough, long, less, one)) (omega (arith, few, long, less, one)))
  where
    put_marked : (w : World) (b a : ℕ) (n : Message) (ts : List Mark) → Marked w ts → (x y : ℕ)
        → (put w b a n).waiting x y ≡ on_link x y (ts ++ record { from = b; to = a; message = n } ∷ [])
    put_marked w b a n ts marked x y =
        elim ((x == b) && (y == a)) as (λ k. ((x == b) && (y == a)) ≡ k
        → cond k (w.waiting b a ++ n ∷ []) (w.waiting x y) ≡ on_link x y ts ++ cond k (n ∷ []) []) [
          | true ↦ λ e.
              let p = and_parts (x == b) (y == a) e in
              ap (λ (l : List Message). l ++ n ∷ [])
              (ap (λ (j : ℕ). w.waiting j a) (sym (eqb-true x b p.0)) ∙ ap (w.waiting x) (sym (eqb-true y a p.1)) ∙ marked x y)
          | false ↦ λ e. marked x y ∙ sym (append-nil (on_link x y ts))
        ] refl
        ∙ sym (added x y ts (record { from = b; to = a; message = n }))

going_release : (turns : ℕ) (c : Course) (ts : List Mark) (from end : ℕ) (back hops : List Hop) (rest : List Message)
    → Turn turns c ts from end back hops
    → Taken (back_point from back) (front_point end hops) (messages.Rlsd (front_ref hops) (back_ref back) 0 []) rest ts
    → (world_at c).waiting (back_point from back) (front_point end hops) ≡ messages.Rlsd (front_ref hops) (back_ref back) 0 [] ∷ rest
    → next_of c ≡ Some (back_point from back, front_point end hops) → Ends (suc turns) c
going_release turns c ts from end back (h ∷ hops) rest k t queued next = going_next turns c ts from end back hops h rest k t queued next
going_release turns c ts from end (h ∷ back) [] rest k t queued next = going_last turns c ts from end back h rest k t queued next
going_release turns c ts from end [] [] rest k t queued next = let some = k.some in absurd (omega (arith, some))

going_turn : (turns : ℕ) (c : Course) (ts : List Mark) (from end : ℕ) (back hops : List Hop) → Turn turns c ts from end back hops
    → Ends (suc turns) c
going_turn turns c ts from end back hops k =
    ⊎_elim
    (λ (none : next_of c ≡ None).
    let e : ts ≡ [] = empty_marks (world_at c) ts k.marked (none_waiting c none) in
    absurd (no_mark (release_mark from end back hops) (sym (ap (filter is_release) e) ∙ k.going.one)))
    (λ (some : (l : ℕ × ℕ) × (next_of c ≡ Some l)).
    let q = next_waits c some.0 some.1 in
    let t = taken some.0.0 some.0.1 q.0 q.1 ts (sym (k.marked some.0.0 some.0.1) ∙ q.2) in
    by some.0.0 some.0.1 q.0 q.1 t q.2 some.1
    (every_out (Aimed from (tail back)) t.front t.back (record { from = some.0.0; to = some.0.1; message = q.0 })
    (subst (Every (Aimed from (tail back))) t.is k.going.aimed)).0)
    (option_parts (next_of c))
  where
    no_mark : (t : Mark) → [] ≡ t ∷ [] → ⊥
    no_mark t e = cc

    by : (a b : ℕ) (m : Message) (rest : List Message) → Taken a b m rest ts → (world_at c).waiting a b ≡ m ∷ rest → next_of c ≡ Some (a, b)
        → Aimed from (tail back) (record { from = a; to = b; message = m }) → Ends (suc turns) c
    by a b m rest t queued next (is_done d n e aim) =
        subst (λ (x : Message). Taken a b x rest ts → (world_at c).waiting a b ≡ x ∷ rest → Ends (suc turns) c) (sym e)
        (λ t queued. going_one turns c ts from end back hops a b d n rest k t queued next aim) t queued
    by a b m rest t queued next (is_rlsd d s e) =
        let u : Mark = record { from = a; to = b; message = m } in
        let rel : is_release u ≡ true = ap releases e in
        let one = filter_one is_release t.front t.back u (release_mark from end back hops) rel (sym (ap (filter is_release) t.is)
        ∙ k.going.one) in
        subst (λ (v : Mark). Taken v.from v.to v.message rest ts → (world_at c).waiting v.from v.to ≡ v.message ∷ rest
        → next_of c ≡ Some (v.from, v.to) → Ends (suc turns) c) (sym one.0)
        (λ t queued next. going_release turns c ts from end back hops rest k t queued next) t queued next

pub going : (turns : ℕ) (c : Course) (ts : List Mark) (from end : ℕ) (back hops : List Hop) → 1 ≤ length back + length hops
    → Going (network_at c) (S c) ts from end back hops → Marked (world_at c) ts → is_node (network_at c) end ≡ false
    → length ts + 2 * length hops + 1 < turns → c.deliveries + (length ts + 2 * length hops + 1) ≤ 64 * c.offers → Ends turns c
going zero c ts from end back hops some g marked outer enough few = absurd (omega (arith, enough))
going (suc turns) c ts from end back hops some g marked outer enough few =
    going_turn turns c ts from end back hops (record {
      some = some;
      going = g;
      marked = marked;
      outer = outer;
      enough = enough;
      few = few;
      later = λ c ts back hops some g marked outer enough few. going turns c ts from end back hops some g marked outer enough few;
    })

-- ---- no sections are counted

nothing : (l : List Section) → ((own : ℕ) (s : Section) → section_at l own ≡ Some s → ⊥) → l ≡ []
nothing [] h = refl
nothing (x ∷ xs) h = absurd (h x.own x (ap (λ (b : Bool). cond b (Some x) (section_at xs x.own)) (eq-eqb x.own x.own refl)))

pub no_sections : (network : Network) (w : World) → ((p own : ℕ) (s : Section) → section_at (sections_at w p) own ≡ Some s → ⊥)
    → sections_of network w ≡ 0
no_sections network w h = by network.nodes
  where
    by : (nodes : List ℕ) → sum (map (λ node. length (sections_at w node)) nodes) ≡ 0
    by [] = refl
    by (n ∷ nodes) = let e = ap (λ l. length l) (nothing (sections_at w n) (h n)) in ap
        (λ (k : ℕ). sum (k ∷ map (λ node. length (sections_at w node)) nodes)) e ∙ by nodes
