-- Data that an end sends come out at the other end, all of them and in order.
use Rattle.std.specs.Prelude.{ℕ, ◌≡◌, ◌==◌, ◌⊎◌, ◌<◌, ◌≤◌, ◌+◌, ◌*◌, Bool, true, false, cond, List, [], ◌∷◌, ◌++◌, Option, Some, None, refl}
use Rattle.std.specs.List.{flat_map}
use Rattle.std.proofs.Common.{zero, suc, sym, ◌∙◌, ap, subst, ⊎_elim, inl, inr, arith, append_assoc, append-nil}
use Rattle.std.proofs.lemmas.Bool.{eq-eqb, ne_eqb}
use Rattle.sccp_message.specs.declared.message.Message.{Message}
use Rattle.sccp_message.specs.declared.message.Message.TheVariants as messages
use Rattle.sccp_couple.specs.Events.{Piece}
use Rattle.sccp_couple.specs.Coupling.{coupled, only_sends, to_one}
use Rattle.couple_chain.specs.Line.{pieces_for}
use Rattle.couple_chain.specs.World.{Network, World, is_node}
use Rattle.chain_call.specs.Course.{Course, world_at}
use Rattle.chain_call.specs.Notes.{data_of, data_in, data_at}
use Rattle.chain_call.specs.Steps.{delivered, next_of, settled_in}
use Rattle.chain_call.specs.declared.note.Note.TheVariants.{Data}
use Rattle.chain_call.specs.declared.handed.Handed.{Handed}
use Rattle.chain_call.proofs.NextLink.{next_holds, none_waits}
use Rattle.chain_call.proofs.Tokens.{Empty}
use Rattle.chain_call.proofs.Hops.{Sections}
use Rattle.chain_call.proofs.HopSteps.{event_with}
use Rattle.chain_call.proofs.Flows.{Stop, next_point, next_ref, Carries, queue, under, weight, OnWay, AllOnWay, Every}
use Rattle.chain_call.proofs.Flows.{goes, on_way_after}
use Rattle.chain_call.proofs.Courses.{network_at, after_delivery, after_note, world_delivered}
use Rattle.chain_call.proofs.Courses.{relay_delivery, end_delivery, turn_on, turn_end}
use Rattle.chain_call.proofs.Requests.{S}

-- the octets of pieces
abbrev pub payloads : List Piece → List ℕ
payloads pieces = flat_map (λ p. p.payload) pieces

pub flat_append : {A : Type 0} (f : A → List ℕ) (xs ys : List A) → flat_map f (xs ++ ys) ≡ flat_map f xs ++ flat_map f ys
flat_append f [] ys = refl
flat_append f (x ∷ xs) ys = ap (λ (l : List ℕ). f x ++ l) (flat_append f xs ys) ∙ sym (append_assoc (f x) (flat_map f xs) (flat_map f ys))

-- ---- what ends were handed

pub more_at : (end last : ℕ) (payload : List ℕ) (from : ℕ) (handed : List Handed)
    → data_at end last (handed ++ record { from = from; to = end; note = Data last payload } ∷ []) ≡ data_at end last handed ++ payload
more_at end last payload from handed =
    let h : Handed = record { from = from; to = end; note = Data last payload } in
    flat_append (data_in end last) handed (h ∷ [])
    ∙ ap (λ (l : List ℕ). data_at end last handed ++ l)
    (append-nil (data_in end last h) ∙ ap (λ (b : Bool). cond b (data_of last (Data last payload)) []) (eq-eqb end end refl)
    ∙ ap (λ (b : Bool). cond b payload []) (eq-eqb last last refl))

pub none_at : (end last : ℕ) (payload : List ℕ) (from : ℕ) (handed : List Handed) (q r : ℕ) → (last ≡ r → ⊥)
    → data_at q r (handed ++ record { from = from; to = end; note = Data last payload } ∷ []) ≡ data_at q r handed
none_at end last payload from handed q r n =
    let h : Handed = record { from = from; to = end; note = Data last payload } in
    flat_append (data_in q r) handed (h ∷ [])
    ∙ ap (λ (l : List ℕ). data_at q r handed ++ l)
    (append-nil (data_in q r h) ∙ ap (λ (l : List ℕ). cond (end == q) l []) (ap (λ (b : Bool). cond b payload []) (ne_eqb last r n))
    ∙ elim (end == q) as (λ b. cond {A = List ℕ} b [] [] ≡ []) [ true ↦ refl | false ↦ refl ])
    ∙ append-nil (data_at q r handed)

-- ---- until nothing is under way

under_empty : (w : World) (point end last : ℕ) (stops : List Stop) → Empty w → under w point end last stops ≡ []
under_empty w point end last [] h = ap (pieces_for (Some last)) (h point end)
under_empty w point end last (s ∷ stops) h =
    ap (λ (l : List Piece). l ++ queue w point s.node s.ref) (under_empty w s.node end last stops h)
    ∙ ap (pieces_for (Some s.ref)) (h point s.node)

-- data are under way from a point to an end
pub record Flowing (c : Course) (point end last : ℕ) (stops : List Stop) : Type 0 where
  pub outer : is_node (network_at c) end ≡ false
  pub carries : Carries (network_at c) (S c) point end last stops
  pub all : AllOnWay (world_at c) point end last stops

-- they have come out
pub record Through (c after : Course) (end last : ℕ) (octets : List ℕ) : Type 0 where
  pub plan_is : after.plan ≡ c.plan
  pub empty : Empty (world_at after)
  pub same : (p : ℕ) → S after p ≡ S c p
  pub come : data_at end last after.handed ≡ data_at end last c.handed ++ octets
  pub others : (q r : ℕ) → (last ≡ r → ⊥) → data_at q r after.handed ≡ data_at q r c.handed
  pub offers : after.offers ≡ c.offers

pub carries_same : (network : Network) (S T : Sections) (point end last : ℕ) (stops : List Stop) → ((p : ℕ) → T p ≡ S p)
    → Carries network S point end last stops → Carries network T point end last stops
carries_same network S T point end last [] same h = tt
carries_same network S T point end last (s ∷ stops) same h = (
  record {
    inner = h.0.inner;
    hands = λ more payload way. ap (λ l. coupled l (event_with point (messages.Dt1 s.ref more payload) way)) (same s.node)
        ∙ h.0.hands more payload way
        ∙ ap (λ l. only_sends l (to_one (next_point end stops) (messages.Dt1 (next_ref last stops) more payload))) (sym (same s.node));
    other = h.0.other;
  },
  carries_same network S T s.node end last stops same h.1,
)

pub option_parts : (o : Option (ℕ × ℕ)) → (o ≡ None) ⊎ ((l : ℕ × ℕ) × (o ≡ Some l))
option_parts None = inl refl
option_parts (Some l) = inr (l, refl)

pub next_waits : (c : Course) (l : ℕ × ℕ) → next_of c ≡ Some l
    → (m : Message) × (rest : List Message) × ((world_at c).waiting l.0 l.1 ≡ m ∷ rest)
unfolding next_of
next_waits c l e = next_holds (network_at c) c.history l e

pub none_waiting : (c : Course) → next_of c ≡ None → Empty (world_at c)
unfolding next_of
none_waiting c e = none_waits (network_at c) c.history e

abbrev Comes : ℕ → Course → ℕ → ℕ → ℕ → List Stop → Type 0
Comes turns c point end last stops =
    (after : Course) × (settled_in turns c ≡ Some after) × Through c after end last (payloads (under (world_at c) point end last stops))
    × (after.deliveries ≤ c.deliveries + weight (world_at c) point end last stops)

pub flow : (turns : ℕ) (c : Course) (point end last : ℕ) (stops : List Stop) → Flowing c point end last stops
    → weight (world_at c) point end last stops < turns → c.deliveries + weight (world_at c) point end last stops ≤ 64 * c.offers
    → Comes turns c point end last stops
flow zero c point end last stops f enough few = absurd (omega (arith, enough))
flow (suc turns) c point end last stops f enough few =
    ⊎_elim
    (λ (none : next_of c ≡ None).
    let empty = none_waiting c none in (
      c,
      turn_end turns c none,
      record {
        plan_is = refl;
        empty = empty;
        same = λ p. refl;
        come = sym (append-nil (data_at end last c.handed)) ∙ ap (λ (l : List Piece). data_at end last c.handed ++ payloads l)
            (sym (under_empty (world_at c) point end last stops empty));
        others = λ q r n. refl;
        offers = refl;
      },
      omega arith,
    ))
    (λ (some : (l : ℕ × ℕ) × (next_of c ≡ Some l)).
    let a : ℕ = some.0.0 in
    let b : ℕ = some.0.1 in
    let q = next_waits c some.0 some.1 in
    let m : Message = q.0 in
    let rest : List Message = q.1 in
    let w : World = world_at c in
    let then : Course = after_delivery a b c in
    let v : World = world_at then in
    let on : OnWay point end last stops a b m = (subst (Every (OnWay point end last stops a b)) q.2 (f.all a b)).0 in
    let g = goes (network_at c) w v point end last stops a b m rest f.outer f.carries q.2 (world_delivered a b c) on in
    ⊎_elim
    (λ (k : (is_node (network_at c) b ≡ true) × (under v point end last stops ≡ under w point end last stops)
    × (weight w point end last stops ≡ weight v point end last stops + 1)).
    let weighs = k.2 in
    let next : Flowing then point end last stops = record {
      outer = f.outer;
      carries = carries_same (network_at c) (S c) (S then) point end last stops g.still f.carries;
      all = on_way_after (network_at c) w v point end last stops a b m rest q.2 g f.all;
    } in
    let r = flow turns then point end last stops next (omega (arith, enough, weighs)) (omega (arith, few, weighs)) in (
      r.0,
      turn_on turns c some.0 some.1 (omega (arith, few, weighs)) ∙ ap (settled_in turns) (relay_delivery a b m rest c q.2 k.0) ∙ r.1,
      record {
        plan_is = r.2.plan_is;
        empty = r.2.empty;
        same = λ p. r.2.same p ∙ g.still p;
        come = r.2.come ∙ ap (λ (l : List Piece). data_at end last c.handed ++ payloads l) k.1;
        others = r.2.others;
        offers = r.2.offers;
      },
      (let d = r.3 in omega (arith, d, weighs)),
    ))
    (λ (k : (b ≡ end) × (more : Bool) × (payload : List ℕ) × (m ≡ messages.Dt1 last more payload)
    × (under w point end last stops ≡ record { more = more; payload = payload } ∷ under v point end last stops)
    × (weight w point end last stops ≡ weight v point end last stops + 1)).
    let weighs = k.5 in
    let next : Flowing (after_note a b (Data last k.2) c) point end last stops = record {
      outer = f.outer;
      carries = carries_same (network_at c) (S c) (S then) point end last stops g.still f.carries;
      all = on_way_after (network_at c) w v point end last stops a b m rest q.2 g f.all;
    } in
    let queued : w.waiting a b ≡ messages.Dt1 last k.1 k.2 ∷ rest = q.2 ∙ ap (λ (x : Message). x ∷ rest) k.3 in
    let outer_b : is_node (network_at c) b ≡ false = ap (is_node (network_at c)) k.0 ∙ f.outer in
    let hand : delivered a b c ≡ after_note a b (Data last k.2) c = end_delivery a b (messages.Dt1 last k.1 k.2) rest c queued outer_b in
    finish turns c a b k.0 k.2 some.0 some.1 hand (omega (arith, few, weighs)) k.1 g.still k.4
    (let z = k.5 in z)
    (flow turns (after_note a b (Data last k.2) c) point end last stops next
    (omega (arith, enough, weighs)) (omega (arith, few, weighs))))
    g.outcome)
    (option_parts (next_of c))
  where
    finish : (turns : ℕ) (c : Course) (a b : ℕ) → b ≡ end → (payload : List ℕ) (l : ℕ × ℕ) → next_of c ≡ Some l
        → delivered l.0 l.1 c ≡ after_note a b (Data last payload) c → c.deliveries < 64 * c.offers → (more : Bool)
        → ((p : ℕ) → S (after_note a b (Data last payload) c) p ≡ S c p)
        → (under (world_at c) point end last stops ≡ record { more = more; payload = payload }
        ∷ under (world_at (after_note a b (Data last payload) c)) point end last stops)
        → (weight (world_at c) point end last stops ≡ weight (world_at (after_note a b (Data last payload) c)) point end last stops + 1)
        → Comes turns (after_note a b (Data last payload) c) point end last stops → Comes (suc turns) c point end last stops
    finish turns c a b same payload l next hand lt more still all weighs r =
        let n : Course = after_note a b (Data last payload) c in (
          r.0,
          turn_on turns c l next lt ∙ ap (settled_in turns) hand ∙ r.1,
          record {
            plan_is = r.2.plan_is;
            empty = r.2.empty;
            same = λ p. r.2.same p ∙ still p;
            come = r.2.come
                ∙ ap (λ (l : List ℕ). l ++ payloads (under (world_at n) point end last stops))
                (ap (λ (k : ℕ). data_at end last (c.handed ++ record { from = a; to = k; note = Data last payload } ∷ [])) same
                ∙ more_at end last payload a c.handed)
                ∙ append_assoc (data_at end last c.handed) payload (payloads (under (world_at n) point end last stops))
                ∙ ap (λ (l : List Piece). data_at end last c.handed ++ payloads l) (sym all);
            others = λ q k n. r.2.others q k n ∙ none_at b last payload a c.handed q k n;
            offers = r.2.offers;
          },
          (let d = r.3 in omega (arith, d, weighs)),
        )
