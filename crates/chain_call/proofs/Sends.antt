-- An end sends octets over open relays, and they come out at the other end.
use Rattle.std.specs.Prelude.{ℕ, ◌≡◌, ◌==◌, ◌<◌, ◌≤◌, ◌+◌, ◌*◌, Bool, true, false, cond, ◌&&◌, List, [], ◌∷◌, ◌++◌, length, Some, None}
use Rattle.std.specs.Prelude.{refl}
use Rattle.std.proofs.Common.{sym, ◌∙◌, ap, subst, inl, arith, append_assoc, append-nil}
use Rattle.std.proofs.lemmas.Bool.{eqb-true, eq-eqb, and_parts}
use Rattle.sccp_message.specs.declared.message.Message.{Message}
use Rattle.sccp_message.specs.declared.message.Message.TheVariants as messages
use Rattle.sccp_message.specs.Written.{IsMessage}
use Rattle.sccp_couple.specs.Events.{Piece}
use Rattle.couple_chain.specs.Line.{pieces_for}
use Rattle.couple_chain.specs.World.{Network, World, is_node, put, offer_fault}
use Rattle.chain_world.specs.Kept.{network_of}
use Rattle.chain_call.specs.Course.{Course, world_at}
use Rattle.chain_call.specs.Notes.{data_at}
use Rattle.chain_call.specs.Steps.{offered, has_more, sent_by, settled_in}
use Rattle.chain_call.proofs.Tokens.{sections_at, Empty}
use Rattle.chain_call.proofs.Hops.{Sections}
use Rattle.chain_call.proofs.Flows.{Stop, NoStop, NoKey, Carries, queue, under, each, weight, OnWay, AllOnWay, Every}
use Rattle.chain_call.proofs.Flows.{every_append, pieces_append, pieces_here, pieces_there, under_grown, differ_by}
use Rattle.chain_call.proofs.Courses.{network_at, after_offer, offer_is, world_offered, no_fault}
use Rattle.chain_call.proofs.DataCourses.{payloads, flat_append, Flowing, carries_same, flow}
use Rattle.chain_call.proofs.Requests.{S}

-- ---- one octet is offered

data_message : (d : ℕ) (more : Bool) (payload : List ℕ) → IsMessage (messages.Dt1 d more payload)
data_message d more payload = record { addresses = tt; named = tt; sevens_fit = tt }

-- a link with one more message
put_here : (w : World) (from to d : ℕ) (more : Bool) (payload : List ℕ)
    → queue (put w from to (messages.Dt1 d more payload)) from to d ≡ queue w from to d ++ record { more = more; payload = payload } ∷ []
put_here w from to d more payload =
    let m : Message = messages.Dt1 d more payload in
    ap (λ (b : Bool). pieces_for (Some d) (cond b (w.waiting from to ++ m ∷ []) (w.waiting from to)))
    (ap (λ (b : Bool). b && (to == to)) (eq-eqb from from refl) ∙ eq-eqb to to refl)
    ∙ pieces_append d (w.waiting from to) (m ∷ [])
    ∙ ap (λ (l : List Piece). queue w from to d ++ l) (pieces_here d more payload [])

put_there : (w : World) (from to d : ℕ) (more : Bool) (payload : List ℕ) (x y e : ℕ) → (y ≡ to → e ≡ d → ⊥)
    → queue (put w from to (messages.Dt1 d more payload)) x y e ≡ queue w x y e
put_there w from to d more payload x y e n =
    let m : Message = messages.Dt1 d more payload in
    elim ((x == from) && (y == to)) as (λ c. ((x == from) && (y == to)) ≡ c
    → pieces_for (Some e) (cond c (w.waiting from to ++ m ∷ []) (w.waiting x y)) ≡ queue w x y e) [
      | true ↦ λ h.
          let p = and_parts (x == from) (y == to) h in
          pieces_append e (w.waiting from to) (m ∷ [])
          ∙ ap (λ (l : List Piece). pieces_for (Some e) (w.waiting from to) ++ l)
          (pieces_there e d more payload [] (n (eqb-true y to p.1)))
          ∙ append-nil (pieces_for (Some e) (w.waiting from to))
          ∙ ap (λ (k : ℕ). pieces_for (Some e) (w.waiting k to)) (sym (eqb-true x from p.0))
          ∙ ap (λ (k : ℕ). pieces_for (Some e) (w.waiting x k)) (sym (eqb-true y to p.1))
      | false ↦ λ h. refl
    ] refl

-- the first stop of an end that sends is a relay, and the reference of the other end is not 0
pub record Sends (c : Course) (point end last : ℕ) (s : Stop) (stops : List Stop) : Type 0 where
  pub sender : is_node (network_at c) point ≡ false
  pub last_is : 1 ≤ last
  pub flowing : Flowing c point end last (s ∷ stops)

no_stop : (network : Network) (T : Sections) (point end last here : ℕ) (stops : List Stop) → is_node network here ≡ false
    → Carries network T point end last stops → NoStop here 0 stops
no_stop network T point end last here [] outer h = tt
no_stop network T point end last here (s ∷ stops) outer h = (
  (λ e f. let z : false ≡ true = sym outer ∙ ap (is_node network) (sym e) ∙ h.0.inner in absurd (cc)),
  no_stop network T s.node end last here stops outer h.1,
)

-- a number for each octet
abbrev pub each_of : ℕ → List ℕ → ℕ
each_of n [] = 0
each_of n (octet ∷ octets) = n + each_of n octets

-- after one more octet
pub record Grew (c after : Course) (point end last : ℕ) (stops : List Stop) (octets : List ℕ) : Type 0 where
  pub plan_is : after.plan ≡ c.plan
  pub all : AllOnWay (world_at after) point end last stops
  pub same : (p : ℕ) → S after p ≡ S c p
  pub more : payloads (under (world_at after) point end last stops) ≡ payloads (under (world_at c) point end last stops) ++ octets
  pub weighs : weight (world_at after) point end last stops ≡ weight (world_at c) point end last stops + each_of (length stops + 1) octets
  pub handed : after.handed ≡ c.handed
  pub offers : after.offers ≡ c.offers + length octets
  pub deliveries : after.deliveries ≡ c.deliveries

offer_one : (c : Course) (point end last : ℕ) (s : Stop) (stops : List Stop) (more : Bool) (octet : ℕ) → Sends c point end last s stops
    → (offered point s.node (messages.Dt1 s.ref more (octet ∷ [])) c ≡ after_offer point s.node (messages.Dt1 s.ref more (octet ∷ [])) c)
    × Grew c (after_offer point s.node (messages.Dt1 s.ref more (octet ∷ [])) c) point end last (s ∷ stops) (octet ∷ [])
offer_one c point end last s stops more octet sends =
    let network : Network = network_at c in
    let w : World = world_at c in
    let m : Message = messages.Dt1 s.ref more (octet ∷ []) in
    let f = sends.flowing in
    let none : offer_fault network w point s.node m ≡ None =
    no_fault network w point s.node m sends.sender f.carries.0.inner refl refl refl in
    let e : world_at (after_offer point s.node m c) ≡ put w point s.node m = world_offered point s.node m c none in
    let differ = differ_by network (S c) end last point (s ∷ stops) f.outer f.carries in
    let free : NoKey point 0 end last (s ∷ stops) = (
      no_stop network (S c) point end last point (s ∷ stops) sends.sender f.carries,
      λ g h. let z = sends.last_is in absurd
          (omega (arith, h, z)),
    ) in
    let keep : (x y d : ℕ) → (y ≡ point → d ≡ 0 → ⊥) → (y ≡ s.node → d ≡ s.ref → ⊥) → queue (put w point s.node m) x y d ≡ queue w x y d =
    λ x y d g h. put_there w point s.node s.ref more (octet ∷ []) x y d h in
    let r = under_grown w (put w point s.node m) end last point 0 point (record { more = more; payload = octet ∷ [] })
    (s ∷ stops) keep free differ
    (put_here w point s.node s.ref more (octet ∷ [])) in (
      offer_is point s.node m c (data_message s.ref more (octet ∷ [])) none,
      record {
        plan_is = refl;
        all = λ x y. subst (Every (OnWay point end last (s ∷ stops) x y)) (sym (ap (λ (v : World). v.waiting x y) e)) (on x y);
        same = λ p. ap (λ v. sections_at v p) e;
        more = ap (λ (v : World). payloads (under v point end last (s ∷ stops))) e ∙ ap payloads r.0
            ∙ flat_append (λ p. p.payload) (under w point end last (s ∷ stops)) (record { more = more; payload = octet ∷ [] } ∷ []);
        weighs = ap (λ (v : World). weight v point end last (s ∷ stops)) e ∙ r.1
            ∙ ap (λ (n : ℕ). weight w point end last (s ∷ stops) + n) (one_each (length stops + 2));
        handed = refl;
        offers = refl;
        deliveries = refl;
      },
    )
  where
    one_each : (n : ℕ) → length (s ∷ stops) + 1 ≡ each_of (length (s ∷ stops) + 1) (octet ∷ [])
    one_each n = omega arith

    on : (x y : ℕ) → Every (OnWay point end last (s ∷ stops) x y)
        ((put (world_at c) point s.node (messages.Dt1 s.ref more (octet ∷ []))).waiting x y)
    on x y =
        let w : World = world_at c in
        let m : Message = messages.Dt1 s.ref more (octet ∷ []) in
        elim ((x == point) && (y == s.node)) as (λ k. ((x == point) && (y == s.node)) ≡ k
        → Every (OnWay point end last (s ∷ stops) x y) (cond k (w.waiting point s.node ++ m ∷ []) (w.waiting x y))) [
          | true ↦ λ h.
              let p = and_parts (x == point) (y == s.node) h in
              let ex : x ≡ point = eqb-true x point p.0 in
              let ey : y ≡ s.node = eqb-true y s.node p.1 in
              every_append (OnWay point end last (s ∷ stops) x y) (w.waiting point s.node) (m ∷ [])
              (subst (Every (OnWay point end last (s ∷ stops) x y)) (ap (λ (k : ℕ). w.waiting k y) ex ∙ ap (w.waiting point) ey)
              (sends.flowing.all x y))
              (inl (ex, ey, (more, octet ∷ [], refl)), tt)
          | false ↦ λ h. sends.flowing.all x y
        ] refl

-- ---- all octets are offered

sends_still : (c after : Course) (point end last : ℕ) (s : Stop) (stops : List Stop) (octets : List ℕ) → Sends c point end last s stops
    → Grew c after point end last (s ∷ stops) octets → Sends after point end last s stops
sends_still c after point end last s stops octets sends grew =
    let network : (p : ℕ) → is_node (network_at after) p ≡ is_node (network_at c) p =
    λ p. ap (λ k. is_node (network_of k) p) grew.plan_is in
    record {
      sender = network point ∙ sends.sender;
      last_is = sends.last_is;
      flowing = record {
        outer = network end ∙ sends.flowing.outer;
        carries = subst (λ k. Carries (network_of k) (S after) point end last (s ∷ stops)) (sym grew.plan_is)
            (carries_same (network_at c) (S c) (S after) point end last (s ∷ stops) grew.same sends.flowing.carries);
        all = grew.all;
      };
    }

pub send : (octets : List ℕ) (c : Course) (point end last : ℕ) (s : Stop) (stops : List Stop) → Sends c point end last s stops
    → Grew c (sent_by point s.node s.ref octets c) point end last (s ∷ stops) octets
send [] c point end last s stops sends = record {
  plan_is = refl;
  all = sends.flowing.all;
  same = λ p. refl;
  more = sym (append-nil (payloads (under (world_at c) point end last (s ∷ stops))));
  weighs = omega arith;
  handed = refl;
  offers = omega arith;
  deliveries = refl;
}
send (octet ∷ octets) c point end last s stops sends =
    let m : Message = messages.Dt1 s.ref (has_more octets) (octet ∷ []) in
    let o = offer_one c point end last s stops (has_more octets) octet sends in
    let then : Course = after_offer point s.node m c in
    let r = send octets then point end last s stops (sends_still c then point end last s stops (octet ∷ []) sends o.1) in
    subst (λ (k : Course). Grew c (sent_by point s.node s.ref octets k) point end last (s ∷ stops) (octet ∷ octets)) (sym o.0)
    (record {
      plan_is = r.plan_is;
      all = r.all;
      same = λ p. r.same p ∙ o.1.same p;
      more = r.more ∙ ap (λ (l : List ℕ). l ++ octets) o.1.more
          ∙ append_assoc (payloads (under (world_at c) point end last (s ∷ stops))) (octet ∷ []) octets;
      weighs = (let a = r.weighs in let b = o.1.weighs in omega (arith, a, b));
      handed = r.handed;
      offers = (let a = r.offers in omega (arith, a));
      deliveries = r.deliveries;
    })

-- no links hold data
empty_under : (w : World) (point end last : ℕ) (stops : List Stop) → Empty w
    → (payloads (under w point end last stops) ≡ []) × (weight w point end last stops ≡ 0)
empty_under w point end last [] h = let e = ap (pieces_for (Some last)) (h point end) in (ap payloads e, ap (each 1) e)
empty_under w point end last (s ∷ stops) h =
    let e = ap (pieces_for (Some s.ref)) (h point s.node) in
    let r = empty_under w s.node end last stops h in (
      flat_append (λ p. p.payload) (under w s.node end last stops) (queue w point s.node s.ref)
          ∙ ap (λ (l : List ℕ). l ++ payloads (queue w point s.node s.ref)) r.0 ∙ ap payloads e,
      (let a = r.1 in let b = ap (each (length stops + 2)) e in omega (arith, a, b)),
    )

each_few : (n : ℕ) (octets : List ℕ) → n ≤ 16 → each_of n octets ≤ 16 * length octets
each_few n [] h = omega arith
each_few n (octet ∷ octets) h = let r = each_few n octets h in omega (arith, h, r)

-- an end sends octets over relays that nothing is under way on, and the other end is handed them
pub record Carried (c after : Course) (end last : ℕ) (octets : List ℕ) : Type 0 where
  pub plan_is : after.plan ≡ c.plan
  pub empty : Empty (world_at after)
  pub same : (p : ℕ) → S after p ≡ S c p
  pub come : data_at end last after.handed ≡ data_at end last c.handed ++ octets
  pub others : (q r : ℕ) → (last ≡ r → ⊥) → data_at q r after.handed ≡ data_at q r c.handed
  pub offers : after.offers ≡ c.offers + length octets
  pub deliveries : after.deliveries ≤ 32 * after.offers

nothing_on : (w : World) (point end last : ℕ) (stops : List Stop) → Empty w → AllOnWay w point end last stops
nothing_on w point end last stops h x y = subst (Every (OnWay point end last stops x y)) (sym (h x y)) tt

pub carry : (turns : ℕ) (octets : List ℕ) (c : Course) (point end last : ℕ) (s : Stop) (stops : List Stop) → Empty (world_at c)
    → is_node (network_at c) point ≡ false → 1 ≤ last → is_node (network_at c) end ≡ false
    → Carries (network_at c) (S c) point end last (s ∷ stops) → length stops ≤ 14 → 16 * length octets < turns
    → c.deliveries ≤ 32 * c.offers
    → (after : Course) × (settled_in turns (sent_by point s.node s.ref octets c) ≡ Some after) × Carried c after end last octets
carry turns octets c point end last s stops empty sender last_is outer carries few enough spent =
    let sends : Sends c point end last s stops = record {
      sender = sender;
      last_is = last_is;
      flowing = record { outer = outer; carries = carries; all = nothing_on (world_at c) point end last (s ∷ stops) empty };
    } in
    let g = send octets c point end last s stops sends in
    let then : Course = sent_by point s.node s.ref octets c in
    let still = sends_still c then point end last s stops octets sends g in
    let nothing = empty_under (world_at c) point end last (s ∷ stops) empty in
    let weighs = g.weighs in
    let zero_before = nothing.1 in
    let bound = each_few (length (s ∷ stops) + 1) octets (omega (arith, few)) in
    let offers = g.offers in
    let deliveries = g.deliveries in
    let r = flow turns then point end last (s ∷ stops) still.flowing (omega (arith, weighs, zero_before, bound, enough))
    (omega (arith, weighs, zero_before, bound, offers, deliveries, spent)) in (
      r.0,
      r.1,
      record {
        plan_is = r.2.plan_is ∙ g.plan_is;
        empty = r.2.empty;
        same = λ p. r.2.same p ∙ g.same p;
        come = r.2.come ∙ ap (λ (l : List ℕ). data_at end last then.handed ++ l) (g.more ∙ ap (λ (l : List ℕ). l ++ octets) nothing.0)
            ∙ ap (λ l. data_at end last l ++ octets) g.handed;
        others = λ q k n. r.2.others q k n ∙ ap (data_at q k) g.handed;
        offers = r.2.offers ∙ g.offers;
        deliveries = (let a = r.3 in let b = r.2.offers in omega (arith, a, b, weighs, zero_before, bound, offers, deliveries, spent));
      },
    )
