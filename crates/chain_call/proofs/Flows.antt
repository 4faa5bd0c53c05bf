-- Data under way over relays: how much there is, and in which order.
use Rattle.std.specs.Prelude.{ℕ, ◌≡◌, ◌==◌, ◌⊎◌, ◌+◌, Bool, true, false, cond, ◌&&◌, List, [], ◌∷◌, ◌++◌, length, Option, Some, None, refl}
use Rattle.std.specs.List.{cons_option}
use Rattle.std.proofs.Common.{sym, ◌∙◌, ap, subst, ⊎_elim, inl, inr, arith, append_assoc, append-nil}
use Rattle.std.proofs.lemmas.Bool.{cases_eq, eqb-true, eq-eqb, ne_eqb, and_parts}
use Rattle.sccp_message.specs.declared.message.Message.{Message}
use Rattle.sccp_message.specs.declared.message.Message.TheVariants as messages
use Rattle.sccp_couple.specs.declared.section.Section.{Section}
use Rattle.sccp_couple.specs.declared.way.Way.{Way}
use Rattle.sccp_couple.specs.Events.{Event, Outcome, Piece}
use Rattle.sccp_couple.specs.Coupling.{coupled, to_one, only_sends}
use Rattle.sccp_couple.specs.Runs.{happens}
use Rattle.couple_chain.specs.World.{Network, World, is_node, messages_to, event_at, handled, left, delivered_of, delivered}
use Rattle.couple_chain.specs.Line.{piece_for, pieces_for}
use Rattle.couple_chain.proofs.Sending.{to_point}
use Rattle.chain_call.proofs.Hops.{Sections}
use Rattle.chain_call.proofs.HopSteps.{event_with}

-- a point that data reach, and the reference that they have there
pub record Stop : Type 0 where
  pub node : ℕ
  pub ref : ℕ

abbrev pub next_point : ℕ → List Stop → ℕ
next_point end [] = end
next_point end (s ∷ stops) = s.node

abbrev pub next_ref : ℕ → List Stop → ℕ
next_ref last [] = last
next_ref last (s ∷ stops) = s.ref

-- none of these stops has this point and reference
abbrev pub NoStop : ℕ → ℕ → List Stop → Type 0
NoStop node ref [] = Unit {0}
NoStop node ref (t ∷ stops) = (t.node ≡ node → t.ref ≡ ref → ⊥) × NoStop node ref stops

-- nor has the end
abbrev pub NoKey : ℕ → ℕ → ℕ → ℕ → List Stop → Type 0
NoKey node ref end last stops = NoStop node ref stops × (end ≡ node → last ≡ ref → ⊥)

-- a relay hands data on, and none of the stops after it is the same
pub record StopAt (network : Network) (S : Sections) (point end last : ℕ) (s : Stop) (stops : List Stop) : Type 0 where
  pub inner : is_node network s.node ≡ true
  pub hands : (more : Bool) (payload : List ℕ) (way : Way) → coupled (S s.node) (event_with point (messages.Dt1 s.ref more payload) way)
      ≡ only_sends (S s.node) (to_one (next_point end stops) (messages.Dt1 (next_ref last stops) more payload))
  pub other : NoStop s.node s.ref stops

-- all these relays hand data on, from a point to the end
abbrev pub Carries : Network → Sections → ℕ → ℕ → ℕ → List Stop → Type 0
Carries network S point end last [] = Unit {0}
Carries network S point end last (s ∷ stops) = StopAt network S point end last s stops × Carries network S s.node end last stops

-- the data that a link holds with this destination reference
abbrev pub queue : World → ℕ → ℕ → ℕ → List Piece
queue w x y d = pieces_for (Some d) (w.waiting x y)

-- all data under way, the first to come out first
abbrev pub under : World → ℕ → ℕ → ℕ → List Stop → List Piece
under w point end last [] = queue w point end last
under w point end last (s ∷ stops) = under w s.node end last stops ++ queue w point s.node s.ref

-- a number for each item
abbrev pub each : ℕ → List Piece → ℕ
each n [] = 0
each n (p ∷ pieces) = n + each n pieces

-- the deliveries that they still need
abbrev pub weight : World → ℕ → ℕ → ℕ → List Stop → ℕ
weight w point end last [] = each 1 (queue w point end last)
weight w point end last (s ∷ stops) = weight w s.node end last stops + each (length stops + 2) (queue w point s.node s.ref)

-- a message that is data with this destination reference
abbrev pub IsData : ℕ → Message → Type 0
IsData d m = (more : Bool) × (payload : List ℕ) × (m ≡ messages.Dt1 d more payload)

-- a message of the link from a to b is data under way
abbrev pub OnWay : ℕ → ℕ → ℕ → List Stop → ℕ → ℕ → Message → Type 0
OnWay point end last [] a b m = (a ≡ point) × (b ≡ end) × IsData last m
OnWay point end last (s ∷ stops) a b m = ((a ≡ point) × (b ≡ s.node) × IsData s.ref m) ⊎ OnWay s.node end last stops a b m

abbrev pub Every : {A : Type 0} → (A → Type 0) → List A → Type 0
Every P [] = Unit {0}
Every P (x ∷ xs) = P x × Every P xs

pub every_append : {A : Type 0} (P : A → Type 0) (xs ys : List A) → Every P xs → Every P ys → Every P (xs ++ ys)
every_append P [] ys h k = k
every_append P (x ∷ xs) ys h k = (h.0, every_append P xs ys h.1 k)

-- links hold nothing else
abbrev pub AllOnWay : World → ℕ → ℕ → ℕ → List Stop → Type 0
AllOnWay w point end last stops = (a b : ℕ) → Every (OnWay point end last stops a b) (w.waiting a b)

-- ---- the data of lists

abbrev piece : Bool → List ℕ → Piece
piece more payload = record { more = more; payload = payload }

pub pieces_append : (d : ℕ) (xs ys : List Message) → pieces_for (Some d) (xs ++ ys) ≡ pieces_for (Some d) xs ++ pieces_for (Some d) ys
pieces_append d [] ys = refl
pieces_append d (x ∷ xs) ys = option_append (piece_for (Some d) x) (pieces_for (Some d) (xs ++ ys)) (pieces_for (Some d) xs)
    (pieces_for (Some d) ys)
    (pieces_append d xs ys)
  where
    option_append : (o : Option Piece) (all front back : List Piece) → all ≡ front ++ back → cons_option o all ≡ cons_option o front ++ back
    option_append None all front back e = e
    option_append (Some p) all front back e = ap (λ (l : List Piece). p ∷ l) e

pub pieces_here : (d : ℕ) (more : Bool) (payload : List ℕ) (xs : List Message)
    → pieces_for (Some d) (messages.Dt1 d more payload ∷ xs) ≡ piece more payload ∷ pieces_for (Some d) xs
pieces_here d more payload xs = ap (λ (b : Bool). cons_option (cond b (Some (piece more payload)) None) (pieces_for (Some d) xs))
    (eq-eqb d d refl)

pub pieces_there : (e d : ℕ) (more : Bool) (payload : List ℕ) (xs : List Message) → (e ≡ d → ⊥)
    → pieces_for (Some e) (messages.Dt1 d more payload ∷ xs) ≡ pieces_for (Some e) xs
pieces_there e d more payload xs n = ap (λ (b : Bool). cons_option (cond b (Some (piece more payload)) None) (pieces_for (Some e) xs))
    (ne_eqb e d n)

-- ---- links after a delivery

-- a link without its oldest message, the others as they were
abbrev pub rest_at : World → ℕ → ℕ → List Message → ℕ → ℕ → List Message
rest_at w a b rest x y = cond ((x == a) && (y == b)) rest (w.waiting x y)

both : (a b x y : ℕ) → a ≡ x → b ≡ y → ((a == x) && (b == y)) ≡ true
both a b x y e f = ap (λ (c : Bool). c && (b == y)) (eq-eqb a x e) ∙ eq-eqb b y f

rest_here : (w : World) (a b : ℕ) (rest : List Message) → rest_at w a b rest a b ≡ rest
rest_here w a b rest = ap (λ (c : Bool). cond c rest (w.waiting a b)) (both a b a b refl refl)

-- where another reference is looked for, taking away changes nothing
rest_same : (w : World) (a b d : ℕ) (more : Bool) (payload : List ℕ) (rest : List Message) (x y e : ℕ)
    → w.waiting a b ≡ messages.Dt1 d more payload ∷ rest → (y ≡ b → e ≡ d → ⊥)
    → pieces_for (Some e) (rest_at w a b rest x y) ≡ queue w x y e
rest_same w a b d more payload rest x y e queued n =
    elim ((x == a) && (y == b)) as (λ c. ((x == a) && (y == b)) ≡ c → pieces_for (Some e) (cond c rest (w.waiting x y)) ≡ queue w x y e) [
      | true ↦ λ h.
          let p = and_parts (x == a) (y == b) h in
          let same : y ≡ b = eqb-true y b p.1 in
          sym (pieces_there e d more payload rest (n same))
          ∙ ap (pieces_for (Some e)) (sym queued ∙ ap (λ (k : ℕ). w.waiting k b) (sym (eqb-true x a p.0)) ∙ ap (w.waiting x) (sym same))
      | false ↦ λ h. refl
    ] refl

abbrev sent_at : ℕ → ℕ → Message → ℕ → ℕ → List Message → List Message
sent_at b z m x y list = cond (x == b) (list ++ messages_to y (to_one z m)) list

sent_here : (b z : ℕ) (m : Message) (list : List Message) → sent_at b z m b z list ≡ list ++ m ∷ []
sent_here b z m list =
    ap (λ (c : Bool). cond c (list ++ messages_to z (to_one z m)) list) (eq-eqb b b refl)
    ∙ ap (λ (l : List Message). list ++ l) (to_point z z m ∙ ap (λ (c : Bool). cond c (m ∷ []) []) (eq-eqb z z refl))

sent_same : (b z d : ℕ) (more : Bool) (payload : List ℕ) (x y e : ℕ) (list : List Message) → (y ≡ z → e ≡ d → ⊥)
    → pieces_for (Some e) (sent_at b z (messages.Dt1 d more payload) x y list) ≡ pieces_for (Some e) list
sent_same b z d more payload x y e list n =
    elim (x == b) as (λ c. pieces_for (Some e) (cond c (list ++ messages_to y (to_one z (messages.Dt1 d more payload))) list)
    ≡ pieces_for (Some e) list) [
      | true ↦
          ap (λ (l : List Message). pieces_for (Some e) (list ++ l)) (to_point z y (messages.Dt1 d more payload))
          ∙ elim (z == y) as (λ c. (z == y) ≡ c → pieces_for (Some e) (list ++ cond c (messages.Dt1 d more payload ∷ []) [])
          ≡ pieces_for (Some e) list) [
            | true ↦ λ h.
                pieces_append e list (messages.Dt1 d more payload ∷ [])
                ∙ ap (λ (l : List Piece). pieces_for (Some e) list ++ l) (pieces_there e d more payload [] (n (sym (eqb-true z y h))))
                ∙ append-nil (pieces_for (Some e) list)
            | false ↦ λ h. ap (pieces_for (Some e)) (append-nil list)
          ] refl
      | false ↦ refl
    ]

-- ---- one delivery

abbrev sections_at : World → ℕ → List Section
sections_at w node = (w.moments node).sections

-- what a delivery of the link from a to b makes of data under way
pub record Goes (network : Network) (w v : World) (point end last : ℕ) (stops : List Stop) (a b : ℕ) (m : Message)
    (rest : List Message) : Type 0 where
  -- the queues of other references stay
  pub same : (x y e : ℕ) → NoKey y e end last stops → queue v x y e ≡ queue w x y e
  pub still : (p : ℕ) → sections_at v p ≡ sections_at w p
  pub sent : ((x y : ℕ) → v.waiting x y ≡ rest_at w a b rest x y)
      ⊎ ((z : ℕ) × (n : Message) × ((x y : ℕ) → v.waiting x y ≡ sent_at b z n x y (rest_at w a b rest x y))
      × OnWay point end last stops b z n)
  pub outcome : ((is_node network b ≡ true) × (under v point end last stops ≡ under w point end last stops)
      × (weight w point end last stops ≡ weight v point end last stops + 1))
      ⊎ ((b ≡ end) × (more : Bool) × (payload : List ℕ) × (m ≡ messages.Dt1 last more payload)
      × (under w point end last stops ≡ piece more payload ∷ under v point end last stops)
      × (weight w point end last stops ≡ weight v point end last stops + 1))

each_append : (n : ℕ) (xs : List Piece) (p : Piece) → each n (xs ++ p ∷ []) ≡ each n xs + n
each_append n [] p = omega arith
each_append n (x ∷ xs) p = let e = each_append n xs p in omega (arith, e)

-- what is not touched stays
under_same : (w v : World) (end last b d z f : ℕ)
    → ((x y e : ℕ) → (y ≡ b → e ≡ d → ⊥) → (y ≡ z → e ≡ f → ⊥) → queue v x y e ≡ queue w x y e) → (point : ℕ) (stops : List Stop)
    → NoKey b d end last stops → NoKey z f end last stops →
    (under v point end last stops ≡ under w point end last stops) × (weight v point end last stops ≡ weight w point end last stops)
under_same w v end last b d z f keep point [] h k =
    let e = keep point end last h.1 k.1 in (e, ap (each 1) e)
under_same w v end last b d z f keep point (s ∷ stops) h k =
    let e = keep point s.node s.ref h.0.0 k.0.0 in
    let r = under_same w v end last b d z f keep s.node stops (h.0.1, h.1) (k.0.1, k.1) in (
      ap (λ (l : List Piece). l ++ queue v point s.node s.ref) r.0 ∙ ap (λ (l : List Piece). under w s.node end last stops ++ l) e,
      ap (λ (n : ℕ). n + each (length stops + 2) (queue v point s.node s.ref)) r.1
          ∙ ap (λ (l : List Piece). weight w s.node end last stops + each (length stops + 2) l) e,
    )

-- the keys of these stops differ
abbrev pub Differ : ℕ → ℕ → List Stop → Type 0
Differ end last [] = Unit {0}
Differ end last (s ∷ stops) = NoKey s.node s.ref end last stops × Differ end last stops

-- one piece more is under way, the last to come out
pub under_grown : (w v : World) (end last b d point : ℕ) (p : Piece) (stops : List Stop)
    → ((x y e : ℕ) → (y ≡ b → e ≡ d → ⊥) → (y ≡ next_point end stops → e ≡ next_ref last stops → ⊥) → queue v x y e ≡ queue w x y e)
    → NoKey b d end last stops → Differ end last stops
    → queue v point (next_point end stops) (next_ref last stops) ≡ queue w point (next_point end stops) (next_ref last stops) ++ p ∷ [] →
    (under v point end last stops ≡ under w point end last stops ++ p ∷ [])
    × (weight v point end last stops ≡ weight w point end last stops + (length stops + 1))
under_grown w v end last b d point p [] keep h differ gave =
    (gave, ap (each 1) gave ∙ each_append 1 (queue w point end last) p)
under_grown w v end last b d point p (s ∷ stops) keep h differ gave =
    let r = under_same w v end last b d s.node s.ref keep s.node stops (h.0.1, h.1) differ.0 in
    let e = each_append (length stops + 2) (queue w point s.node s.ref) p in
    let f = ap (each (length stops + 2)) gave in
    let g = r.1 in (
      ap (λ (l : List Piece). l ++ queue v point s.node s.ref) r.0 ∙ ap (λ (l : List Piece). under w s.node end last stops ++ l) gave
          ∙ sym (append_assoc (under w s.node end last stops) (queue w point s.node s.ref) (p ∷ [])),
      omega (arith, e, f, g),
    )

pub differ_by : (network : Network) (S : Sections) (end last point : ℕ) (stops : List Stop) → is_node network end ≡ false
    → Carries network S point end last stops → Differ end last stops
differ_by network S end last point [] outer h = tt
differ_by network S end last point (s ∷ stops) outer h =
    ((h.0.other, λ e f. not_end network end s.node outer h.0.inner e), differ_by network S end last s.node stops outer h.1)
  where
    not_end : (network : Network) (end node : ℕ) → is_node network end ≡ false → is_node network node ≡ true → end ≡ node → ⊥
    not_end network end node outer inner e = let z : false ≡ true = sym outer ∙ ap (is_node network) e ∙ inner in cc

-- the end is handed the oldest message
handed_end : (network : Network) (w v : World) (point end last : ℕ) (more : Bool) (payload : List ℕ) (rest : List Message)
    → is_node network end ≡ false → w.waiting point end ≡ messages.Dt1 last more payload ∷ rest → v ≡ delivered network w point end
    → Goes network w v point end last [] point end (messages.Dt1 last more payload) rest
handed_end network w v point end last more payload rest outer queued is =
    let m : Message = messages.Dt1 last more payload in
    let u : World = left w point end m rest in
    let e : v ≡ u = is ∙ ap (delivered_of network w point end) queued
    ∙ ap (λ (b : Bool). cond b (handled u end (event_at network end point m)) u) outer in
    let waits : (x y : ℕ) → v.waiting x y ≡ rest_at w point end rest x y = λ x y. ap (λ (k : World). k.waiting x y) e in
    let before : queue w point end last ≡ piece more payload ∷ pieces_for (Some last) rest =
    ap (pieces_for (Some last)) queued ∙ pieces_here last more payload rest in
    let after : queue v point end last ≡ pieces_for (Some last) rest =
    ap (pieces_for (Some last)) (waits point end ∙ rest_here w point end rest) in
    record {
      same = λ x y f none. ap (pieces_for (Some f)) (waits x y)
          ∙ rest_same w point end last more payload rest x y f queued (λ g h. none.1 (sym g) (sym h));
      still = λ p. ap (λ (k : World). sections_at k p) e;
      sent = inl waits;
      outcome = inr (
        refl,
        more,
        payload,
        refl,
        before ∙ ap (λ (l : List Piece). piece more payload ∷ l) (sym after),
        (let f = ap (each 1) before in let g = ap (each 1) after in omega (arith, f, g)),
      );
    }

-- a relay hands it on
handed_on : (network : Network) (w v : World) (point end last : ℕ) (s : Stop) (stops : List Stop) (more : Bool) (payload : List ℕ)
    (rest : List Message) → is_node network end ≡ false → Carries network (sections_at w) point end last (s ∷ stops)
    → w.waiting point s.node ≡ messages.Dt1 s.ref more payload ∷ rest → v ≡ delivered network w point s.node
    → Goes network w v point end last (s ∷ stops) point s.node (messages.Dt1 s.ref more payload) rest
handed_on network w v point end last s stops more payload rest outer carries queued is =
    let m : Message = messages.Dt1 s.ref more payload in
    let z : ℕ = next_point end stops in
    let f : ℕ = next_ref last stops in
    let n : Message = messages.Dt1 f more payload in
    let u : World = left w point s.node m rest in
    let event : Event = event_at network s.node point m in
    let differ = differ_by network (sections_at w) end last point (s ∷ stops) outer carries in
    let e : v ≡ handled u s.node event = is ∙ ap (delivered_of network w point s.node) queued
    ∙ ap (λ (b : Bool). cond b (handled u s.node event) u) carries.0.inner in
    let out = carries.0.hands more payload (network.way s.node point m) in
    let waits : (x y : ℕ) → v.waiting x y ≡ sent_at s.node z n x y (rest_at w point s.node rest x y) = λ x y.
    ap (λ (k : World). k.waiting x y) e
    ∙ ap (λ (o : Outcome). cond (x == s.node) (rest_at w point s.node rest x y ++ messages_to y o.sent)
    (rest_at w point s.node rest x y)) out in
    let keep : (x y g : ℕ) → (y ≡ s.node → g ≡ s.ref → ⊥) → (y ≡ z → g ≡ f → ⊥) → queue v x y g ≡ queue w x y g = λ x y g h k.
    ap (pieces_for (Some g)) (waits x y) ∙ sent_same s.node z f more payload x y g (rest_at w point s.node rest x y) k
    ∙ rest_same w point s.node s.ref more payload rest x y g queued h in
    let apart : z ≡ s.node → f ≡ s.ref → ⊥ = next_differs s end last stops differ.0 in
    let gave : queue v s.node z f ≡ queue w s.node z f ++ piece more payload ∷ [] =
    ap (pieces_for (Some f)) (waits s.node z ∙ sent_here s.node z n (rest_at w point s.node rest s.node z))
    ∙ pieces_append f (rest_at w point s.node rest s.node z) (n ∷ [])
    ∙ ap (λ (l : List Piece). l ++ pieces_for (Some f) (n ∷ [])) (rest_same w point s.node s.ref more payload rest s.node z f queued apart)
    ∙ ap (λ (l : List Piece). queue w s.node z f ++ l) (pieces_here f more payload []) in
    let before : queue w point s.node s.ref ≡ piece more payload ∷ pieces_for (Some s.ref) rest =
    ap (pieces_for (Some s.ref)) queued ∙ pieces_here s.ref more payload rest in
    let after : queue v point s.node s.ref ≡ pieces_for (Some s.ref) rest =
    ap (pieces_for (Some s.ref)) (waits point s.node)
    ∙ sent_same s.node z f more payload point s.node s.ref (rest_at w point s.node rest point s.node) (λ g h. apart (sym g) (sym h))
    ∙ ap (pieces_for (Some s.ref)) (rest_here w point s.node rest) in
    let r = under_grown w v end last s.node s.ref s.node (piece more payload) stops keep differ.0 differ.1 gave in
    record {
      same = λ x y g none. keep x y g (λ h k. none.0.0 (sym h) (sym k)) (next_other end last stops y g none);
      still = λ p. ap (λ (k : World). sections_at k p) e
          ∙ ⊎_elim
          (λ (h : p ≡ s.node). ap (λ (k : ℕ). sections_at (handled u s.node event) k) h
          ∙ ap (λ (b : Bool). (cond b (happens (w.moments s.node) event) (w.moments s.node)).sections) (eq-eqb s.node s.node refl)
          ∙ ap (λ (o : Outcome). o.sections) out ∙ ap (sections_at w) (sym h))
          (λ (h : p ≡ s.node → ⊥). ap (λ (b : Bool). (cond b (happens (w.moments s.node) event) (w.moments p)).sections)
          (ne_eqb p s.node h))
          (cases_eq p s.node);
      sent = inr (z, n, waits, inr (next_on end last s stops more payload));
      outcome = inl (
        carries.0.inner,
        ap (λ (l : List Piece). l ++ queue v point s.node s.ref) r.0
            ∙ append_assoc (under w s.node end last stops) (piece more payload ∷ []) (queue v point s.node s.ref)
            ∙ ap (λ (l : List Piece). under w s.node end last stops ++ piece more payload ∷ l) after
            ∙ ap (λ (l : List Piece). under w s.node end last stops ++ l) (sym before),
        (let g = ap (each (length stops + 2)) before in let h = ap (each (length stops + 2)) after in let k = r.1 in omega
            (arith, g, h, k)),
      );
    }
  where
    next_differs : (s : Stop) (end last : ℕ) (stops : List Stop) → NoKey s.node s.ref end last stops → next_point end stops ≡ s.node
        → next_ref last stops ≡ s.ref → ⊥
    next_differs s end last [] h e f = h.1 e f
    next_differs s end last (t ∷ stops) h e f = h.0.0 e f

    next_other : (end last : ℕ) (stops : List Stop) (y g : ℕ) → NoKey y g end last (s ∷ stops) → y ≡ next_point end stops
        → g ≡ next_ref last stops → ⊥
    next_other end last [] y g h e f = h.1 (sym e) (sym f)
    next_other end last (t ∷ stops) y g h e f = h.0.1.0 (sym e) (sym f)

    next_on : (end last : ℕ) (s : Stop) (stops : List Stop) (more : Bool) (payload : List ℕ)
        → OnWay s.node end last stops s.node (next_point end stops) (messages.Dt1 (next_ref last stops) more payload)
    next_on end last s [] more payload = (refl, refl, (more, payload, refl))
    next_on end last s (t ∷ stops) more payload = inl (refl, refl, (more, payload, refl))

-- one delivery of data that is under way
pub goes : (network : Network) (w v : World) (point end last : ℕ) (stops : List Stop) (a b : ℕ) (m : Message) (rest : List Message)
    → is_node network end ≡ false → Carries network (sections_at w) point end last stops → w.waiting a b ≡ m ∷ rest
    → v ≡ delivered network w a b → OnWay point end last stops a b m → Goes network w v point end last stops a b m rest
goes network w v point end last [] a b m rest outer carries queued is on =
    let queued' : w.waiting point end ≡ messages.Dt1 last on.2.0 on.2.1 ∷ rest =
    sym (ap (λ (k : ℕ). w.waiting k b) on.0 ∙ ap (w.waiting point) on.1) ∙ queued ∙ ap (λ (x : Message). x ∷ rest) on.2.2 in
    let is' : v ≡ delivered network w point end = is ∙ ap (λ (k : ℕ). delivered network w k b) on.0 ∙ ap (delivered network w point) on.1 in
    subst (λ (k : ℕ). Goes network w v point end last [] k b m rest) (sym on.0)
    (subst (λ (k : ℕ). Goes network w v point end last [] point k m rest) (sym on.1)
    (subst (λ (k : Message). Goes network w v point end last [] point end k rest) (sym on.2.2)
    (handed_end network w v point end last on.2.0 on.2.1 rest outer queued' is')))
goes network w v point end last (s ∷ stops) a b m rest outer carries queued is (inl on) =
    let queued' : w.waiting point s.node ≡ messages.Dt1 s.ref on.2.0 on.2.1 ∷ rest =
    sym (ap (λ (k : ℕ). w.waiting k b) on.0 ∙ ap (w.waiting point) on.1) ∙ queued ∙ ap (λ (x : Message). x ∷ rest) on.2.2 in
    let is' : v ≡ delivered network w point s.node = is ∙ ap (λ (k : ℕ). delivered network w k b) on.0
    ∙ ap (delivered network w point) on.1 in
    subst (λ (k : ℕ). Goes network w v point end last (s ∷ stops) k b m rest) (sym on.0)
    (subst (λ (k : ℕ). Goes network w v point end last (s ∷ stops) point k m rest) (sym on.1)
    (subst (λ (k : Message). Goes network w v point end last (s ∷ stops) point s.node k rest) (sym on.2.2)
    (handed_on network w v point end last s stops on.2.0 on.2.1 rest outer carries queued' is')))
goes network w v point end last (s ∷ stops) a b m rest outer carries queued is (inr on) =
    let r = goes network w v s.node end last stops a b m rest outer carries.1 queued is on in
    let differ = differ_by network (sections_at w) end last point (s ∷ stops) outer carries in
    let own = r.same point s.node s.ref differ.0 in
    let more = ap (each (length stops + 2)) own in
    record {
      same = λ x y e none. r.same x y e (none.0.1, none.1);
      still = r.still;
      sent = ⊎_elim (λ h. inl h) (λ h. inr (h.0, h.1, h.2, inr h.3)) r.sent;
      outcome = ⊎_elim
          (λ h. inl (
            h.0,
            ap (λ (l : List Piece). l ++ queue v point s.node s.ref) h.1 ∙ ap (λ (l : List Piece). under w s.node end last stops ++ l) own,
            (let k = h.2 in omega (arith, more, k)),
          ))
          (λ h. inr (
            h.0,
            h.1,
            h.2,
            h.3,
            ap (λ (l : List Piece). l ++ queue w point s.node s.ref) h.4
                ∙ ap (λ (l : List Piece). piece h.1 h.2 ∷ under v s.node end last stops ++ l) (sym own),
            (let k = h.5 in omega (arith, more, k)),
          ))
          r.outcome;
    }

-- what is left under way is under way still
pub on_way_after : (network : Network) (w v : World) (point end last : ℕ) (stops : List Stop) (a b : ℕ) (m : Message) (rest : List Message)
    → w.waiting a b ≡ m ∷ rest → Goes network w v point end last stops a b m rest → AllOnWay w point end last stops
    → AllOnWay v point end last stops
on_way_after network w v point end last stops a b m rest queued goes all x y =
    ⊎_elim
    (λ (h : (x y : ℕ) → v.waiting x y ≡ rest_at w a b rest x y).
    subst (Every (OnWay point end last stops x y)) (sym (h x y)) (left_on x y))
    (λ (h : (z : ℕ) × (n : Message) × ((x y : ℕ) → v.waiting x y ≡ sent_at b z n x y (rest_at w a b rest x y))
    × OnWay point end last stops b z n).
    subst (Every (OnWay point end last stops x y)) (sym (h.2 x y)) (sent_on x y h.0 h.1 h.3))
    goes.sent
  where
    left_on : (x y : ℕ) → Every (OnWay point end last stops x y) (rest_at w a b rest x y)
    left_on x y =
        elim ((x == a) && (y == b)) as (λ c. ((x == a) && (y == b)) ≡ c
        → Every (OnWay point end last stops x y) (cond c rest (w.waiting x y))) [
          | true ↦ λ h.
              let p = and_parts (x == a) (y == b) h in
              let e : w.waiting x y ≡ m ∷ rest = ap (λ (k : ℕ). w.waiting k y) (eqb-true x a p.0) ∙ ap (w.waiting a) (eqb-true y b p.1)
              ∙ queued in
              (subst (Every (OnWay point end last stops x y)) e (all x y)).1
          | false ↦ λ h. all x y
        ] refl

    sent_on : (x y z : ℕ) (n : Message) → OnWay point end last stops b z n
        → Every (OnWay point end last stops x y) (sent_at b z n x y (rest_at w a b rest x y))
    sent_on x y z n on =
        elim (x == b) as (λ c. (x == b) ≡ c
        → Every (OnWay point end last stops x y) (cond c (rest_at w a b rest x y ++ messages_to y (to_one z n))
        (rest_at w a b rest x y))) [
          | true ↦ λ h.
              every_append (OnWay point end last stops x y) (rest_at w a b rest x y) (messages_to y (to_one z n)) (left_on x y)
              (subst (Every (OnWay point end last stops x y)) (sym (to_point z y n))
              (elim (z == y) as (λ c. (z == y) ≡ c → Every (OnWay point end last stops x y) (cond c (n ∷ []) [])) [
                | true ↦ λ k. (
                  subst (λ (q : ℕ). OnWay point end last stops q y n) (sym (eqb-true x b h))
                      (subst (λ (q : ℕ). OnWay point end last stops b q n) (eqb-true z y k) on),
                  tt,
                )
                | false ↦ λ k. tt
              ] refl))
          | false ↦ λ h. left_on x y
        ] refl
