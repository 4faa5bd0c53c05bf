-- The steps of a course: offers, deliveries, and when no link holds a message.
use Rattle.std.specs.Prelude.{ℕ, ◌≡◌, ◌==◌, ◌⊎◌, ◌<◌, ◌≤◌, ◌+◌, ◌*◌, Bool, true, false, cond, not, ◌&&◌, List, [], ◌∷◌, ◌++◌, Option, Some}
use Rattle.std.specs.Prelude.{None}
use Rattle.std.specs.Prelude.{is_some}
use Rattle.std.proofs.Common.{zero, suc, sym, ◌∙◌, ap, ⊎_elim, inr, arith}
use Rattle.std.proofs.lemmas.Bool.{cases_Bool, eqb-true, and_parts, lt-leb}
use Rattle.sccp_message.specs.declared.message.Message.{Message}
use Rattle.sccp_message.specs.Unitdata.{called_of}
use Rattle.sccp_message.specs.Written.{IsMessage}
use Rattle.couple_chain.specs.declared.delivered.Delivered.{Delivered}
use Rattle.couple_chain.specs.declared.delivered.Delivered.TheVariants.{Handled, Out}
use Rattle.couple_chain.specs.declared.happening.Happening.TheVariants.{Offers, Delivers}
use Rattle.couple_chain.specs.declared.offer_fault.OfferFault.{OfferFault}
use Rattle.couple_chain.specs.World as worlds
use Rattle.couple_chain.specs.World.{Network, World, is_node, put, offered_if, offer_fault, delivery_of, after, name_of}
use Rattle.couple_chain.specs.World.{uses_again, fault_by, is_writable}
use Rattle.chain_world.specs.Kept.{network_of}
use Rattle.chain_world.proofs.Happens.{after_more}
use Rattle.chain_world.proofs.Readable.{same_message, same_fault}
use Rattle.chain_call.specs.Course.{Course, world_at}
use Rattle.chain_call.specs.Notes.{note_of, release_of}
use Rattle.chain_call.specs.Steps.{offer_by, offered, handed_out, answered, come_out, delivered, is_spent, next_of, turn, settled_in}
use Rattle.chain_call.specs.declared.note.Note.{Note}
use Rattle.chain_call.proofs.NextLink.{next_is, next_none}
use Rattle.chain_call.proofs.Tokens.{Holds, Empty, at_link}

abbrev pub network_at : Course → Network
network_at c = network_of c.plan

-- ---- offers

-- a course after an offer that is accepted
abbrev pub after_offer : ℕ → ℕ → Message → Course → Course
after_offer from to m c = record c { history = c.history ++ Offers from to m ∷ []; offers = c.offers + 1 }

pub offer_is : (from to : ℕ) (m : Message) (c : Course) → IsMessage m → offer_fault (network_at c) (world_at c) from to m ≡ None
    → offered from to m c ≡ after_offer from to m c
unfolding offered
offer_is from to m c is none =
    ap (λ (o : Option OfferFault). record c { history = c.history ++ offer_by o from to m; offers = c.offers + 1 })
    (same_fault (network_at c) (world_at c) from to m is ∙ none)
    ∙ ap (λ (n : Message). record c { history = c.history ++ Offers from to n ∷ []; offers = c.offers + 1 }) (same_message m is)

pub world_offered : (from to : ℕ) (m : Message) (c : Course) → offer_fault (network_at c) (world_at c) from to m ≡ None
    → world_at (after_offer from to m c) ≡ put (world_at c) from to m
world_offered from to m c none =
    after_more (network_at c) c.history (Offers from to m) ∙ ap (λ (o : Option OfferFault). offered_if o (world_at c) from to m) none

-- an offer that no test fails
pub no_fault : (network : Network) (w : World) (from to : ℕ) (m : Message) → is_node network from ≡ false → is_node network to ≡ true
    → called_of m ≡ None → uses_again network w from (name_of m) ≡ false → is_writable m ≡ true → offer_fault network w from to m ≡ None
no_fault network w from to m outer inner oriented unused writable =
    ap (λ (b : Bool). fault_by b (not (is_node network to)) (is_some (called_of m)) (uses_again network w from (name_of m))
    (not (is_writable m))) outer
    ∙ ap (λ (b : Bool). fault_by false (not b) (is_some (called_of m)) (uses_again network w from (name_of m)) (not (is_writable m))) inner
    ∙ ap (λ o. fault_by false false (is_some o) (uses_again network w from (name_of m)) (not (is_writable m))) oriented
    ∙ ap (λ (b : Bool). fault_by false false false b (not (is_writable m))) unused
    ∙ ap (λ (b : Bool). fault_by false false false false (not b)) writable

-- ---- deliveries

abbrev pub after_delivery : ℕ → ℕ → Course → Course
after_delivery x y c = record c { history = c.history ++ Delivers x y ∷ []; deliveries = c.deliveries + 1 }

pub world_delivered : (x y : ℕ) (c : Course) → world_at (after_delivery x y c) ≡ worlds.delivered (network_at c) (world_at c) x y
world_delivered x y c = after_more (network_at c) c.history (Delivers x y)

-- to a relay
pub relay_delivery : (x y : ℕ) (m : Message) (rest : List Message) (c : Course) → (world_at c).waiting x y ≡ m ∷ rest
    → is_node (network_at c) y ≡ true → delivered x y c ≡ after_delivery x y c
unfolding delivered
relay_delivery x y m rest c queued inner =
    ap (λ (d : Delivered). come_out x y d (after_delivery x y c))
    (ap (delivery_of (network_at c) y) queued ∙ ap (λ (b : Bool). cond b Handled (Out m)) inner)

-- a note that is no release is kept
abbrev pub after_note : ℕ → ℕ → Note → Course → Course
after_note x y note c = record c {
  history = c.history ++ Delivers x y ∷ [];
  deliveries = c.deliveries + 1;
  handed = c.handed ++ record { from = x; to = y; note = note } ∷ [];
}

-- to an end, which answers a release
pub end_delivery : (x y : ℕ) (m : Message) (rest : List Message) (c : Course) → (world_at c).waiting x y ≡ m ∷ rest
    → is_node (network_at c) y ≡ false → delivered x y c ≡ answered x y (release_of (note_of m)) (after_note x y (note_of m) c)
unfolding delivered handed_out
end_delivery x y m rest c queued outer =
    ap (λ (d : Delivered). come_out x y d (after_delivery x y c))
    (ap (delivery_of (network_at c) y) queued ∙ ap (λ (b : Bool). cond b Handled (Out m)) outer)

-- ---- turns

-- a link that holds the only message is the next one
pub next_single : (x y : ℕ) (m : Message) (c : Course) → Holds (world_at c) x y m → next_of c ≡ Some (x, y)
unfolding next_of
next_single x y m c h = next_is (network_at c) c.history (x, y) (record {
  holds = λ e. some (sym (at_link (world_at c) x y m h) ∙ e);
  least = λ a b full. first a b full;
})
  where
    some : m ∷ [] ≡ [] → ⊥
    some e = cc

    first : (a b : ℕ) → ((world_at c).waiting a b ≡ [] → ⊥) → (x < a) ⊎ ((x ≡ a) × (y ≤ b))
    first a b full =
        ⊎_elim
        (λ (e : ((a == x) && (b == y)) ≡ true).
        let p = and_parts (a == x) (b == y) e in
        let f = eqb-true b y p.1 in
        inr (sym (eqb-true a x p.0), omega (arith, f)))
        (λ (e : ((a == x) && (b == y)) ≡ false). absurd (full (h a b ∙ ap (λ (k : Bool). cond k (m ∷ []) []) e)))
        (cases_Bool ((a == x) && (b == y)))

pub next_empty : (c : Course) → Empty (world_at c) → next_of c ≡ None
unfolding next_of
next_empty c h = next_none (network_at c) c.history h

pub not_spent : (c : Course) → c.deliveries < 64 * c.offers → is_spent c ≡ false
not_spent c lt = lt-leb (64 * c.offers) c.deliveries lt

pub turn_on : (turns : ℕ) (c : Course) (l : ℕ × ℕ) → next_of c ≡ Some l → c.deliveries < 64 * c.offers
    → settled_in (suc turns) c ≡ settled_in turns (delivered l.0 l.1 c)
turn_on turns c l next lt =
    ap (λ (o : Option (ℕ × ℕ)). turn (λ after. settled_in turns after) o c) next
    ∙ ap (λ (b : Bool). cond b None (settled_in turns (delivered l.0 l.1 c))) (not_spent c lt)

pub turn_end : (turns : ℕ) (c : Course) → next_of c ≡ None → settled_in (suc turns) c ≡ Some c
turn_end turns c next = ap (λ (o : Option (ℕ × ℕ)). turn (λ after. settled_in turns after) o c) next

pub turns_end : (turns : ℕ) (c : Course) → next_of c ≡ None → 1 ≤ turns → settled_in turns c ≡ Some c
turns_end zero c next some = absurd (omega (arith, some))
turns_end (suc turns) c next some = turn_end turns c next
