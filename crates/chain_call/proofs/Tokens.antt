-- A world in which one link holds one message, and what its delivery does.
use Rattle.std.specs.Prelude.{ℕ, ◌≡◌, ◌==◌, Bool, true, false, cond, ◌&&◌, List, [], ◌∷◌, ◌++◌, refl}
use Rattle.std.proofs.Common.{sym, ◌∙◌, ap, ⊎_elim}
use Rattle.std.proofs.lemmas.Bool.{cases_eq, eq-eqb, ne_eqb}
use Rattle.sccp_message.specs.declared.message.Message.{Message}
use Rattle.sccp_couple.specs.declared.section.Section.{Section}
use Rattle.sccp_couple.specs.Events.{Event, Answer}
use Rattle.sccp_couple.specs.Coupling.{coupled, to_one}
use Rattle.couple_chain.specs.World.{Network, World, is_node, messages_to, event_at, handled, left, delivered_of, delivered}
use Rattle.couple_chain.proofs.Sending.{to_point}
use Rattle.couple_chain.proofs.Worlds.{moment_here, moment_there}

-- the sections of a relay
abbrev pub sections_at : World → ℕ → List Section
sections_at w node = (w.moments node).sections

-- only the link from x to y holds anything, and that is one message
abbrev pub Holds : World → ℕ → ℕ → Message → Type 0
Holds w x y m = (a b : ℕ) → w.waiting a b ≡ cond ((a == x) && (b == y)) (m ∷ []) []

-- no link holds a message
abbrev pub Empty : World → Type 0
Empty w = (a b : ℕ) → w.waiting a b ≡ []

here : (x y : ℕ) → ((x == x) && (y == y)) ≡ true
here x y = ap (λ (b : Bool). b && (y == y)) (eq-eqb x x refl) ∙ eq-eqb y y refl

pub at_link : (w : World) (x y : ℕ) (m : Message) → Holds w x y m → w.waiting x y ≡ m ∷ []
at_link w x y m h = h x y ∙ ap (λ (b : Bool). cond b (m ∷ []) []) (here x y)

-- what a delivery leads to, if the link holds this message only
pub then_is : (network : Network) (w : World) (x y : ℕ) (m : Message) → Holds w x y m
    → delivered network w x y ≡ delivered_of network w x y (m ∷ [])
then_is network w x y m h = ap (delivered_of network w x y) (at_link w x y m h)

pub at_relay : (network : Network) (w : World) (x y : ℕ) (m : Message) → Holds w x y m → is_node network y ≡ true
    → delivered network w x y ≡ handled (left w x y m []) y (event_at network y x m)
at_relay network w x y m h inner =
    then_is network w x y m h
    ∙ ap (λ (b : Bool). cond b (handled (left w x y m []) y (event_at network y x m)) (left w x y m [])) inner

pub at_end : (network : Network) (w : World) (x y : ℕ) (m : Message) → Holds w x y m → is_node network y ≡ false
    → delivered network w x y ≡ left w x y m []
at_end network w x y m h outer =
    then_is network w x y m h
    ∙ ap (λ (b : Bool). cond b (handled (left w x y m []) y (event_at network y x m)) (left w x y m [])) outer

-- without it all links are empty
pub left_empty : (w : World) (x y : ℕ) (m : Message) → Holds w x y m → Empty (left w x y m [])
left_empty w x y m h a b =
    elim ((a == x) && (b == y)) as (λ c. ((a == x) && (b == y)) ≡ c → cond c [] (w.waiting a b) ≡ []) [
      | true ↦ λ e. refl
      | false ↦ λ e. h a b ∙ ap (λ (c : Bool). cond c (m ∷ []) []) e
    ] refl

pub eq_sym : (a b : ℕ) → (a == b) ≡ (b == a)
eq_sym a b = ⊎_elim (λ (e : a ≡ b). eq-eqb a b e ∙ sym (eq-eqb b a (sym e))) (λ (n : a ≡ b → ⊥). ne_eqb a b n
    ∙ sym (ne_eqb b a (λ e. n (sym e)))) (cases_eq a b)

-- one answer goes on the link to its point
pub moves : (u : World) (y z : ℕ) (n : Message) (event : Event) → Empty u
    → (coupled (sections_at u y) event).sent ≡ to_one z n → Holds (handled u y event) y z n
moves u y z n event empty sent a b =
    ap (λ (xs : List Message). cond (a == y) (xs ++ messages_to b (coupled (sections_at u y) event).sent) xs) (empty a b)
    ∙ ap (λ (s : List Answer). cond (a == y) (messages_to b s) []) sent
    ∙ ap (λ (xs : List Message). cond (a == y) xs []) (to_point z b n)
    ∙ ap (λ (c : Bool). cond (a == y) (cond c (n ∷ []) []) []) (eq_sym z b)
    ∙ elim (a == y) as (λ c. cond c (cond (b == z) (n ∷ []) []) [] ≡ cond (c && (b == z)) (n ∷ []) []) [ true ↦ refl | false ↦ refl ]

-- the sections afterwards
pub sections_here : (u : World) (y : ℕ) (event : Event) → sections_at (handled u y event) y ≡ (coupled (sections_at u y) event).sections
sections_here u y event = ap (λ m. m.sections) (moment_here u y event)

pub sections_there : (u : World) (y : ℕ) (event : Event) (p : ℕ) → (p ≡ y → ⊥) → sections_at (handled u y event) p ≡ sections_at u p
sections_there u y event p n = ap (λ m. m.sections) (moment_there u y event p n)
