-- The link that is to deliver next is the one that a running world names.
use Rattle.std.specs.Prelude.{ℕ, ◌≡◌, ◌==◌, ◌⊎◌, Bool, true, false, cond, ◌&&◌, ◌||◌, List, [], ◌∷◌, ◌++◌, Option, Some, None, IfSome}
use Rattle.std.specs.Prelude.{IfNone, refl}
use Rattle.std.specs.List.{list_any, cons_option}
use Rattle.std.proofs.Common.{sym, ◌∙◌, ap, subst, ⊎_elim, inl, inr, arith}
use Rattle.std.proofs.lemmas.Bool.{and_parts, or_parts, cases_Bool, eqb-true, eq-eqb}
use Rattle.std.proofs.lemmas.List.Folds.{list_any-append}
use Rattle.sccp_message.specs.declared.message.Message.{Message}
use Rattle.sccp_couple.specs.Coupling.{coupled}
use Rattle.sccp_couple.specs.Events.{Answer}
use Rattle.couple_chain.specs.declared.happening.Happening.{Happening}
use Rattle.couple_chain.specs.declared.happening.Happening.TheVariants.{Offers, Delivers}
use Rattle.couple_chain.specs.declared.offer_fault.OfferFault.{OfferFault}
use Rattle.couple_chain.specs.Line.{IsSettled}
use Rattle.couple_chain.specs.World.{Network, World, is_node, start, messages_to, event_at, handled, left, offered_if, offer_fault}
use Rattle.couple_chain.specs.World.{delivered_of, happens, run, after, IsNextLink}
use Rattle.chain_world.specs.Running.{is_before, lesser}
use Rattle.chain_world.proofs.Before.{Precedes, precedes_by, precedes_not}
use Rattle.chain_call.specs.Links.{sent_links, links_of, links_by, links_from, is_some_message, holds, least_in, next_link}

false_not_true : false ≡ true → ⊥
false_not_true e = cc

-- ---- one link before another

both_ways : (p q : ℕ × ℕ) → Precedes p q.0 q.1 → Precedes q p.0 p.1 → p ≡ q
both_ways p q (inl h) (inl k) = absurd (omega (arith, h, k))
both_ways p q (inl h) (inr k) = absurd (let e = k.0 in omega (arith, h, e))
both_ways p q (inr h) (inl k) = absurd (let e = h.0 in omega (arith, e, k))
both_ways p q (inr h) (inr k) =
    let second : p.1 ≡ q.1 = let a = h.1 in let b = k.1 in omega (arith, a, b) in
    ap (λ (n : ℕ). (n, p.1)) h.0 ∙ ap (λ (n : ℕ). (q.0, n)) second

-- the lesser of two is the one that precedes both
lesser_is : (p l : ℕ × ℕ) (o : Option (ℕ × ℕ)) → ((q : ℕ × ℕ) → o ≡ Some q → Precedes p q.0 q.1) → Precedes p l.0 l.1
    → (l ≡ p) ⊎ (o ≡ Some p) → lesser o l.0 l.1 ≡ p
lesser_is p l None all first (inl same) = same
lesser_is p l None all first (inr e) = absurd (let z : None ≡ Some p = e in cc)
lesser_is p l (Some q) all first (inl same) =
    elim (is_before q.0 q.1 l.0 l.1) as (λ c. is_before q.0 q.1 l.0 l.1 ≡ c → cond c q (l.0, l.1) ≡ p) [
      | true ↦ λ e. both_ways q p (subst (λ (r : ℕ × ℕ). Precedes q r.0 r.1) same (precedes_by q l.0 l.1 e)) (all q refl)
      | false ↦ λ e. same
    ] refl
lesser_is p l (Some q) all first (inr e) =
    let same : q ≡ p = cc in
    elim (is_before q.0 q.1 l.0 l.1) as (λ c. is_before q.0 q.1 l.0 l.1 ≡ c → cond c q (l.0, l.1) ≡ p) [
      | true ↦ λ f. same
      | false ↦ λ f. both_ways l p (subst (λ (r : ℕ × ℕ). Precedes l r.0 r.1) same (precedes_not q l.0 l.1 f)) first
    ] refl

-- ---- the least of a list of links

abbrev is_pair : ℕ → ℕ → ℕ × ℕ → Bool
is_pair a b l = (a == l.0) && (b == l.1)

pair_is : (p l : ℕ × ℕ) → is_pair p.0 p.1 l ≡ true → l ≡ p
pair_is p l h =
    let parts = and_parts (p.0 == l.0) (p.1 == l.1) h in
    sym (ap (λ (n : ℕ). (n, p.1)) (eqb-true p.0 l.0 parts.0) ∙ ap (λ (n : ℕ). (l.0, n)) (eqb-true p.1 l.1 parts.1))

lesser_holds : (w : World) (l : ℕ × ℕ) (o : Option (ℕ × ℕ)) → ((q : ℕ × ℕ) → o ≡ Some q → holds w q ≡ true) → holds w l ≡ true
    → holds w (lesser o l.0 l.1) ≡ true
lesser_holds w l None all here = here
lesser_holds w l (Some q) all here =
    elim (is_before q.0 q.1 l.0 l.1) as (λ c. holds w (cond c q (l.0, l.1)) ≡ true) [
      | true ↦ all q refl
      | false ↦ here
    ]

least_holds : (w : World) (links : List (ℕ × ℕ)) (q : ℕ × ℕ) → least_in w links ≡ Some q → holds w q ≡ true
least_holds w [] q e = absurd (let z : None ≡ Some q = e in cc)
least_holds w (l ∷ links) q e =
    elim (holds w l) as (λ c. holds w l ≡ c → cond c (Some (lesser (least_in w links) l.0 l.1)) (least_in w links) ≡ Some q
    → holds w q ≡ true) [
      | true ↦ λ here f.
          let same : lesser (least_in w links) l.0 l.1 ≡ q = cc in
          subst (λ (r : ℕ × ℕ). holds w r ≡ true) same (lesser_holds w l (least_in w links) (λ r g. least_holds w links r g) here)
      | false ↦ λ here f. least_holds w links q f
    ] refl e

none_holds : (w : World) (links : List (ℕ × ℕ)) → ((l : ℕ × ℕ) → holds w l ≡ false) → least_in w links ≡ None
none_holds w [] h = refl
none_holds w (l ∷ links) h = ap (λ (c : Bool). cond c (Some (lesser (least_in w links) l.0 l.1)) (least_in w links)) (h l)
    ∙ none_holds w links h

least_there : (w : World) (p : ℕ × ℕ) → holds w p ≡ true → ((q : ℕ × ℕ) → holds w q ≡ true → Precedes p q.0 q.1) → (links : List (ℕ × ℕ))
    → list_any (is_pair p.0 p.1) links ≡ true → least_in w links ≡ Some p
least_there w p held first [] h = absurd (false_not_true h)
least_there w p held first (l ∷ links) h =
    elim (holds w l) as (λ c. holds w l ≡ c → cond c (Some (lesser (least_in w links) l.0 l.1)) (least_in w links) ≡ Some p) [
      | true ↦ λ here.
          ap (λ (q : ℕ × ℕ). Some q) (lesser_is p l (least_in w links) (λ q e. first q (least_holds w links q e)) (first l here)
          (elim (is_pair p.0 p.1 l) as (λ c. is_pair p.0 p.1 l ≡ c → (c || list_any (is_pair p.0 p.1) links) ≡ true
          → (l ≡ p) ⊎ (least_in w links ≡ Some p)) [
            | true ↦ λ e k. inl (pair_is p l e)
            | false ↦ λ e k. inr (least_there w p held first links k)
          ] refl h))
      | false ↦ λ here.
          elim (is_pair p.0 p.1 l) as (λ c. is_pair p.0 p.1 l ≡ c → (c || list_any (is_pair p.0 p.1) links) ≡ true
          → least_in w links ≡ Some p) [
            | true ↦ λ e k. absurd (false_not_true (sym here ∙ ap (holds w) (pair_is p l e) ∙ held))
            | false ↦ λ e k. least_there w p held first links k
          ] refl h
    ] refl

-- ---- a link that holds a message is one that a message was put on

none_sent : (a b node : ℕ) (sent : List Answer) → (a == node) ≡ true → list_any (is_pair a b) (sent_links node sent) ≡ false
    → messages_to b sent ≡ []
none_sent a b node [] e h = refl
none_sent a b node (s ∷ sent) e h =
    let parts = or_parts ((a == node) && (b == s.to)) (list_any (is_pair a b) (sent_links node sent)) h in
    let other : (b == s.to) ≡ false = sym (ap (λ (c : Bool). c && (b == s.to)) e) ∙ parts.0 in
    let here : (s.to == b) ≡ false = ⊎_elim
    (λ (yes_to : (s.to == b) ≡ true). absurd (false_not_true (sym other ∙ eq-eqb b s.to (sym (eqb-true s.to b yes_to)))))
    (λ (no_to : (s.to == b) ≡ false). no_to)
    (cases_Bool (s.to == b)) in
    ap (λ (c : Bool). cons_option (cond c (Some s.message) None) (messages_to b sent)) here ∙ none_sent a b node sent e parts.1

-- a link that held nothing holds nothing when another one has delivered
left_empty : (w : World) (from to a b : ℕ) (message : Message) (rest : List Message) → w.waiting from to ≡ message ∷ rest
    → w.waiting a b ≡ [] → (left w from to message rest).waiting a b ≡ []
left_empty w from to a b message rest queue empty =
    elim ((a == from) && (b == to)) as (λ c. ((a == from) && (b == to)) ≡ c → cond c rest (w.waiting a b) ≡ []) [
      | true ↦ λ e.
          let parts = and_parts (a == from) (b == to) e in
          let z : message ∷ rest ≡ [] = sym queue ∙ ap (λ (n : ℕ). w.waiting n to) (sym (eqb-true a from parts.0))
          ∙ ap (λ (n : ℕ). w.waiting a n) (sym (eqb-true b to parts.1)) ∙ empty in
          absurd cc
      | false ↦ λ e. empty
    ] refl

delivered_empty : (network : Network) (w : World) (from to a b : ℕ) (queue : List Message) → w.waiting from to ≡ queue
    → list_any (is_pair a b) (links_of network w from to queue) ≡ false → w.waiting a b ≡ []
    → (delivered_of network w from to queue).waiting a b ≡ []
delivered_empty network w from to a b [] is h empty = empty
delivered_empty network w from to a b (message ∷ rest) is h empty =
    let u : World = left w from to message rest in
    let event = event_at network to from message in
    let sent : List Answer = (coupled (w.moments to).sections event).sent in
    let before : u.waiting a b ≡ [] = left_empty w from to a b message rest is empty in
    elim (is_node network to) as (λ c. list_any (is_pair a b) (cond c (sent_links to sent) []) ≡ false
    → (cond c (handled u to event) u).waiting a b ≡ []) [
      | true ↦ λ k.
          elim (a == to) as (λ c. (a == to) ≡ c → cond c (u.waiting a b ++ messages_to b sent) (u.waiting a b) ≡ []) [
            | true ↦ λ e. ap (λ (ms : List Message). ms ++ messages_to b sent) before ∙ none_sent a b to sent e k
            | false ↦ λ e. before
          ] refl
      | false ↦ λ k. before
    ] h

offered_empty : (w : World) (from to a b : ℕ) (message : Message) (o : Option OfferFault) → ((a == from) && (b == to)) ≡ false
    → w.waiting a b ≡ [] → (offered_if o w from to message).waiting a b ≡ []
offered_empty w from to a b message (Some fault) e empty = empty
offered_empty w from to a b message None e empty = ap (λ (c : Bool). cond c (w.waiting from to ++ message ∷ []) (w.waiting a b)) e ∙ empty

happens_empty : (network : Network) (w : World) (a b : ℕ) (h : Happening) → list_any (is_pair a b) (links_by network w h) ≡ false
    → w.waiting a b ≡ [] → (happens network w h).waiting a b ≡ []
happens_empty network w a b (Offers from to message) e empty = offered_empty w from to a b message (offer_fault network w from to message)
    (or_parts ((a == from) && (b == to)) false e).0 empty
happens_empty network w a b (Delivers from to) e empty = delivered_empty network w from to a b (w.waiting from to) refl e empty

run_empty : (network : Network) (w : World) (a b : ℕ) (history : List Happening)
    → list_any (is_pair a b) (links_from network w history) ≡ false → w.waiting a b ≡ [] → (run network w history).waiting a b ≡ []
run_empty network w a b [] e empty = empty
run_empty network w a b (h ∷ history) e empty =
    let parts = or_parts (list_any (is_pair a b) (links_by network w h))
    (list_any (is_pair a b) (links_from network (happens network w h) history))
    (sym (list_any-append (is_pair a b) (links_by network w h) (links_from network (happens network w h) history)) ∙ e) in
    run_empty network (happens network w h) a b history parts.1 (happens_empty network w a b h parts.0 empty)

among : (network : Network) (history : List Happening) (p : ℕ × ℕ) → holds (after network history) p ≡ true
    → list_any (is_pair p.0 p.1) (links_from network start history) ≡ true
among network history p held =
    ⊎_elim
    (λ (there : list_any (is_pair p.0 p.1) (links_from network start history) ≡ true). there)
    (λ (not_there : list_any (is_pair p.0 p.1) (links_from network start history) ≡ false).
    absurd (false_not_true (sym (ap is_some_message (run_empty network start p.0 p.1 history not_there refl)) ∙ held)))
    (cases_Bool (list_any (is_pair p.0 p.1) (links_from network start history)))

-- ---- the two definitions of it

some_held : (ms : List Message) → (ms ≡ [] → ⊥) → is_some_message ms ≡ true
some_held [] h = absurd (h refl)
some_held (m ∷ ms) h = refl

held_some : (ms : List Message) → is_some_message ms ≡ true → ms ≡ [] → ⊥
held_some ms h e = false_not_true (sym (ap is_some_message e) ∙ h)

-- the one link that may be named next is the one that the definition names
pub next_is : (network : Network) (history : List Happening) (p : ℕ × ℕ) → IsNextLink (after network history) p.0 p.1
    → next_link network (after network history) history ≡ Some p
next_is network history p next =
    let w : World = after network history in
    let held : holds w p ≡ true = some_held (w.waiting p.0 p.1) next.holds in
    least_there w p held (λ q h. next.least q.0 q.1 (held_some (w.waiting q.0 q.1) h)) (links_from network start history)
    (among network history p held)

-- if no link holds a message, the definition names none
pub next_none : (network : Network) (history : List Happening) → IsSettled (after network history)
    → next_link network (after network history) history ≡ None
next_none network history settled = none_holds (after network history) (links_from network start history)
    (λ l. ap is_some_message (settled l.0 l.1))

-- what a running world names, a link or none, is what the definition names
pub next_by : (network : Network) (history : List Happening) (o : Option (ℕ × ℕ))
    → IfSome o (λ l. IsNextLink (after network history) l.0 l.1) → IfNone o (IsSettled (after network history))
    → o ≡ next_link network (after network history) history
next_by network history None some none = sym (next_none network history none)
next_by network history (Some p) some none = sym (next_is network history p some)

-- ---- what is said of the link that is named

none_in : (w : World) (links : List (ℕ × ℕ)) (p : ℕ × ℕ) → least_in w links ≡ None → list_any (is_pair p.0 p.1) links ≡ true
    → holds w p ≡ true → ⊥
none_in w [] p none h held = false_not_true h
none_in w (l ∷ links) p none h held =
    elim (holds w l) as (λ c. holds w l ≡ c → cond c (Some (lesser (least_in w links) l.0 l.1)) (least_in w links) ≡ None → ⊥) [
      | true ↦ λ here e. let z : Some (lesser (least_in w links) l.0 l.1) ≡ None = e in cc
      | false ↦ λ here e.
          elim (is_pair p.0 p.1 l) as (λ c. is_pair p.0 p.1 l ≡ c → (c || list_any (is_pair p.0 p.1) links) ≡ true → ⊥) [
            | true ↦ λ f k. false_not_true (sym here ∙ ap (holds w) (pair_is p l f) ∙ held)
            | false ↦ λ f k. none_in w links p e k held
          ] refl h
    ] refl none

held_parts : (ms : List Message) → is_some_message ms ≡ true → (m : Message) × (rest : List Message) × (ms ≡ m ∷ rest)
held_parts [] h = absurd (false_not_true h)
held_parts (m ∷ rest) h = (m, rest, refl)

none_held : (ms : List Message) → (is_some_message ms ≡ true → ⊥) → ms ≡ []
none_held [] h = refl
none_held (m ∷ ms) h = absurd (h refl)

-- it holds a message
pub next_holds : (network : Network) (history : List Happening) (p : ℕ × ℕ) → next_link network (after network history) history ≡ Some p
    → (m : Message) × (rest : List Message) × ((after network history).waiting p.0 p.1 ≡ m ∷ rest)
next_holds network history p e =
    held_parts ((after network history).waiting p.0 p.1) (least_holds (after network history) (links_from network start history) p e)

-- if none is named, no link holds one
pub none_waits : (network : Network) (history : List Happening) → next_link network (after network history) history ≡ None
    → IsSettled (after network history)
none_waits network history e a b =
    none_held ((after network history).waiting a b) (λ held. none_in (after network history) (links_from network start history) (a, b) e
    (among network history (a, b) held) held)
