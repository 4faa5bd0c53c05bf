-- What holds in every world in which no relay gave one own reference to two sections.
use Rattle.std.specs.Prelude.{ℕ, ◌≡◌, ◌≤◌, ◌==◌, ◌⊎◌, Bool, true, false, not, cond, ◌&&◌, ◌||◌, List, [], ◌∷◌, ◌++◌, length, filter, Option}
use Rattle.std.specs.Prelude.{Some, None, is_some, refl}
use Rattle.std.specs.List.{list_any}
use Rattle.std.proofs.Common.{sym, ◌∙◌, ap, subst, ⊎_elim, inl, inr, arith, append_assoc}
use Rattle.std.proofs.lemmas.Bool.{not-false, cases_Bool, cases_eq, eq-eqb, eqb-true, ne_eqb, and_parts}
use Rattle.std.proofs.lemmas.List.Elements.{All-nil}
use Rattle.sccp_message.specs.declared.message.Message.{Message}
use Rattle.sccp_message.specs.declared.message.Message.TheVariants as messages
use Rattle.sccp_message.specs.Unitdata.{called_of}
use Rattle.sccp_couple.specs.declared.section.Section.{Section}
use Rattle.sccp_couple.specs.Sections.{is_that, section_at}
use Rattle.sccp_couple.specs.Events.{Event}
use Rattle.sccp_couple.specs.Coupling.{coupled}
use Rattle.sccp_couple.specs.Runs as coupling
use Rattle.sccp_couple.specs.Runs.{Pair, Moment}
use Rattle.sccp_couple.proofs.Ledger.{kept_after}
use Rattle.sccp_couple.proofs.Fairness.{IsFair, that_is}
use Rattle.couple_chain.specs.World.{Network, is_node, Happening, Offers, Delivers, World, start, put_on, messages_to, event_at, handled}
use Rattle.couple_chain.specs.World.{left, delivered_of, delivered, names, requests, name_of, is_used, uses_again, OfferFault, fault_by}
use Rattle.couple_chain.specs.World.{is_writable, offer_fault, put, offered_if, offered, happens, run, after}
use Rattle.couple_chain.specs.Line.{given, times, IsFresh}
use Rattle.couple_chain.proofs.Counts.{number, number-append, none_of}
use Rattle.couple_chain.proofs.Holds.{has_near, HoldsFor, AllHold, coming, pairs_of}
use Rattle.couple_chain.proofs.Ledgers.{nears_after, fars_after, times_both}
use Rattle.couple_chain.proofs.Takes.{Peers, Takes}
use Rattle.couple_chain.proofs.Handles.{holds_then, once_then}

same_functions : {A : Type 0} (f g : ℕ → A) → ((x : ℕ) → f x ≡ g x) → f ≡ g
same_functions f g h = λ i. λ x. h x i

HoldsFor_same : (network : Network) (put put' arrived arrived' : ℕ → List Message) (pairs : ℕ → List Pair) (m m' : Moment)
    → ((to : ℕ) → put to ≡ put' to) → ((from : ℕ) → arrived from ≡ arrived' from) → m ≡ m' →
    HoldsFor network put arrived pairs m → HoldsFor network put' arrived' pairs m'
HoldsFor_same network put put' arrived arrived' pairs m m' e f g h =
    subst (λ (x : ℕ → List Message). HoldsFor network x arrived' pairs m') (same_functions put put' e)
    (subst (λ (x : ℕ → List Message). HoldsFor network put x pairs m') (same_functions arrived arrived' f)
    (subst (λ (x : Moment). HoldsFor network put arrived pairs x) g h))

-- more pairs elsewhere
HoldsFor_more : (network : Network) (put arrived : ℕ → List Message) (pairs pairs' : ℕ → List Pair) (m : Moment)
    → ((node own : ℕ) → number (has_near own) (pairs node) ≤ number (has_near own) (pairs' node)) →
    HoldsFor network put arrived pairs m → HoldsFor network put arrived pairs' m
HoldsFor_more network put arrived pairs pairs' m more h =
    record {
      kept = h.kept;
      fair = h.fair;
      requested = h.requested;
      confirmed = h.confirmed;
      remote_named = h.remote_named;
      away = h.away;
      data_named = h.data_named;
      answers_named = h.answers_named;
      data_answered = λ to q inner none. let a = more to q in h.data_answered to q inner (omega arith);
      stretches = h.stretches;
    }

-- an empty world
starts : (network : Network) → AllHold network start
starts network =
    record {
      each = λ node is. record {
        kept = kept_after [];
        fair = All-nil (IsFair []);
        requested = λ to own. omega arith;
        confirmed = λ to own h. absurd (omega arith);
        remote_named = λ own q s h e. absurd (cc);
        away = λ own other q s t h. absurd (nothing own s h);
        data_named = λ to q h. absurd (omega arith);
        answers_named = λ to q h. absurd (omega arith);
        data_answered = λ to q h e. refl;
        stretches = tt;
      };
      once = λ from to own. omega arith;
    }
  where
    nothing : (own : ℕ) (s : Section) → section_at [] own ≡ Some s → ⊥
    nothing own s h = cc

-- the oldest message leaves its link, and is then among those that arrived
pub put_left : (w : World) (from to : ℕ) (message : Message) (rest : List Message) → w.waiting from to ≡ message ∷ rest → (a b : ℕ)
    → put_on (left w from to message rest) a b ≡ put_on w a b
put_left w from to message rest h a b =
    elim ((a == from) && (b == to)) as (λ x. ((a == from) && (b == to)) ≡ x
    → cond x (w.arrived from to ++ message ∷ []) (w.arrived a b) ++ cond x rest (w.waiting a b) ≡ w.arrived a b ++ w.waiting a b) [
      | true ↦ λ e.
          let parts = and_parts (a == from) (b == to) e in
          append_assoc (w.arrived from to) (message ∷ []) rest
          ∙ ap (λ (x : List Message). w.arrived from to ++ x) (sym h)
          ∙ ap (λ (n : ℕ). w.arrived n to ++ w.waiting n to) (sym (eqb-true a from parts.0))
          ∙ ap (λ (n : ℕ). w.arrived a n ++ w.waiting a n) (sym (eqb-true b to parts.1))
      | false ↦ λ e. refl
    ] refl

put_here : (w : World) (node : ℕ) (event : Event) (to : ℕ)
    → put_on (handled w node event) node to ≡ put_on w node to ++ messages_to to (coupled (w.moments node).sections event).sent
put_here w node event to =
    ap (λ (x : Bool). w.arrived node to ++ cond x (w.waiting node to ++ messages_to to (coupled (w.moments node).sections event).sent)
    (w.waiting node to)) (eq-eqb node node refl)
    ∙ sym (append_assoc (w.arrived node to) (w.waiting node to) (messages_to to (coupled (w.moments node).sections event).sent))

pub put_there : (w : World) (node : ℕ) (event : Event) (from to : ℕ) → (from ≡ node → ⊥)
    → put_on (handled w node event) from to ≡ put_on w from to
put_there w node event from to n = ap (λ (x : Bool). w.arrived from to
    ++ cond x (w.waiting from to ++ messages_to to (coupled (w.moments node).sections event).sent) (w.waiting from to)) (ne_eqb from node n)

pub arrived_elsewhere : (w : World) (from to : ℕ) (message : Message) (rest : List Message) (a b : ℕ) → (b ≡ to → ⊥)
    → (left w from to message rest).arrived a b ≡ w.arrived a b
arrived_elsewhere w from to message rest a b n =
    ap (λ (x : Bool). cond ((a == from) && x) (w.arrived from to ++ message ∷ []) (w.arrived a b)) (ne_eqb b to n)
    ∙ elim (a == from) as (λ x. cond (x && false) (w.arrived from to ++ message ∷ []) (w.arrived a b) ≡ w.arrived a b)
    [ true ↦ refl | false ↦ refl ]

pub arrived_from_else : (w : World) (from to : ℕ) (message : Message) (rest : List Message) (a : ℕ) → (a ≡ from → ⊥)
    → (left w from to message rest).arrived a to ≡ w.arrived a to
arrived_from_else w from to message rest a n = ap (λ (x : Bool). cond (x && (to == to)) (w.arrived from to ++ message ∷ [])
    (w.arrived a to)) (ne_eqb a from n)

pub arrived_here : (w : World) (from to : ℕ) (message : Message) (rest : List Message)
    → (left w from to message rest).arrived from to ≡ w.arrived from to ++ message ∷ []
arrived_here w from to message rest =
    ap (λ (x : Bool). cond (x && (to == to)) (w.arrived from to ++ message ∷ []) (w.arrived from to)) (eq-eqb from from refl)
    ∙ ap (λ (x : Bool). cond x (w.arrived from to ++ message ∷ []) (w.arrived from to)) (eq-eqb to to refl)

pub moment_here : (w : World) (node : ℕ) (event : Event) → (handled w node event).moments node ≡ coupling.happens (w.moments node) event
moment_here w node event = ap (λ (x : Bool). cond x (coupling.happens (w.moments node) event) (w.moments node)) (eq-eqb node node refl)

pub moment_there : (w : World) (node : ℕ) (event : Event) (n : ℕ) → (n ≡ node → ⊥) → (handled w node event).moments n ≡ w.moments n
moment_there w node event n e = ap (λ (x : Bool). cond x (coupling.happens (w.moments node) event) (w.moments n)) (ne_eqb n node e)

-- references that were given stay given
times_more : (m : Moment) (event : Event) (own : ℕ) → times own (given m) ≤ times own (given (coupling.happens m event))
times_more m event own =
    let a = times_both own m.pairs in
    let b = times_both own (coupling.happens m event).pairs in
    let c = nears_after m event own in
    let d = fars_after m event own in
    omega arith

handled_fresh : (network : Network) (w : World) (node : ℕ) (event : Event) → IsFresh network (handled w node event) → IsFresh network w
handled_fresh network w node event fresh n own is =
    let a = fresh n own is in
    ⊎_elim
    (λ (e : n ≡ node).
    let b = times_more (w.moments node) event own in
    let c = ap (λ (m : Moment). times own (given m)) (ap (handled w node event).moments e ∙ moment_here w node event) in
    let d = ap (λ (k : ℕ). times own (given (w.moments k))) e in
    omega arith)
    (λ (e : n ≡ node → ⊥). let c = ap (λ (m : Moment). times own (given m)) (moment_there w node event n e) in omega arith)
    (cases_eq n node)

-- a relay takes the oldest message of a link
takes_it : (network : Network) (w : World) → AllHold network w → (from to : ℕ) (message : Message) (rest : List Message)
    → w.waiting from to ≡ message ∷ rest → is_node network to ≡ true →
    IsFresh network (handled (left w from to message rest) to (event_at network to from message))
    → AllHold network (handled (left w from to message rest) to (event_at network to from message))
takes_it network w all from to message rest queue inner fresh =
    let event : Event = event_at network to from message in
    let u : World = left w from to message rest in
    let v : World = handled u to event in
    let m : Moment = w.moments to in
    let toward : ℕ → List Message = λ n. put_on w n to in
    let holds = all.each to inner in
    let given_once : (own : ℕ) → times own (given (coupling.happens m event)) ≤ 1 = λ own.
    let a = fresh to own inner in let b = ap (λ (x : Moment). times own (given x)) (moment_here u to event) in omega arith in
    let peers : Peers network (put_on w to) toward (pairs_of w) m = record {
      once = λ n q. all.once n to q;
      once_here = λ n q. all.once to n q;
      data_named = λ n q is h. let a = (all.each n is).data_named to q h in let b =
          number-append (names q) (w.arrived to n) (w.waiting to n) in omega arith;
      confirmed = λ n q is h. (all.each n is).confirmed to q h;
      answers_named = λ n q is h. let a = (all.each n is).answers_named to q h in let b =
          number-append (requests q) (w.arrived to n) (w.waiting to n) in omega arith;
      data_answered = λ n q is h. (all.each n is).data_answered to q inner h;
    } in
    let takes : Takes (put_on w to) (coming w to) toward (put_on v to) (coming v to) m event = record {
      rest = rest;
      queue = ap (λ (x : List Message). w.arrived from to ++ x) queue ∙ sym (append_assoc (w.arrived from to) (message ∷ []) rest);
      come = λ n. (w.waiting n to, refl);
      sends = λ n. put_here u to event n ∙ ap (λ (x : List Message). x ++ messages_to n (coupled m.sections event).sent)
          (put_left w from to message rest queue to n);
      here = arrived_here w from to message rest;
      elsewhere = λ n e. arrived_from_else w from to message rest n e;
    } in
    let more : (node own : ℕ) → number (has_near own) (pairs_of w node) ≤ number (has_near own) (pairs_of v node) = λ node own.
    ⊎_elim
    (λ (e : node ≡ to).
    let a = nears_after m event own in
    let b = ap (λ (x : Moment). number (has_near own) x.pairs) (ap v.moments e ∙ moment_here u to event) in
    let c = ap (λ (k : ℕ). number (has_near own) (w.moments k).pairs) e in
    omega arith)
    (λ (e : node ≡ to → ⊥). let b = ap (λ (x : Moment). number (has_near own) x.pairs) (moment_there u to event node e) in omega arith)
    (cases_eq node to) in
    record {
      each = λ node is.
          HoldsFor_more network (put_on v node) (coming v node) (pairs_of w) (pairs_of v) (v.moments node) more
          (⊎_elim
          (λ (e : node ≡ to).
          subst (λ (n : ℕ). HoldsFor network (put_on v n) (coming v n) (pairs_of w) (v.moments n)) (sym e)
          (subst (λ (x : Moment). HoldsFor network (put_on v to) (coming v to) (pairs_of w) x) (sym (moment_here u to event))
          (holds_then network (put_on w to) (coming w to) toward (put_on v to) (coming v to)
          (pairs_of w) m event holds peers takes given_once)))
          (λ (e : node ≡ to → ⊥).
          HoldsFor_same network (put_on w node) (put_on v node) (coming w node) (coming v node) (pairs_of w) (w.moments node)
          (v.moments node)
          (λ n. sym (put_there u to event node n e ∙ put_left w from to message rest queue node n))
          (λ n. sym (arrived_elsewhere w from to message rest n node e))
          (sym (moment_there u to event node e))
          (all.each node is))
          (cases_eq node to));
      once = λ a b own.
          ⊎_elim
          (λ (e : a ≡ to).
          let x = once_then network (put_on w to) (coming w to) toward (put_on v to) (coming v to)
          (pairs_of w) m event holds peers takes given_once b own in
          let y = ap (λ (n : ℕ). number (names own) (put_on v n b)) e in
          omega arith)
          (λ (e : a ≡ to → ⊥).
          let x = all.once a b own in
          let y = ap (number (names own)) (put_there u to event a b e ∙ put_left w from to message rest queue a b) in
          omega arith)
          (cases_eq a to);
    }

-- an end is handed the oldest message of a link
hands_out : (network : Network) (w : World) → AllHold network w → (from to : ℕ) (message : Message) (rest : List Message)
    → w.waiting from to ≡ message ∷ rest → is_node network to ≡ false → AllHold network (left w from to message rest)
hands_out network w all from to message rest queue outer =
    let u : World = left w from to message rest in
    record {
      each = λ node is.
          HoldsFor_same network (put_on w node) (put_on u node) (coming w node) (coming u node) (pairs_of w) (w.moments node)
          (w.moments node)
          (λ n. sym (put_left w from to message rest queue node n))
          (λ n. sym (arrived_elsewhere w from to message rest n node (λ e. absurd (let x : true ≡ false = sym is ∙ ap (is_node network) e
          ∙ outer in cc))))
          refl (all.each node is);
      once = λ a b own. let x = all.once a b own in let y =
          ap (number (names own)) (put_left w from to message rest queue a b) in omega arith;
    }

-- an end's accepted offer
pub none_by : (a b c d e : Bool) → fault_by a b c d e ≡ None → (a ≡ false) × (b ≡ false) × (c ≡ false) × (d ≡ false) × (e ≡ false)
none_by true b c d e h = absurd (cc)
none_by false true c d e h = absurd (cc)
none_by false false true d e h = absurd (cc)
none_by false false false true e h = absurd (cc)
none_by false false false false true h = absurd (cc)
none_by false false false false false h = (refl, refl, refl, refl, refl)

pub accepted_parts : (network : Network) (w : World) (from to : ℕ) (message : Message) → offer_fault network w from to message ≡ None
    → (is_node network from ≡ false) × (is_node network to ≡ true) × (uses_again network w from (name_of message) ≡ false)
accepted_parts network w from to message h =
    let parts = none_by (is_node network from) (not (is_node network to)) (is_some (called_of message))
    (uses_again network w from (name_of message)) (not (is_writable message)) h in
    (parts.0, not-false (is_node network to) parts.1, parts.3)

-- a message names a reference exactly if that is its source local reference
pub named_by : (own : ℕ) (message : Message) → names own message ≡ is_that (name_of message) own
named_by own (messages.Cr slr class called params) = or_false (slr == own)
  where
    or_false : (b : Bool) → (b || false) ≡ b
    or_false true = refl
    or_false false = refl
named_by own (messages.Cc dlr slr class params) = refl
named_by own _ = refl

-- what a message names
pub name_is : (own : ℕ) (message : Message) → names own message ≡ true → name_of message ≡ Some own
name_is own message h = that_is (name_of message) own (sym (named_by own message) ∙ h)

pub none_number : (p : Message → Bool) (xs : List Message) → list_any p xs ≡ false → number p xs ≡ 0
none_number p [] h = refl
none_number p (x ∷ xs) h =
    elim (p x) as (λ b. (b || list_any p xs) ≡ false → length (cond b (x ∷ filter p xs) (filter p xs)) ≡ 0) [
      | true ↦ λ k. absurd (let z : true ≡ false = k in cc)
      | false ↦ λ k. none_number p xs k
    ] h

pub none_among : (f : ℕ → Bool) (n : ℕ) (ns : List ℕ) → list_any (λ x. x == n) ns ≡ true → list_any f ns ≡ false → f n ≡ false
none_among f n [] h k = absurd (cc)
none_among f n (x ∷ xs) h k =
    elim (f x) as (λ b. f x ≡ b → (b || list_any f xs) ≡ false → f n ≡ false) [
      | true ↦ λ e i. absurd (let z : true ≡ false = i in cc)
      | false ↦ λ e i.
          elim (x == n) as (λ b. (x == n) ≡ b → (b || list_any (λ x. x == n) xs) ≡ true → f n ≡ false) [
            | true ↦ λ j g. ap f (sym (eqb-true x n j)) ∙ e
            | false ↦ λ j g. none_among f n xs g i
          ] refl h
    ] refl k

pub put_on_offer : (w : World) (from to : ℕ) (message : Message) → put_on (put w from to message) from to ≡ put_on w from to ++ message ∷ []
put_on_offer w from to message =
    ap (λ (x : Bool). w.arrived from to ++ cond (x && (to == to)) (w.waiting from to ++ message ∷ []) (w.waiting from to))
    (eq-eqb from from refl)
    ∙ ap (λ (x : Bool). w.arrived from to ++ cond x (w.waiting from to ++ message ∷ []) (w.waiting from to)) (eq-eqb to to refl)
    ∙ sym (append_assoc (w.arrived from to) (w.waiting from to) (message ∷ []))

pub put_on_else : (w : World) (from to : ℕ) (message : Message) (a b : ℕ) → ((a == from) && (b == to)) ≡ false
    → put_on (put w from to message) a b ≡ put_on w a b
put_on_else w from to message a b e = ap (λ (x : Bool). w.arrived a b ++ cond x (w.waiting from to ++ message ∷ []) (w.waiting a b)) e

puts_it : (network : Network) (w : World) → AllHold network w → (from to : ℕ) (message : Message)
    → offer_fault network w from to message ≡ None → AllHold network (put w from to message)
puts_it network w all from to message accepted =
    let parts = accepted_parts network w from to message accepted in
    let v : World = put w from to message in
    record {
      each = λ node is.
          let apart : (node == from) ≡ false = ne_eqb node from (λ e. absurd (let x : true ≡ false = sym is ∙ ap (is_node network) e
          ∙ parts.0 in cc)) in
          HoldsFor_same network (put_on w node) (put_on v node) (coming w node) (coming v node) (pairs_of w) (w.moments node)
          (w.moments node)
          (λ n. sym (put_on_else w from to message node n (ap (λ (x : Bool). x && (n == to)) apart)))
          (λ n. refl) refl (all.each node is);
      once = λ a b own.
          let old = all.once a b own in
          ⊎_elim
          (λ (e : ((a == from) && (b == to)) ≡ true).
          let both = and_parts (a == from) (b == to) e in
          let same : put_on v a b ≡ put_on w from to ++ message ∷ [] = ap (λ (n : ℕ). put_on v n b) (eqb-true a from both.0)
          ∙ ap (put_on v from) (eqb-true b to both.1) ∙ put_on_offer w from to message in
          let count = ap (number (names own)) same ∙ number-append (names own) (put_on w from to) (message ∷ []) in
          ⊎_elim
          (λ (named : names own message ≡ true).
          let unused : is_used network w from own ≡ false = sym (ap (uses_again network w from) (name_is own message named)) ∙ parts.2 in
          let here : list_any (names own) (put_on w from to) ≡ false =
          none_among (λ n. list_any (names own) (put_on w from n)) to network.nodes parts.1 unused in
          let zero_there = none_number (names own) (put_on w from to) here in
          let one = few_one (names own) message in
          omega arith)
          (λ (other : names own message ≡ false).
          let zero_more = none_of (names own) message other in
          let before = all.once from to own in
          omega arith)
          (cases_Bool (names own message)))
          (λ (e : ((a == from) && (b == to)) ≡ false). let same = ap (number (names own))
          (put_on_else w from to message a b e) in omega arith)
          (cases_Bool ((a == from) && (b == to)));
    }
  where
    few_one : (p : Message → Bool) (x : Message) → number p (x ∷ []) ≤ 1
    few_one p x = elim (p x) as (λ b. length (cond b (x ∷ []) []) ≤ 1) [ true ↦ omega arith | false ↦ omega arith ]

-- one happening
fault_cases : (o : Option OfferFault) → (o ≡ None) ⊎ ((f : OfferFault) × (o ≡ Some f))
fault_cases None = inl refl
fault_cases (Some f) = inr (f, refl)

pub offered_cases : (P : World → Type 0) (network : Network) (w : World) (from to : ℕ) (message : Message) → P w
    → (offer_fault network w from to message ≡ None → P (put w from to message)) → P (offered network w from to message)
offered_cases P network w from to message same new =
    ⊎_elim
    (λ (none : offer_fault network w from to message ≡ None). subst (λ (o : Option OfferFault). P (offered_if o w from to message))
    (sym none) (new none))
    (λ (some : (f : OfferFault) × (offer_fault network w from to message ≡ Some f)). subst
    (λ (o : Option OfferFault). P (offered_if o w from to message)) (sym some.1) same)
    (fault_cases (offer_fault network w from to message))

pub delivered_cases : (P : World → Type 0) (network : Network) (w : World) (from to : ℕ) → P w →
    ((message : Message) (rest : List Message) → w.waiting from to ≡ message ∷ rest → is_node network to ≡ true
    → P (handled (left w from to message rest) to (event_at network to from message))) →
    ((message : Message) (rest : List Message) → w.waiting from to ≡ message ∷ rest → is_node network to ≡ false
    → P (left w from to message rest)) →
    P (delivered network w from to)
delivered_cases P network w from to same inner outer = go (w.waiting from to) refl
  where
    go : (ms : List Message) → w.waiting from to ≡ ms → P (delivered_of network w from to ms)
    go [] h = same
    go (message ∷ rest) h =
        elim (is_node network to) as (λ b. is_node network to ≡ b
        → P (cond b (handled (left w from to message rest) to (event_at network to from message)) (left w from to message rest))) [
          | true ↦ λ e. inner message rest h e
          | false ↦ λ e. outer message rest h e
        ] refl

-- references that were given stay given
fresh_before : (network : Network) (w : World) (h : Happening) → IsFresh network (happens network w h) → IsFresh network w
fresh_before network w (Offers from to message) = offered_cases (λ v. IsFresh network v
    → IsFresh network w) network w from to message (λ f. f) (λ none f. f)
fresh_before network w (Delivers from to) =
    delivered_cases (λ v. IsFresh network v → IsFresh network w) network w from to (λ f. f)
    (λ message rest h inner f. handled_fresh network (left w from to message rest) to (event_at network to from message) f)
    (λ message rest h outer f. f)

holds_after : (network : Network) (w : World) (h : Happening) → AllHold network w → IsFresh network (happens network w h)
    → AllHold network (happens network w h)
holds_after network w (Offers from to message) all = offered_cases (λ v. IsFresh network v
    → AllHold network v) network w from to message (λ f. all) (λ none f. puts_it network w all from to message none)
holds_after network w (Delivers from to) all =
    delivered_cases (λ v. IsFresh network v → AllHold network v) network w from to (λ f. all)
    (λ message rest h inner f. takes_it network w all from to message rest h inner f)
    (λ message rest h outer f. hands_out network w all from to message rest h outer)

fresh_first : (network : Network) (w : World) (history : List Happening) → IsFresh network (run network w history) → IsFresh network w
fresh_first network w [] f = f
fresh_first network w (h ∷ history) f = fresh_before network w h (fresh_first network (happens network w h) history f)

holds_run : (network : Network) (w : World) (history : List Happening) → AllHold network w → IsFresh network (run network w history)
    → AllHold network (run network w history)
holds_run network w [] all f = all
holds_run network w (h ∷ history) all f = holds_run network (happens network w h) history
    (holds_after network w h all (fresh_first network (happens network w h) history f)) f

pub all_hold : (network : Network) (history : List Happening) → IsFresh network (after network history)
    → AllHold network (after network history)
all_hold network history f = holds_run network start history (starts network) f
