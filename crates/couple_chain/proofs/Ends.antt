-- an end's reference names at most one section of all relays
use Rattle.std.specs.Prelude.{ℕ, ◌≡◌, ◌+◌, ◌<◌, ◌≤◌, ◌==◌, ◌⊎◌, Bool, true, false, ◌&&◌, List, [], ◌∷◌, Some, None, refl}
use Rattle.std.specs.List.{list_any}
use Rattle.std.proofs.Common.{sym, ◌∙◌, ap, subst, ⊎_elim, inl, inr, arith}
use Rattle.std.proofs.lemmas.Bool.{cases_Bool, cases_eq, eq-eqb, eqb-true, ne_eqb, and_parts}
use Rattle.sccp_message.specs.declared.message.Message.{Message}
use Rattle.sccp_couple.specs.declared.section.Section.{Section}
use Rattle.sccp_couple.specs.Sections.{section_at, confirmed, first_new, second_new}
use Rattle.sccp_couple.specs.Events.{Event}
use Rattle.sccp_couple.specs.Coupling.{coupled}
use Rattle.sccp_couple.specs.Runs.{Moment}
use Rattle.sccp_couple.proofs.Lookups.{changed_cases}
use Rattle.sccp_couple.proofs.Keeping.{near_new, far_new, pair_cases, some_same, true_false}
use Rattle.sccp_couple.proofs.Ledger.{IsKept, kept_after, kept_happens}
use Rattle.couple_chain.specs.World.{Network, is_node, Happening, Offers, Delivers, World, start, put_on, event_at, handled, left, names}
use Rattle.couple_chain.specs.World.{requests, confirms, is_used, uses_again, offer_fault, put, happens, run, after}
use Rattle.couple_chain.specs.Line.{HasNear}
use Rattle.couple_chain.proofs.Counts.{number, number-append, number-or, one_of, none_of}
use Rattle.couple_chain.proofs.Turns.{Plain, Passes, Requests, Confirms, Turn, turn}
use Rattle.couple_chain.proofs.Worlds.{put_left, put_there, arrived_elsewhere, arrived_here, arrived_from_else, moment_here, moment_there}
use Rattle.couple_chain.proofs.Worlds.{accepted_parts, name_is, none_number, none_among, put_on_offer, put_on_else, offered_cases}
use Rattle.couple_chain.proofs.Worlds.{delivered_cases}

-- a near section was there before, or this CR made it
abbrev NearWas : List Section → Event → ℕ → Section → Type 0
NearWas l event q t =
    ((s : Section) × (section_at l q ≡ Some s) × (s.near ≡ true) × (s.point ≡ t.point) × (s.remote ≡ t.remote))
    ⊎ ((r : ℕ) × (t.remote ≡ Some r) × (t.point ≡ event.origin) × (requests r event.message ≡ true))

near_was : (l : List Section) (event : Event) → Turn l event → (q : ℕ) (t : Section) → section_at (coupled l event).sections q ≡ Some t
    → t.near ≡ true → NearWas l event q t
near_was l event (Plain none unheard plain loses) q t h near = let b = loses q t h in inl (b.0, b.1, sym b.2 ∙ near, sym b.3, sym b.4)
near_was l event (Passes dlr more payload is after) q t h near = inl (
  t,
  sym (ap (λ (x : List Section). section_at x q) after)
      ∙ h,
  near,
  refl,
  refl,
)
near_was l event (Requests slr class point called params called_on params_on is after sent) q t h near =
    ⊎_elim
    (λ (e : section_at l q ≡ Some t). inl (t, e, near, refl, refl))
    (λ (e : ((q ≡ first_new l) × (t ≡ near_new (first_new l) (second_new l) event.origin slr))
    ⊎ ((q ≡ second_new l) × (t ≡ far_new (first_new l) (second_new l) point))).
    ⊎_elim
    (λ (x : (q ≡ first_new l) × (t ≡ near_new (first_new l) (second_new l) event.origin slr)).
    inr (slr, ap (λ (y : Section). y.remote) x.1, ap (λ (y : Section). y.point) x.1, ap (requests slr) is ∙ eq-eqb slr slr refl))
    (λ (x : (q ≡ second_new l) × (t ≡ far_new (first_new l) (second_new l) point)). true_false (sym near
    ∙ ap (λ (y : Section). y.near) x.1))
    e)
    (pair_cases l (first_new l) (second_new l) event.origin slr point q t (sym (ap (λ (x : List Section). section_at x q) after) ∙ h))
near_was l event (Confirms dlr slr class o r params u n is u_at u_from u_far u_none u_other n_at n_near n_other n_remote after sent)
    q t h near =
    ⊎_elim
    (λ (x : (v : Section) × (q ≡ dlr) × (section_at l dlr ≡ Some v) × (t ≡ confirmed slr v)).
    let same : x.0 ≡ u = let a = x.2 in cc in
    true_false (sym near ∙ ap (λ (y : Section). y.near) x.3 ∙ ap (λ (y : Section). y.near) same ∙ u_far))
    (λ (x : (q ≡ dlr → ⊥) × (section_at l q ≡ Some t)). inl (t, x.1, near, refl, refl))
    (changed_cases (confirmed slr) (λ x. refl) l dlr q t (sym (ap (λ (x : List Section). section_at x q) after) ∙ h))

record AtEnds (network : Network) (w : World) : Type 0 where
  pub kept : (n : ℕ) → IsKept (w.moments n)
  pub near_named : (n own r : ℕ) (s : Section) → section_at (w.moments n).sections own ≡ Some s → s.near ≡ true → s.remote ≡ Some r
      → 0 < number (requests r) (w.arrived s.point n)
  pub to_nodes : (a b q : ℕ) → is_node network a ≡ false → is_node network b ≡ false → number (names q) (put_on w a b) ≡ 0
  pub once_of : (a q b c : ℕ) → is_node network a ≡ false → 0 < number (names q) (put_on w a b) → 0 < number (names q) (put_on w a c)
      → b ≡ c

starts : (network : Network) → AtEnds network start
starts network =
    record {
      kept = λ n. kept_after [];
      near_named = λ n own r s h near e. absurd (nothing own s h);
      to_nodes = λ a b q h k. refl;
      once_of = λ a q b c h k j. absurd (omega arith);
    }
  where
    nothing : (own : ℕ) (s : Section) → section_at [] own ≡ Some s → ⊥
    nothing own s h = cc

-- what has arrived only grows
left_more : (w : World) (from to : ℕ) (message : Message) (rest : List Message) (p : Message → Bool) (a b : ℕ)
    → number p (w.arrived a b) ≤ number p ((left w from to message rest).arrived a b)
left_more w from to message rest p a b =
    ⊎_elim
    (λ (e : b ≡ to).
    ⊎_elim
    (λ (f : a ≡ from).
    let x = ap (number p) (arrived_here w from to message rest) in
    let y = number-append p (w.arrived from to) (message ∷ []) in
    let u = ap (λ (n : ℕ). number p ((left w from to message rest).arrived n b)) f in
    let v = ap (λ (n : ℕ). number p ((left w from to message rest).arrived from n)) e in
    let k = ap (λ (n : ℕ). number p (w.arrived n b)) f in
    let j = ap (λ (n : ℕ). number p (w.arrived from n)) e in
    omega arith)
    (λ (f : a ≡ from → ⊥).
    let x = ap (number p) (arrived_from_else w from to message rest a f) in
    let v = ap (λ (n : ℕ). number p ((left w from to message rest).arrived a n)) e in
    let j = ap (λ (n : ℕ). number p (w.arrived a n)) e in
    omega arith)
    (cases_eq a from))
    (λ (e : b ≡ to → ⊥). let x = ap (number p) (arrived_elsewhere w from to message rest a b e) in omega arith)
    (cases_eq b to)

left_named : (w : World) (from to : ℕ) (message : Message) (rest : List Message) (p : Message → Bool) → p message ≡ true
    → 0 < number p ((left w from to message rest).arrived from to)
left_named w from to message rest p h =
    let x = ap (number p) (arrived_here w from to message rest) in
    let y = number-append p (w.arrived from to) (message ∷ []) in
    let z = one_of p message h in
    omega arith

leaves : (network : Network) (w : World) → AtEnds network w → (from to : ℕ) (message : Message) (rest : List Message)
    → w.waiting from to ≡ message ∷ rest → AtEnds network (left w from to message rest)
leaves network w ends from to message rest queue =
    let u : World = left w from to message rest in
    let same : (a b q : ℕ) → number (names q) (put_on u a b) ≡ number (names q) (put_on w a b) =
    λ a b q. ap (number (names q)) (put_left w from to message rest queue a b) in
    record {
      kept = ends.kept;
      near_named = λ n own r s h near e. let a = ends.near_named n own r s h near e in let b =
          left_more w from to message rest (requests r) s.point n in omega arith;
      to_nodes = λ a b q h k. same a b q ∙ ends.to_nodes a b q h k;
      once_of = λ a q b c h k j. let x = same a b q in let y = same a c q in ends.once_of a q b c h (omega arith) (omega arith);
    }

handles : (network : Network) (w : World) → AtEnds network w → (from to : ℕ) (message : Message) (rest : List Message)
    → w.waiting from to ≡ message ∷ rest → is_node network to ≡ true
    → AtEnds network (handled (left w from to message rest) to (event_at network to from message))
handles network w ends from to message rest queue inner =
    let event : Event = event_at network to from message in
    let u : World = left w from to message rest in
    let v : World = handled u to event in
    let l = leaves network w ends from to message rest queue in
    let same : (a b q : ℕ) → is_node network a ≡ false → number (names q) (put_on v a b) ≡ number (names q) (put_on u a b) = λ a b q h.
    ap (number (names q)) (put_there u to event a b (λ e. true_false (sym (ap (is_node network) e ∙ inner) ∙ h))) in
    record {
      kept = λ n.
          ⊎_elim
          (λ (e : n ≡ to). subst IsKept (sym (ap v.moments e ∙ moment_here u to event)) (kept_happens (u.moments to) event (ends.kept to)))
          (λ (e : n ≡ to → ⊥). subst IsKept (sym (moment_there u to event n e)) (ends.kept n))
          (cases_eq n to);
      near_named = λ n own r s h near e.
          ⊎_elim
          (λ (f : n ≡ to).
          let at : section_at (coupled (u.moments to).sections event).sections own ≡ Some s =
          sym (ap (λ (m : Moment). section_at m.sections own) (ap v.moments f ∙ moment_here u to event)) ∙ h in
          subst (λ (k : ℕ). 0 < number (requests r) (u.arrived s.point k)) (sym f)
          (⊎_elim
          (λ (x : (b : Section) × (section_at (u.moments to).sections own ≡ Some b) × (b.near ≡ true) × (b.point ≡ s.point)
          × (b.remote ≡ s.remote)).
          subst (λ (k : ℕ). 0 < number (requests r) (u.arrived k to)) x.3 (l.near_named to own r x.0 x.1 x.2 (x.4 ∙ e)))
          (λ (x : (q : ℕ) × (s.remote ≡ Some q) × (s.point ≡ from) × (requests q message ≡ true)).
          subst (λ (k : ℕ). 0 < number (requests r) (u.arrived k to)) (sym x.2)
          (left_named w from to message rest (requests r) (ap (λ (k : ℕ). requests k message) (sym (some_same x.0 r s.remote x.1 e))
          ∙ x.3)))
          (near_was (u.moments to).sections event (turn (u.moments to).sections (ends.kept to).coupling event) own s at near)))
          (λ (f : n ≡ to → ⊥).
          l.near_named n own r s (sym (ap (λ (m : Moment). section_at m.sections own) (moment_there u to event n f)) ∙ h) near e)
          (cases_eq n to);
      to_nodes = λ a b q h k. same a b q h ∙ l.to_nodes a b q h k;
      once_of = λ a q b c h k j. let x = same a b q h in let y = same a c q h in l.once_of a q b c h (omega arith) (omega arith);
    }

puts : (network : Network) (w : World) → AtEnds network w → (from to : ℕ) (message : Message) → offer_fault network w from to message ≡ None
    → AtEnds network (put w from to message)
puts network w ends from to message accepted =
    let parts = accepted_parts network w from to message accepted in
    let v : World = put w from to message in
    let elsewhere : (a b q : ℕ) → ((a == from) && (b == to)) ≡ false
    → number (names q) (put_on v a b) ≡ number (names q) (put_on w a b) =
    λ a b q e. ap (number (names q)) (put_on_else w from to message a b e) in
    let here : (a b q : ℕ) → ((a == from) && (b == to)) ≡ true
    → number (names q) (put_on v a b) ≡ number (names q) (put_on w from to) + number (names q) (message ∷ []) = λ a b q e.
    let both = and_parts (a == from) (b == to) e in
    ap (number (names q)) (ap (λ (n : ℕ). put_on v n b) (eqb-true a from both.0) ∙ ap (put_on v from) (eqb-true b to both.1)
    ∙ put_on_offer w from to message) ∙ number-append (names q) (put_on w from to) (message ∷ []) in
    -- a reference that the message names is on none of the end's links
    let unnamed : (q b : ℕ) → names q message ≡ true → number (names q) (put_on w from b) ≡ 0 = λ q b named.
    ⊎_elim
    (λ (e : is_node network b ≡ true).
    let unused : is_used network w from q ≡ false = sym (ap (uses_again network w from) (name_is q message named)) ∙ parts.2 in
    none_number (names q) (put_on w from b) (none_among (λ n. list_any (names q) (put_on w from n)) b network.nodes e unused))
    (λ (e : is_node network b ≡ false). ends.to_nodes from b q parts.0 e)
    (cases_Bool (is_node network b)) in
    record {
      kept = ends.kept;
      near_named = ends.near_named;
      to_nodes = λ a b q h k.
          elsewhere a b q (⊎_elim
          (λ (e : ((a == from) && (b == to)) ≡ true). true_false
          (sym (ap (is_node network) (eqb-true b to (and_parts (a == from) (b == to) e).1) ∙ parts.1) ∙ k))
          (λ (e : ((a == from) && (b == to)) ≡ false). e)
          (cases_Bool ((a == from) && (b == to)))) ∙ ends.to_nodes a b q h k;
      once_of = λ a q b c h k j.
          ⊎_elim
          (λ (named : (names q message ≡ true) × (a ≡ from)). only a q b c here elsewhere unnamed named.0 named.1 k j)
          (λ (other : (names q message ≡ false) ⊎ (a ≡ from
          → ⊥)). let x = kept_count a q b here elsewhere other in let y = kept_count a q c here elsewhere other in ends.once_of
          a q b c h (omega arith) (omega arith))
          (which (names q message) a);
    }
  where
    which : (b : Bool) (a : ℕ) → ((b ≡ true) × (a ≡ from)) ⊎ ((b ≡ false) ⊎ (a ≡ from → ⊥))
    which true a = ⊎_elim (λ (e : a ≡ from). inl (refl, e)) (λ (e : a ≡ from → ⊥). inr (inr e)) (cases_eq a from)
    which false a = inr (inl refl)

    kept_count : (a q b : ℕ) → ((a b q : ℕ) → ((a == from) && (b == to)) ≡ true
        → number (names q) (put_on (put w from to message) a b) ≡ number (names q) (put_on w from to) + number (names q) (message ∷ [])) →
        ((a b q : ℕ) → ((a == from) && (b == to)) ≡ false
        → number (names q) (put_on (put w from to message) a b) ≡ number (names q) (put_on w a b))
        → (names q message ≡ false) ⊎ (a ≡ from → ⊥) →
        number (names q) (put_on (put w from to message) a b) ≡ number (names q) (put_on w a b)
    kept_count a q b here elsewhere (inl none) =
        ⊎_elim
        (λ (e : ((a == from) && (b == to)) ≡ true).
        let both = and_parts (a == from) (b == to) e in
        let x = here a b q e in
        let y = none_of (names q) message none in
        let z = ap (λ (n : ℕ). number (names q) (put_on w n b)) (eqb-true a from both.0) in
        let u = ap (λ (n : ℕ). number (names q) (put_on w from n)) (eqb-true b to both.1) in
        omega arith)
        (λ (e : ((a == from) && (b == to)) ≡ false). elsewhere a b q e)
        (cases_Bool ((a == from) && (b == to)))
    kept_count a q b here elsewhere (inr away) = elsewhere a b q (ap (λ (x : Bool). x && (b == to)) (ne_eqb a from away))

    is_to : (a q b : ℕ) → ((a b q : ℕ) → ((a == from) && (b == to)) ≡ false
        → number (names q) (put_on (put w from to message) a b) ≡ number (names q) (put_on w a b))
        → ((q b : ℕ) → names q message ≡ true → number (names q) (put_on w from b) ≡ 0) →
        names q message ≡ true → a ≡ from → 0 < number (names q) (put_on (put w from to message) a b) → b ≡ to
    is_to a q b elsewhere unnamed named e k =
        ⊎_elim
        (λ (f : b ≡ to). f)
        (λ (f : b ≡ to → ⊥).
        let x = elsewhere a b q (ap (λ (y : Bool). (a == from) && y) (ne_eqb b to f) ∙ and_false (a == from)) in
        let y = unnamed q b named in
        let z = ap (λ (n : ℕ). number (names q) (put_on w n b)) e in
        absurd (omega arith))
        (cases_eq b to)
      where
        and_false : (b : Bool) → (b && false) ≡ false
        and_false true = refl
        and_false false = refl

    only : (a q b c : ℕ) → ((a b q : ℕ) → ((a == from) && (b == to)) ≡ true
        → number (names q) (put_on (put w from to message) a b) ≡ number (names q) (put_on w from to) + number (names q) (message ∷ [])) →
        ((a b q : ℕ) → ((a == from) && (b == to)) ≡ false
        → number (names q) (put_on (put w from to message) a b) ≡ number (names q) (put_on w a b))
        → ((q b : ℕ) → names q message ≡ true → number (names q) (put_on w from b) ≡ 0) →
        names q message ≡ true → a ≡ from → 0 < number (names q) (put_on (put w from to message) a b)
        → 0 < number (names q) (put_on (put w from to message) a c) → b ≡ c
    only a q b c here elsewhere unnamed named e k j = is_to a q b elsewhere unnamed named e k
        ∙ sym (is_to a q c elsewhere unnamed named e j)

ends_after : (network : Network) (w : World) (h : Happening) → AtEnds network w → AtEnds network (happens network w h)
ends_after network w (Offers from to message) ends = offered_cases (AtEnds network) network w from to message ends
    (puts network w ends from to message)
ends_after network w (Delivers from to) ends =
    delivered_cases (AtEnds network) network w from to ends (λ message rest h inner. handles network w ends from to message rest h inner)
    (λ message rest h outer. leaves network w ends from to message rest h)

ends_run : (network : Network) (w : World) (history : List Happening) → AtEnds network w → AtEnds network (run network w history)
ends_run network w [] ends = ends
ends_run network w (h ∷ history) ends = ends_run network (happens network w h) history (ends_after network w h ends)

pub one_node : (network : Network) (history : List Happening) (point reference one other own with_own : ℕ) → is_node network point ≡ false
    → HasNear (after network history) one point reference own → HasNear (after network history) other point reference with_own → one ≡ other
one_node network history point reference one other own with_own outer a b =
    let w : World = after network history in
    let ends = ends_run network start history (starts network) in
    let count : (n q : ℕ) → 0 < number (requests q) (w.arrived point n) → 0 < number (names q) (put_on w point n) = λ n q h.
    let x = number-append (names q) (w.arrived point n) (w.waiting point n) in let y =
    number-or (requests q) (confirms q) (w.arrived point n) in omega arith in
    let x = subst (λ (n : ℕ). 0 < number (requests reference) (w.arrived n one)) a.point_is
    (ends.near_named one own reference a.section a.at a.near a.remote_is) in
    let y = subst (λ (n : ℕ). 0 < number (requests reference) (w.arrived n other)) b.point_is
    (ends.near_named other with_own reference b.section b.at b.near b.remote_is) in
    ends.once_of point reference one other outer (count one reference x) (count other reference y)

pub one_section : (network : Network) (history : List Happening) (point reference node own with_own : ℕ)
    → HasNear (after network history) node point reference own → HasNear (after network history) node point reference with_own
    → own ≡ with_own
one_section network history point reference node own with_own a b =
    (((ends_run network start history
    (starts network)).kept node).coupling).near_differ own with_own a.section b.section a.at b.at a.near b.near (a.point_is
    ∙ sym b.point_is) (a.remote_is ∙ sym b.remote_is)
