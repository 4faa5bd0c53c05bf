-- when a message is cut off
use Rattle.std.specs.Prelude.{◌≡◌, ℕ, ◌-◌, ◌<◌, ◌≤◌, ◌==◌, ◌⊎◌, Bool, true, false, not, nat_le, List, [], ◌∷◌, length, Option, Some, None}
use Rattle.std.specs.Prelude.{is_some, option_map, refl, if◌then◌else◌, Result, Ok, Err}
use Rattle.std.specs.List.{list_any}
use Rattle.std.proofs.Common.{zero, suc, sym, ◌∙◌, ap, subst, inl, inr, ⊎_elim, arith}
use Rattle.std.proofs.lemmas.Bool.{leb-true, leb-false}
use Rattle.sccp_base.specs.Marks.{holds}
use Rattle.sccp_base.specs.declared.mark.Mark.{Mark}
use Rattle.sccp_base.specs.declared.mark.Mark.TheVariants.{Subsystem}
use Rattle.sccp_address.specs.declared.address.Address.{Address}
use Rattle.sccp_address.proofs.Kept.{AreOctets}
use Rattle.sccp_message.specs.declared.message.Message.{Message}
use Rattle.sccp_message.specs.declared.message.Message.TheVariants.{Xudt, Xudts, Ludt, Ludts}
use Rattle.sccp_message.specs.declared.fault.DecodeFault.{DecodeFault}
use Rattle.sccp_message.specs.Reading.{reading}
use Rattle.sccp_message.specs.Written.{message_octets}
use Rattle.sccp_message.specs.Unitdata.{called_of, hops_of}
use Rattle.plan_model.specs.declared.spot.Spot.{Spot}
use Rattle.plan_model.specs.declared.hop.Step.{Step}
use Rattle.plan_model.specs.declared.hop.Step.TheVariants as steps
use Rattle.plan_model.specs.Network.{Network, IsPlan, node_of}
use Rattle.plan_model.specs.Steps.{step}
use Rattle.plan_model.proofs.Leading.{Facts, step_facts}
use Rattle.sccp_scrc.specs.declared.arrival.Arrival.{Arrival}
use Rattle.sccp_scrc.specs.declared.arrival.Arrival.TheVariants as arrivals
use Rattle.sccp_scrc.specs.Unitdata.{redirected, write_fault, octets_of}
use Rattle.sccp_scrc.specs.Rewriting.{one_less, to_relay, rewritten, spot_of}
use Rattle.sccp_scrc.specs.Returning.{returned}
use Rattle.sccp_scrc.specs.Arriving.{point_of, subsystems_of, at_subsystem, leaving, after_step, translated, is_last_hop, at_title}
use Rattle.sccp_scrc.specs.Arriving.{by_called, of_message, arrival}
use Rattle.sccp_scrc.proofs.Redirected.{hops-redirected}
use Rattle.sccp_scrc.proofs.Addresses.{IsSpot-sent}
use Rattle.sccp_scrc.proofs.Arrivals.{IsTitled, IsTitled-read, IsTitled-reads, IsTitled-relayed, spot_title, if_false, arrives, next_again}
use Rattle.sccp_scrc.proofs.Meaning.{octets_are}
use Rattle.relay_net.specs.declared.end.End.TheVariants.{Cut}
use Rattle.relay_net.specs.Journeys.{Trip, held_at, onward, travel, most_arrivals, trip_of, end_of, journey}
use Rattle.relay_net.specs.Headline.{IsCutOff}

-- there is a last arrival, and it is not relayed
abbrev Stops : Option Arrival → Type 0
Stops None = ⊥
Stops (Some (arrivals.Relayed pc octets)) = ⊥
Stops (Some (arrivals.Ended pc ssn octets)) = Unit {0}
Stops (Some (arrivals.Local ssn m)) = Unit {0}
Stops (Some (arrivals.Returned cause marks service)) = Unit {0}
Stops (Some (arrivals.Connection m)) = Unit {0}
Stops (Some (arrivals.Management m)) = Unit {0}
Stops (Some (arrivals.Undecodable fault)) = Unit {0}

abbrev follow_by : Network → List (List Mark) → ℕ → ℕ → ℕ → List ℕ → Trip
follow_by plan states left next from octets = travel plan states left next from octets

-- a trip stops, or it has as many nodes as it may
one_more : (plan : Network) (states : List (List Mark)) (left node : ℕ) (x : Arrival)
    → ((next from : ℕ) (octets : List ℕ) → Stops (travel plan states left next from octets).last
    ⊎ (length (travel plan states left next from octets).path ≡ left)) →
    Stops (onward plan node x (follow_by plan states left)).last
    ⊎ (length (onward plan node x (follow_by plan states left)).path ≡ suc left)
one_more plan states left node (arrivals.Relayed pc octets) h =
    ⊎_elim (λ stops. inl stops) (λ e. inr (ap suc e)) (h (node_of plan.nodes pc) (point_of plan node) octets)
one_more plan states left node (arrivals.Ended pc ssn octets) h = inl tt
one_more plan states left node (arrivals.Local ssn m) h = inl tt
one_more plan states left node (arrivals.Returned cause marks service) h = inl tt
one_more plan states left node (arrivals.Connection m) h = inl tt
one_more plan states left node (arrivals.Management m) h = inl tt
one_more plan states left node (arrivals.Undecodable fault) h = inl tt

far : (plan : Network) (states : List (List Mark)) (left node origin : ℕ) (b : List ℕ)
    → Stops (travel plan states left node origin b).last ⊎ (length (travel plan states left node origin b).path ≡ left)
far plan states zero node origin b = inr refl
far plan states (suc left) node origin b = one_more plan states left node (arrival plan node (held_at states node) origin b)
    (λ next from octets. far plan states left next from octets)

-- ---- the counter

abbrev capped : ℕ → ℕ
capped n = if nat_le n 15 then n else 15

capped_le : (n : ℕ) → capped n ≤ n
capped_le n = chosen (nat_le n 15) refl
  where
    chosen : (b : Bool) → nat_le n 15 ≡ b → (if b then n else 15) ≤ n
    chosen true e = omega arith
    chosen false e = let lt : 15 < n = leb-false n 15 e in omega (arith, lt)

above : (n : ℕ) → 1 < n → 1 < capped n
above n lt = chosen (nat_le n 15)
  where
    chosen : (b : Bool) → 1 < (if b then n else 15)
    chosen true = lt
    chosen false = omega arith

fewer : (h left : ℕ) → nat_le h 1 ≡ false → capped h ≤ suc left → (capped (one_less h) ≤ left) × (1 ≤ left)
fewer h left e le =
    let two : 1 < capped h = above h (leb-false h 1 e) in
    let low : capped (one_less h) ≤ capped h - 1 = capped_le (one_less h) in
    (omega (arith, two, low, le), omega (arith, two, le))

-- ---- each arrival of a message with a hop counter

abbrev Claim : Network → List (List Mark) → ℕ → Type 0
Claim plan states left =
    (m : Message) (a : Address) (s : Spot) (origin : ℕ) (b : List ℕ) (h : ℕ) → reading b ≡ Ok m → IsTitled m a s → hops_of m ≡ Some h
    → capped h ≤ left → 1 ≤ left → Stops (travel plan states left s.node origin b).last

at_place : (plan : Network) (marking : List Mark) (origin node pc ssn : ℕ) (m new : Message) (follow : ℕ → ℕ → List ℕ
    → Trip) (own : Bool) (o : Option (List ℕ)) →
    Stops (onward plan node (if own then arrivals.Local ssn new else leaving marking origin m (arrivals.Ended pc ssn) o) follow).last
at_place plan marking origin node pc ssn m new follow true o = tt
at_place plan marking origin node pc ssn m new follow false None = tt
at_place plan marking origin node pc ssn m new follow false (Some sent) = tt

to_next : (plan : Network) (marking : List Mark) (origin node pc : ℕ) (m : Message) (follow : ℕ → ℕ → List ℕ → Trip) (o : Option (List ℕ))
    → ((sent : List ℕ) → o ≡ Some sent → Stops (follow (node_of plan.nodes pc) (point_of plan node) sent).last) →
    Stops (onward plan node (leaving marking origin m (arrivals.Relayed pc) o) follow).last
to_next plan marking origin node pc m follow None h = tt
to_next plan marking origin node pc m follow (Some sent) h = h sent refl

turn : (plan : Network) (states : List (List Mark)) (left : ℕ) (m : Message) (a : Address) (s : Spot) (origin h : ℕ) (x : Step)
    → IsPlan plan → Claim plan states left → IsTitled m a s → hops_of m ≡ Some h → capped h ≤ suc left → is_last_hop (Some h) ≡ false
    → Facts plan s (held_at states s.node) x →
    Stops (onward plan s.node (after_step plan s.node (held_at states s.node) origin m a x) (follow_by plan states left)).last
turn plan states left m a s origin h (steps.Sent next place) is ih c hops le counter facts =
    let new : Message = redirected (to_relay a next) one_less m in
    let titled : IsTitled new (to_relay a next) next = IsTitled-relayed m a s next c (IsSpot-sent plan s next is c.spot facts) in
    let less = fewer h left counter le in
    let count : hops_of new ≡ Some (one_less h) = hops-redirected (to_relay a next) one_less m ∙ ap (option_map one_less) hops in
    to_next plan (held_at states s.node) origin s.node (point_of plan next.node) m (follow_by plan states left) (octets_of new)
    (λ sent e.
    let same : message_octets new ≡ sent = sym (octets_are new sent (write_fault new) e) in
    subst (λ (o : List ℕ). Stops (travel plan states left (node_of plan.nodes (point_of plan next.node))
    (point_of plan s.node) o).last) same
    (subst (λ k. Stops (travel plan states left k (point_of plan s.node) (message_octets new)).last) (sym (next_again plan s next is facts))
    (ih new (to_relay a next) next (point_of plan s.node) (message_octets new) (one_less h)
    (IsTitled-reads new (to_relay a next) next titled) titled count less.0 less.1)))
turn plan states left m a s origin h (steps.Ended pc ssn place) is ih c hops le counter facts =
    at_place plan (held_at states s.node) origin s.node pc ssn m (rewritten a (steps.Ended pc ssn place) m) (follow_by plan states left)
    (pc == point_of plan s.node) (octets_of (rewritten a (steps.Ended pc ssn place) m))
turn plan states left m a s origin h (steps.Blocked cause shut) is ih c hops le counter facts = tt
turn plan states left m a s origin h (steps.NoRow cause) is ih c hops le counter facts = tt
turn plan states left m a s origin h steps.Overgrown is ih c hops le counter facts = tt

if_true : {X : Type 0} (b : Bool) (x y : X) → b ≡ true → (if b then x else y) ≡ x
if_true true x y e = refl
if_true false x y e = absurd (cc)

-- with a counter that is used up the message is returned
used_up : (plan : Network) (marking : List Mark) (origin : ℕ) (b : List ℕ) (m : Message) (a : Address) (s : Spot) → reading b ≡ Ok m
    → IsTitled m a s → is_last_hop (hops_of m) ≡ true → arrival plan s.node marking origin b ≡ returned marking origin m 12 []
used_up plan marking origin b m a s reads c counter =
    ap (of_message plan s.node marking origin) reads
    ∙ (ap (by_called plan s.node marking origin m) c.called
    ∙ (if_false a.by_ssn (at_subsystem plan s.node marking origin m a.ssn) (at_title plan s.node marking origin m a) c.by_title
    ∙ if_true (is_last_hop (hops_of m)) (returned marking origin m 12 [])
    (translated plan s.node marking origin m a (spot_of s.node a)) counter))

counted : (plan : Network) (states : List (List Mark)) (left : ℕ) → IsPlan plan → Claim plan states left
counted plan states zero is m a s origin b h reads c hops le some = absurd (omega (arith, some))
counted plan states (suc left) is m a s origin b h reads c hops le some =
    let marking : List Mark = held_at states s.node in
    elim (is_last_hop (Some h)) as (λ (last : Bool). is_last_hop (Some h) ≡ last
    → Stops (travel plan states (suc left) s.node origin b).last) [
      | true ↦ λ e. subst (λ (x : Arrival). Stops (onward plan s.node x (follow_by plan states left)).last)
          (sym (used_up plan marking origin b m a s reads c (ap is_last_hop hops ∙ e))) tt
      | false ↦ λ e. subst (λ (x : Arrival). Stops (onward plan s.node x (follow_by plan states left)).last)
          (sym (arrives plan marking origin b m a s reads c (ap is_last_hop hops ∙ e)))
          (turn plan states left m a s origin h (step plan s marking) is (counted plan states left is) c hops le e
          (step_facts plan is s marking))
    ] refl

-- ---- the first arrival

-- a message with a hop counter has a called address
called_with : (m : Message) (h : ℕ) → hops_of m ≡ Some h → (a : Address) × (called_of m ≡ Some a)
called_with (Xudt c j a b d p) h e = (a, refl)
called_with (Xudts c j a b d p) h e = (a, refl)
called_with (Ludt c j a b d p) h e = (a, refl)
called_with (Ludts c j a b d p) h e = (a, refl)
called_with m h e = absurd (cc)

on_ssn : (plan : Network) (marking : List Mark) (origin node : ℕ) (m : Message) (ssn : Option ℕ) (follow : ℕ → ℕ → List ℕ → Trip)
    → Stops (onward plan node (at_subsystem plan node marking origin m ssn) follow).last
on_ssn plan marking origin node m None follow = tt
on_ssn plan marking origin node m (Some n) follow = by_tests (n == 1) (list_any (λ own. own == n) (subsystems_of plan node))
    (holds marking (Subsystem (point_of plan node) n))
  where
    by_tests : (management equipped prohibited : Bool) →
        Stops (onward plan node (if management then arrivals.Management m else if not equipped then returned marking origin m 4 []
        else if prohibited then returned marking origin m 3 (Subsystem (point_of plan node) n ∷ [])
        else arrivals.Local n m) follow).last
    by_tests true equipped prohibited = tt
    by_tests false false prohibited = tt
    by_tests false true true = tt
    by_tests false true false = tt

untitled : (plan : Network) (marking : List Mark) (origin node : ℕ) (m : Message) (a : Address) (follow : ℕ → ℕ → List ℕ
    → Trip) (last : Bool) (o : Option Spot) → o ≡ None
    → Stops (onward plan node (if last then returned marking origin m 12 [] else translated plan node marking origin m a o) follow).last
untitled plan marking origin node m a follow true o e = tt
untitled plan marking origin node m a follow false None e = tt
untitled plan marking origin node m a follow false (Some s) e = absurd (cc)

capped_most : (h : ℕ) → capped h ≤ 15
capped_most h = chosen (nat_le h 15) refl
  where
    chosen : (b : Bool) → nat_le h 15 ≡ b → (if b then h else 15) ≤ 15
    chosen true e = leb-true h 15 e
    chosen false e = omega arith

first_counted : (plan : Network) (states : List (List Mark)) (entry origin : ℕ) (b : List ℕ) (m : Message) (h : ℕ) → IsPlan plan
    → AreOctets b → reading b ≡ Ok m → hops_of m ≡ Some h → Stops (travel plan states (suc 14) entry origin b).last
first_counted plan states entry origin b m h is octets reads hops =
    let marking : List Mark = held_at states entry in
    let k = called_with m h hops in
    let a : Address = k.0 in
    let arrived : arrival plan entry marking origin b ≡ by_called plan entry marking origin m (Some a) =
    ap (of_message plan entry marking origin) reads ∙ ap (by_called plan entry marking origin m) k.1 in
    elim a.by_ssn as (λ c. a.by_ssn ≡ c → Stops (travel plan states (suc 14) entry origin b).last) [
      | true ↦ λ e. subst (λ (x : Arrival). Stops (onward plan entry x (follow_by plan states 14)).last)
          (sym (arrived ∙ if_true a.by_ssn (at_subsystem plan entry marking origin m a.ssn) (at_title plan entry marking origin m a) e))
          (on_ssn plan marking origin entry m a.ssn (follow_by plan states 14))
      | false ↦ λ e.
          elim (spot_of entry a) as (λ (o : Option Spot). spot_of entry a ≡ o → Stops (travel plan states (suc 14) entry origin b).last) [
            | None ↦ λ none. subst (λ (x : Arrival). Stops (onward plan entry x (follow_by plan states 14)).last)
                (sym (arrived ∙ if_false a.by_ssn (at_subsystem plan entry marking origin m a.ssn)
                (at_title plan entry marking origin m a) e))
                (untitled plan marking origin entry m a (follow_by plan states 14) (is_last_hop (hops_of m)) (spot_of entry a) none)
            | Some s ↦ λ at. subst (λ n. Stops (travel plan states (suc 14) n origin b).last) (sym (spot_title entry a s at).2)
                (counted plan states (suc 14) is m a s origin b h reads (IsTitled-read b entry m a s octets reads k.1 e at) hops
                (capped_most h) (omega arith))
          ] refl
    ] refl

-- ---- the end

not_cut : (o : Option Arrival) → end_of o ≡ Cut → Stops o → ⊥
not_cut None e stops = stops
not_cut (Some (arrivals.Relayed pc octets)) e stops = stops
not_cut (Some (arrivals.Ended pc ssn octets)) e stops = cc
not_cut (Some (arrivals.Local ssn m)) e stops = cc
not_cut (Some (arrivals.Returned cause marks service)) e stops = cc
not_cut (Some (arrivals.Connection m)) e stops = cc
not_cut (Some (arrivals.Management m)) e stops = cc
not_cut (Some (arrivals.Undecodable fault)) e stops = cc

by_hops : (plan : Network) (states : List (List Mark)) (entry origin : ℕ) (b : List ℕ) (m : Message) (o : Option ℕ) → IsPlan plan
    → AreOctets b → reading b ≡ Ok m → hops_of m ≡ o → end_of (trip_of plan states entry origin b).last ≡ Cut
    → IsCutOff b (trip_of plan states entry origin b).path
by_hops plan states entry origin b m None is octets reads hops end =
    let count : most_arrivals (reading b) ≡ 14 = ap most_arrivals reads ∙ ap (λ (o : Option ℕ). if is_some o then 15 else 14) hops in
    ⊎_elim
    (λ stops. absurd (not_cut (travel plan states 14 entry origin b).last
    (subst (λ n. end_of (travel plan states n entry origin b).last ≡ Cut) count end) stops))
    (λ len. record {
      message = m;
      reads = reads;
      uncounted = hops;
      nodes = subst (λ n. length (travel plan states n entry origin b).path
          ≡ 14) (sym count) len;
    })
    (far plan states 14 entry origin b)
by_hops plan states entry origin b m (Some h) is octets reads hops end =
    let count : most_arrivals (reading b) ≡ suc 14 = ap most_arrivals reads ∙ ap (λ (o : Option ℕ). if is_some o then 15 else 14) hops in
    absurd (not_cut (travel plan states (suc 14) entry origin b).last
    (subst (λ n. end_of (travel plan states n entry origin b).last ≡ Cut) count end)
    (first_counted plan states entry origin b m h is octets reads hops))

pub cut_off : (plan : Network) (states : List (List Mark)) (entry origin : ℕ) (b : List ℕ) → IsPlan plan → AreOctets b
    → (journey plan states entry origin b).end ≡ Cut → IsCutOff b (journey plan states entry origin b).path
cut_off plan states entry origin b is octets end =
    elim (reading b) as (λ (r : Result Message DecodeFault). reading b ≡ r → IsCutOff b (trip_of plan states entry origin b).path) [
      | Ok m ↦ λ reads. by_hops plan states entry origin b m (hops_of m) is octets reads refl end
      | Err fault ↦ λ reads.
          let marking : List Mark = held_at states entry in
          absurd (not_cut (travel plan states (suc 13) entry origin b).last
          (subst (λ n. end_of (travel plan states n entry origin b).last ≡ Cut) (ap most_arrivals reads) end)
          (subst (λ (x : Arrival). Stops (onward plan entry x (follow_by plan states 13)).last)
          (sym (ap (of_message plan entry marking origin) reads)) tt))
    ] refl
