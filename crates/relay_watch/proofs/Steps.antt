-- What one judgement says: of the line, and of those that wait before and after it.
use Rattle.std.proofs.Common.{◌≡◌, ℕ, zero, suc, Bool, true, false, List, [], ◌∷◌, ◌++◌, length, drop, Option, Some, None}
use Rattle.std.proofs.Common.{refl, sym, ◌∙◌, ap, subst, ◌⊎◌, inl, inr, ⊎_elim}
use Rattle.std.specs.Prelude.{nat_lt, if◌then◌else◌, is_some, slice_get, Result, Ok, Err}
use Rattle.std.specs.List.{All, remove}
use Rattle.std.specs.Option.{option_to_list, option_and_then}
use Rattle.std.proofs.lemmas.Bool.{eq-eqb, or_parts}
use Rattle.sccp_base.proofs.Among.{Among, Among-slice_get}
use Rattle.sccp_address.specs.declared.address.Address.{Address}
use Rattle.sccp_message.specs.declared.fault.DecodeFault.{DecodeFault}
use Rattle.sccp_message.specs.declared.message.Message.{Message}
use Rattle.sccp_message.specs.Reading.{reading}
use Rattle.sccp_message.specs.Unitdata.{called_of}
use Rattle.plan_model.specs.Network.{Network}
use Rattle.relay_ways.specs.Alike.{calling_of}
use Rattle.relay_ways.specs.Sends.{sends}
use Rattle.relay_ways.specs.declared.explanation.Explanation.{Explanation}
use Rattle.relay_watch.specs.Arrivals.{source, target, is_management, may_be_answered, waits, begins, begins_by, begins_at, most_waiting}
use Rattle.relay_watch.specs.Arrivals.{left_at, joined, kept, given_up}
use Rattle.relay_watch.specs.Judging.{IsFoundAt, IsFoundBy, IsFound, IsJudged, place_of}
use Rattle.relay_watch.specs.Reasons.{IsFirst, IsNoReason}
use Rattle.relay_watch.specs.Runs.{lacks_reason, explains, gives_up, names}
use Rattle.relay_watch.specs.Verdicts.{own_ssn, if_own, said_by, without_reason, of_sent, of_unsent, by_source, by_called, verdict_of}
use Rattle.relay_watch.specs.declared.event.Event.{Event}
use Rattle.relay_watch.specs.declared.found.Found.{Found}
use Rattle.relay_watch.specs.declared.line.Line.{Line}
use Rattle.relay_watch.specs.declared.verdict.Verdict.{Verdict}
use Rattle.relay_watch.specs.declared.verdict.Verdict.TheVariants as verdicts
use Rattle.relay_watch.specs.declared.waiting.Waiting.{Waiting}
use Rattle.relay_watch.specs.declared.why.Why.{Why}

-- ---- the verdict

-- the number and the ways of a verdict that explains

abbrev pub number_in : Verdict → Option ℕ
number_in (verdicts.Undecodable fault) = None
number_in verdicts.Connection = None
number_in verdicts.Other = None
number_in verdicts.Arrived = None
number_in (verdicts.Explained by ways) = Some by
number_in (verdicts.Management status) = None
number_in (verdicts.Own ssn) = None
number_in (verdicts.Unexplained why) = None

abbrev pub ways_in : Verdict → List Explanation
ways_in (verdicts.Undecodable fault) = []
ways_in verdicts.Connection = []
ways_in verdicts.Other = []
ways_in verdicts.Arrived = []
ways_in (verdicts.Explained by ways) = ways
ways_in (verdicts.Management status) = []
ways_in (verdicts.Own ssn) = []
ways_in (verdicts.Unexplained why) = []

own_reason : (o : Option ℕ) (why : Why) → number_in (if_own o why) ≡ None
own_reason None why = refl
own_reason (Some ssn) why = refl

unsent_reason : (m : Message) (a : Address) (o : Option ℕ) → number_in (of_unsent m a o) ≡ None
unsent_reason m a None = refl
unsent_reason m a (Some node) = by (is_management a) where
  by : (b : Bool) → number_in (if b then verdicts.Management (said_by m) else verdicts.Arrived) ≡ None
  by true = refl
  by false = refl

without : (plan : Network) (node : ℕ) (m : Message) (a : Address) (why : Why) → number_in (without_reason plan node m a why) ≡ None
without plan node m a why = by (is_management a) where
  by : (b : Bool)
      → number_in (if b then verdicts.Management (said_by m) else if_own (option_and_then (own_ssn plan node) (calling_of m)) why) ≡ None
  by true = refl
  by false = own_reason (option_and_then (own_ssn plan node) (calling_of m)) why

-- a message that a relay sent, and the first arrival that explains it
pub record Explaining (plan : Network) (old : List Waiting) (e : Event) (f : Found) : Type 0 where
  pub node : ℕ
  pub message : Message
  pub reads : reading e.octets ≡ Ok message
  pub sent : source plan e ≡ Some node
  pub first : IsFirst plan old node e.destination message f

not_both : (f : Found) (o : Option Found) → o ≡ None → o ≡ Some f → ⊥
not_both f o p q = cc

-- what was found is in the verdict
source_says : (plan : Network) (old : List Waiting) (e : Event) (m : Message) (a : Address) (found : Option Found) (why : Why)
    (o : Option ℕ)
    → reading e.octets ≡ Ok m → source plan e ≡ o → IsFoundAt plan old e m found o
    → ((f : Found) → found ≡ Some f → (by_source plan e m a found why o ≡ verdicts.Explained f.by f.ways) × Explaining plan old e f)
    × (found ≡ None → number_in (by_source plan e m a found why o) ≡ None)
source_says plan old e m a found why None reads there is = (
  λ f some. absurd (not_both f found is some),
  λ none. unsent_reason m a (target plan e),
)
source_says plan old e m a None why (Some node) reads there is = (λ f some. absurd cc, λ none. without plan node m a why)
source_says plan old e m a (Some g) why (Some node) reads there is = (
  λ f some.
      let same : g ≡ f = cc in
      subst (λ (x : Found). (verdicts.Explained g.by g.ways ≡ verdicts.Explained x.by x.ways) × Explaining plan old e x) same
      (refl, record { node = node; message = m; reads = reads; sent = there; first = is }),
  λ none. absurd cc,
)

called_says : (plan : Network) (old : List Waiting) (e : Event) (m : Message) (found : Option Found) (why : Why) (o : Option Address)
    → reading e.octets ≡ Ok m → IsFoundBy plan old e m found o
    → ((f : Found) → found ≡ Some f → (by_called plan e m found why o ≡ verdicts.Explained f.by f.ways) × Explaining plan old e f)
    × (found ≡ None → number_in (by_called plan e m found why o) ≡ None)
called_says plan old e m found why None reads is = (λ f some. absurd (not_both f found is some), λ none. refl)
called_says plan old e m found why (Some a) reads is = source_says plan old e m a found why (source plan e) reads refl is

pub found_says : (plan : Network) (old : List Waiting) (e : Event) (found : Option Found) (why : Why) (r : Result Message DecodeFault)
    → reading e.octets ≡ r → IsFound plan old e found r
    → ((f : Found) → found ≡ Some f → (verdict_of plan e found why r ≡ verdicts.Explained f.by f.ways) × Explaining plan old e f)
    × (found ≡ None → number_in (verdict_of plan e found why r) ≡ None)
found_says plan old e found why (Err fault) reads is = (λ f some. absurd (not_both f found is some), λ none. refl)
found_says plan old e found why (Ok m) reads is = called_says plan old e m found why (called_of m) reads is

not_some : (n : ℕ) (o : Option ℕ) → o ≡ None → o ≡ Some n → ⊥
not_some n o p q = cc

-- a line that explains its message names what was found
pub record Names (plan : Network) (old : List Waiting) (e : Event) (by : ℕ) (ways : List Explanation) (o : Option Found) : Type 0 where
  pub found : Found
  pub is : o ≡ Some found
  pub numbered : found.by ≡ by
  pub ways_are : found.ways ≡ ways
  pub explaining : Explaining plan old e found

pub line_names : (plan : Network) (old : List Waiting) (e : Event) (line : Line) (next : List Waiting) (by : ℕ) (ways : List Explanation)
    → (h : IsJudged plan old e line next) → line.verdict ≡ verdicts.Explained by ways → Names plan old e by ways h.found
line_names plan old e line next by ways h v =
    cases h.found (found_says plan old e h.found h.why (reading e.octets) refl h.search) (sym h.verdict_is ∙ v)
  where
    cases : (o : Option Found)
        → ((f : Found) → o ≡ Some f → (verdict_of plan e o h.why (reading e.octets) ≡ verdicts.Explained f.by f.ways)
        × Explaining plan old e f)
        × (o ≡ None → number_in (verdict_of plan e o h.why (reading e.octets)) ≡ None)
        → verdict_of plan e o h.why (reading e.octets) ≡ verdicts.Explained by ways → Names plan old e by ways o
    cases None says w =
        absurd (not_some by (number_in (verdict_of plan e None h.why (reading e.octets))) (says.1 refl) (ap number_in w))
    cases (Some f) says w =
        let k = says.0 f refl in
        let same : Some f.by ≡ Some by = ap number_in (sym k.0 ∙ w) in
        record { found = f; is = refl; numbered = cc; ways_are = ap ways_in (sym k.0 ∙ w); explaining = k.1 }

-- a verdict that lacks a reason says that no arrival is one
pub nothing_found : (plan : Network) (old : List Waiting) (e : Event) (line : Line) (next : List Waiting) (node : ℕ) (sent : Message)
    → IsJudged plan old e line next → lacks_reason line.verdict ≡ true → source plan e ≡ Some node → reading e.octets ≡ Ok sent
    → All (IsNoReason plan node e.destination sent) old
nothing_found plan old e line next node sent h lacks there reads =
    by_read (reading e.octets) h.found refl reads h.search (sym (ap lacks_reason h.verdict_is) ∙ lacks)
  where
    by_found : (a : Address) (o : Option Found) → IsFoundAt plan old e sent o (Some node)
        → lacks_reason (of_sent plan node sent a o h.why) ≡ true → All (IsNoReason plan node e.destination sent) old
    by_found a None is k = is
    by_found a (Some f) is k = absurd cc

    by_address : (c : Option Address) (o : Option Found) → IsFoundBy plan old e sent o c
        → lacks_reason (by_called plan e sent o h.why c) ≡ true → All (IsNoReason plan node e.destination sent) old
    by_address None o is k = absurd cc
    by_address (Some a) o is k =
        by_found a o (subst (IsFoundAt plan old e sent o) there is)
        (subst (λ (s : Option ℕ). lacks_reason (by_source plan e sent a o h.why s) ≡ true) there k)

    by_read : (r : Result Message DecodeFault) (o : Option Found) → reading e.octets ≡ r → r ≡ Ok sent → IsFound plan old e o r
        → lacks_reason (verdict_of plan e o h.why r) ≡ true → All (IsNoReason plan node e.destination sent) old
    by_read (Err fault) o at is search k = absurd cc
    by_read (Ok m) o at is search k =
        let same : m ≡ sent = cc in
        by_address (called_of sent) o (subst (λ (x : Message). IsFoundBy plan old e x o (called_of x)) same search)
        (subst (λ (x : Message). lacks_reason (by_called plan e x o h.why (called_of x)) ≡ true) same k)

-- ---- the arrival that begins to wait

-- it is that of the event at the relay that it is for
pub record Begun (plan : Network) (e : Event) (w : Waiting) : Type 0 where
  pub arrives : target plan e ≡ Some w.node
  pub numbered : w.number ≡ e.number
  pub origin_is : w.origin ≡ e.origin
  pub octets_are : w.octets ≡ e.octets
  pub due_is : w.due ≡ is_some (sends plan w.node [] e.origin e.octets)

begun_at : (plan : Network) (e : Event) (m : Message) (a : Address) (o : Option ℕ) (w : Waiting) → target plan e ≡ o
    → begins_at plan e m a o ≡ Some w → Begun plan e w
begun_at plan e m a None w there is = absurd cc
begun_at plan e m a (Some node) w there is =
    let same : waits plan node e m ≡ w = chosen (may_be_answered m a) is in
    subst (Begun plan e) same (record { arrives = there; numbered = refl; origin_is = refl; octets_are = refl; due_is = refl })
  where
    chosen : (b : Bool) → (if b then Some (waits plan node e m) else None) ≡ Some w → waits plan node e m ≡ w
    chosen true k = cc
    chosen false k = absurd cc

begun_by : (plan : Network) (e : Event) (m : Message) (o : Option Address) (w : Waiting) → begins_by plan e m o ≡ Some w → Begun plan e w
begun_by plan e m None w is = absurd cc
begun_by plan e m (Some a) w is = begun_at plan e m a (target plan e) w refl is

pub begun : (plan : Network) (e : Event) (r : Result Message DecodeFault) (w : Waiting) → begins plan e r ≡ Some w → Begun plan e w
begun plan e (Err fault) w is = absurd cc
begun plan e (Ok m) w is = begun_by plan e m (called_of m) w is

-- ---- those that wait

pub among_parts : {X : Type 0} (x : X) (xs ys : List X) → Among x (xs ++ ys) → Among x xs ⊎ Among x ys
among_parts x [] ys at = inr at
among_parts {X} x (z ∷ zs) ys at =
    ⊎_elim (λ (e : z ≡ x). inl (inl e))
    (λ (rest : Among x (zs ++ ys)). ⊎_elim (λ (k : Among x zs). inl (inr k)) (λ (k : Among x ys). inr k) (among_parts x zs ys rest)) at

pub among_left : {X : Type 0} (x : X) (xs ys : List X) → Among x xs → Among x (xs ++ ys)
among_left x [] ys at = absurd at
among_left {X} x (z ∷ zs) ys at = ⊎_elim (λ (e : z ≡ x). inl e) (λ (rest : Among x zs). inr (among_left x zs ys rest)) at

pub among_right : {X : Type 0} (x : X) (xs ys : List X) → Among x ys → Among x (xs ++ ys)
among_right x [] ys at = at
among_right x (z ∷ zs) ys at = inr (among_right x zs ys at)

pub among_removed : {X : Type 0} (x : X) (xs : List X) (p : ℕ) → Among x (remove xs p) → Among x xs
among_removed x [] zero at = absurd at
among_removed x [] (suc p) at = absurd at
among_removed x (y ∷ ys) zero at = inr at
among_removed {X} x (y ∷ ys) (suc p) at =
    ⊎_elim (λ (e : y ≡ x). inl e) (λ (rest : Among x (remove ys p)). inr (among_removed x ys p rest)) at

-- one of them is the one that is taken out, or is left
pub among_or_gone : {X : Type 0} (x y : X) (xs : List X) (p : ℕ) → slice_get xs p ≡ Some y → Among x xs → (y ≡ x) ⊎ Among x (remove xs p)
among_or_gone x y [] p e at = absurd at
among_or_gone {X} x y (z ∷ zs) zero e at =
    let same : z ≡ y = cc in ⊎_elim (λ (k : z ≡ x). inl (sym same ∙ k)) (λ (k : Among x zs). inr k) at
among_or_gone {X} x y (z ∷ zs) (suc p) e at =
    ⊎_elim (λ (k : z ≡ x). inr (inl k))
    (λ (rest : Among x zs). ⊎_elim (λ (k : y ≡ x). inl k) (λ (k : Among x (remove zs p)). inr (inr k)) (among_or_gone x y zs p e rest)) at

pub among_kept_back : (w : Waiting) (ws : List Waiting) → Among w (kept ws) → Among w ws
among_kept_back w ws at = by (nat_lt most_waiting (length ws)) at where
  tail : (xs : List Waiting) → Among w (drop 1 xs) → Among w xs
  tail [] k = absurd k
  tail (x ∷ xs) k = inr k

  by : (b : Bool) → Among w (if b then drop 1 ws else ws) → Among w ws
  by true k = tail ws k
  by false k = k

pub among_kept : (w : Waiting) (ws : List Waiting) → gives_up w.number (given_up ws) ≡ false → Among w ws → Among w (kept ws)
among_kept w ws free at = by (nat_lt most_waiting (length ws)) free where
  tail : (xs : List Waiting) → gives_up w.number (slice_get xs 0) ≡ false → Among w xs → Among w (drop 1 xs)
  tail [] k m = absurd m
  tail (x ∷ xs) k m = ⊎_elim (λ (e : x ≡ w). absurd (off (eq-eqb x.number w.number (ap (λ (y : Waiting). y.number) e)) k))
      (λ (r : Among w xs). r) m where
        off : {b : Bool} → b ≡ true → b ≡ false → ⊥
        off p q = cc

  by : (b : Bool) → gives_up w.number (if b then slice_get ws 0 else None) ≡ false → Among w (if b then drop 1 ws else ws)
  by true k = tail ws k at
  by false k = at

among_option : (w : Waiting) (o : Option Waiting) → Among w (option_to_list o) → o ≡ Some w
among_option w None at = absurd at
among_option w (Some x) at = ⊎_elim (λ (e : x ≡ w). ap Some e) (λ (n : ⊥). absurd n) at

left_back : (w : Waiting) (ws : List Waiting) (place : Option ℕ) → Among w (left_at ws place) → Among w ws
left_back w ws None at = at
left_back w ws (Some p) at = among_removed w ws p at

joined_before : (plan : Network) (old : List Waiting) (e : Event) (place : Option ℕ) (w : Waiting)
    → Among w (joined old place (begins plan e (reading e.octets))) → Among w old ⊎ (begins plan e (reading e.octets) ≡ Some w)
joined_before plan old e place w at =
    ⊎_elim (λ (k : Among w (left_at old place)). inl (left_back w old place k))
    (λ (k : Among w (option_to_list (begins plan e (reading e.octets)))). inr (among_option w (begins plan e (reading e.octets)) k))
    (among_parts w (left_at old place) (option_to_list (begins plan e (reading e.octets))) at)

given_among : (w : Waiting) (ws : List Waiting) → given_up ws ≡ Some w → Among w ws
given_among w ws e = by (nat_lt most_waiting (length ws)) e where
  by : (b : Bool) → (if b then slice_get ws 0 else None) ≡ Some w → Among w ws
  by true k = Among-slice_get ws 0 w k
  by false k = absurd cc

-- what is given up is one of those and the new one
pub given_joined : (plan : Network) (old : List Waiting) (e : Event) (line : Line) (next : List Waiting) (w : Waiting)
    → (h : IsJudged plan old e line next) → line.given_up ≡ Some w
    → Among w (joined old (place_of h.found) (begins plan e (reading e.octets)))
given_joined plan old e line next w h given =
    given_among w (joined old (place_of h.found) (begins plan e (reading e.octets))) (sym h.given_is ∙ given)

pub given_before : (plan : Network) (old : List Waiting) (e : Event) (line : Line) (next : List Waiting) (w : Waiting)
    → IsJudged plan old e line next → line.given_up ≡ Some w → Among w old ⊎ (begins plan e (reading e.octets) ≡ Some w)
given_before plan old e line next w h given =
    joined_before plan old e (place_of h.found) w (given_joined plan old e line next w h given)

-- what waits afterwards waited before, or is the new one
pub among_before : (plan : Network) (old : List Waiting) (e : Event) (line : Line) (next : List Waiting) (w : Waiting)
    → IsJudged plan old e line next → Among w next → Among w old ⊎ (begins plan e (reading e.octets) ≡ Some w)
among_before plan old e line next w h at =
    joined_before plan old e (place_of h.found) w
    (among_kept_back w (joined old (place_of h.found) (begins plan e (reading e.octets))) (subst (Among w) h.left at))

-- a line that does not name an arrival leaves it waiting
not_explained : (plan : Network) (old : List Waiting) (e : Event) (line : Line) (next : List Waiting) (w : Waiting)
    → (h : IsJudged plan old e line next) → explains w.number line.verdict ≡ false → Among w old
    → Among w (left_at old (place_of h.found))
not_explained plan old e line next w h free at =
    by h.found (found_says plan old e h.found h.why (reading e.octets) refl h.search).0 (sym (ap (explains w.number) h.verdict_is) ∙ free)
  where
    off : {b : Bool} → b ≡ true → b ≡ false → ⊥
    off p q = cc

    by : (o : Option Found)
        → ((f : Found) → o ≡ Some f → (verdict_of plan e o h.why (reading e.octets) ≡ verdicts.Explained f.by f.ways)
        × Explaining plan old e f)
        → explains w.number (verdict_of plan e o h.why (reading e.octets)) ≡ false → Among w (left_at old (place_of o))
    by None says k = at
    by (Some f) says k =
        let s = says f refl in
        ⊎_elim
        (λ (same : s.1.first.arrival ≡ w).
        absurd (off (eq-eqb f.by w.number (sym s.1.first.numbered ∙ ap (λ (x : Waiting). x.number) same))
        (sym (ap (explains w.number) s.0) ∙ k)))
        (λ (rest : Among w (remove old f.place)). rest)
        (among_or_gone w s.1.first.arrival old f.place s.1.first.at at)

unnamed_parts : (w : Waiting) (line : Line) → names w.number line ≡ false
    → (explains w.number line.verdict ≡ false) × (gives_up w.number line.given_up ≡ false)
unnamed_parts w line e = or_parts (explains w.number line.verdict) (gives_up w.number line.given_up) e

pub among_after : (plan : Network) (old : List Waiting) (e : Event) (line : Line) (next : List Waiting) (w : Waiting)
    → IsJudged plan old e line next → names w.number line ≡ false → Among w old → Among w next
among_after plan old e line next w h free at =
    let k = unnamed_parts w line free in
    let joint = joined old (place_of h.found) (begins plan e (reading e.octets)) in
    subst (Among w) (sym h.left)
    (among_kept w joint (sym (ap (gives_up w.number) h.given_is) ∙ k.1)
    (among_left w (left_at old (place_of h.found)) (option_to_list (begins plan e (reading e.octets)))
    (not_explained plan old e line next w h k.0 at)))

pub new_after : (plan : Network) (old : List Waiting) (e : Event) (line : Line) (next : List Waiting) (w : Waiting)
    → IsJudged plan old e line next → names w.number line ≡ false → begins plan e (reading e.octets) ≡ Some w → Among w next
new_after plan old e line next w h free is =
    let k = unnamed_parts w line free in
    let joint = joined old (place_of h.found) (begins plan e (reading e.octets)) in
    subst (Among w) (sym h.left)
    (among_kept w joint (sym (ap (gives_up w.number) h.given_is) ∙ k.1)
    (among_right w (left_at old (place_of h.found)) (option_to_list (begins plan e (reading e.octets)))
    (subst (λ (o : Option Waiting). Among w (option_to_list o)) (sym is) (inl refl))))
