-- A relay takes a message. What holds of the relay before holds after.
use Rattle.std.specs.Prelude.{ℕ, ◌≡◌, ◌≢◌, ◌+◌, ◌<◌, ◌≤◌, ◌==◌, ◌⊎◌, Bool, true, false, not, cond, ◌&&◌, ◌||◌, List, [], ◌∷◌, ◌++◌, map}
use Rattle.std.specs.Prelude.{Option, Some, None, is_some, refl}
use Rattle.std.proofs.Common.{zero, suc, sym, ◌∙◌, ap, subst, ⊎_elim, inl, inr, arith}
use Rattle.std.proofs.lemmas.Bool.{cases_Bool, cases_eq, eq-eqb, eqb-true, and_parts, not-true}
use Rattle.std.proofs.lemmas.List.Elements.{filter_map-append}
use Rattle.sccp_address.specs.declared.address.Address.{Address}
use Rattle.sccp_layout.specs.Parameter.{Parameter}
use Rattle.sccp_message.specs.declared.message.Message.{Message}
use Rattle.sccp_message.specs.declared.message.Message.TheVariants as messages
use Rattle.sccp_couple.specs.declared.section.Section.{Section}
use Rattle.sccp_couple.specs.Sections.{section_at, other_of, has_remote, confirmed, with_pair, first_new, second_new}
use Rattle.sccp_couple.specs.Events.{Event, Answer, Piece, data_of}
use Rattle.sccp_couple.specs.Coupling.{coupled, to_one}
use Rattle.sccp_couple.specs.Runs.{Pair, Moment, happens, grown, carried, new_pair, made, is_half, knows, is_open, passed_in, sent_in}
use Rattle.sccp_couple.specs.Runs.{pieces_toward}
use Rattle.sccp_couple.specs.Laws.{AreApart}
use Rattle.sccp_couple.proofs.Lookups.{changed_cases}
use Rattle.sccp_couple.proofs.Fairness.{IsFair, joined_parts, fair_happens}
use Rattle.sccp_couple.proofs.Fresh.{fresh}
use Rattle.sccp_couple.proofs.Keeping.{near_new, far_new, near_stands, far_stands, pair_cases, mutual_at, none_some, some_same, true_false}
use Rattle.sccp_couple.proofs.Ledger.{kept_happens, has}
use Rattle.sccp_couple.proofs.Shares.{Passes, dt1_goes}
use Rattle.couple_chain.specs.World.{Network, is_node, requests, confirms, names, messages_to}
use Rattle.couple_chain.specs.Line.{piece_for, pieces_for, given, times}
use Rattle.couple_chain.proofs.Counts.{number, number-append, number-or, number-or_right, number-either, one_of, none_of, carries, answers}
use Rattle.couple_chain.proofs.Counts.{no_pieces, Each, Each-append, Each-map, Each-All}
use Rattle.couple_chain.proofs.Holds.{has_near, has_far, early, names_by, StretchFor, StandsFor, HoldsFor}
use Rattle.couple_chain.proofs.Turns.{Plain, Passes as PassesOn, Requests, Confirms, Turn, turn}
use Rattle.couple_chain.proofs.Sending.{to_point, to_point_none, to_point_few, to_point_some, plain_none, requests_plain, confirms_plain}
use Rattle.couple_chain.proofs.Sending.{names_plain, answers_plain, carries_plain, toward_none, sends_for}
use Rattle.couple_chain.proofs.Ledgers.{nears_after, fars_after, times_both, made_none, made_one, each_counted, Each-filter, Each-both}
use Rattle.couple_chain.proofs.Early.{early_quiet, early_more, early_first}
use Rattle.couple_chain.proofs.Takes.{Peers, Takes, half_is, by_names, opens, passes_in, passes_not, quiet_sent}
use Rattle.couple_chain.proofs.Pairs.{none_of_nothing, only_data, PairAfter, Same, Gains, SidesAfter, sides_after}

-- a DT1 goes to this point with this DLR: it belongs to an established section, and goes to its other one
pub record SendsData (l : List Section) (to q : ℕ) : Type 0 where
  pub from : ℕ
  pub own : ℕ
  pub from_section : Section
  pub section : Section
  pub from_at : section_at l from ≡ Some from_section
  pub joined : from_section.other ≡ Some own
  pub at : section_at l own ≡ Some section
  pub from_remote : from_section.remote ≢ None
  pub point : section.point ≡ to
  pub remote : section.remote ≡ Some q

open_remote : (l : List Section) (own : ℕ) (s : Section) → section_at l own ≡ Some s → is_open l (section_at l own) ≡ true → s.remote ≢ None
open_remote l own s at h none =
    let e : is_open l (section_at l own) ≡ false = ap (is_open l) at ∙ ap (λ (o : Option ℕ). is_some o && has_remote (other_of l s)) none in
    true_false (sym h ∙ e)

data_sent : (l : List Section) (event : Event) → Turn l event → (to q : ℕ) → 0 < number (carries q) (messages_to to (coupled l event).sent)
    → SendsData l to q
data_sent l event (Plain none unheard plain loses) to q h = let b = plain_none (carries q) (carries_plain q) to
    (coupled l event).sent plain in absurd (omega arith)
data_sent l event (PassesOn dlr more payload is after) to q h =
    let at : (n : Message) → Event = λ n. record { origin = event.origin; message = n; way = event.way } in
    let k : 0 < number (carries q) (messages_to to (coupled l (at (messages.Dt1 dlr more payload))).sent) =
    subst (λ (n : Message). 0 < number (carries q) (messages_to to (coupled l (at n)).sent)) is h in
    ⊎_elim
    (λ (nothing : (coupled l (at (messages.Dt1 dlr more payload))).sent ≡ []). let b = none_of_nothing (carries q) to
    (coupled l (at (messages.Dt1 dlr more payload))).sent nothing in absurd (omega arith))
    (λ (p : Passes l event.origin event.way dlr more payload).
    let b = to_point_some (carries q) p.other_section.point to (messages.Dt1 p.remote more payload)
    (subst (λ (x : List Answer). 0 < number (carries q) (messages_to to x)) p.sent k) in
    record {
      from = dlr;
      own = p.other;
      from_section = p.section;
      section = p.other_section;
      from_at = p.at;
      joined = p.joined;
      at = p.there;
      from_remote = open_remote l dlr p.section p.at p.open_here;
      point = b.0;
      remote = p.has_it ∙ ap (λ (x : ℕ). Some x) (eqb-true p.remote q b.1);
    })
    (dt1_goes l event.origin event.way dlr more payload)
data_sent l event (Requests slr class point called params called_on params_on is after sent) to q h =
    let b = ap (λ (x : List Answer). number (carries q) (messages_to to x)) sent in
    let c = to_point_none (carries q) point to (messages.Cr (second_new l) class called_on params_on) refl in
    absurd (omega arith)
data_sent l event (Confirms dlr slr class o r params u n is u_at u_from u_far u_none u_other n_at n_near n_other n_remote after sent)
    to q h =
    let b = ap (λ (x : List Answer). number (carries q) (messages_to to x)) sent in
    let c = to_point_none (carries q) n.point to (messages.Cc r o class params) refl in
    absurd (omega arith)

append_nothing : (xs : List Piece) → xs ++ [] ≡ xs
append_nothing [] = refl
append_nothing (x ∷ xs) = ap (λ (t : List Piece). x ∷ t) (append_nothing xs)

Each-three : (P Q R : Pair → Type 0) (xs : List Pair) → Each P xs → Each Q xs → Each R xs → Each (λ (x : Pair). P x × Q x × R x) xs
Each-three P Q R [] h k j = tt
Each-three P Q R (x ∷ xs) h k j = ((h.0, k.0, j.0), Each-three P Q R xs h.1 k.1 j.1)

flip : (a b : Bool) → b ≡ not a → b ≡ true → a ≡ false
flip true b h k = true_false (sym k ∙ h)
flip false b h k = refl

zero_or : (n : ℕ) → (n ≡ 0) ⊎ (0 < n)
zero_or zero = inl refl
zero_or (suc n) = inr (omega arith)

module _ (network : Network) (put arrived toward put_then arrived_then : ℕ → List Message) (pairs : ℕ
    → List Pair) (m : Moment) (event : Event)
    (holds : HoldsFor network put arrived pairs m) (peers : Peers network put toward pairs m)
    (takes : Takes put arrived toward put_then arrived_then m event)
    (once_given : (own : ℕ) → times own (given (happens m event)) ≤ 1) where
  put_more : (p : Message → Bool) (to : ℕ) → number p (put_then to)
      ≡ number p (put to) + number p (messages_to to (coupled m.sections event).sent)
  put_more p to = ap (number p) (takes.sends to) ∙ number-append p (put to) (messages_to to (coupled m.sections event).sent)

  arrived_at : (p : Message → Bool) → number p (arrived_then event.origin) ≡ number p (arrived event.origin) + number p (event.message ∷ [])
  arrived_at p = ap (number p) takes.here ∙ number-append p (arrived event.origin) (event.message ∷ [])

  arrived_more : (p : Message → Bool) (from : ℕ) → number p (arrived from) ≤ number p (arrived_then from)
  arrived_more p from =
      ⊎_elim
      (λ (e : from ≡ event.origin).
      let a = arrived_at p in
      let b = ap (λ (n : ℕ). number p (arrived n)) e in
      let c = ap (λ (n : ℕ). number p (arrived_then n)) e in
      omega arith)
      (λ (n : from ≡ event.origin → ⊥). let a = ap (number p) (takes.elsewhere from n) in omega arith)
      (cases_eq from event.origin)

  -- the message itself has arrived afterwards
  arrived_new : (p : Message → Bool) → p event.message ≡ true → (from : ℕ) → from ≡ event.origin → 0 < number p (arrived_then from)
  arrived_new p h from e =
      let a = arrived_at p in
      let b = one_of p event.message h in
      let c = ap (λ (n : ℕ). number p (arrived_then n)) e in
      omega arith

  -- what arrived was put on the link
  arrived_few : (p : Message → Bool) (from : ℕ) → number p (arrived from) ≤ number p (toward from)
  arrived_few p from =
      let c = takes.come from in
      let a = ap (number p) c.1 in
      let b = number-append p (arrived from) c.0 in
      omega arith

  queued : (p : Message → Bool) → number p (arrived event.origin) + number p (event.message ∷ []) ≤ number p (toward event.origin)
  queued p =
      let a = ap (number p) takes.queue in
      let b = number-append p (arrived event.origin ++ event.message ∷ []) takes.rest in
      let c = number-append p (arrived event.origin) (event.message ∷ []) in
      omega arith

  -- no earlier message from this point named what this message names
  unnamed : (q : ℕ) → names q event.message ≡ true → number (names q) (arrived event.origin) ≡ 0
  unnamed q h =
      let a = peers.once event.origin q in
      let b = queued (names q) in
      let c = one_of (names q) event.message h in
      omega arith

  -- each reference was given once, before the step and in it
  few : (own : ℕ) → (number (has_near own) m.pairs + number (has_far own) m.pairs) + (number (has_near own) (made m.sections event) + number
      (has_far own) (made m.sections event)) ≤ 1
  few own =
      let a = once_given own in
      let b = times_both own (happens m event).pairs in
      let c = nears_after m event own in
      let d = fars_after m event own in
      omega arith

  nears_then : (own : ℕ) → number (has_near own) m.pairs ≤ number (has_near own) (happens m event).pairs
  nears_then own = let c = nears_after m event own in omega arith

  -- no section has this remote at this point, so nothing went there
  nothing_for : (q : ℕ) → names q event.message ≡ true → number (carries q) (put event.origin) ≡ 0
  nothing_for q h =
      ⊎_elim
      (λ (e : number (carries q) (put event.origin) ≡ 0). e)
      (λ (some : 0 < number (carries q) (put event.origin)). let a = holds.data_named event.origin q some in let b = unnamed q h in absurd
      (omega arith))
      (zero_or (number (carries q) (put event.origin)))

  -- requests and confirms that are sent
  requests_sent : Turn m.sections event → (to own : ℕ) → number (requests own) (messages_to to (coupled m.sections event).sent)
      ≤ number (has_far own) (made m.sections event)
  requests_sent (Plain none unheard plain loses) to own = let a = plain_none (requests own) (requests_plain own) to
      (coupled m.sections event).sent plain in omega arith
  requests_sent (PassesOn dlr more payload is after) to own = let a =
      only_data (requests own) (λ d x y. refl) m.sections event dlr more payload is to in omega arith
  requests_sent (Requests slr class point called params called_on params_on is after sent) to own =
      let made_is = made_one m.sections event event.origin slr point (kept_happens m event holds.kept).coupling after in
      let message : Message = messages.Cr (second_new m.sections) class called_on params_on in
      let a = ap (λ (x : List Answer). number (requests own) (messages_to to x)) sent in
      let b = ap (number (has_far own)) made_is in
      ⊎_elim
      (λ (e : (second_new m.sections == own) ≡ true).
      let c = to_point_few (requests own) point to message in
      let d = one_of (has_far own) (new_pair (first_new m.sections) (second_new m.sections)) e in
      omega arith)
      (λ (e : (second_new m.sections == own) ≡ false). let c = to_point_none (requests own) point to message e in omega arith)
      (cases_Bool (second_new m.sections == own))
  requests_sent (Confirms dlr slr class o r params u n is u_at u_from u_far u_none u_other n_at n_near n_other n_remote after sent) to own =
      let a = ap (λ (x : List Answer). number (requests own) (messages_to to x)) sent in
      let b = to_point_none (requests own) n.point to (messages.Cc r o class params) refl in
      omega arith

  requested_then : Turn m.sections event → (to own : ℕ) → number (requests own) (put_then to) ≤ number (has_far own) (happens m event).pairs
  requested_then t to own =
      let a = put_more (requests own) to in
      let b = holds.requested to own in
      let c = requests_sent t to own in
      let d = fars_after m event own in
      omega arith

  -- the pair of two sections that are there
  pair_of : (d o : ℕ) (s : Section) → section_at m.sections d ≡ Some s → s.other ≡ Some o → s.near ≡ false →
      (p : Pair) × (p.stands ≡ true) × (p.near ≡ o) × (p.far ≡ d) × (0 < number (has_near o) m.pairs) × StandsFor network put arrived m p
  pair_of d o s at joined far =
      let r = (holds.kept.ledger d).one s o at joined in
      let both = Each-filter (λ (p : Pair). ((0 < number (has_near p.near) m.pairs) × (0 < number (has_far p.far) m.pairs))
      × StandsFor network put arrived m p) (has d) m.pairs r.0 []
      (Each-both (λ (p : Pair). (0 < number (has_near p.near) m.pairs) × (0 < number (has_far p.far) m.pairs))
      (StandsFor network put arrived m) m.pairs (each_counted m.pairs) holds.stretches) r.1 in
      let near : r.0.near ≡ o = r.3 ∙ ap (λ (b : Bool). cond b d o) far in
      (r.0, r.2, near, r.4 ∙ ap (λ (b : Bool). cond b o d) far, subst (λ (k : ℕ). 0 < number (has_near k) m.pairs) near both.0.0, both.1)

  confirmed_then : Turn m.sections event → (to own : ℕ) → 0 < number (confirms own) (put_then to)
      → 0 < number (has_near own) (happens m event).pairs
  confirmed_then t to own h =
      let a = put_more (confirms own) to in
      let more = nears_then own in
      ⊎_elim
      (λ (old : number (confirms own) (put to) ≡ 0).
      let new : 0 < number (confirms own) (messages_to to (coupled m.sections event).sent) = omega arith in
      let b = go t new in omega arith)
      (λ (old : 0 < number (confirms own) (put to)). let b = holds.confirmed to own old in omega arith)
      (zero_or (number (confirms own) (put to)))
    where
      go : Turn m.sections event → 0 < number (confirms own) (messages_to to (coupled m.sections event).sent)
          → 0 < number (has_near own) m.pairs
      go (Plain none unheard plain loses) k = let b = plain_none (confirms own) (confirms_plain own) to
          (coupled m.sections event).sent plain in absurd (omega arith)
      go (PassesOn dlr more payload is after) k = let b =
          only_data (confirms own) (λ d x y. refl) m.sections event dlr more payload is to in absurd (omega arith)
      go (Requests slr class point called params called_on params_on is after sent) k =
          let b = ap (λ (x : List Answer). number (confirms own) (messages_to to x)) sent in
          let c = to_point_none (confirms own) point to (messages.Cr (second_new m.sections) class called_on params_on) refl in
          absurd (omega arith)
      go (Confirms dlr slr class o r params u n is u_at u_from u_far u_none u_other n_at n_near n_other n_remote after sent) k =
          let b = to_point_some (confirms own) n.point to (messages.Cc r o class params)
          (subst (λ (x : List Answer). 0 < number (confirms own) (messages_to to x)) sent k) in
          subst (λ (x : ℕ). 0 < number (has_near x) m.pairs) (eqb-true o own b.1) (pair_of dlr o u u_at u_other u_far).4

  -- what the section under a reference was before
  data Was (key q : ℕ) (t : Section) : Type 0 where
    Old : (s : Section) → section_at m.sections q ≡ Some s → t.near ≡ s.near → t.point ≡ s.point → t.remote ≡ s.remote → Was key q t
    New : (r : ℕ) → q ≡ key → t.remote ≡ Some r → t.point ≡ event.origin → names_by t.near r event.message ≡ true → Was key q t
    Blank : t.remote ≡ None → Was key q t

  was : Turn m.sections event → (key : ℕ) × ((q : ℕ) (t : Section) → section_at (coupled m.sections event).sections q ≡ Some t
      → Was key q t)
  was (Plain none unheard plain loses) = (0, λ q t h. let b = loses q t h in Old b.0 b.1 b.2 b.3 b.4)
  was (PassesOn dlr more payload is after) = (0, λ q t h. Old t (sym (ap (λ (x : List Section). section_at x q) after) ∙ h) refl refl refl)
  was (Requests slr class point called params called_on params_on is after sent) = (
    first_new m.sections,
    λ q t h.
        ⊎_elim
        (λ (e : section_at m.sections q ≡ Some t). Old t e refl refl refl)
        (λ (e : ((q ≡ first_new m.sections) × (t ≡ near_new (first_new m.sections) (second_new m.sections) event.origin slr))
        ⊎ ((q ≡ second_new m.sections) × (t ≡ far_new (first_new m.sections) (second_new m.sections) point))).
        ⊎_elim
        (λ (x : (q ≡ first_new m.sections) × (t ≡ near_new (first_new m.sections) (second_new m.sections) event.origin slr)).
        New slr x.0 (ap (λ (y : Section). y.remote) x.1) (ap (λ (y : Section). y.point) x.1)
        (ap (λ (y : Section). names_by y.near slr event.message) x.1 ∙ ap (requests slr) is ∙ eq-eqb slr slr refl))
        (λ (x : (q ≡ second_new m.sections) × (t ≡ far_new (first_new m.sections) (second_new m.sections) point)). Blank
        (ap (λ (y : Section). y.remote) x.1))
        e)
        (pair_cases m.sections (first_new m.sections) (second_new m.sections) event.origin slr point q t
        (sym (ap (λ (x : List Section). section_at x q) after) ∙ h)),
  )
  was (Confirms dlr slr class o r params u n is u_at u_from u_far u_none u_other n_at n_near n_other n_remote after sent) = (
    dlr,
    λ q t h.
        ⊎_elim
        (λ (x : (v : Section) × (q ≡ dlr) × (section_at m.sections dlr ≡ Some v) × (t ≡ confirmed slr v)).
        let same : x.0 ≡ u = let a = x.2 in cc in
        let far : t.near ≡ false = ap (λ (y : Section). y.near) x.3 ∙ ap (λ (y : Section). y.near) same ∙ u_far in
        New slr x.1 (ap (λ (y : Section). y.remote) x.3) (ap (λ (y : Section). y.point) x.3 ∙ ap (λ (y : Section). y.point) same ∙ u_from)
        (ap (λ (b : Bool). names_by b slr event.message) far ∙ ap (confirms slr) is ∙ eq-eqb slr slr refl))
        (λ (x : (q ≡ dlr → ⊥) × (section_at m.sections q ≡ Some t)). Old t x.1 refl refl refl)
        (changed_cases (confirmed slr) (λ x. refl) m.sections dlr q t (sym (ap (λ (x : List Section). section_at x q) after) ∙ h)),
  )

  old_named : (own q : ℕ) (s : Section) → section_at m.sections own ≡ Some s → s.remote ≡ Some q → (near : Bool) → near ≡ s.near
      → (point : ℕ) → point ≡ s.point → 0 < number (names_by near q) (arrived point)
  old_named own q s at has_it near e point f =
      subst (λ (b : Bool). 0 < number (names_by b q) (arrived point)) (sym e)
      (subst (λ (n : ℕ). 0 < number (names_by s.near q) (arrived n)) (sym f) (holds.remote_named own q s at has_it))

  named_was : (key own q : ℕ) (s : Section) → Was key own s → s.remote ≡ Some q → 0 < number (names_by s.near q) (arrived_then s.point)
  named_was key own q s (Old b at near point remote) has_it =
      let a = old_named own q b at (sym remote ∙ has_it) s.near near s.point point in
      let c = arrived_more (names_by s.near q) s.point in
      omega arith
  named_was key own q s (New r is remote point named) has_it =
      let e : r ≡ q = some_same r q s.remote remote has_it in
      arrived_new (names_by s.near q) (ap (λ (n : ℕ). names_by s.near n event.message) (sym e) ∙ named) s.point point
  named_was key own q s (Blank remote) has_it = absurd (none_some q s.remote remote has_it)

  named_then : Turn m.sections event → (own q : ℕ) (s : Section) → section_at (coupled m.sections event).sections own ≡ Some s
      → s.remote ≡ Some q → 0 < number (names_by s.near q) (arrived_then s.point)
  named_then t own q s at has_it = let w = was t in named_was w.0 own q s (w.1 own s at) has_it

  by_names_true : (near : Bool) (q : ℕ) (x : Message) → names_by near q x ≡ true → names q x ≡ true
  by_names_true true q x h = ap (λ (b : Bool). b || confirms q x) h
  by_names_true false q x h = ap (λ (b : Bool). requests q x || b) h ∙ or_true (requests q x)
    where
      or_true : (b : Bool) → (b || true) ≡ true
      or_true true = refl
      or_true false = refl

  -- an old section cannot have the remote that has just been named
  clash : (own r q : ℕ) (s b t : Section) → section_at m.sections own ≡ Some b → s.point ≡ b.point → s.remote ≡ b.remote → s.remote ≡ Some q
      → t.remote ≡ Some r → t.remote ≡ Some q → t.point ≡ event.origin → s.point ≡ t.point → names_by t.near r event.message ≡ true → ⊥
  clash own r q s b t at point remote has_it is_r is_q from same named =
      let e : r ≡ q = some_same r q t.remote is_r is_q in
      let a = old_named own q b at (sym remote ∙ has_it) b.near refl event.origin (sym from ∙ sym same ∙ point) in
      let c = by_names b.near q (arrived event.origin) in
      let d = unnamed q (by_names_true t.near q event.message (ap (λ (n : ℕ). names_by t.near n event.message) (sym e) ∙ named)) in
      absurd (omega arith)

  away_was : (key own with_own q : ℕ) (s t : Section) → Was key own s → Was key with_own t → s.remote ≡ Some q → t.remote ≡ Some q
      → s.point ≡ t.point → own ≡ with_own
  away_was key own with_own q s t (Old a a_at a_near a_point a_remote) (Old b b_at b_near b_point b_remote) x y z =
      holds.away own with_own q a b a_at b_at (sym a_remote ∙ x) (sym b_remote ∙ y) (sym a_point ∙ z ∙ b_point)
  away_was key own with_own q s t (Old a a_at a_near a_point a_remote) (New r is remote point named) x y z =
      absurd (clash own r q s a t a_at a_point a_remote x remote y point z named)
  away_was key own with_own q s t (New r is remote point named) (Old b b_at b_near b_point b_remote) x y z =
      absurd (clash with_own r q t b s b_at b_point b_remote y remote x point (sym z) named)
  away_was key own with_own q s t (New r is remote point named) (New r' is' remote' point' named') x y z = is ∙ sym is'
  away_was key own with_own q s t (Blank none) w x y z = absurd (none_some q s.remote none x)
  away_was key own with_own q s t (Old a a_at a_near a_point a_remote) (Blank none) x y z = absurd (none_some q t.remote none y)
  away_was key own with_own q s t (New r is remote point named) (Blank none) x y z = absurd (none_some q t.remote none y)

  away_then : Turn m.sections event → AreApart (coupled m.sections event).sections
  away_then t own with_own q s u s_at u_at x y z = let w = was t in away_was w.0 own with_own q s u (w.1 own s s_at)
      (w.1 with_own u u_at) x y z

  data_named_then : Turn m.sections event → (to q : ℕ) → 0 < number (carries q) (put_then to) → 0 < number (names q) (arrived_then to)
  data_named_then t to q h =
      let a = put_more (carries q) to in
      let more = arrived_more (names q) to in
      ⊎_elim
      (λ (old : number (carries q) (put to) ≡ 0).
      let d = data_sent m.sections event t to q (omega arith) in
      let b = subst (λ (n : ℕ). 0 < number (names_by d.section.near q) (arrived n)) d.point
      (holds.remote_named d.own q d.section d.at d.remote) in
      let c = by_names d.section.near q (arrived to) in
      omega arith)
      (λ (old : 0 < number (carries q) (put to)). let b = holds.data_named to q old in omega arith)
      (zero_or (number (carries q) (put to)))

  answers_named_then : Turn m.sections event → (to q : ℕ) → 0 < number (answers q) (put_then to) → 0 < number (requests q) (arrived_then to)
  answers_named_then t to q h =
      let a = put_more (answers q) to in
      let more = arrived_more (requests q) to in
      ⊎_elim
      (λ (old : number (answers q) (put to) ≡ 0). let b = go t (omega arith) in omega arith)
      (λ (old : 0 < number (answers q) (put to)). let b = holds.answers_named to q old in omega arith)
      (zero_or (number (answers q) (put to)))
    where
      go : Turn m.sections event → 0 < number (answers q) (messages_to to (coupled m.sections event).sent)
          → 0 < number (requests q) (arrived to)
      go (Plain none unheard plain loses) k = let b = plain_none (answers q) (answers_plain q) to
          (coupled m.sections event).sent plain in absurd (omega arith)
      go (PassesOn dlr more payload is after) k = let b =
          only_data (answers q) (λ d x y. refl) m.sections event dlr more payload is to in absurd (omega arith)
      go (Requests slr class point called params called_on params_on is after sent) k =
          let b = ap (λ (x : List Answer). number (answers q) (messages_to to x)) sent in
          let c = to_point_none (answers q) point to (messages.Cr (second_new m.sections) class called_on params_on) refl in
          absurd (omega arith)
      go (Confirms dlr slr class o r params u n is u_at u_from u_far u_none u_other n_at n_near n_other n_remote after sent) k =
          let b = to_point_some (answers q) n.point to (messages.Cc r o class params)
          (subst (λ (x : List Answer). 0 < number (answers q) (messages_to to x)) sent k) in
          let remote : n.remote ≡ Some q = n_remote ∙ ap (λ (x : ℕ). Some x) (eqb-true r q b.1) in
          subst (λ (x : ℕ). 0 < number (requests q) (arrived x)) b.0
          (subst (λ (y : Bool). 0 < number (names_by y q) (arrived n.point)) n_near (holds.remote_named o q n n_at remote))

  data_answered_then : Turn m.sections event → (to q : ℕ) → is_node network to ≡ true → number (has_near q) (pairs to) ≡ 0
      → early q (put_then to) ≡ []
  data_answered_then t to q is none =
      let old : early q (put to) ≡ [] = holds.data_answered to q is none in
      ap (early q) (takes.sends to)
      ∙ ⊎_elim
      (λ (e : number (carries q) (messages_to to (coupled m.sections event).sent) ≡ 0). early_quiet q (put to)
      (messages_to to (coupled m.sections event).sent) e ∙ old)
      (λ (some : 0 < number (carries q) (messages_to to (coupled m.sections event).sent)).
      let d = data_sent m.sections event t to q some in
      early_more q (put to) (messages_to to (coupled m.sections event).sent) (sent_answer d) ∙ old)
      (zero_or (number (carries q) (messages_to to (coupled m.sections event).sent)))
    where
      sent_answer : SendsData m.sections to q → 0 < number (answers q) (put to)
      sent_answer d =
          ⊎_elim
          (λ (near : d.section.near ≡ true).
          let back = mutual_at m.sections holds.kept.coupling d.from d.own d.from_section d.section d.from_at d.joined d.at in
          let c = holds.kept.coupling.joined d.from d.from_section d.own d.from_at d.joined in
          let same : c.0 ≡ d.section = let x = c.1 in let y = d.at in cc in
          let far : d.from_section.near ≡ false = flip d.from_section.near c.0.near c.3 (ap (λ (x : Section). x.near) same ∙ near) in
          let p = pair_of d.from d.own d.from_section d.from_at d.joined far in
          let st = p.5 d.section d.from_section p.1 (ap (section_at m.sections) p.2 ∙ d.at) (ap (section_at m.sections) p.3 ∙ d.from_at) in
          subst (λ (n : ℕ). 0 < number (answers q) (put n)) d.point (st.confirmed d.from_remote q d.remote))
          (λ (far : d.section.near ≡ false).
          let b = holds.remote_named d.own q d.section d.at d.remote in
          let c : 0 < number (confirms q) (arrived to) = subst (λ (n : ℕ). 0 < number (confirms q) (arrived n)) d.point
          (subst (λ (y : Bool). 0 < number (names_by y q) (arrived d.section.point)) far b) in
          let e = arrived_few (confirms q) to in
          let f = peers.confirmed to q is (omega arith) in
          absurd (omega arith))
          (cases_Bool d.section.near)

  -- a side of a pair that is still there
  sent_side : (own other : ℕ) (s : Section) (q : ℕ) (old : List Piece) → section_at m.sections own ≡ Some s → s.remote ≡ Some q
      → s.other ≡ Some other → old ≡ pieces_for (Some q) (put s.point) →
      (point : ℕ) → point ≡ s.point → old ++ sent_in m.sections own other event ≡ pieces_for (Some q) (put_then point)
  sent_side own other s q old at has_it joined before point same =
      let sent : List Answer = (coupled m.sections event).sent in
      let new : sent_in m.sections own other event ≡ pieces_for (Some q) (messages_to s.point sent) =
      sends_for m.sections holds.away own other s q at has_it joined
      (λ d o t u a b c. mutual_at m.sections holds.kept.coupling d o t u a b c) event in
      ap (λ (x : List Piece). x ++ sent_in m.sections own other event) before
      ∙ ap (λ (x : List Piece). pieces_for (Some q) (put s.point) ++ x) new
      ∙ sym (filter_map-append (piece_for (Some q)) (put s.point) (messages_to s.point sent))
      ∙ sym (ap (pieces_for (Some q)) (takes.sends s.point))
      ∙ ap (λ (n : ℕ). pieces_for (Some q) (put_then n)) (sym same)

  passed_side : (own : ℕ) (s : Section) (old : List Piece) → section_at m.sections own ≡ Some s
      → (s.point ≡ event.origin → carries own event.message ≡ true → is_open m.sections (section_at m.sections own) ≡ true)
      → old ≡ pieces_for (Some own) (arrived s.point) →
      (point : ℕ) → point ≡ s.point → old ++ passed_in m.sections own event ≡ pieces_for (Some own) (arrived_then point)
  passed_side own s old at opened before point same =
      ap (λ (x : List Piece). x ++ passed_in m.sections own event) before
      ∙ ⊎_elim
      (λ (e : s.point ≡ event.origin).
      ap (λ (x : List Piece). pieces_for (Some own) (arrived s.point) ++ x) (passes_in m.sections own s at event e (opened e))
      ∙ sym (filter_map-append (piece_for (Some own)) (arrived s.point) (event.message ∷ []))
      ∙ ap (λ (n : ℕ). pieces_for (Some own) (arrived n ++ event.message ∷ [])) e
      ∙ sym (ap (pieces_for (Some own)) takes.here)
      ∙ ap (λ (n : ℕ). pieces_for (Some own) (arrived_then n)) (sym e))
      (λ (n : s.point ≡ event.origin → ⊥).
      ap (λ (x : List Piece). pieces_for (Some own) (arrived s.point) ++ x) (passes_not m.sections own s at event n)
      ∙ append_nothing (pieces_for (Some own) (arrived s.point))
      ∙ sym (ap (pieces_for (Some own)) (takes.elsewhere s.point n)))
      (cases_eq s.point event.origin)
      ∙ ap (λ (n : ℕ). pieces_for (Some own) (arrived_then n)) (sym same)

  -- A DT1 from a relay finds the pair established.
  far_remote_near : (p : Pair) (s t : Section) → 0 < number (has_near p.near) m.pairs → StretchFor network put arrived p s t
      → is_node network event.origin ≡ true → carries p.near event.message ≡ true → t.remote ≢ None
  far_remote_near p s t counted st inner is none =
      let a = queued (carries p.near) in
      let b = one_of (carries p.near) event.message is in
      let c = peers.data_named event.origin p.near inner (omega arith) in
      let d = number-either (requests p.near) (confirms p.near) (put event.origin) in
      let e = st.unconfirmed none event.origin in
      let f = holds.requested event.origin p.near in
      let g = few p.near in
      absurd (omega arith)

  far_remote_far : (p : Pair) (s t : Section) → 0 < number (has_far p.far) m.pairs → StretchFor network put arrived p s t
      → t.point ≡ event.origin → is_node network event.origin ≡ true → carries p.far event.message ≡ true → t.remote ≢ None
  far_remote_far p s t counted st from inner is none =
      let g = few p.far in
      let nears : number (has_near p.far) m.pairs ≡ 0 = omega arith in
      let e : early p.far (toward event.origin) ≡ [] = peers.data_answered event.origin p.far inner nears in
      let a : number (answers p.far) (arrived event.origin) ≡ 0 = sym (ap (λ (n : ℕ). number (answers p.far) (arrived n)) from)
      ∙ st.unanswered (ap (is_node network) from ∙ inner) none in
      early_first p.far (arrived event.origin) event.message takes.rest a is (sym (ap (early p.far) takes.queue) ∙ e)

  near_remote : (own : ℕ) (s : Section) → section_at m.sections own ≡ Some s → s.near ≡ true → s.remote ≢ None
  near_remote own s at near = holds.kept.coupling.near_has_remote own s at near

  old_stretch : Turn m.sections event → (p : Pair) (s t near_now far_now : Section) → p.stands ≡ true → 0 < number (has_near p.near) m.pairs
      → 0 < number (has_far p.far) m.pairs →
      section_at m.sections p.near ≡ Some s → section_at m.sections p.far ≡ Some t → s.other ≡ Some p.far → t.other ≡ Some p.near
      → s.near ≡ true → t.near ≡ false → StretchFor network put arrived p s t →
      SidesAfter m.sections event p s t near_now far_now
      → StretchFor network put_then arrived_then (grown m.sections event p) near_now far_now
  old_stretch turned p s t near_now far_now stands near_counted far_counted s_at t_at s_other t_other s_near t_far st sides =
      let sent : List Answer = (coupled m.sections event).sent in
      record {
        near_sent = λ q h. sent_side p.near p.far s q p.sent_near s_at (sym sides.near_remote
            ∙ h) s_other (st.near_sent q (sym sides.near_remote ∙ h)) near_now.point sides.near_point;
        far_sent = λ q h. far_sent_by sides.far_remote q h;
        far_unsent = λ h. far_unsent_by sides.far_remote h;
        near_passed = λ inner. passed_side p.near s p.passed_near s_at
            (λ from is. opens m.sections p.near p.far s t s_at s_other t_at (near_remote p.near s s_at s_near)
            (far_remote_near p s t near_counted st (ap (is_node network) (sym from ∙ sym sides.near_point) ∙ inner) is))
            (st.near_passed (ap (is_node network) (sym sides.near_point) ∙ inner)) near_now.point sides.near_point;
        far_passed = λ inner. passed_side p.far t p.passed_far t_at
            (λ from is. opens m.sections p.far p.near t s t_at t_other s_at
            (far_remote_far p s t far_counted st from (ap (is_node network) (sym from ∙ sym sides.far_point) ∙ inner) is)
            (near_remote p.near s s_at s_near))
            (st.far_passed (ap (is_node network) (sym sides.far_point) ∙ inner)) far_now.point sides.far_point;
        unconfirmed = λ h to. unconfirmed_by sides.far_remote h to;
        confirmed = λ h r k. subst (λ (n : ℕ). 0 < number (answers r) (put_then n)) (sym sides.near_point)
            (confirmed_by sides.far_remote h r (sym sides.near_remote ∙ k));
        unanswered = λ inner h. subst (λ (n : ℕ). number (answers p.far) (arrived_then n) ≡ 0) (sym sides.far_point)
            (unanswered_by sides.far_remote (ap (is_node network) (sym sides.far_point) ∙ inner) h);
      }
    where
      far_sent_by : PairAfter m.sections event p s t far_now → (q : ℕ) → far_now.remote ≡ Some q
          → p.sent_far ++ sent_in m.sections p.far p.near event ≡ pieces_for (Some q) (put_then far_now.point)
      far_sent_by (Same same unsaid unheard) q h = sent_side p.far p.near t q p.sent_far t_at (sym same
          ∙ h) t_other (st.far_sent q (sym same ∙ h)) far_now.point sides.far_point
      far_sent_by (Gains slr class r params is from none now remote sent) q h =
          let e : slr ≡ q = some_same slr q far_now.remote now h in
          let named : names q event.message ≡ true = ap (names q) is ∙ eq-eqb slr q e in
          let a = put_more (carries q) event.origin in
          let b = nothing_for q named in
          let c = ap (λ (x : List Answer). number (carries q) (messages_to event.origin x)) sent in
          let d = to_point_none (carries q) s.point event.origin (messages.Cc r p.near class params) refl in
          let zero_there : number (carries q) (put_then event.origin) ≡ 0 = omega arith in
          ap (λ (x : List Piece). x ++ sent_in m.sections p.far p.near event) (st.far_unsent none)
          ∙ quiet_sent m.sections p.far p.near event (ap data_of is)
          ∙ sym (no_pieces q (put_then event.origin) zero_there)
          ∙ ap (λ (n : ℕ). pieces_for (Some q) (put_then n)) (sym from ∙ sym sides.far_point)

      far_unsent_by : PairAfter m.sections event p s t far_now → far_now.remote ≡ None
          → p.sent_far ++ sent_in m.sections p.far p.near event ≡ []
      far_unsent_by (Same same unsaid unheard) h =
          ap (λ (x : List Piece). x ++ sent_in m.sections p.far p.near event) (st.far_unsent (sym same ∙ h))
          ∙ ap (λ (o : Option Section). cond (knows m.sections p.near event) (pieces_toward o (coupled m.sections event).sent) []) t_at
          ∙ ap (λ (x : List Piece). cond (knows m.sections p.near event) x [])
          (toward_none t (coupled m.sections event).sent (sym same ∙ h))
          ∙ elim (knows m.sections p.near event) as (λ b. cond {A = List Piece} b [] [] ≡ []) [ true ↦ refl | false ↦ refl ]
      far_unsent_by (Gains slr class r params is from none now remote sent) h = absurd (none_some slr far_now.remote h now)

      unconfirmed_by : PairAfter m.sections event p s t far_now → far_now.remote ≡ None → (to : ℕ)
          → number (confirms p.near) (put_then to) ≡ 0
      unconfirmed_by (Same same unsaid unheard) h to =
          let a = put_more (confirms p.near) to in
          let b = st.unconfirmed (sym same ∙ h) to in
          let c = unsaid (sym same ∙ h) to in
          omega arith
      unconfirmed_by (Gains slr class r params is from none now remote sent) h to = absurd (none_some slr far_now.remote h now)

      confirmed_by : PairAfter m.sections event p s t far_now → far_now.remote ≢ None → (r : ℕ) → s.remote ≡ Some r
          → 0 < number (answers r) (put_then s.point)
      confirmed_by (Same same unsaid unheard) h r k =
          let a = put_more (answers r) s.point in
          let b = st.confirmed (λ e. h (same ∙ e)) r k in
          omega arith
      confirmed_by (Gains slr class r' params is from none now remote sent) h r k =
          let e : r' ≡ r = some_same r' r s.remote remote k in
          let a = put_more (answers r) s.point in
          let b = ap (λ (x : List Answer). number (answers r) (messages_to s.point x)) sent in
          let c = ap (number (answers r)) (to_point s.point s.point (messages.Cc r' p.near class params)) in
          let d = ap (λ (y : Bool). number (answers r) (cond y (messages.Cc r' p.near class params ∷ []) []))
          (eq-eqb s.point s.point refl) in
          let f = one_of (answers r) (messages.Cc r' p.near class params) (eq-eqb r' r e) in
          omega arith

      unanswered_by : PairAfter m.sections event p s t far_now → is_node network t.point ≡ true → far_now.remote ≡ None
          → number (answers p.far) (arrived_then t.point) ≡ 0
      unanswered_by (Same same unsaid unheard) inner h =
          let old = st.unanswered inner (sym same ∙ h) in
          ⊎_elim
          (λ (e : t.point ≡ event.origin).
          let a = arrived_at (answers p.far) in
          let b = none_of (answers p.far) event.message (unheard (sym same ∙ h) e) in
          let c = ap (λ (n : ℕ). number (answers p.far) (arrived n)) e in
          let d = ap (λ (n : ℕ). number (answers p.far) (arrived_then n)) e in
          omega arith)
          (λ (n : t.point ≡ event.origin → ⊥). ap (number (answers p.far)) (takes.elsewhere t.point n) ∙ old)
          (cases_eq t.point event.origin)
      unanswered_by (Gains slr class r params is from none now remote sent) inner h = absurd (none_some slr far_now.remote h now)

  -- the pair that a CR makes
  not_given : (own to : ℕ) → 0 < number (has_near own) (made m.sections event) + number (has_far own) (made m.sections event)
      → number (names own) (put to) ≡ 0
  not_given own to h =
      let a = few own in
      let b = holds.requested to own in
      let c = number-either (requests own) (confirms own) (put to) in
      ⊎_elim
      (λ (e : number (confirms own) (put to) ≡ 0). omega arith)
      (λ (e : 0 < number (confirms own) (put to)). let d = holds.confirmed to own e in absurd (omega arith))
      (zero_or (number (confirms own) (put to)))

  -- no DT1 is for a reference that was not given
  no_data_for : (own from : ℕ) → 0 < number (has_near own) (made m.sections event) + number (has_far own) (made m.sections event)
      → is_node network from ≡ true → number (carries own) (arrived from) ≡ 0
  no_data_for own from h inner =
      let a = not_given own from h in
      let b = arrived_few (carries own) from in
      ⊎_elim
      (λ (e : number (carries own) (arrived from) ≡ 0). e)
      (λ (e : 0 < number (carries own) (arrived from)). let c = peers.data_named from own inner (omega arith) in absurd (omega arith))
      (zero_or (number (carries own) (arrived from)))

  no_answer_for : (own from : ℕ) → 0 < number (has_near own) (made m.sections event) + number (has_far own) (made m.sections event)
      → is_node network from ≡ true → number (answers own) (arrived from) ≡ 0
  no_answer_for own from h inner =
      let a = not_given own from h in
      let b = arrived_few (answers own) from in
      let d = number-or (requests own) (confirms own) (put from) in
      ⊎_elim
      (λ (e : number (answers own) (arrived from) ≡ 0). e)
      (λ (e : 0 < number (answers own) (arrived from)). let c = peers.answers_named from own inner (omega arith) in absurd (omega arith))
      (zero_or (number (answers own) (arrived from)))

  -- the count of what has arrived stays 0 after a message that is not counted
  still_none : (p : Message → Bool) (from : ℕ) → number p (arrived from) ≡ 0 → p event.message ≡ false → number p (arrived_then from) ≡ 0
  still_none p from old h =
      ⊎_elim
      (λ (e : from ≡ event.origin).
      let a = arrived_at p in
      let b = none_of p event.message h in
      let c = ap (λ (n : ℕ). number p (arrived n)) e in
      let d = ap (λ (n : ℕ). number p (arrived_then n)) e in
      omega arith)
      (λ (n : from ≡ event.origin → ⊥). ap (number p) (takes.elsewhere from n) ∙ old)
      (cases_eq from event.origin)

  new_stretch : (slr class point : ℕ) (called : Address) (params : List Parameter) (called_on : Address) (params_on : List Parameter)
      → event.message ≡ messages.Cr slr class called params →
      (coupled m.sections event).sections ≡ with_pair (first_new m.sections) (second_new m.sections) event.origin slr point m.sections →
      (coupled m.sections event).sent ≡ to_one point (messages.Cr (second_new m.sections) class called_on params_on) →
      (s t : Section) → section_at (coupled m.sections event).sections (first_new m.sections) ≡ Some s
      → section_at (coupled m.sections event).sections (second_new m.sections) ≡ Some t →
      StretchFor network put_then arrived_then (new_pair (first_new m.sections) (second_new m.sections)) s t
  new_stretch slr class point called params called_on params_on is after sent s t s_at t_at =
      let near : ℕ = first_new m.sections in
      let far : ℕ = second_new m.sections in
      let made_is = made_one m.sections event event.origin slr point (kept_happens m event holds.kept).coupling after in
      let s_is : near_new near far event.origin slr ≡ s = let a = near_stands m.sections near far event.origin slr point
      (fresh m.sections) in let b = sym (ap (λ (x : List Section). section_at x near) after) ∙ s_at in cc in
      let t_is : far_new near far point ≡ t = let a = far_stands m.sections near far event.origin slr point (fresh m.sections) in let b =
      sym (ap (λ (x : List Section). section_at x far) after) ∙ t_at in cc in
      let s_point : s.point ≡ event.origin = ap (λ (x : Section). x.point) (sym s_is) in
      let s_remote : s.remote ≡ Some slr = ap (λ (x : Section). x.remote) (sym s_is) in
      let t_remote : t.remote ≡ None = ap (λ (x : Section). x.remote) (sym t_is) in
      let near_made : 0 < number (has_near near) (made m.sections event) + number (has_far near) (made m.sections event) =
      let a = ap (number (has_near near)) made_is in let b =
      one_of (has_near near) (new_pair near far) (eq-eqb near near refl) in omega arith in
      let far_made : 0 < number (has_near far) (made m.sections event) + number (has_far far) (made m.sections event) =
      let a = ap (number (has_far far)) made_is in let b = one_of (has_far far) (new_pair near far) (eq-eqb far far refl) in omega arith in
      let message : Message = messages.Cr far class called_on params_on in
      record {
        near_sent = λ q h.
            let e : slr ≡ q = some_same slr q s.remote s_remote h in
            let named : names q event.message ≡ true = ap (names q) is ∙ ap (λ (b : Bool). b || false) (eq-eqb slr q e) in
            let a = put_more (carries q) event.origin in
            let b = nothing_for q named in
            let c = ap (λ (x : List Answer). number (carries q) (messages_to event.origin x)) sent in
            let d = to_point_none (carries q) point event.origin message refl in
            let zero_there : number (carries q) (put_then event.origin) ≡ 0 = omega arith in
            sym (no_pieces q (put_then event.origin) zero_there) ∙ ap (λ (n : ℕ). pieces_for (Some q) (put_then n)) (sym s_point);
        far_sent = λ q h. absurd (none_some q t.remote t_remote h);
        far_unsent = λ h. refl;
        near_passed = λ inner. sym (no_pieces near (arrived_then s.point)
            (still_none (carries near) s.point (no_data_for near s.point near_made inner) (ap (carries near) is)));
        far_passed = λ inner. sym (no_pieces far (arrived_then t.point)
            (still_none (carries far) t.point (no_data_for far t.point far_made inner) (ap (carries far) is)));
        unconfirmed = λ h to.
            let a = put_more (confirms near) to in
            let b = not_given near to near_made in
            let c = number-or_right (requests near) (confirms near) (put to) in
            let d = ap (λ (x : List Answer). number (confirms near) (messages_to to x)) sent in
            let e = to_point_none (confirms near) point to message refl in
            omega arith;
        confirmed = λ h r k. absurd (h t_remote);
        unanswered = λ inner h. still_none (answers far) t.point (no_answer_for far t.point far_made inner) (ap (answers far) is);
      }

  -- each pair that is there afterwards
  carried_stands : Turn m.sections event → (p : Pair) → IsFair m.sections p
      × ((0 < number (has_near p.near) m.pairs) × (0 < number (has_far p.far) m.pairs)) × StandsFor network put arrived m p →
      StandsFor network put_then arrived_then (happens m event) (carried m.sections event p)
  carried_stands turned p known =
      elim p.stands as (λ b. p.stands ≡ b
      → StandsFor network put_then arrived_then (happens m event) (cond b (grown m.sections event p) p)) [
        | true ↦ λ stands s t joined s_at t_at.
            let j = known.0.joined stands in
            let parts = and_parts (is_half p.far true (section_at m.sections p.near))
            (is_half p.near false (section_at m.sections p.far)) j in
            let a = joined_parts m.sections p.near p.far j in
            let near = half_is (section_at m.sections p.near) a.near_section p.far true parts.0 a.near_at in
            let far = half_is (section_at m.sections p.far) a.far_section p.near false parts.1 a.far_at in
            let t_far : a.far_section.near ≡ false = not-true a.far_section.near far.1 in
            old_stretch turned p a.near_section a.far_section s t stands known.1.0 known.1.1 a.near_at a.far_at near.0 far.0 near.1 t_far
            (known.2 a.near_section a.far_section stands a.near_at a.far_at)
            (sides_after m.sections event turned p a.near_section a.far_section s t a.near_at a.far_at near.0 far.0 near.1 t_far s_at t_at)
        | false ↦ λ fallen s t stands s_at t_at. true_false (sym stands ∙ fallen)
      ] refl

  made_stands : Turn m.sections event → Each (StandsFor network put_then arrived_then (happens m event)) (made m.sections event)
  made_stands (Plain none unheard plain loses) = subst (Each (StandsFor network put_then arrived_then (happens m event)))
      (sym (made_none m.sections event (λ q t h. let b = loses q t h in (b.0, b.1)))) tt
  made_stands (PassesOn dlr more payload is after) = subst (Each (StandsFor network put_then arrived_then (happens m event)))
      (sym (made_none m.sections event (λ q t h. (t, sym (ap (λ (x : List Section). section_at x q) after) ∙ h)))) tt
  made_stands (Requests slr class point called params called_on params_on is after sent) =
      subst (Each (StandsFor network put_then arrived_then (happens m event)))
      (sym (made_one m.sections event event.origin slr point (kept_happens m event holds.kept).coupling after))
      (λ s t stands s_at t_at. new_stretch slr class point called params called_on params_on is after sent s t s_at t_at, tt)
  made_stands (Confirms dlr slr class o r params u n is u_at u_from u_far u_none u_other n_at n_near n_other n_remote after sent) =
      subst (Each (StandsFor network put_then arrived_then (happens m event))) (sym (made_none m.sections event (λ q t h.
      ⊎_elim
      (λ (x : (v : Section) × (q ≡ dlr) × (section_at m.sections dlr ≡ Some v) × (t ≡ confirmed slr v)).
      (x.0, ap (section_at m.sections) x.1 ∙ x.2))
      (λ (x : (q ≡ dlr → ⊥) × (section_at m.sections q ≡ Some t)). (t, x.1))
      (changed_cases (confirmed slr) (λ x. refl) m.sections dlr q t (sym (ap (λ (x : List Section). section_at x q) after) ∙ h))))) tt

  stretches_then : Turn m.sections event → Each (StandsFor network put_then arrived_then (happens m event)) (happens m event).pairs
  stretches_then turned =
      Each-append (StandsFor network put_then arrived_then (happens m event)) (map (carried m.sections event) m.pairs)
      (made m.sections event)
      (Each-map (λ (p : Pair). IsFair m.sections p × ((0 < number (has_near p.near) m.pairs) × (0 < number (has_far p.far) m.pairs))
      × StandsFor network put arrived m p) (StandsFor network put_then arrived_then (happens m event)) (carried m.sections event)
      (carried_stands turned) m.pairs
      (Each-three (IsFair m.sections) (λ (p : Pair). (0 < number (has_near p.near) m.pairs) × (0 < number (has_far p.far) m.pairs))
      (StandsFor network put arrived m) m.pairs (Each-All (IsFair m.sections) m.pairs holds.fair)
      (each_counted m.pairs) holds.stretches))
      (made_stands turned)

  pub holds_then : HoldsFor network put_then arrived_then pairs (happens m event)
  holds_then =
      let turned = turn m.sections holds.kept.coupling event in
      record {
        kept = kept_happens m event holds.kept;
        fair = fair_happens m event holds.fair;
        requested = requested_then turned;
        confirmed = confirmed_then turned;
        remote_named = named_then turned;
        away = away_then turned;
        data_named = data_named_then turned;
        answers_named = answers_named_then turned;
        data_answered = data_answered_then turned;
        stretches = stretches_then turned;
      }

  -- a relay names a section in at most one CR or CC
  pub once_then : (to own : ℕ) → number (names own) (put_then to) ≤ 1
  once_then to own = go (turn m.sections holds.kept.coupling event)
    where
      go : Turn m.sections event → number (names own) (put_then to) ≤ 1
      go (Plain none unheard plain loses) =
          let a = put_more (names own) to in
          let b = plain_none (names own) (names_plain own) to (coupled m.sections event).sent plain in
          let c = peers.once_here to own in
          omega arith
      go (PassesOn dlr more payload is after) =
          let a = put_more (names own) to in
          let b = only_data (names own) (λ d x y. refl) m.sections event dlr more payload is to in
          let c = peers.once_here to own in
          omega arith
      go (Requests slr class point called params called_on params_on is after sent) =
          let a = put_more (names own) to in
          let message : Message = messages.Cr (second_new m.sections) class called_on params_on in
          let b = ap (λ (x : List Answer). number (names own) (messages_to to x)) sent in
          let made_is = made_one m.sections event event.origin slr point (kept_happens m event holds.kept).coupling after in
          ⊎_elim
          (λ (e : (second_new m.sections == own) ≡ true).
          let c = to_point_few (names own) point to message in
          let f = ap (number (has_far own)) made_is in
          let g = one_of (has_far own) (new_pair (first_new m.sections) (second_new m.sections)) e in
          let d = not_given own to (omega arith) in
          omega arith)
          (λ (e : (second_new m.sections == own) ≡ false).
          let c = to_point_none (names own) point to message (ap (λ (y : Bool). y || false) e) in
          let d = peers.once_here to own in
          omega arith)
          (cases_Bool (second_new m.sections == own))
      go (Confirms dlr slr class o r params u n is u_at u_from u_far u_none u_other n_at n_near n_other n_remote after sent) =
          let a = put_more (names own) to in
          let message : Message = messages.Cc r o class params in
          let b = ap (λ (x : List Answer). number (names own) (messages_to to x)) sent in
          ⊎_elim
          (λ (e : (o == own) ≡ true).
          let c = to_point_few (names own) n.point to message in
          let p = pair_of dlr o u u_at u_other u_far in
          let st = p.5 n u p.1 (ap (section_at m.sections) p.2 ∙ n_at) (ap (section_at m.sections) p.3 ∙ u_at) in
          let same : p.0.near ≡ own = p.2 ∙ eqb-true o own e in
          let d : number (confirms own) (put to) ≡ 0 = sym (ap (λ (k : ℕ). number (confirms k) (put to)) same) ∙ st.unconfirmed u_none to in
          let f = number-either (requests own) (confirms own) (put to) in
          let g = holds.requested to own in
          let h : 0 < number (has_near own) m.pairs = subst (λ (k : ℕ). 0 < number (has_near k) m.pairs) (eqb-true o own e) p.4 in
          let i = few own in
          omega arith)
          (λ (e : (o == own) ≡ false).
          let c = to_point_none (names own) n.point to message e in
          let d = peers.once_here to own in
          omega arith)
          (cases_Bool (o == own))
