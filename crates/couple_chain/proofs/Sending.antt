-- what a relay's step puts on its links, and how much of it is counted
use Rattle.std.specs.Prelude.{ℕ, ◌≡◌, ◌<◌, ◌≤◌, ◌==◌, Bool, true, false, cond, ◌&&◌, ◌||◌, List, [], ◌∷◌, length, filter, Option, Some}
use Rattle.std.specs.Prelude.{None, refl}
use Rattle.std.specs.List.{cons_option}
use Rattle.std.proofs.Common.{sym, ◌∙◌, ap, subst, ⊎_elim, arith}
use Rattle.std.proofs.lemmas.Bool.{eqb-true, and_parts}
use Rattle.sccp_message.specs.declared.message.Message.{Message}
use Rattle.sccp_message.specs.declared.message.Message.TheVariants as messages
use Rattle.sccp_couple.specs.declared.section.Section.{Section}
use Rattle.sccp_couple.specs.Sections.{is_that, section_at}
use Rattle.sccp_couple.specs.Events.{Event, Answer, Piece, Data, data_of}
use Rattle.sccp_couple.specs.Coupling.{coupled, to_one}
use Rattle.sccp_couple.specs.Runs.{knows, pieces_toward, piece_if, sent_in}
use Rattle.sccp_couple.specs.Laws.{AreApart}
use Rattle.sccp_couple.proofs.Lookups.{option_cases}
use Rattle.sccp_couple.proofs.Answers.{quiet, quiet_toward}
use Rattle.sccp_couple.proofs.Keeping.{some_same, true_false}
use Rattle.sccp_couple.proofs.Shares.{Passes, dt1, dt1_goes, by_kind, with_message}
use Rattle.couple_chain.specs.World.{requests, confirms, names, messages_to}
use Rattle.couple_chain.specs.Line.{piece_if_for, pieces_for}
use Rattle.couple_chain.proofs.Counts.{number, none_of, carries, answers}
use Rattle.couple_chain.proofs.Turns.{is_plain, ArePlain}

-- one message to one point
pub to_point : (point to : ℕ) (m : Message) → messages_to to (to_one point m) ≡ cond (point == to) (m ∷ []) []
to_point point to m = elim (point == to) as (λ b. cons_option (cond b (Some m) None) [] ≡ cond b (m ∷ []) []) [ true ↦ refl | false ↦ refl ]

pub to_point_none : (p : Message → Bool) (point to : ℕ) (m : Message) → p m ≡ false → number p (messages_to to (to_one point m)) ≡ 0
to_point_none p point to m h =
    ap (number p) (to_point point to m)
    ∙ elim (point == to) as (λ b. number p (cond b (m ∷ []) []) ≡ 0) [ true ↦ none_of p m h | false ↦ refl ]

pub to_point_few : (p : Message → Bool) (point to : ℕ) (m : Message) → number p (messages_to to (to_one point m)) ≤ 1
to_point_few p point to m =
    let e = ap (number p) (to_point point to m) in
    let f : number p (cond (point == to) (m ∷ []) []) ≤ 1 =
    elim (point == to) as (λ b. number p (cond b (m ∷ []) []) ≤ 1) [
      | true ↦ elim (p m) as (λ b. length (cond b (m ∷ []) []) ≤ 1) [ true ↦ omega arith | false ↦ omega arith ]
      | false ↦ omega arith
    ] in
    omega arith

-- only a message that passes the test counts, at the point that it goes to
pub to_point_some : (p : Message → Bool) (point to : ℕ) (m : Message) → 0 < number p (messages_to to (to_one point m))
    → (point ≡ to) × (p m ≡ true)
to_point_some p point to m h =
    let k : 0 < number p (cond (point == to) (m ∷ []) []) = subst (λ (l : List Message). 0 < number p l) (to_point point to m) h in
    elim (point == to) as (λ b. (point == to) ≡ b → 0 < number p (cond b (m ∷ []) []) → (point ≡ to) × (p m ≡ true)) [
      | true ↦ λ e g. (
        eqb-true point to e,
        elim (p m) as (λ b. p m ≡ b → 0 < length (cond b (m ∷ []) [])
            → p m ≡ true) [ true ↦ λ f i. f | false ↦ λ f i. absurd (omega arith) ] refl g,
      )
      | false ↦ λ e g. absurd (omega arith)
    ] refl k

-- plain messages
pub plain_none : (p : Message → Bool) → ((m : Message) → is_plain m ≡ true → p m ≡ false) → (to : ℕ) (sent : List Answer) → ArePlain sent
    → number p (messages_to to sent) ≡ 0
plain_none p h to [] k = refl
plain_none p h to (x ∷ xs) k =
    elim (x.to == to) as (λ b. number p (cons_option (cond b (Some x.message) None) (messages_to to xs)) ≡ 0) [
      | true ↦ ap (λ (b : Bool). length (cond b (x.message ∷ filter p (messages_to to xs)) (filter p (messages_to to xs))))
          (h x.message k.0) ∙ plain_none p h to xs k.1
      | false ↦ plain_none p h to xs k.1
    ]

pub requests_plain : (own : ℕ) (m : Message) → is_plain m ≡ true → requests own m ≡ false
requests_plain own (messages.Cr slr class called params) h = absurd (cc)
requests_plain own _ h = refl

pub confirms_plain : (own : ℕ) (m : Message) → is_plain m ≡ true → confirms own m ≡ false
confirms_plain own (messages.Cc dlr slr class params) h = absurd (cc)
confirms_plain own _ h = refl

pub names_plain : (own : ℕ) (m : Message) → is_plain m ≡ true → names own m ≡ false
names_plain own m h = ap (λ (b : Bool). b || confirms own m) (requests_plain own m h) ∙ confirms_plain own m h

pub answers_plain : (own : ℕ) (m : Message) → is_plain m ≡ true → answers own m ≡ false
answers_plain own (messages.Cc dlr slr class params) h = absurd (cc)
answers_plain own _ h = refl

pub carries_plain : (dlr : ℕ) (m : Message) → is_plain m ≡ true → carries dlr m ≡ false
carries_plain dlr (messages.Dt1 d more payload) h = absurd (cc)
carries_plain dlr _ h = refl

-- what goes to a section's point with its remote as DLR is what goes toward it
toward_parts : (point : ℕ) (o : Option ℕ) (to : ℕ) (m : Message) (ps : List Piece) (ms : List Message) → pieces_for o ms ≡ ps →
    pieces_for o (cons_option (cond (to == point) (Some m) None) ms) ≡ cons_option (piece_if point o to (data_of m)) ps
toward_parts point o to m ps ms h =
    ⊎_elim
    (λ (none : data_of m ≡ None).
    elim (to == point) as (λ b. pieces_for o (cons_option (cond b (Some m) None) ms) ≡ ps) [
      | true ↦ ap (λ (d : Option Data). cons_option (piece_if_for o d) (pieces_for o ms)) none ∙ h
      | false ↦ h
    ] ∙ sym (ap (λ (d : Option Data). cons_option (piece_if point o to d) ps) none))
    (λ (some : (d : Data) × (data_of m ≡ Some d)).
    elim (to == point) as (λ b. pieces_for o (cons_option (cond b (Some m) None) ms)
    ≡ cons_option (cond (b && is_that o some.0.dlr) (Some some.0.piece) None) ps) [
      | true ↦ ap (λ (d : Option Data). cons_option (piece_if_for o d) (pieces_for o ms)) some.1
          ∙ ap (λ (l : List Piece). cons_option (cond (is_that o some.0.dlr) (Some some.0.piece) None) l) h
      | false ↦ h
    ] ∙ sym (ap (λ (d : Option Data). cons_option (piece_if point o to d) ps) some.1))
    (option_cases (data_of m))

pub toward_it : (s : Section) (sent : List Answer) → pieces_for s.remote (messages_to s.point sent) ≡ pieces_toward (Some s) sent
toward_it s [] = refl
toward_it s (x ∷ xs) = toward_parts s.point s.remote x.to x.message (pieces_toward (Some s) xs) (messages_to s.point xs) (toward_it s xs)

-- no DT1 goes toward a section without remote
pub toward_none : (s : Section) (sent : List Answer) → s.remote ≡ None → pieces_toward (Some s) sent ≡ []
toward_none s sent h = sym (toward_it s sent) ∙ ap (λ (o : Option ℕ). pieces_for o (messages_to s.point sent)) h
    ∙ nothing (messages_to s.point sent)
  where
    step : (o : Option Data) → piece_if_for None o ≡ None
    step None = refl
    step (Some d) = refl

    nothing : (ms : List Message) → pieces_for None ms ≡ []
    nothing [] = refl
    nothing (m ∷ ms) = rw (step (data_of m)) (nothing ms)

-- If points and remotes differ, a DT1 goes only toward this section. So nothing goes toward another one.
pub other_silent : (l : List Section) → AreApart l → (own other : ℕ) (s : Section) (q : ℕ) → section_at l own ≡ Some s → s.remote ≡ Some q
    → s.other ≡ Some other → ((d o : ℕ) (t u : Section) → section_at l d ≡ Some t → t.other ≡ Some o → section_at l o ≡ Some u
    → u.other ≡ Some d) →
    (event : Event) → knows l other event ≡ false → pieces_toward (Some s) (coupled l event).sent ≡ []
other_silent l away own other s q at has_it joined paired event deaf =
    by_kind (λ m. knows l other (with_message event m) ≡ false
    → pieces_toward (Some s) (coupled l (with_message event m)).sent ≡ []) event.message
    (λ none k. quiet_toward (Some s) (coupled l event).sent (quiet l event.origin event.way event.message none))
    (λ dlr more payload k.
    ⊎_elim
    (λ (nothing : (coupled l (dt1 event.origin event.way dlr more payload)).sent ≡ []). ap (pieces_toward (Some s)) nothing)
    (λ (p : Passes l event.origin event.way dlr more payload).
    ap (pieces_toward (Some s)) p.sent
    ∙ elim ((p.other_section.point == s.point) && is_that s.remote p.remote) as (λ b. ((p.other_section.point == s.point)
    && is_that s.remote p.remote) ≡ b → cons_option (cond b (Some (piece more payload)) None) [] ≡ []) [
      | true ↦ λ e.
          let parts = and_parts (p.other_section.point == s.point) (is_that s.remote p.remote) e in
          let same_point : p.other_section.point ≡ s.point = eqb-true p.other_section.point s.point parts.0 in
          let same_remote : q ≡ p.remote = eqb-true q p.remote (sym (ap (λ (o : Option ℕ). is_that o p.remote) has_it) ∙ parts.1) in
          let same : p.other ≡ own = away p.other own q p.other_section s p.there at (p.has_it
          ∙ ap (λ (x : ℕ). Some x) (sym same_remote)) has_it same_point in
          let at_own : section_at l own ≡ Some p.other_section = subst (λ (n : ℕ). section_at l n ≡ Some p.other_section) same p.there in
          let is : p.other_section ≡ s = let a = at in cc in
          let back : p.other_section.other ≡ Some dlr = paired dlr p.other p.section p.other_section p.at p.joined p.there in
          let d : dlr ≡ other = some_same dlr other s.other (ap (λ (x : Section). x.other) (sym is) ∙ back) joined in
          let heard : knows l other (dt1 event.origin event.way dlr more payload) ≡ true =
          subst (λ (n : ℕ). knows l n (dt1 event.origin event.way dlr more payload) ≡ true) d p.known_here in
          true_false (sym heard ∙ k)
      | false ↦ λ e. refl
    ] refl)
    (dt1_goes l event.origin event.way dlr more payload))
    deaf
  where
    piece : Bool → List ℕ → Piece
    piece more payload = record { more = more; payload = payload }

-- What a step sends with a section's point and remote is what it sends from the other section to this one.
pub sends_for : (l : List Section) → AreApart l → (own other : ℕ) (s : Section) (q : ℕ) → section_at l own ≡ Some s → s.remote ≡ Some q
    → s.other ≡ Some other → ((d o : ℕ) (t u : Section) → section_at l d ≡ Some t → t.other ≡ Some o → section_at l o ≡ Some u
    → u.other ≡ Some d) →
    (event : Event) → sent_in l own other event ≡ pieces_for (Some q) (messages_to s.point (coupled l event).sent)
sends_for l away own other s q at has_it joined paired event =
    let sent : List Answer = (coupled l event).sent in
    ap (λ (o : Option Section). cond (knows l other event) (pieces_toward o sent) []) at
    ∙ elim (knows l other event) as (λ b. knows l other event ≡ b → cond b (pieces_toward (Some s) sent) [] ≡ pieces_toward (Some s) sent) [
      | true ↦ λ e. refl
      | false ↦ λ e. sym (other_silent l away own other s q at has_it joined paired event e)
    ] refl
    ∙ sym (toward_it s sent)
    ∙ ap (λ (o : Option ℕ). pieces_for o (messages_to s.point sent)) has_it
