-- only a CR adds sections, and the last two are then its pair
use Rattle.std.specs.Prelude.{ℕ, ◌≡◌, ◌+◌, ◌<◌, ◌≤◌, ◌⊎◌, true, false, cond, List, [], ◌∷◌, ◌++◌, length, filter, flat_map, Some, None}
use Rattle.std.specs.Prelude.{slice_get, refl}
use Rattle.std.proofs.Common.{zero, suc, sym, ◌∙◌, ap, ⊎_elim, inl, inr, arith, length-append}
use Rattle.sccp_couple.specs.declared.section.Section.{Section}
use Rattle.sccp_couple.specs.Sections.{section_at, changed, confirmed, released, without, is_other_than, with_pair, first_new, second_new}
use Rattle.sccp_couple.specs.Events.{Event, data_of}
use Rattle.sccp_couple.specs.Coupling.{coupled}
use Rattle.sccp_couple.specs.Invariant.{IsCoupling}
use Rattle.sccp_couple.specs.Runs.{Pair, made, new_pair}
use Rattle.sccp_couple.proofs.Changes.{Change, Same, Confirms, Ends, EndsBoth, Releases, Couples, changes}
use Rattle.sccp_couple.proofs.Keeping.{Makes, NoPair, OnePair, makes, keeps, near_new, far_new}
use Rattle.couple_chain.specs.declared.passed.Passed.{Passed}
use Rattle.couple_chain.specs.Line.{both_of}
use Rattle.couple_chain.specs.Logged.{entry_if, entries, is_of_others, forget, log_after}
use Rattle.couple_chain.proofs.Ledgers.{made_none, made_one}
use Rattle.couple_chain.proofs.Turns.{Plain, Passes, Requests, Confirms as ConfirmsOn, Turn, turn}

without_fewer : (own : ℕ) (l : List Section) → length (without own l) ≤ length l
without_fewer own [] = omega arith
without_fewer own (x ∷ xs) =
    let h = without_fewer own xs in
    elim (is_other_than own x) as (λ b. length (cond b (x ∷ without own xs) (without own xs)) ≤ length (x ∷ xs))
    [ true ↦ omega arith | false ↦ omega arith ]

changed_length : (f : Section → Section) (own : ℕ) (l : List Section) → length (changed f own l) ≡ length l
changed_length f own [] = refl
changed_length f own (x ∷ xs) = ap (λ (n : ℕ). suc n) (changed_length f own xs)

by_change : (l m : List Section) → Change l m → (length m ≤ length l)
    ⊎ ((origin : ℕ) × (remote : ℕ) × (to : ℕ) × (m ≡ with_pair (first_new l) (second_new l) origin remote to l))
by_change l m Same = inl (omega arith)
by_change l m (Confirms s remote at near none) = let a = changed_length (confirmed remote) s.own l in inl (omega arith)
by_change l m (Ends s at alone) = let a = without_fewer s.own l in inl (omega arith)
by_change l m (EndsBoth s other at joined) = let a = without_fewer s.own l in let b = without_fewer other (without s.own l) in inl
    (omega arith)
by_change l m (Releases s other t at joined there some) = let a = without_fewer s.own l in let b =
    changed_length released other (without s.own l) in inl (omega arith)
by_change l m (Couples origin remote to unheard fits) = inr (origin, remote, to, refl)

-- what a step did that added sections
pub record Grows (l : List Section) (event : Event) : Type 0 where
  pub origin : ℕ
  pub remote : ℕ
  pub to : ℕ
  pub sections : (coupled l event).sections ≡ with_pair (first_new l) (second_new l) origin remote to l
  pub pair : made l event ≡ new_pair (first_new l) (second_new l) ∷ []
  pub silent : entries l event ≡ []

no_entry : (l : List Section) (event : Event) → data_of event.message ≡ None → entries l event ≡ []
no_entry l event h = ap (entry_if l event.origin) h

pub grows : (l : List Section) → IsCoupling l → (event : Event) → length l < length (coupled l event).sections → Grows l event
grows l c event more =
    ⊎_elim
    (λ (few : length (coupled l event).sections ≤ length l). absurd (omega arith))
    (λ (x : (origin : ℕ) × (remote : ℕ) × (to : ℕ)
    × ((coupled l event).sections ≡ with_pair (first_new l) (second_new l) origin remote to l)).
    record {
      origin = x.0;
      remote = x.1;
      to = x.2;
      sections = x.3;
      pair = made_one l event x.0 x.1 x.2 (keeps l event c) x.3;
      silent = quiet (turn l c event);
    })
    (by_change l (coupled l event).sections (changes l event))
  where
    quiet : Turn l event → entries l event ≡ []
    quiet (Plain none unheard plain loses) = no_entry l event none
    quiet (Passes dlr more' payload is after) = absurd (let a = ap (λ (x : List Section). length x) after in omega arith)
    quiet (Requests slr class point called params called_on params_on is after sent) = no_entry l event (ap data_of is)
    quiet (ConfirmsOn dlr slr class o r params u n is u_at u_from u_far u_none u_other n_at n_near n_other n_remote after sent) =
        no_entry l event (ap data_of is)

pub grows_not : (l : List Section) → IsCoupling l → (event : Event) → length (coupled l event).sections ≤ length l + 1 → made l event ≡ []
grows_not l c event few =
    made_none l event (go (makes l (coupled l event).sections c (changes l event)))
  where
    go : Makes l (coupled l event).sections → (q : ℕ) (t : Section) → section_at (coupled l event).sections q ≡ Some t
        → (s : Section) × (section_at l q ≡ Some s)
    go (NoPair k) q t h = let b = k.before q t h in (b.was, b.at)
    go (OnePair origin remote to is unheard fits) q t h =
        let a = ap (λ (x : List Section). length x) is in
        let b = length-append l (near_new (first_new l) (second_new l) origin remote ∷ far_new (first_new l) (second_new l) to ∷ []) in
        absurd (omega arith)

-- the two sections at the end are the new ones
at_end : (l : List Section) (x y : Section) (k : ℕ) → k ≡ length l → slice_get (l ++ x ∷ y ∷ []) k ≡ Some x
at_end [] x y zero e = refl
at_end [] x y (suc k) e = absurd (omega arith)
at_end (z ∷ zs) x y zero e = absurd (omega arith)
at_end (z ∷ zs) x y (suc k) e = at_end zs x y k (omega arith)

at_end_next : (l : List Section) (x y : Section) (k : ℕ) → k ≡ length l + 1 → slice_get (l ++ x ∷ y ∷ []) k ≡ Some y
at_end_next [] x y zero e = absurd (omega arith)
at_end_next [] x y (suc zero) e = refl
at_end_next [] x y (suc (suc k)) e = absurd (omega arith)
at_end_next (z ∷ zs) x y zero e = absurd (omega arith)
at_end_next (z ∷ zs) x y (suc k) e = at_end_next zs x y k (omega arith)

pub log_grows : (l : List Section) (event : Event) (log : List Passed) → Grows l event
    → filter (is_of_others (new_pair (first_new l) (second_new l))) log ≡ log_after l event log
log_grows l event log g =
    sym (ap (λ (x : List Passed). forget (made l event) (log ++ x)) g.silent ∙ ap (forget (made l event)) (append_nothing log)
    ∙ ap (λ (p : List Pair). forget p log) g.pair)
  where
    append_nothing : (xs : List Passed) → xs ++ [] ≡ xs
    append_nothing [] = refl
    append_nothing (x ∷ xs) = ap (λ (t : List Passed). x ∷ t) (append_nothing xs)

pub given_grows : (l : List Section) (event : Event) → Grows l event → flat_map both_of (made l event) ≡ first_new l ∷ second_new l ∷ []
given_grows l event g = ap (flat_map both_of) g.pair

-- the own reference of the section at a place
abbrev pub IsOwnAt : List Section → ℕ → ℕ → Type 0
IsOwnAt l i own = (s : Section) → slice_get l i ≡ Some s → own ≡ s.own

-- after a step that added sections, the last two give the references
record LastTwo (l : List Section) (event : Event) (n k : ℕ) : Type 0 where
  pub grown : Grows l event
  pub near : n ≡ first_new l
  pub far : k ≡ second_new l

last_two : (l after : List Section) (event : Event) (n k i : ℕ) → IsCoupling l → after ≡ (coupled l event).sections → i ≡ length l
    → i + 1 < length after → IsOwnAt after i n → IsOwnAt after (i + 1) k → LastTwo l event n k
last_two l after event n k i c is at more near_is far_is =
    let same = ap (λ (s : List Section). length s) is in
    let g = grows l c event (omega arith) in
    let near : Section = near_new (first_new l) (second_new l) g.origin g.remote in
    let far : Section = far_new (first_new l) (second_new l) g.to in
    let whole : after ≡ l ++ near ∷ far ∷ [] = is ∙ g.sections in
    record {
      grown = g;
      near = near_is near (ap (λ (s : List Section). slice_get s i) whole ∙ at_end l near far i at);
      far = far_is far (ap (λ (s : List Section). slice_get s (i + 1)) whole ∙ at_end_next l near far (i + 1) (omega arith));
    }

pub then_passed : (l after : List Section) (event : Event) (n k i : ℕ) → IsCoupling l → after ≡ (coupled l event).sections → i ≡ length l
    → i + 1 < length after → IsOwnAt after i n → IsOwnAt after (i + 1) k →
    (log : List Passed) → filter (is_of_others (new_pair n k)) log ≡ log_after l event log
then_passed l after event n k i c is at more near_is far_is log =
    let t = last_two l after event n k i c is at more near_is far_is in
    ap (λ (x : ℕ). filter (is_of_others (new_pair x k)) log) t.near
    ∙ ap (λ (x : ℕ). filter (is_of_others (new_pair (first_new l) x)) log) t.far ∙ log_grows l event log t.grown

pub then_given : (l after : List Section) (event : Event) (n k i : ℕ) → IsCoupling l → after ≡ (coupled l event).sections → i ≡ length l
    → i + 1 < length after → IsOwnAt after i n → IsOwnAt after (i + 1) k → n ∷ k ∷ [] ≡ flat_map both_of (made l event)
then_given l after event n k i c is at more near_is far_is =
    let t = last_two l after event n k i c is at more near_is far_is in
    ap (λ (x : ℕ). x ∷ k ∷ []) t.near ∙ ap (λ (x : ℕ). first_new l ∷ x ∷ []) t.far ∙ sym (given_grows l event t.grown)

else_none : (l after : List Section) (event : Event) (i : ℕ) → IsCoupling l → after ≡ (coupled l event).sections → i ≡ length l
    → length after ≤ i + 1 → made l event ≡ []
else_none l after event i c is at few = let same = ap (λ (s : List Section). length s) is in grows_not l c event (omega arith)

pub else_passed : (l after : List Section) (event : Event) (i : ℕ) → IsCoupling l → after ≡ (coupled l event).sections → i ≡ length l
    → length after ≤ i + 1 → (log : List Passed) → log ++ entries l event ≡ log_after l event log
else_passed l after event i c is at few log = sym (ap (λ (p : List Pair). forget p (log ++ entries l event))
    (else_none l after event i c is at few))

pub else_given : (l after : List Section) (event : Event) (i : ℕ) → IsCoupling l → after ≡ (coupled l event).sections → i ≡ length l
    → length after ≤ i + 1 → (given : List ℕ) → given ≡ given ++ flat_map both_of (made l event)
else_given l after event i c is at few given =
    sym (ap (λ (p : List Pair). given ++ flat_map both_of p) (else_none l after event i c is at few) ∙ append_nothing given)
  where
    append_nothing : (xs : List ℕ) → xs ++ [] ≡ xs
    append_nothing [] = refl
    append_nothing (x ∷ xs) = ap (λ (t : List ℕ). x ∷ t) (append_nothing xs)
