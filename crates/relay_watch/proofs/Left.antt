-- What waits after a message, as the code changes the list.
use Rattle.std.proofs.Common.{◌≡◌, ℕ, zero, suc, ◌+◌, ◌<◌, ◌≤◌, Bool, true, false, List, [], ◌∷◌, ◌++◌, length, take, drop, Option, Some}
use Rattle.std.proofs.Common.{None, refl, sym, ◌∙◌, ap, subst, get_or, arith, length-append}
use Rattle.std.specs.Prelude.{nat_lt, if◌then◌else◌, slice_get, IfSome, Result, Ok, Err}
use Rattle.std.specs.List.{All, remove}
use Rattle.std.specs.Option.{option_to_list}
use Rattle.std.proofs.lemmas.Bool.{ltb-false, lt-ltb, le-ltb, cond-true, cond-false}
use Rattle.std.proofs.lemmas.List.Edits.{length-remove, remove-append_left}
use Rattle.std.proofs.lemmas.List.Elements.{All-append, All-take, All-drop, All-nil, All-cons}
use Rattle.sccp_message.specs.declared.fault.DecodeFault.{DecodeFault}
use Rattle.sccp_message.specs.declared.message.Message.{Message}
use Rattle.sccp_message.specs.Reading.{reading}
use Rattle.sccp_message.specs.Unitdata.{called_of}
use Rattle.sccp_address.specs.declared.address.Address.{Address}
use Rattle.plan_model.specs.Network.{Network}
use Rattle.relay_watch.specs.Arrivals.{IsWaiting, AreWaiting, most_waiting, joined, kept, given_up, ended, given_if, source, begins}
use Rattle.relay_watch.specs.Judging.{IsFoundAt, IsFoundBy, IsFound, IsSaid, place_of}
use Rattle.relay_watch.specs.declared.answered.Answered.{Answered}
use Rattle.relay_watch.specs.declared.event.Event.{Event}
use Rattle.relay_watch.specs.declared.found.Found.{Found}
use Rattle.relay_watch.specs.declared.judged.Judged.{Judged}
use Rattle.relay_watch.specs.declared.waiting.Waiting.{Waiting}

-- ---- too many wait, or not

pub kept_all : (ws : List Waiting) → length ws ≤ most_waiting → (kept ws ≡ ws) × (given_up ws ≡ None)
kept_all ws le =
    let no = le-ltb most_waiting (length ws) le in (
      cond-false (nat_lt most_waiting (length ws)) (drop 1 ws) ws no,
      cond-false (nat_lt most_waiting (length ws)) (slice_get ws 0) None no,
    )

pub kept_less : (ws : List Waiting) (w : Waiting) → most_waiting < length ws → w ≡ get_or ws 0 w
    → (kept ws ≡ remove ws 0) × (given_up ws ≡ Some w)
kept_less [] w over is = absurd (omega (arith, over))
kept_less (x ∷ xs) w over is =
    let yes = lt-ltb most_waiting (length (x ∷ xs)) over in (
      cond-true (nat_lt most_waiting (length (x ∷ xs))) (drop 1 (x ∷ xs)) (x ∷ xs) yes,
      cond-true (nat_lt most_waiting (length (x ∷ xs))) (slice_get (x ∷ xs) 0) None yes ∙ ap Some (sym is),
    )

-- ---- the place of what was found

at_inside : {X : Type 0} (xs : List X) (i : ℕ) (x : X) → slice_get xs i ≡ Some x → i < length xs
at_inside [] zero x e = absurd cc
at_inside [] (suc i) x e = absurd cc
at_inside (y ∷ ys) zero x e = omega arith
at_inside (y ∷ ys) (suc i) x e = omega (arith, at_inside ys i x e)

found_inside : (plan : Network) (ws : List Waiting) (e : Event) (m : Message) (found : Option Found) (o : Option ℕ)
    → IsFoundAt plan ws e m found o → IfSome (place_of found) (λ p. p < length ws)
found_inside plan ws e m None o is = tt
found_inside plan ws e m (Some f) None is = absurd cc
found_inside plan ws e m (Some f) (Some node) is = at_inside ws f.place is.arrival is.at

nothing_inside : (ws : List Waiting) (found : Option Found) → found ≡ None → IfSome (place_of found) (λ p. p < length ws)
nothing_inside ws None e = tt
nothing_inside ws (Some f) e = absurd cc

called_inside : (plan : Network) (ws : List Waiting) (e : Event) (m : Message) (found : Option Found) (o : Option Address)
    → IsFoundBy plan ws e m found o → IfSome (place_of found) (λ p. p < length ws)
called_inside plan ws e m found None is = nothing_inside ws found is
called_inside plan ws e m found (Some a) is = found_inside plan ws e m found (source plan e) is

read_inside : (plan : Network) (ws : List Waiting) (e : Event) (found : Option Found) (r : Result Message DecodeFault)
    → IsFound plan ws e found r → IfSome (place_of found) (λ p. p < length ws)
read_inside plan ws e found (Err fault) is = nothing_inside ws found is
read_inside plan ws e found (Ok m) is = called_inside plan ws e m found (called_of m) is

pub place_inside : (plan : Network) (ws : List Waiting) (xs : List Answered) (e : Event) (r : Result Message DecodeFault) (j : Judged)
    → IsSaid plan ws xs e r j → IfSome j.place (λ p. p < length ws)
place_inside plan ws xs e r j said =
    subst (λ (o : Option ℕ). IfSome o (λ p. p < length ws)) (sym said.place_is) (read_inside plan ws e said.found r said.search)

-- the same with one more behind
pub place_still : (ws : List Waiting) (new : Option Waiting) (o : Option ℕ) → IfSome o (λ p. p < length ws)
    → IfSome o (λ p. p < length (ws ++ option_to_list new))
place_still ws new None inside = tt
place_still ws new (Some p) inside = omega (arith, inside, length-append ws (option_to_list new))

-- ---- the list afterwards

at_most_one : (new : Option Waiting) → length (option_to_list new) ≤ 1
at_most_one None = omega arith
at_most_one (Some w) = omega arith

pub ends_as : (old : List Waiting) (place : Option ℕ) (new : Option Waiting) → length old ≤ most_waiting
    → IfSome place (λ p. p < length old)
    → (ended (old ++ option_to_list new) place ≡ kept (joined old place new))
    × (given_if (old ++ option_to_list new) place ≡ given_up (joined old place new))
ends_as old None new few inside = (refl, refl)
ends_as old (Some p) new few inside =
    let same = remove-append_left old (option_to_list new) p inside in
    let le : length (remove old p ++ option_to_list new) ≤ most_waiting =
    omega (arith, few, at_most_one new, length-append (remove old p) (option_to_list new), length-remove old p inside) in
    let k = kept_all (remove old p ++ option_to_list new) le in
    (same ∙ sym k.0, sym k.1)

fewer : (xs : List Waiting) → length xs ≤ most_waiting + 1 → length (drop 1 xs) ≤ most_waiting
fewer [] h = omega arith
fewer (x ∷ xs) h = omega (arith, h)

kept_waiting : (ws : List Waiting) → All IsWaiting ws → length ws ≤ most_waiting + 1 → AreWaiting (kept ws)
kept_waiting ws all le = by (nat_lt most_waiting (length ws)) refl where
  by : (b : Bool) → nat_lt most_waiting (length ws) ≡ b → AreWaiting (if b then drop 1 ws else ws)
  by true e = record { each = All-drop IsWaiting 1 ws all; few = fewer ws le }
  by false e = record { each = all; few = ltb-false most_waiting (length ws) e }

new_waiting : (new : Option Waiting) → IfSome new IsWaiting → All IsWaiting (option_to_list new)
new_waiting None is = All-nil IsWaiting
new_waiting (Some w) is = All-cons IsWaiting w [] is (All-nil IsWaiting)

-- what waits afterwards
pub still_waiting : (old : List Waiting) (place : Option ℕ) (new : Option Waiting) → AreWaiting old → IfSome place (λ p. p < length old)
    → IfSome new IsWaiting → AreWaiting (ended (old ++ option_to_list new) place)
still_waiting old None new are inside is =
    kept_waiting (old ++ option_to_list new) (All-append IsWaiting old (option_to_list new) are.each (new_waiting new is))
    (omega (arith, are.few, at_most_one new, length-append old (option_to_list new)))
still_waiting old (Some p) new are inside is =
    let all : All IsWaiting (old ++ option_to_list new) =
    All-append IsWaiting old (option_to_list new) are.each (new_waiting new is) in
    let more : p < length (old ++ option_to_list new) = omega (arith, inside, length-append old (option_to_list new)) in
    record {
      each = All-append IsWaiting (take p (old ++ option_to_list new)) (drop (suc p) (old ++ option_to_list new))
          (All-take IsWaiting p (old ++ option_to_list new) all) (All-drop IsWaiting (suc p) (old ++ option_to_list new) all);
      few = omega (
        arith,
        are.few,
        at_most_one new,
        length-append old (option_to_list new),
        length-remove (old ++ option_to_list new) p more,
      );
    }

-- what waits afterwards, and the arrival that is given up
pub record Leaves (plan : Network) (old : List Waiting) (e : Event) (j : Judged) (found : Option Found) (given : Option Waiting)
    (next : List Waiting) : Type 0 where
  pub given_is : given ≡ given_up (joined old (place_of found) (begins plan e (reading e.octets)))
  pub left : next ≡ kept (joined old (place_of found) (begins plan e (reading e.octets)))

pub leaves : (plan : Network) (old : List Waiting) (xs : List Answered) (e : Event) (j : Judged) (given : Option Waiting)
    (next : List Waiting)
    → AreWaiting old → (said : IsSaid plan old xs e (reading e.octets) j) → next ≡ ended (old ++ option_to_list j.begins) j.place
    → given ≡ given_if (old ++ option_to_list j.begins) j.place → Leaves plan old e j said.found given next
leaves plan old xs e j given next are said left g =
    let end = ends_as old j.place j.begins are.few (place_inside plan old xs e (reading e.octets) j said) in
    record {
      given_is = g ∙ end.1 ∙ ap given_up (both said.place_is said.begins_is);
      left = left ∙ end.0 ∙ ap kept (both said.place_is said.begins_is);
    }
  where
    both : j.place ≡ place_of said.found → j.begins ≡ begins plan e (reading e.octets)
        → joined old j.place j.begins ≡ joined old (place_of said.found) (begins plan e (reading e.octets))
    both p b = λ i. joined old (p i) (b i)
