-- The text of the lines of a batch, one after the other.
use Rattle.std.proofs.Common.{◌≡◌, ℕ, List, [], ◌∷◌, ◌++◌, length, map, refl, sym, ◌∙◌, ap, subst, append_assoc, append-nil}
use Rattle.sccp_base.specs.declared.mark.Mark.{Mark}
use Rattle.relay_net.specs.Batches.{applied_after}
use Rattle.relay_net.specs.States.{State, markings_of}
use Rattle.relay_net.specs.declared.served.Served.{Served}
use Rattle.relay_net.specs.declared.travelled.Journey.{Journey}
use Rattle.sccp_report.specs.Served.{served_text}
use Rattle.sccp_replay.specs.Replay.{Standing, Settled, prints, routes, Told, after_text, tell, told_at}
use Rattle.sccp_replay.specs.Replayers.{AreRouted, CanFollow, left_of, number_in, settled_in, told_of}
use Rattle.sccp_replay.specs.declared.settled as code

-- what the line leaves is as in the definition
one_told : (at : Standing) (markings : List (List Mark)) (states : List State) (s : Settled) (ss : List Settled) (served : List Served)
    → AreRouted at markings (s ∷ ss) served
    → tell at markings states (s ∷ ss) (map number_in served)
    ≡ after_text (told_of at.first states s served).text
    (tell at markings (told_of at.first states s served).states ss (map number_in (left_of s served)))
unfolding tell
one_told at markings states (prints text) ss served routed = refl
one_told at markings states (routes line x before) ss [] routed = absurd routed
one_told at markings states (routes line x before) ss (one ∷ served) routed =
    let after : Journey → Told = λ j. let a = applied_after at.first states x j in
    after_text (served_text at.first line one.number j a.outcomes) (tell at markings a.states ss (map number_in served)) in
    sym (ap after routed.0.journey)

left_routed : (at : Standing) (markings : List (List Mark)) (s : Settled) (ss : List Settled) (served : List Served)
    → AreRouted at markings (s ∷ ss) served → AreRouted at markings ss (left_of s served)
left_routed at markings (prints text) ss served routed = routed
left_routed at markings (routes line x before) ss [] routed = absurd routed
left_routed at markings (routes line x before) ss (one ∷ served) routed = routed.1

can_follow : (at : Standing) (markings : List (List Mark)) (s : Settled) (ss : List Settled) (served : List Served)
    → AreRouted at markings (s ∷ ss) served → CanFollow (length at.first.nodes) s served
can_follow at markings (prints text) ss served routed = tt
can_follow at markings (routes line x before) ss [] routed = absurd routed
can_follow at markings (routes line x before) ss (one ∷ served) routed = routed.0.due

abbrev with_states : Standing → List State → Standing
with_states s states = record s { states = states }

-- The text of a part of a batch was made, and these lines and answers are left of it.
pub record Telling (first now : Standing) (text : List ℕ) (all left : List code.Settled.Settled)
    (served waiting : List Served) : Type 0 where
  pub at : now ≡ record first { states = now.states }
  pub routed : AreRouted first (markings_of first.states) (map settled_in left) waiting
  pub told : after_text text (tell first (markings_of first.states) now.states (map settled_in left) (map number_in waiting))
      ≡ told_at first (map settled_in all) (map number_in served)

pub none_told : (first : Standing) (all : List code.Settled.Settled) (served : List Served)
    → AreRouted first (markings_of first.states) (map settled_in all) served → Telling first first [] all all served served
none_told first all served routed = record { at = refl; routed = routed; told = refl }

pub next_follows : (first now : Standing) (text : List ℕ) (all left : List code.Settled.Settled) (s : code.Settled.Settled)
    (served waiting : List Served) → Telling first now text all (s ∷ left) served waiting
    → CanFollow (length now.first.nodes) (settled_in s) waiting
next_follows first now text all left s served waiting t =
    subst (λ (a : Standing). CanFollow (length a.first.nodes) (settled_in s) waiting) (sym t.at)
    (can_follow first (markings_of first.states) (settled_in s) (map settled_in left) waiting t.routed)

abbrev told_with : List ℕ → List State → Told
told_with text states = record { text = text; states = states }

after_twice : (a b : List ℕ) (t : Told) → after_text (a ++ b) t ≡ after_text a (after_text b t)
after_twice a b t = ap (λ x. told_with x t.states) (append_assoc a b t.text)

pub more_told : (first now after : Standing) (text text' : List ℕ) (all left : List code.Settled.Settled) (s : code.Settled.Settled)
    (served waiting waiting' : List Served) → Telling first now text all (s ∷ left) served waiting
    → text' ≡ text ++ (told_of now.first now.states (settled_in s) waiting).text
    → after ≡ record now { states = (told_of now.first now.states (settled_in s) waiting).states }
    → waiting' ≡ left_of (settled_in s) waiting → Telling first after text' all left served waiting'
more_told first now after text text' all left s served waiting waiting' t more is rest =
    let m = markings_of first.states in
    let ss = map settled_in left in
    let one = told_of first.first now.states (settled_in s) waiting in
    let same : told_of now.first now.states (settled_in s) waiting ≡ one =
    ap (λ (a : Standing). told_of a.first now.states (settled_in s) waiting) t.at in
    let states : after.states ≡ one.states = ap (λ (a : Standing). a.states) is ∙ ap (λ (o : Told). o.states) same in
    record {
      at = is ∙ ap (λ (o : Told). with_states now o.states) same ∙ ap (λ (a : Standing). with_states a one.states) t.at
          ∙ sym (ap (with_states first) states);
      routed = subst (AreRouted first m ss) (sym rest) (left_routed first m (settled_in s) ss waiting t.routed);
      told = ap (λ w. after_text text' (tell first m after.states ss (map number_in w))) rest
          ∙ ap (λ k. after_text text' (tell first m k ss (map number_in (left_of (settled_in s) waiting)))) states
          ∙ ap (λ x. after_text x (tell first m one.states ss (map number_in (left_of (settled_in s) waiting)))) (more
          ∙ ap (λ (o : Told). text ++ o.text) same)
          ∙ after_twice text one.text (tell first m one.states ss (map number_in (left_of (settled_in s) waiting)))
          ∙ sym (ap (after_text text) (one_told first m now.states (settled_in s) ss waiting t.routed))
          ∙ t.told;
    }

-- nothing is left
pub all_told : (first now : Standing) (text : List ℕ) (all : List code.Settled.Settled) (served waiting : List Served)
    → Telling first now text all [] served waiting
    → (text ≡ (told_at first (map settled_in all) (map number_in served)).text)
    × (now ≡ record first { states = (told_at first (map settled_in all) (map number_in served)).states })
unfolding tell
all_told first now text all served waiting t = (
  sym (append-nil text) ∙ ap (λ (x : Told). x.text) t.told,
  t.at
      ∙ ap (λ (x : Told). with_states first x.states) t.told,
)
