-- A judgement counts its unexplained messages: there is none exactly if no line says so.
use Rattle.std.proofs.Common.{◌≡◌, ℕ, zero, suc, ◌≤◌, Bool, true, false, cond, not, ◌&&◌, ◌||◌, eqb, List, [], ◌∷◌, refl, ◌∙◌, ap, arith}
use Rattle.std.proofs.Math.Dec.{eqb-suc-zero}
use Rattle.std.proofs.Math.Nat.{le-min}
use Rattle.plan_model.specs.Network.{Network}
use Rattle.relay_watch.specs.Differing.{differs}
use Rattle.relay_watch.specs.Kept.{Kept, nothing_kept, one_more, one_more_if, is_unexplained}
use Rattle.relay_watch.specs.Watching.{AreWatched}
use Rattle.relay_watch.specs.declared.event.Event.{Event}
use Rattle.relay_watch.specs.declared.line.Line.{Line}
use Rattle.sccp_conform.specs.Reports.{status_of}
use Rattle.sccp_work.specs.Judgement.{Judgement, IsJudgement}
use Rattle.sccp_work.specs.declared.status.Status.TheVariants.{Done, Differs}

-- whether the count is 0
abbrev none : ℕ → Bool
none count = eqb count 0

positive : (n : ℕ) → 1 ≤ n → none n ≡ false
positive zero le = absurd (omega arith)
positive (suc n) le = eqb-suc-zero n

after_one : (b : Bool) (count : ℕ) → none (one_more_if b count) ≡ (not b && none count)
after_one true count = positive (one_more count) (le-min (omega arith) (omega arith))
after_one false count = refl

both : (a b c : Bool) → (not b && (not a && c)) ≡ (not (a || b) && c)
both true true c = refl
both true false c = refl
both false true c = refl
both false false c = refl

after_all : (plan : Network) (old : Kept) (events : List Event) (lines : List Line) (new : Kept) → AreWatched plan old events lines new
    → none new.unexplained ≡ (not (differs lines) && none old.unexplained)
after_all plan old [] [] new h = ap (λ (k : Kept). none k.unexplained) h
after_all plan old [] (line ∷ lines) new h = absurd h
after_all plan old (e ∷ events) [] new h = absurd h
after_all plan old (e ∷ events) (line ∷ lines) new h =
    let b : Bool = is_unexplained line.verdict in
    after_all plan h.0 events lines new h.2
    ∙ ap (λ c. not (differs lines) && c) (ap none h.1.unexplained_are ∙ after_one b old.unexplained)
    ∙ both b (differs lines) (none old.unexplained)

-- so the answer is by the lines
pub status_by_lines : (plan : Network) (events : List Event) (j : Judgement) → IsJudgement plan events j
    → status_of j ≡ cond (differs j.lines) Differs Done
status_by_lines plan events j is =
    ap (λ b. cond b Done Differs) (after_all plan (nothing_kept plan) events j.lines j.left is.watched) ∙ by (differs j.lines) where
      by : (b : Bool) → cond (not b && true) Done Differs ≡ cond b Differs Done
      by true = refl
      by false = refl
