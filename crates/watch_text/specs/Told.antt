-- What the printed line of a message determines: its number, the kind of its verdict, and the arrival that explains it.
use Rattle.std.specs.Prelude.{ℕ, ◌≡◌, ◌<◌, ◌^◌, List, Option}
use Rattle.plan_model.specs.Network.{Network}
use Rattle.relay_ways.specs.declared.explanation.Explanation.{Explanation}
use Rattle.relay_watch.specs.declared.event.Event.{Event}
use Rattle.relay_watch.specs.declared.line.Line.{Line}
use Rattle.relay_watch.specs.declared.verdict.Verdict.{Verdict}
use Rattle.relay_watch.specs.declared.verdict.Verdict.TheVariants.{Undecodable, Connection, Other, Arrived, Explained, Management, Own}
use Rattle.relay_watch.specs.declared.verdict.Verdict.TheVariants.{Unexplained}
use Rattle.watch_text.specs.Lines.{line_text}

-- the place of a verdict's kind among all kinds, from 0
abbrev pub kind : Verdict → ℕ
kind (Undecodable fault) = 0
kind Connection = 1
kind Other = 2
kind Arrived = 3
kind (Explained by ways) = 4
kind (Management status) = 5
kind (Own ssn) = 6
kind (Unexplained why) = 7

-- two lines that are printed alike have the same number, whatever the plans and the messages
abbrev pub LineTellsNumber : Type 0
LineTellsNumber =
    (old new : Network) (p q : Option ℕ) (e f : Event) (v w : Line) → e.number < 2 ^ 64 → f.number < 2 ^ 64
    → line_text old p e v ≡ line_text new q f w → e.number ≡ f.number

-- two lines on one message that are printed alike have verdicts of one kind
abbrev pub LineTellsKind : Type 0
LineTellsKind = (plan : Network) (packet : Option ℕ) (e : Event) (v w : Line) → line_text plan packet e v ≡ line_text plan packet e w
    → kind v.verdict ≡ kind w.verdict

-- and if they explain it, it is by the same arrival
abbrev pub LineTellsReason : Type 0
LineTellsReason =
    (plan : Network) (packet : Option ℕ) (e : Event) (v w : Line) (a b : ℕ) (xs ys : List Explanation) → a < 2 ^ 64 → b < 2 ^ 64
    → v.verdict ≡ Explained a xs → w.verdict ≡ Explained b ys → line_text plan packet e v ≡ line_text plan packet e w → a ≡ b
