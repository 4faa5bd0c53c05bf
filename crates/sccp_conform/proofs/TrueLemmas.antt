-- What the lines of a judgement say is true.
use Rattle.std.proofs.Common.{List, []}
use Rattle.plan_model.specs.Network.{Network}
use Rattle.relay_watch.proofs.Once.{once}
use Rattle.relay_watch.proofs.Told.{explained, unexplained_from}
use Rattle.relay_watch.specs.Runs.{NumbersDiffer}
use Rattle.relay_watch.specs.declared.event.Event.{Event}
use Rattle.sccp_conform.specs.Meaning.{AreTrue}
use Rattle.sccp_conform.proofs.UnansweredLemmas.{given_up, left_over}
use Rattle.sccp_work.specs.Judgement.{Judgement, IsJudgement}

pub are_true : (plan : Network) (events : List Event) (j : Judgement) → NumbersDiffer events → IsJudgement plan events j
    → AreTrue plan events j
are_true plan events j differ is = record {
  explained = λ i by e ways at has. explained plan events j.lines j.left.waiting i by e ways is.judged at has;
  once = λ i k by ways others one other. once plan events j.lines j.left.waiting i k by ways others is.judged differ one other;
  unexplained = λ i k node e a v sent has lacks at from reads before arrived to unnamed.
      unexplained_from plan events j.lines
      [] j.left.waiting i k node e a v sent is.judged has lacks at from reads before arrived to unnamed;
  given_up = λ i line u at e. given_up plan events j i line u differ is at e;
  unanswered = λ i u at. left_over plan events j i u differ is at;
}
