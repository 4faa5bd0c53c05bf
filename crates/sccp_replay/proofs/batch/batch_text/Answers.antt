use Rattle.std.proofs.Common.{◌≡◌, ℕ, List, [], ◌∙◌, Err, length, map, sym, ap, subst, arith}
use Rattle.std.proofs.lemmas.Result.{err_from_is_err_and}
use Rattle.sccp_replay.specs.Gathering.{MayBeDone, lines_in}
use Rattle.sccp_work.specs.Moment.{Moment, moment}
use Rattle.sccp_work.specs.Numbers.{AreNumbers}
use Rattle.sccp_replay.specs.Replay.{Standing, Settled, batch_of, told_at}
use Rattle.sccp_replay.specs.Replayers.{number_in, settled_in}
use Rattle.sccp_replay.specs.Replaying.{BatchStops, SettlesTo}
use Rattle.sccp_replay.specs.Routings.{ahead}
use Rattle.sccp_replay.proofs.BatchSteps.{settled_memory, batch_told}
use Rattle.sccp_replay.proofs.ReplayerLemmas.{none_ahead}
use Rattle.sccp_replay.proofs.batch.batch_text.Goals as goal

pub settle-requires-clause-joined : goal.settle-requires-clause-joined
settle-requires-clause-joined g c =
    subst (λ (a : Standing). MayBeDone a c.args.joined) (sym (ap (ahead c.args.at.now) c.new-coming.ensures
    ∙ none_ahead c.args.at.now)) c.requires

pub returns-clause-few : goal.returns-clause-few
returns-clause-few g c =
    let none = ap (λ (a : Standing). length a.later) (ap (ahead c.args.at.now) c.new-coming.ensures ∙ none_ahead c.args.at.now) in
    let routed = ap (λ (a : Standing). length a.later) c.in_ok-served.ensures.at in
    let told = ap (λ (a : Standing). length a.later) c.in_ok-text.ensures.at in
    let few = c.in_ok-settled.ensures.few in
    omega (arith, none, routed, told, few)

pub returns-in_err-settled-clause-gives : goal.returns-in_err-settled-clause-gives
returns-in_err-settled-clause-gives g c =
    let p = err_from_is_err_and c.from_residual.result c.from_residual.ensures.1 in
    let b : Moment = moment g.F.Files.contents g.F.Files.sound g.F.Files.faults g.K.Sink.taken g.K.Sink.faults c.args.files.now
    c.args.out.now in
    let m : Moment = moment g.F.Files.contents g.F.Files.sound g.F.Files.faults g.K.Sink.taken g.K.Sink.faults c.settle.new.files
    c.settle.new.out in
    rw (p.1, p.2) (subst (λ (a : Standing). BatchStops a (lines_in c.args.joined) (Err c.in_err-settled.field-0.0) b m)
    (ap (ahead c.args.at.now) c.new-coming.ensures ∙ none_ahead c.args.at.now) c.in_err-settled.ensures.gives)

pub returns-in_err-served-clause-gives : goal.returns-in_err-served-clause-gives
returns-in_err-served-clause-gives g c =
    let p = err_from_is_err_and c.from_residual-in_err-served.result c.from_residual-in_err-served.ensures.1 in
    let b : Moment = moment g.F.Files.contents g.F.Files.sound g.F.Files.faults g.K.Sink.taken g.K.Sink.faults c.args.files.now
    c.args.out.now in
    let m : Moment = moment g.F.Files.contents g.F.Files.sound g.F.Files.faults g.K.Sink.taken g.K.Sink.faults c.settle.new.files
    c.settle.new.out in
    let at : Standing = ahead c.args.at.now c.settle.new.coming in
    let ss : List Settled = map settled_in c.in_ok-settled.settled in
    rw (p.1, p.2) (settled_memory c.args.at.now (lines_in c.args.joined) at ss [] b m
    (subst (λ (a : Standing). SettlesTo a (lines_in c.args.joined) at ss [] b m) (ap (ahead c.args.at.now) c.new-coming.ensures
    ∙ none_ahead c.args.at.now) c.in_ok-settled.ensures.gives))

pub returns-in_err-text-clause-gives : goal.returns-in_err-text-clause-gives
returns-in_err-text-clause-gives g c =
    let p = err_from_is_err_and c.from_residual-in_err-text.result c.from_residual-in_err-text.ensures.1 in
    let b : Moment = moment g.F.Files.contents g.F.Files.sound g.F.Files.faults g.K.Sink.taken g.K.Sink.faults c.args.files.now
    c.args.out.now in
    let m : Moment = moment g.F.Files.contents g.F.Files.sound g.F.Files.faults g.K.Sink.taken g.K.Sink.faults c.settle.new.files
    c.settle.new.out in
    let at : Standing = ahead c.args.at.now c.settle.new.coming in
    let ss : List Settled = map settled_in c.in_ok-settled.settled in
    rw (p.1, p.2) (settled_memory c.args.at.now (lines_in c.args.joined) at ss [] b m
    (subst (λ (a : Standing). SettlesTo a (lines_in c.args.joined) at ss [] b m) (ap (ahead c.args.at.now) c.new-coming.ensures
    ∙ none_ahead c.args.at.now) c.in_ok-settled.ensures.gives))

pub returns-clause-gives : goal.returns-clause-gives
returns-clause-gives g c =
    let b : Moment = moment g.F.Files.contents g.F.Files.sound g.F.Files.faults g.K.Sink.taken g.K.Sink.faults c.args.files.now
    c.args.out.now in
    let m : Moment = moment g.F.Files.contents g.F.Files.sound g.F.Files.faults g.K.Sink.taken g.K.Sink.faults c.settle.new.files
    c.settle.new.out in
    let now : Standing = c.args.at.now in
    let at : Standing = ahead now c.settle.new.coming in
    let mid : Standing = c.route.new.self in
    let ss : List Settled = map settled_in c.in_ok-settled.settled in
    let text : List ℕ = c.in_ok-text.text in
    let ns : List ℕ = map number_in c.in_ok-served.served in
    let e = c.in_ok-text.ensures in
    batch_told now at c.tell.new.at (lines_in c.args.joined) c.in_ok-settled.settled ns text b m
    (subst (λ (a : Standing). SettlesTo a (lines_in c.args.joined) at ss [] b m) (ap (ahead now) c.new-coming.ensures
    ∙ none_ahead now) c.in_ok-settled.ensures.gives)
    (subst (λ xs. AreNumbers (batch_of now at (map settled_in xs)) ns) c.as_slice-settled.ensures c.in_ok-served.ensures.served.numbers)
    (subst (λ a. text ≡ (told_at a ss ns).text) c.in_ok-served.ensures.at
    (subst (λ vs. text ≡ (told_at mid ss (map number_in vs)).text) c.as_slice.ensures
    (subst (λ xs. text ≡ (told_at mid (map settled_in xs) (map number_in c.as_slice.result.now)).text) c.as_slice-settled.ensures e.text)))
    (subst (λ a. c.tell.new.at ≡ record a { states = (told_at a ss ns).states }) c.in_ok-served.ensures.at
    (subst (λ vs. c.tell.new.at ≡ record mid { states = (told_at mid ss (map number_in vs)).states }) c.as_slice.ensures
    (subst (λ xs. c.tell.new.at
    ≡ record mid {
      states = (told_at mid (map settled_in xs)
          (map number_in c.as_slice.result.now)).states;
    }) c.as_slice-settled.ensures e.at)))
