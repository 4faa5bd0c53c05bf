use Rattle.std.specs.Prelude.{IfOk, OnOk}
use Rattle.std.proofs.Common.{◌≡◌, [], ◌++◌, subst, sym}
use Rattle.watch_items.specs.Captures.{Heard, State, ahead}
use Rattle.watch_items.proofs.PacketLemmas.{at_end}
use Rattle.watch_items.proofs.capture_items.CaptureItems.finish.Goals as goal

pub returns-clause-ending : goal.returns-clause-ending
returns-clause-ending c =
    let old : State = record { reader = c.self.inside.reader; now = c.self.inside.packets } in
    subst (λ (s : State). IfOk c.finish.result (λ ending. ending ≡ (ahead s []).ending)) c.self.view_is
    (subst (λ (h : Heard). IfOk c.finish.result (λ ending. ending ≡ h.ending))
    (sym (at_end old c.finish-fault.result c.finish-fault.ensures.exact)) c.finish.ensures.ending)

pub returns-clause-items : goal.returns-clause-items
returns-clause-items c =
    let old : State = record { reader = c.self.inside.reader; now = c.self.inside.packets } in
    subst (λ (s : State). OnOk c.finish.result (c.finish.new.items ≡ c.args.items.now ++ (ahead s []).items)) c.self.view_is
    (subst (λ (h : Heard). OnOk c.finish.result (c.finish.new.items ≡ c.args.items.now ++ h.items))
    (sym (at_end old c.finish-fault.result c.finish-fault.ensures.exact)) c.finish.ensures.items)
