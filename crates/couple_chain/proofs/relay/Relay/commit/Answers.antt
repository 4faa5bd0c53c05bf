use Rattle.std.proofs.Common.{◌≡◌, sym, ap, subst, ◌∙◌}
use Rattle.sccp_couple.specs.Coupling.{coupled}
use Rattle.sccp_couple.specs.Exchanges.{Exchanging}
use Rattle.couple_chain.specs.Relays.{Relaying, event_with, relay_after}
use Rattle.couple_chain.proofs.Noted.{stepped}
use Rattle.couple_chain.proofs.relay.Relay.commit.Goals as goal

pub returns-clause-ok : goal.returns-clause-ok
returns-clause-ok c = λ way.
    let old : Exchanging = c.self.inside.exchange in
    let r : Relaying = record
    { node = old.node; sections = old.sections; passed = c.self.inside.passed.items; given = c.self.inside.given.items } in
    subst
    (λ (x : Relaying). c.args.exchange.sections ≡ (coupled x.sections (event_with c.args.origin c.args.message.now way)).sections →
    record {
      node = c.args.exchange.node;
      sections = c.args.exchange.sections;
      passed = c.note.new.passed.items;
      given = c.note.new.given.items;
    } ≡ relay_after x (event_with c.args.origin c.args.message.now way))
    c.self.view_is
    (λ is. stepped r c.args.exchange.node c.args.exchange.sections c.note.new.passed.items c.note.new.given.items
    (event_with c.args.origin c.args.message.now way)
    (c.requires.node ∙ ap (λ (x : Relaying). x.node) (sym c.self.view_is)) is (c.in_ok-note.ensures.passed way is)
    (c.in_ok-note.ensures.given way is))
