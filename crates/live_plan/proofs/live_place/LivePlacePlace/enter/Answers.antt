use Rattle.std.proofs.Common.{sym, ◌∙◌}
use Rattle.live_plan.proofs.live_place.LivePlacePlace.enter.Goals as goal

pub visit-reader-requires-clause-owns : goal.visit-reader-requires-clause-owns
visit-reader-requires-clause-owns c x is = c.args.self.now.owns c.in-Some.reader (sym c.take.ensures.value ∙ c.in-Some.is) x
    (sym c.take-own.ensures.value ∙ is)
