use Rattle.std.proofs.Common.{ap}
use Rattle.plan_check.specs.Verified.{Verified}
use Rattle.plan_verify.proofs.FromStarts.{starts_safe, lawful_checked}
use Rattle.plan_verify.proofs.BelowLimit.{fewer_reached}
use Rattle.plan_verify.proofs.verifying.accept_ranked.Goals as goal

pub accept-requires-clause-some : goal.accept-requires-clause-some
accept-requires-clause-some c =
    (starts_safe c.args.plan c.args.ranks.now c.args.greatest c.requires.plan c.requires.sound c.requires.starts c.requires.start).0

pub accept-requires-clause-few : goal.accept-requires-clause-few
accept-requires-clause-few c =
    (starts_safe c.args.plan c.args.ranks.now c.args.greatest c.requires.plan c.requires.sound c.requires.starts c.requires.start).1

pub accept-requires-clause-safe : goal.accept-requires-clause-safe
accept-requires-clause-safe c =
    (starts_safe c.args.plan c.args.ranks.now c.args.greatest c.requires.plan c.requires.sound c.requires.starts c.requires.start).2

pub returns-in-Ok-clause-lawful : goal.returns-in-Ok-clause-lawful
returns-in-Ok-clause-lawful c =
    lawful_checked c.args.plan c.accept.result (ap (λ (v : Verified). v.plan) c.accept.ensures.value) c.accept.ensures.verified

pub returns-in-Ok-clause-below : goal.returns-in-Ok-clause-below
returns-in-Ok-clause-below c =
    fewer_reached c.args.plan c.args.ranks.now c.args.greatest c.requires.sound c.requires.starts c.requires.start c.requires.room
