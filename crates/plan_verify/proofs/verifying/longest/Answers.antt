use Rattle.plan_verify.proofs.FromStarts.{tight_from}
use Rattle.plan_verify.proofs.verifying.longest.Goals as goal

pub returns : goal.returns
returns c = tight_from c.args.plan.now c.args.greatest.cover c.args.greatest.rank c.start-class.result c.in_ok-digits.field-0
    c.spot_of.result c.requires.plan c.start-class.ensures.value c.in_ok-digits.ensures c.spot_of.ensures
