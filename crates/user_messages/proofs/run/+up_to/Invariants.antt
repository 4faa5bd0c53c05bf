use Rattle.user_messages.proofs.run.+up_to.Given as goal

abbrev pub decreases-up_to : goal.decreases-up_to
decreases-up_to l = l.most
