use Rattle.user_messages.proofs.run.+after.Given as goal

abbrev pub decreases-after : goal.decreases-after
decreases-after l = l.most
