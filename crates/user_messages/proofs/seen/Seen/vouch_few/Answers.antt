use Rattle.std.proofs.Common.{List, length, ◌≤◌, subst}
use Rattle.user_messages.specs.declared.key.Key.{Key}
use Rattle.user_messages.proofs.Caches.{few_keys}
use Rattle.user_messages.proofs.seen.Seen.vouch_few.Goals as goal

pub returns : goal.returns
returns c =
    subst (λ (ks : List Key). length ks ≤ 65536) c.self.view_is (few_keys c.self.inside.keys c.self.invariant c.len.ensures.valid)
