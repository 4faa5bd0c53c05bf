use Rattle.std.proofs.Common.{ap, ◌∙◌}
use Rattle.std.specs.Map.{keys_of}
use Rattle.lru.specs.LruCache.{LruCache}
use Rattle.user_messages.specs.declared.key.Key.{Key}
use Rattle.user_messages.specs.Gathering.{remembered}
use Rattle.user_messages.proofs.Caches.{put_keys}
use Rattle.user_messages.proofs.seen.Seen.put.Goals as goal

pub returns-clause-ok : goal.returns-clause-ok
returns-clause-ok c =
    ap (λ (m : LruCache Key (Unit {0})). keys_of m.entries) c.in_ok-put.ensures.entries
    ∙ put_keys c.args.key c.self.inside.keys tt c.self.invariant c.len.ensures.valid
    ∙ ap (remembered c.args.key) c.self.view_is
