use Rattle.std.proofs.Common.{ap, ◌∙◌}
use Rattle.std.specs.List.{list_any}
use Rattle.std.proofs.lemmas.Map.Made.{is_some-lookup}
use Rattle.user_messages.specs.Chunks.{same_key}
use Rattle.user_messages.proofs.seen.Seen.contains.Goals as goal

pub returns : goal.returns
returns c =
    c.contains.ensures ∙ is_some-lookup (same_key c.args.key) c.self.inside.keys.entries
    ∙ ap (list_any (same_key c.args.key)) c.self.view_is
