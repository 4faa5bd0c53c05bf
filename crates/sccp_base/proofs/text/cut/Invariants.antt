use Rattle.std.proofs.Common.{◌≡◌, take, drop, ◌++◌}
use Rattle.std.specs.Option.{option_map}
use Rattle.sccp_base.specs.Text.{cut_at}
use Rattle.sccp_base.proofs.text.cut.Given as goal

-- the octets passed so far are before the separator
abbrev pub invariant-loop-place : goal.invariant-loop-place
invariant-loop-place l = cut_at l.separator l.text ≡ option_map (λ parts. (take l.place l.text ++ parts.0, parts.1))
    (cut_at l.separator (drop l.place l.text))
