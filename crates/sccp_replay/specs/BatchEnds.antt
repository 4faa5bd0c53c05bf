-- The ends of the batches of a trace.
use Rattle.std.specs.Prelude.{◌≡◌, List, [], ◌∷◌, ◌++◌, fold, if◌then◌else◌}
use Rattle.plan_model.specs.Network.{Network}
use Rattle.sccp_report.specs.Roles.{Role, alone, role_of}
use Rattle.trace_text.specs.declared.line.Numbered.{Numbered}
use Rattle.sccp_replay.specs.Replay.{is_full}

-- one more line: it ends the batch that has begun, fills it, or joins it
abbrev pub begun_by : List Numbered → Numbered → Role → List Numbered
begun_by batch line (alone d) = []
begun_by batch line role = if is_full (batch ++ line ∷ []) then [] else batch ++ line ∷ []

abbrev pub with_line : Network → List Numbered → Numbered → List Numbered
with_line first batch line = begun_by batch line (role_of first line.line)

-- the lines of the batch that has begun after these lines of a trace
abbrev pub begun_after : Network → List Numbered → List Numbered
begun_after first lines = fold (with_line first) [] lines

-- none has begun: the line before ended or filled a batch, or there is none
abbrev pub EndsBatch : Network → List Numbered → Type 0
EndsBatch first lines = begun_after first lines ≡ []
