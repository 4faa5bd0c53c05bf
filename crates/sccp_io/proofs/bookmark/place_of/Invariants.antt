use Rattle.std.proofs.Common.{◌≡◌, drop}
use Rattle.sccp_io.specs.Memory.{file_named, files_in}
use Rattle.sccp_io.proofs.bookmark.place_of.Given as goal

-- no file before this place has the name
abbrev pub invariant-loop-place : goal.invariant-loop-place
invariant-loop-place l = file_named (files_in l.files) l.name ≡ file_named (files_in (drop l.place l.files)) l.name
