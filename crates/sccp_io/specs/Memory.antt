-- What the files and sinks in memory show.
use Rattle.std.specs.Prelude.{ℕ, List, [], ◌∷◌, drop, map, Option, Some, None, if◌then◌else◌, String, string_bytes, Vec, slice_get}
use Rattle.std.specs.Option.{option_map_or}
use Rattle.std.specs.Str.{bytes_eq}
use Rattle.std.specs.declared.alloc.Global.{Global}
use Rattle.sccp_io.specs.Files.{Contents}

-- a file: its name and its octets
abbrev pub File : Type 0
File = List ℕ × List ℕ

-- the contents by name of a list of files; the first file with a name counts
abbrev pub file_named : List File → Contents
file_named [] name = None
file_named (file ∷ files) name = if bytes_eq file.0 name then Some file.1 else file_named files name

-- files that fail only at an absent name: the files, what is left of the two that are open, and the count of faults
pub record SoundFilesView : Type 0 where
  pub files : List File
  pub left : List ℕ
  pub left_beside : List ℕ
  pub faults : ℕ

-- files that fail at chosen calls: also the numbers of those calls, and the number of the next call
pub record MemoryFilesView : Type 0 where
  pub files : List File
  pub left : List ℕ
  pub left_beside : List ℕ
  pub failing : List ℕ
  pub calls : ℕ
  pub faults : ℕ

-- A sink that fails at chosen calls. It has the octets taken so far, the numbers of those calls, the number of the next
-- call, and the count of faults.
pub record MemorySinkView : Type 0 where
  pub taken : List ℕ
  pub failing : List ℕ
  pub calls : ℕ
  pub faults : ℕ

-- the files of a list of the program's texts and vectors
abbrev pub files_in : List (String Global × Vec ℕ Global) → List File
files_in files = map (λ file. (string_bytes file.0, file.1.items)) files

-- the octets of the file at that place
abbrev pub file_at : List File → ℕ → List ℕ
file_at files place = option_map_or (λ file. file.1) (slice_get files place) []

-- what is left of the open file, from that octet on
abbrev pub left_of : List File → Option ℕ → ℕ → List ℕ
left_of files None from = []
left_of files (Some place) from = drop from (file_at files place)
