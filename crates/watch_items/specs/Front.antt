-- Whether a file is a capture, by its first four octets.
use Rattle.std.specs.Prelude.{ℕ, nat_le, ◌&&◌, Bool, true, false, List, length}
use Rattle.capture_file.specs.Units.{kind_of}
use Rattle.capture_file.specs.declared.file_kind.FileKind.{FileKind}
use Rattle.capture_file.specs.declared.file_kind.FileKind.TheVariants.{Pcap, Pcapng, Unknown}

abbrev pub is_known : FileKind → Bool
is_known (Pcap order) = true
is_known Pcapng = true
is_known Unknown = false

-- They are a magic number of pcap, in either order, or the type of a section header block of pcapng.
abbrev pub is_capture : List ℕ → Bool
is_capture octets = nat_le 4 (length octets) && is_known (kind_of octets)
