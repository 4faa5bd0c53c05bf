-- What a reader reports, in terms of all octets that it was fed.
use Rattle.std.proofs.Common.{◌≡◌, ℕ, List, [], ◌++◌, lit≤, Bool, true, false, Option, Some, None, refl, sym, ◌∙◌, ap}
use Rattle.std.specs.Prelude.{is_some}
use Rattle.std.proofs.lemmas.List.{append-nil}
use Rattle.capture_file.specs.Packets.{only, with_front}
use Rattle.capture_file.specs.Units.{FileStart, Needs, unit}
use Rattle.capture_file.specs.Told.{ending, told_from, told_of, told}
use Rattle.capture_file.specs.Standings.{Standing, IsStanding, HasRead, ahead, ahead_unless}
use Rattle.capture_file.specs.declared.file_fault.FileFault.{FileFault}
use Rattle.capture_file.proofs.UnitLemmas.{unit-nothing}
use Rattle.capture_file.proofs.ToldLemmas.{told-needs}

-- the end of the file was reported
pub ahead-at_end : (fault : Option FileFault) (s : Standing) (whole : Bool) (rest : List ℕ) → s.at_end ≡ true
    → ahead_unless fault s whole rest ≡ only fault
ahead-at_end (Some fault) s whole rest e = refl
ahead-at_end None s whole rest e = rw e refl

-- the reader has met a fault
pub ahead-fault : (fault : Option FileFault) (s : Standing) (whole : Bool) (rest : List ℕ) → true ≡ is_some fault
    → ahead_unless fault s whole rest ≡ only fault
ahead-fault (Some fault) s whole rest e = refl
ahead-fault None s whole rest e = absurd cc

-- the reader is in the middle of the file, and the file ends
pub ahead-ends : (fault : Option FileFault) (s : Standing) → s.at_end ≡ false → false ≡ is_some fault → unit s.at s.place s.kept ≡ Needs
    → ahead_unless fault s true [] ≡ ending true s.at s.place s.kept
ahead-ends (Some fault) s e none needs = absurd cc
ahead-ends None s e none needs = rw e (ap (told_of true s.at s.place) (append-nil s.kept) ∙ told-needs true s.at s.place s.kept needs)

-- the end of the file is reported
pub told-end : (s : Standing) (b : List ℕ) (fault : Option FileFault) → HasRead s b → only fault ≡ ahead s true []
    → told true b ≡ with_front (told false b).packets (only fault)
told-end s b fault read e = ap (told true) (sym (append-nil b)) ∙ read true [] ∙ ap (with_front (told false b).packets) (sym e)

-- nothing was fed
pub read-nothing : (kept : List ℕ) → kept ≡ [] → HasRead (record { at = FileStart; place = 0; kept = kept; fault = None; at_end = false })
    []
unfolding told_from
read-nothing kept none = λ whole rest. ap (λ l. told_of whole FileStart 0 (l ++ rest)) (sym none)

pub stands-beginning : (kept : List ℕ) → kept ≡ []
    → IsStanding (record { at = FileStart; place = 0; kept = kept; fault = None; at_end = false })
stands-beginning kept none = record {
  short = rw none (lit≤ tt);
  unfinished = ap (unit FileStart 0) none ∙ unit-nothing FileStart 0;
}
