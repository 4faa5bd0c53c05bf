-- Reading a file in pieces.
use Rattle.std.proofs.Common.{◌≡◌, ◌<◌, ◌≤◌, ℕ, List, [], ◌++◌, length, Option, Some, None, Bool, false, IsTrue, refl, sym, ◌∙◌, ap}
use Rattle.std.proofs.Common.{append_assoc, append-nil, arith, length-append}
use Rattle.std.specs.Prelude.{is_none}
use Rattle.std.specs.Io.KnownBytes.{prepend_known, IsAtEnd}
use Rattle.sccp_io.specs.declared.fault.IoFault.{IoFault}
use Rattle.sccp_io.specs.declared.fault.IoFault.TheVariants.{Failed, OutOfMemory}
use Rattle.sccp_io.specs.Files.{Contents, Reads, lacks, whole}
use Rattle.sccp_work.specs.Reading.{reading_stop}
use Rattle.sccp_work.specs.declared.status.Status.{Status}
use Rattle.sccp_work.specs.declared.stop.Stop.{Stop}
use Rattle.sccp_work.specs.declared.stop.Stop.TheVariants.{Answered, Read, Write}

pub prepend_known-nil : (known : Option (List ℕ)) → prepend_known [] known ≡ known
prepend_known-nil None = refl
prepend_known-nil (Some xs) = refl

pub prepend_known-append : (known : Option (List ℕ)) (xs ys : List ℕ)
    → prepend_known (xs ++ ys) known ≡ prepend_known xs (prepend_known ys known)
prepend_known-append None xs ys = refl
prepend_known-append (Some zs) xs ys = ap Some (append_assoc xs ys zs)

-- the first octets of a file were read
pub record Partway (name octets : List ℕ) (contents contents' : Option Contents) (left : Option (List ℕ)) (sound sound' : Bool)
    (faults faults' : ℕ) : Type 0 where
  pub present : lacks contents name ≡ false
  pub split : prepend_known octets left ≡ whole contents name
  pub same : contents' ≡ contents
  pub soundness : sound' ≡ sound
  pub later : faults ≤ faults'
  pub spared : IsTrue sound → faults' ≡ faults

pub Partway-more : {name octets : List ℕ} {c0 c1 : Option Contents} {l1 : Option (List ℕ)} {s0 s1 : Bool} {f0 f1 : ℕ} (piece : List ℕ)
    (c2 : Option Contents) (l2 : Option (List ℕ)) (s2 : Bool) (f2 : ℕ)
    → Partway name octets c0 c1 l1 s0 s1 f0 f1
    → l1 ≡ prepend_known piece l2 → c2 ≡ c1 → s2 ≡ s1 → f1 ≤ f2 → (IsTrue s1 → f2 ≡ f1)
    → Partway name (octets ++ piece) c0 c2 l2 s0 s2 f0 f2
Partway-more {name} {octets} {c0} {c1} {l1} {s0} {s1} piece c2 l2 s2 f2 p left same soundness later spared = record {
  present = p.present;
  split = prepend_known-append l2 octets piece ∙ ap (prepend_known octets) (sym left) ∙ p.split;
  same = same ∙ p.same;
  soundness = soundness ∙ p.soundness;
  later = omega (arith, p.later);
  spared = λ h. spared (p.soundness ∙ h) ∙ p.spared h;
}

-- at the end of the file all of it was read
pub whole_read : (name octets : List ℕ) (contents : Option Contents) (left : Option (List ℕ)) → lacks contents name ≡ false
    → prepend_known octets left ≡ whole contents name → IsAtEnd left
    → Reads contents name octets
whole_read name octets None left present split end = tt
whole_read name octets (Some c) None present split end = absurd (false_none (c name) split present) where
  false_none : (o : Option (List ℕ)) → None ≡ o → is_none o ≡ false → ⊥
  false_none None e h = cc
  false_none (Some x) e h = cc
whole_read name octets (Some c) (Some rest) present split end = sym split ∙ ap Some (ap (λ l. octets ++ l) end ∙ append-nil octets)

-- a file that begins with a number of octets has as many
pub more_read : (name octets : List ℕ) (contents : Option Contents) (left : Option (List ℕ)) (limit : ℕ) → lacks contents name ≡ false
    → prepend_known octets left ≡ whole contents name → limit < length octets
    → (all : List ℕ) × Reads contents name all × (limit < length all)
more_read name octets None left limit present split long = (octets, tt, long)
more_read name octets (Some c) None limit present split long = absurd (false_none (c name) split present) where
  false_none : (o : Option (List ℕ)) → None ≡ o → is_none o ≡ false → ⊥
  false_none None e h = cc
  false_none (Some x) e h = cc
more_read name octets (Some c) (Some rest) limit present split long = (octets ++ rest, sym split, omega (arith, length-append octets rest))

-- a fault of the files stops the work as one of reading
pub reading_stop-Read : (fault : IoFault) (stop : Stop) → stop ≡ reading_stop fault → stop ≡ Read → fault ≡ Failed
reading_stop-Read Failed stop e h = refl
reading_stop-Read OutOfMemory stop e h = cc

pub reading_stop-Write : (fault : IoFault) (stop : Stop) → stop ≡ reading_stop fault → stop ≡ Write → ⊥
reading_stop-Write Failed stop e h = cc
reading_stop-Write OutOfMemory stop e h = cc

pub reading_stop-Answered : (fault : IoFault) (stop : Stop) (status : Status) → stop ≡ reading_stop fault → stop ≡ Answered status → ⊥
reading_stop-Answered Failed stop status e h = cc
reading_stop-Answered OutOfMemory stop status e h = cc
