-- A file that a command needs whole.
use Rattle.std.proofs.Common.{◌≡◌, ◌<◌, ◌≤◌, ℕ, List, length, Option, Some, Bool, true, false, cond, ltb, Result, IsTrue, refl, sym, subst}
use Rattle.std.proofs.Common.{arith}
use Rattle.std.proofs.lemmas.Bool.{le-ltb, ltb-true, ltb-false}
use Rattle.std.proofs.lemmas.Bool.Decides.{Decides-ltb}
use Rattle.sccp_io.specs.Files.{Contents, Reads, lacks}
use Rattle.plan_model.specs.declared.limits.Limits.{Limits}
use Rattle.sccp_report.specs.Limits.{too_long_line}
use Rattle.sccp_work.specs.Ending.{Works}
use Rattle.sccp_work.specs.Limit.{within_limit, IsThere, HasFile, HasLongFile}
use Rattle.sccp_work.specs.Moment.{Moment}
use Rattle.sccp_work.specs.PlanFile.{PlanFile, plan_file}
use Rattle.sccp_work.specs.Work.{Work, answered, Ends, HasFiles}
use Rattle.sccp_work.specs.declared.status.Status.{Status}
use Rattle.sccp_work.specs.declared.status.Status.TheVariants.{TooLong}
use Rattle.sccp_work.specs.declared.stop.Stop.{Stop}
use Rattle.sccp_work.proofs.WorkLemmas.{Moved, Works-read, same_octets}

-- the file of a name and of limits that are its own
pub same_file : (file : PlanFile) (name : List ℕ) (limits : Limits) → name ≡ file.name → limits ≡ file.limits
    → plan_file name limits ≡ file
same_file file name limits named within =
    subst (λ l. plan_file name l ≡ file) (sym within) (subst (λ n. plan_file n file.limits ≡ file) (sym named) refl)

-- what follows the reading
abbrev pub file_or_answer : Limits → (List ℕ → Work) → List ℕ → Work
file_or_answer limits next octets = cond (ltb limits.octets (length octets)) (answered (TooLong, too_long_line limits)) (next octets)

-- more than the limit was read
pub Works-long : (file : PlanFile) (next : List ℕ → Work) (octets : List ℕ) (result : Result Status Stop) (b m a : Moment) → Moved b m
    → (IsTrue b.sound → lacks b.contents file.name ≡ false → m.read_faults ≡ b.read_faults)
    → Reads b.contents file.name octets → file.limits.octets < length octets
    → Works (answered (TooLong, too_long_line file.limits)) result m a
    → Works (within_limit file next) result b a
Works-long file next octets result b m a p spared reads more w =
    let e : ltb file.limits.octets (length octets) ≡ true = (Decides-ltb file.limits.octets (length octets)).1 more in
    Works-read file.name (file_or_answer file.limits next) octets result b m a p spared reads
    (subst (λ v. Works (cond v (answered (TooLong, too_long_line file.limits)) (next octets)) result m a) (sym e) w)

-- the whole file was read
pub Works-within : (file : PlanFile) (next : List ℕ → Work) (octets : List ℕ) (result : Result Status Stop) (b m a : Moment) → Moved b m
    → (IsTrue b.sound → lacks b.contents file.name ≡ false → m.read_faults ≡ b.read_faults)
    → Reads b.contents file.name octets → length octets ≤ file.limits.octets → Works (next octets) result m a
    → Works (within_limit file next) result b a
Works-within file next octets result b m a p spared reads few w =
    let e : ltb file.limits.octets (length octets) ≡ false = le-ltb file.limits.octets (length octets) few in
    Works-read file.name (file_or_answer file.limits next) octets result b m a p spared reads
    (subst (λ v. Works (cond v (answered (TooLong, too_long_line file.limits)) (next octets)) result m a) (sym e) w)

-- ---- how a command over such a file ends

-- the file is too long, or the command goes on with its octets
pub data FileEnds (contents : Option Contents) (file : PlanFile) (on : List ℕ → Status → Type 0) : Status → Type 0 where
  long : HasLongFile contents file → FileEnds contents file on TooLong
  within : {s : Status} → HasFile contents file (λ octets. on octets s) → FileEnds contents file on s

pub Ends-within_limit : (on : List ℕ → Status → Type 0) (contents : Option Contents) (file : PlanFile) (next : List ℕ
    → Work) (s : Status) (text : List ℕ)
    → ((octets : List ℕ) → Ends contents (next octets) s text → on octets s) → Ends contents (within_limit file next) s text
    → FileEnds contents file on s
Ends-within_limit on contents file next s text goes h = by (ltb file.limits.octets (length h.0)) refl h.2 where
  by : (v : Bool) → ltb file.limits.octets (length h.0) ≡ v
      → Ends contents (cond v (answered (TooLong, too_long_line file.limits)) (next h.0)) s text
      → FileEnds contents file on s
  by true e k = subst (FileEnds contents file on) (sym k.2.0) (long (h.0, h.1, ltb-true file.limits.octets (length h.0) e))
  by false e k = within (h.0, h.1, ltb-false file.limits.octets (length h.0) e, goes h.0 k)

-- what holds of the octets of a file holds of the same octets that another finds there
pub at_file : (c : Contents) (file : PlanFile) (P Q : List ℕ → Type 0) → HasFile (Some c) file P → (has : HasFile (Some c) file Q) → P has.0
at_file c file P Q h has = subst P (same_octets (c file.name) h.0 has.0 h.1 has.1) h.3

pub not_long : (c : Contents) (file : PlanFile) (P : List ℕ → Type 0) → HasFile (Some c) file P → HasLongFile (Some c) file → ⊥
not_long c file P h has =
    let few : length has.0 ≤ file.limits.octets = subst (λ o. length o ≤ file.limits.octets)
    (same_octets (c file.name) h.0 has.0 h.1 has.1) h.2 in
    absurd (omega (arith, few, has.2))

-- ---- the files of a command over such a file

pub limit_files : (c : Contents) (file : PlanFile) (next : List ℕ → Work) → ((octets : List ℕ) → HasFiles c (next octets))
    → IsThere c file.name
    → HasFiles c (within_limit file next)
limit_files c file next go there = (there.0, there.1, by (ltb file.limits.octets (length there.0))) where
  by : (b : Bool) → HasFiles c (cond b (answered (TooLong, too_long_line file.limits)) (next there.0))
  by true = tt
  by false = go there.0
