-- Work that may be done in another way: whatever it may end with, or be cut short with, the other may too.
use Rattle.std.proofs.Common.{◌≡◌, ◌<◌, ◌≤◌, ◌-◌, ◌+◌, ◌⊎◌, ℕ, List, [], ◌++◌, length, take, Option, Some, None, Result, Ok, Err, IfSome}
use Rattle.std.proofs.Common.{sym, refl, ◌∙◌, ap, subst, append_assoc, arith, inl, inr, take_all}
use Rattle.std.specs.Io.{StartsWith}
use Rattle.std.proofs.Math.Seq.{take-append-add}
use Rattle.std.proofs.lemmas.Bool.{cases_lt}
use Rattle.std.proofs.lemmas.List.{length-append, take-append-le}
use Rattle.sccp_io.specs.Files.{Contents}
use Rattle.sccp_work.specs.Ending.{Stops, Works}
use Rattle.sccp_work.specs.Moment.{Moment}
use Rattle.sccp_work.specs.Work.{Work, print, read_on, Ends, ComesToReading, BeginsWith, HasFiles}
use Rattle.sccp_work.specs.declared.status.Status.{Status}
use Rattle.sccp_work.specs.declared.stop.Stop.{Stop}
use Rattle.sccp_work.specs.declared.stop.Stop.TheVariants.{Answered, Read, Write, Memory}
use Rattle.sccp_work.proofs.WorkLemmas.{BeginsWith-nil}

-- what the first work may do, the second may
pub record Refines (w v : Work) : Type 0 where
  pub ends : (k : Option Contents) (s : Status) (text : List ℕ) → Ends k w s text → Ends k v s text
  pub reads : (k : Option Contents) (text : List ℕ) → ComesToReading k w text → ComesToReading k v text
  pub begins : (k : Option Contents) (text : List ℕ) → BeginsWith k w text → BeginsWith k v text
  pub files : (c : Contents) → HasFiles c v → HasFiles c w

pub Works-refines : (w v : Work) (result : Result Status Stop) (b a : Moment) → Refines w v → Works w result b a → Works v result b a
Works-refines w v result b a r h = record {
  text = h.text;
  goes = h.goes;
  stops = stops result h.stops;
  spared = λ sound. spares b.contents (h.spared sound);
} where
  stops : (result : Result Status Stop) → Stops w result h.text b a → Stops v result h.text b a
  stops (Ok s) e = (e.0, r.ends b.contents s h.text e.1)
  stops (Err (Answered s)) e = (e.0, r.ends b.contents s h.text e.1)
  stops (Err Read) e = (e.0, r.reads b.contents h.text e.1)
  stops (Err Write) e = (e.0, r.begins b.contents h.text e.1)
  stops (Err Memory) e = r.begins b.contents h.text e

  spares : (k : Option Contents) → IfSome k (λ c. HasFiles c w → a.read_faults ≡ b.read_faults)
      → IfSome k (λ c. HasFiles c v → a.read_faults ≡ b.read_faults)
  spares None e = tt
  spares (Some c) e = λ has. e (r.files c has)

pub Refines-trans : (u v w : Work) → Refines u v → Refines v w → Refines u w
Refines-trans u v w p q = record {
  ends = λ k s text e. q.ends k s text (p.ends k s text e);
  reads = λ k text e. q.reads k text (p.reads k text e);
  begins = λ k text e. q.begins k text (p.begins k text e);
  files = λ c has. p.files c (q.files c has);
}

-- the file that is open may be read on before it
pub Refines-read_on : (w : Work) → Refines w (read_on w)
Refines-read_on w = record {
  ends = λ k s text e. e;
  reads = λ k text e. inr e;
  begins = λ k text e. e;
  files = λ c has. has;
}

-- the same text is written before both
pub Refines-print : (t : List ℕ) (w v : Work) → Refines w v → Refines (print t w) (print t v)
Refines-print t w v r = record {
  ends = λ k s text e. (e.0, e.1, r.ends k s e.0 e.2);
  reads = λ k text e. (e.0, e.1, r.reads k e.0 e.2);
  begins = λ k text e. by k text e;
  files = λ c has. r.files c has;
} where
  by : (k : Option Contents) (text : List ℕ) → BeginsWith k (print t w) text → BeginsWith k (print t v) text
  by k text (inl front) = inl front
  by k text (inr e) = inr (e.0, e.1, r.begins k e.0 e.2)

starts_with_none : (text : List ℕ) → StartsWith [] text → text ≡ []
starts_with_none text h = sym h ∙ take_all (length text) [] (omega arith)

-- nothing is written
pub Refines-nothing : (w : Work) → Refines (print [] w) w
Refines-nothing w = record {
  ends = λ k s text e. subst (Ends k w s) (sym e.1) e.2;
  reads = λ k text e. subst (ComesToReading k w) (sym e.1) e.2;
  begins = λ k text e. by k text e;
  files = λ c has. has;
} where
  by : (k : Option Contents) (text : List ℕ) → BeginsWith k (print [] w) text → BeginsWith k w text
  by k text (inl front) = subst (BeginsWith k w) (sym (starts_with_none text front)) (BeginsWith-nil k w)
  by k text (inr e) = subst (BeginsWith k w) (sym e.1) e.2

-- a front of two texts is a front of the first one, or all of it and a front of the second one
parted : (t u text : List ℕ) → StartsWith (t ++ u) text
    → StartsWith t text ⊎ ((rest : List ℕ) × (text ≡ t ++ rest) × StartsWith u rest)
parted t u text h = by (cases_lt (length t) (length text)) where
  beyond : length t < length text → (rest : List ℕ) × (text ≡ t ++ rest) × StartsWith u rest
  beyond lt =
      let n : ℕ = length text - length t in
      let size : length text ≡ length t + n = omega (arith, lt) in
      let is : text ≡ t ++ take n u = sym h ∙ ap (λ k. take k (t ++ u)) size ∙ take-append-add t u n in
      let all : length (take n u) ≡ n = omega (arith, size, ap length is, length-append t (take n u)) in
      (take n u, is, ap (λ k. take k u) all)

  by : (length t < length text) ⊎ (length text ≤ length t) → StartsWith t text ⊎ ((rest : List ℕ) × (text ≡ t ++ rest) × StartsWith u rest)
  by (inl lt) = inr (beyond lt)
  by (inr le) = inl (sym (take-append-le (length text) t u le) ∙ h)

-- two texts are written at once
pub Refines-twice : (t u : List ℕ) (w : Work) → Refines (print (t ++ u) w) (print t (print u w))
Refines-twice t u w = record {
  ends = λ k s text e. (u ++ e.0, e.1 ∙ append_assoc t u e.0, (e.0, refl, e.2));
  reads = λ k text e. (u ++ e.0, e.1 ∙ append_assoc t u e.0, (e.0, refl, e.2));
  begins = λ k text e. by k text e;
  files = λ c has. has;
} where
  in_first : (k : Option Contents) (text : List ℕ)
      → StartsWith t text ⊎ ((rest : List ℕ) × (text ≡ t ++ rest) × StartsWith u rest) → BeginsWith k (print t (print u w)) text
  in_first k text (inl front) = inl front
  in_first k text (inr e) = inr (e.0, e.1, inl e.2)

  by : (k : Option Contents) (text : List ℕ) → BeginsWith k (print (t ++ u) w) text → BeginsWith k (print t (print u w)) text
  by k text (inl front) = in_first k text (parted t u text front)
  by k text (inr e) = inr (u ++ e.0, e.1 ∙ append_assoc t u e.0, inr (e.0, refl, e.2))
