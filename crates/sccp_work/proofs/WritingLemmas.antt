-- Writing in pieces.
use Rattle.std.proofs.Common.{◌≡◌, ◌≤◌, ◌+◌, ℕ, List, [], ◌++◌, length, take, drop, Option, Some, None, Result, Ok, Err, refl, sym, ◌∙◌, ap}
use Rattle.std.proofs.Common.{append_assoc, append-nil, arith}
use Rattle.std.specs.Prelude.{IsErrOf, OnOk}
use Rattle.std.specs.Io.{StartsWith}
use Rattle.std.specs.Io.KnownBytes.{append_known}
use Rattle.std.proofs.lemmas.List.{take-append-drop, take_all, length-drop}
use Rattle.std.proofs.Math.Seq.{take-append_seam}
use Rattle.sccp_io.specs.Faults.{Rose}
use Rattle.sccp_work.specs.Writing.{Writes}
use Rattle.sccp_work.specs.declared.status.Status.{Status}
use Rattle.sccp_work.specs.declared.stop.Stop.{Stop}
use Rattle.sccp_work.specs.declared.stop.Stop.TheVariants.{Answered, Read, Write}
use Rattle.sccp_work.proofs.RoseLemmas.{Rose-before}

pub append_known-nil : (known : Option (List ℕ)) → known ≡ append_known known []
append_known-nil None = refl
append_known-nil (Some xs) = ap Some (sym (append-nil xs))

pub append_known-append : (known : Option (List ℕ)) (xs ys : List ℕ)
    → append_known (append_known known xs) ys ≡ append_known known (xs ++ ys)
append_known-append None xs ys = refl
append_known-append (Some zs) xs ys = ap Some (append_assoc zs xs ys)

StartsWith-append : (xs ys : List ℕ) → StartsWith (xs ++ ys) xs
StartsWith-append xs ys = take-append_seam xs ys

-- a front of the text was written, and this is left of it
pub record Partly (text rest : List ℕ) (taken taken' : Option (List ℕ)) (faults faults' : ℕ) : Type 0 where
  pub front : List ℕ
  pub split : text ≡ front ++ rest
  pub appends : taken' ≡ append_known taken front
  pub later : faults ≤ faults'

pub Partly-none : (text : List ℕ) (taken : Option (List ℕ)) (faults : ℕ) → Partly text text taken taken faults faults
Partly-none text taken faults = record { front = []; split = refl; appends = append_known-nil taken; later = omega arith }

pub Partly-more : {text rest : List ℕ} {t0 t1 : Option (List ℕ)} {f0 f1 : ℕ} (t2 : Option (List ℕ)) (f2 n m : ℕ)
    → Partly text rest t0 t1 f0 f1
    → t2 ≡ append_known t1 (take n rest) → f1 ≤ f2 → length rest ≤ n + m → Partly text (take m (drop n rest)) t0 t2 f0 f2
Partly-more {text} {rest} {t0} {t1} t2 f2 n m p taken later all =
    let same : take m (drop n rest) ≡ drop n rest = take_all m (drop n rest) (rw length-drop (omega arith)) in
    record {
      front = p.front ++ take n rest;
      split = p.split ∙ ap (λ l. p.front ++ l) (sym (take-append-drop n rest) ∙ ap (λ l. take n rest ++ l) (sym same))
          ∙ sym (append_assoc p.front (take n rest) (take m (drop n rest)));
      appends = taken ∙ ap (λ k. append_known k (take n rest)) p.appends ∙ append_known-append t0 p.front (take n rest);
      later = omega (arith, p.later);
    }

-- what a call that stops here wrote
pub Partly-writes : {text rest : List ℕ} {t0 t1 : Option (List ℕ)} {f0 f1 : ℕ} (t2 : Option (List ℕ)) (f2 : ℕ)
    (result : Result (Unit {0}) Stop) → Partly text rest t0 t1 f0 f1
    → t2 ≡ t1 → f1 ≤ f2 → (IsErrOf result Write → Rose f1 f2) → (IsErrOf result Read → ⊥)
    → ((status : Status) → IsErrOf result (Answered status) → ⊥) → OnOk result (rest ≡ [])
    → Writes text result t0 t2 f0 f2
Partly-writes {text} {rest} {t0} {t1} {f0} {f1} t2 f2 result p taken later failed no_reading no_answer done = record {
  front = p.front;
  begins = ap (take (length p.front)) p.split ∙ StartsWith-append p.front rest;
  appends = taken ∙ p.appends;
  later = omega (arith, p.later);
  whole = all result done;
  failed = λ e. Rose-before f0 f1 f2 p.later (failed e);
  no_reading = no_reading;
  no_answer = no_answer;
} where
  all : (r : Result (Unit {0}) Stop) → OnOk r (rest ≡ []) → OnOk r (p.front ≡ text)
  all (Ok x) e = sym (append-nil p.front) ∙ ap (λ l. p.front ++ l) (sym e) ∙ sym p.split
  all (Err e) x = x
