use Rattle.std.proofs.Common.{ℕ, Bool, false, suc, ◌≡◌, ◌+◌, ◌-◌, ◌∷◌, ◌∙◌, filter, arith, sym, ap}
use Rattle.std.specs.List.{range_with_len}
use Rattle.std.proofs.lemmas.Bool.{cond-false}
use Rattle.sccp_couple.specs.Marked.{is_unmarked}
use Rattle.sccp_couple.proofs.references.least_unmarked.Goals as goal
use Rattle.sccp_couple.proofs.references.least_unmarked.Goals.{in-Some+else-is_unmarked, in_default}

-- a number that does not pass the test is left out
skip : (p : ℕ → Bool) (a n m : ℕ) → p a ≡ false → n ≡ suc m → filter p (range_with_len a n) ≡ filter p (range_with_len (a + 1) m)
skip p a n m h e =
    ap (λ (k : ℕ). filter p (range_with_len a k)) e ∙ cond-false (p a) (a ∷ filter p (range_with_len (a + 1) m))
    (filter p (range_with_len (a + 1) m)) h

pub loop-number-preserved : goal.loop-number-preserved
loop-number-preserved c =
    elim c.match-new.branch [
      | in-Some+else-is_unmarked w ↦
          let h : is_unmarked c.args.marks.now c.loop-number.number ≡ false = sym w.is_unmarked.ensures ∙ w.if-is_unmarked.false in
          c.loop-number.invariant ∙ skip (is_unmarked c.args.marks.now) c.loop-number.number
          ((c.args.from + c.args.count) - c.loop-number.number) ((c.args.from + c.args.count) - (c.loop-number.number + 1)) h
          (omega arith)
      | in_default w ↦ absurd (w.in_default.ensures
          (let low = c.loop-number-test.true in let small = c.requires.small in let within = c.requires.marks in omega arith))
    ]
