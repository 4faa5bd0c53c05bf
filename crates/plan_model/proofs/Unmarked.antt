-- A target is open if no mark of its point is held.
use Rattle.std.specs.Prelude.{ℕ, ◌≡◌, ◌==◌, ◌||◌, Bool, true, false, if◌then◌else◌, List, [], ◌∷◌, None, refl}
use Rattle.std.specs.List.{find, list_any}
use Rattle.std.specs.Option.{unwrap_or}
use Rattle.std.proofs.Common.{sym, ◌∙◌, ap}
use Rattle.std.proofs.lemmas.Bool.{false≢true}
use Rattle.sccp_base.specs.Marks.{holds, is_at, same_mark, point_of as point_of_mark}
use Rattle.sccp_base.specs.declared.mark.Mark.{Mark}
use Rattle.sccp_base.specs.declared.mark.Mark.TheVariants.{PointCode, Sccp, Subsystem}
use Rattle.plan_rules.specs.declared.target.Target.{Target}
use Rattle.plan_rules.specs.declared.target.Target.TheVariants.{Relay, Final}
use Rattle.plan_rules.specs.Target.{point_of}
use Rattle.plan_model.specs.declared.node.Node.{Node}
use Rattle.plan_model.specs.Targets.{closing}

neither : (a b : Bool) → (a || b) ≡ false → (a ≡ false) × (b ≡ false)
neither false b e = (refl, e)
neither true b e = absurd (false≢true (sym e))

-- a mark of another point is another mark
apart : (held mark : Mark) → is_at (point_of_mark mark) held ≡ false → same_mark held mark ≡ false
apart (PointCode a) (PointCode b) e = e
apart (Sccp a) (Sccp b) e = e
apart (Subsystem a s) (Subsystem b t) e = rw e refl
apart (PointCode a) (Sccp b) e = refl
apart (PointCode a) (Subsystem b t) e = refl
apart (Sccp a) (PointCode b) e = refl
apart (Sccp a) (Subsystem b t) e = refl
apart (Subsystem a s) (PointCode b) e = refl
apart (Subsystem a s) (Sccp b) e = refl

not_held : (marking : List Mark) (mark : Mark) → list_any (is_at (point_of_mark mark)) marking ≡ false → holds marking mark ≡ false
not_held [] mark e = refl
not_held (held ∷ rest) mark e =
    let parts = neither (is_at (point_of_mark mark) held) (list_any (is_at (point_of_mark mark)) rest) e in
    ap (λ (b : Bool). b || holds rest mark) (apart held mark parts.0) ∙ not_held rest mark parts.1

next : (p : Mark → Bool) (mark : Mark) (rest : List Mark) → p mark ≡ false → find p rest ≡ None → find p (mark ∷ rest) ≡ None
next p mark rest none e = rw none e

pub unmarked : (node : Node) (ssn : ℕ) (marking : List Mark) (target : Target) → list_any (is_at (point_of target)) marking ≡ false
    → closing node ssn marking target ≡ None
unmarked node ssn marking (Relay pc strip put selector named) e =
    next (holds marking) (PointCode pc) (Sccp pc ∷ []) (not_held marking (PointCode pc) e)
    (next (holds marking) (Sccp pc) [] (not_held marking (Sccp pc) e) refl)
unmarked node ssn marking (Final pc named) e =
    let last = next (holds marking) (Subsystem pc (unwrap_or named ssn)) []
    (not_held marking (Subsystem pc (unwrap_or named ssn)) e) refl in
    elim (pc == node.pc) as (λ b. find (holds marking) (if b then Subsystem pc (unwrap_or named ssn) ∷ []
    else PointCode pc ∷ Sccp pc ∷ Subsystem pc (unwrap_or named ssn) ∷ []) ≡ None) [
      | true ↦ last
      | false ↦ next (holds marking) (PointCode pc) (Sccp pc ∷ Subsystem pc (unwrap_or named ssn) ∷ [])
          (not_held marking (PointCode pc) e)
          (next (holds marking) (Sccp pc) (Subsystem pc (unwrap_or named ssn) ∷ []) (not_held marking (Sccp pc) e) last)
    ]
