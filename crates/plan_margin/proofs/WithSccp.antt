-- marks of the SCCP beside those of its point
use Rattle.std.specs.Prelude.{ℕ, ◌≡◌, ◌+◌, ◌==◌, ◌||◌, Bool, true, false, cond, if◌then◌else◌, List, [], ◌∷◌, map, Option, Some, None}
use Rattle.std.specs.Prelude.{is_none, slice_get, refl}
use Rattle.std.specs.List.{All, find, filter_map}
use Rattle.std.specs.Option.{unwrap_or}
use Rattle.std.proofs.Common.{sym, ◌∙◌, ap, ⊎_elim}
use Rattle.std.proofs.lemmas.Bool.{cases_Bool}
use Rattle.std.proofs.lemmas.List.Folds.{list_any-append}
use Rattle.sccp_base.specs.declared.mark.Mark.{Mark}
use Rattle.sccp_base.specs.declared.mark.Mark.TheVariants.{PointCode, Sccp, Subsystem}
use Rattle.sccp_base.specs.Marks.{holds, point_of, same_mark}
use Rattle.plan_rules.specs.declared.target.Target.{Target}
use Rattle.plan_rules.specs.declared.target.Target.TheVariants.{Relay, Final}
use Rattle.plan_rules.specs.Rule.{Rule}
use Rattle.plan_model.specs.declared.node.Node.{Node}
use Rattle.plan_model.specs.declared.spot.Spot.{Spot}
use Rattle.plan_model.specs.Network.{Network}
use Rattle.plan_model.specs.RowFor.{row_for}
use Rattle.plan_model.specs.Steps.{step, step_at, step_by, taken, blocked, closing, first_open}
use Rattle.plan_margin.specs.Outages.{IsPointMark, with_sccp}
use Rattle.plan_margin.proofs.Closing.{all_head, all_tail, found_later, no_sccp, no_subsystem}

-- the marks of the SCCP at the points
abbrev sccps : List Mark → List Mark
sccps marks = map (λ mark. Sccp (point_of mark)) marks

sccps_point : (ms : List Mark) (pc : ℕ) → holds (sccps ms) (PointCode pc) ≡ false
sccps_point [] pc = refl
sccps_point (m ∷ ms) pc = sccps_point ms pc

sccps_subsystem : (ms : List Mark) (pc ssn : ℕ) → holds (sccps ms) (Subsystem pc ssn) ≡ false
sccps_subsystem [] pc ssn = refl
sccps_subsystem (m ∷ ms) pc ssn = sccps_subsystem ms pc ssn

sccps_sccp : (ms : List Mark) (pc : ℕ) → All IsPointMark ms → holds (sccps ms) (Sccp pc) ≡ holds ms (PointCode pc)
sccps_sccp [] pc all = refl
sccps_sccp (PointCode p ∷ ms) pc all = ap (λ (b : Bool). p == pc || b) (sccps_sccp ms pc (all_tail (PointCode p) ms all))
sccps_sccp (Sccp p ∷ ms) pc all = absurd (all_head (Sccp p) ms all)
sccps_sccp (Subsystem p s ∷ ms) pc all = absurd (all_head (Subsystem p s) ms all)

-- what the marks together hold
both_hold : (ms : List Mark) (m : Mark) → holds (with_sccp ms) m ≡ (holds ms m || holds (sccps ms) m)
both_hold ms m = list_any-append (λ held. same_mark held m) ms (sccps ms)

or_none : (a b : Bool) → b ≡ false → (a || b) ≡ a
or_none true b e = refl
or_none false b e = e

or_both : (a b : Bool) → a ≡ false → b ≡ false → (a || b) ≡ false
or_both a b e f = or_none a b f ∙ e

holds_point : (ms : List Mark) (pc : ℕ) → holds (with_sccp ms) (PointCode pc) ≡ holds ms (PointCode pc)
holds_point ms pc =
    both_hold ms (PointCode pc) ∙ or_none (holds ms (PointCode pc)) (holds (sccps ms) (PointCode pc)) (sccps_point ms pc)

holds_sccp : (ms : List Mark) (pc : ℕ) → All IsPointMark ms → holds ms (PointCode pc) ≡ false → holds (with_sccp ms) (Sccp pc) ≡ false
holds_sccp ms pc all free =
    both_hold ms (Sccp pc) ∙ or_both (holds ms (Sccp pc)) (holds (sccps ms) (Sccp pc)) (no_sccp ms pc all) (sccps_sccp ms pc all ∙ free)

holds_subsystem : (ms : List Mark) (pc ssn : ℕ) → All IsPointMark ms → holds (with_sccp ms) (Subsystem pc ssn) ≡ false
holds_subsystem ms pc ssn all =
    both_hold ms (Subsystem pc ssn)
    ∙ or_both (holds ms (Subsystem pc ssn)) (holds (sccps ms) (Subsystem pc ssn)) (no_subsystem ms pc ssn all) (sccps_subsystem ms pc ssn)

-- the first of some marks that is held, from that of a point on: nothing else is
from_point : (ms rest : List Mark) (pc : ℕ) → All IsPointMark ms
    → (holds ms (PointCode pc) ≡ false → find (holds (with_sccp ms)) rest ≡ None) → find (holds ms) rest ≡ None
    → find (holds (with_sccp ms)) (PointCode pc ∷ rest) ≡ find (holds ms) (PointCode pc ∷ rest)
from_point ms rest pc all more none = ⊎_elim
    (λ (e : holds ms (PointCode pc) ≡ true).
    ap (λ (b : Bool). cond b (Some (PointCode pc)) (find (holds (with_sccp ms)) rest)) (holds_point ms pc ∙ e)
    ∙ sym (ap (λ (b : Bool). cond b (Some (PointCode pc)) (find (holds ms) rest)) e))
    (λ (e : holds ms (PointCode pc) ≡ false). found_later (PointCode pc) rest (with_sccp ms) (holds_point ms pc ∙ e) (more e)
    ∙ sym (found_later (PointCode pc) rest ms e none))
    (cases_Bool (holds ms (PointCode pc)))

-- the subsystem's mark is not held
at_subsystem : (ms : List Mark) (pc ssn : ℕ) → All IsPointMark ms → find (holds ms) (Subsystem pc ssn ∷ []) ≡ None
at_subsystem ms pc ssn all = found_later (Subsystem pc ssn) [] ms (no_subsystem ms pc ssn all) refl

at_subsystem_with : (ms : List Mark) (pc ssn : ℕ) → All IsPointMark ms → find (holds (with_sccp ms)) (Subsystem pc ssn ∷ []) ≡ None
at_subsystem_with ms pc ssn all = found_later (Subsystem pc ssn) [] (with_sccp ms) (holds_subsystem ms pc ssn all) refl

same_closing : (ms : List Mark) → All IsPointMark ms → (node : Node) (ssn : ℕ) (t : Target)
    → closing node ssn (with_sccp ms) t ≡ closing node ssn ms t
same_closing ms all node ssn (Relay pc strip put selector named) =
    from_point ms (Sccp pc ∷ []) pc all (λ e. found_later (Sccp pc) [] (with_sccp ms) (holds_sccp ms pc all e) refl)
    (found_later (Sccp pc) [] ms (no_sccp ms pc all) refl)
same_closing ms all node ssn (Final pc named) =
    let sub : ℕ = unwrap_or named ssn in
    elim (pc == node.pc) as (λ b. find (holds (with_sccp ms))
    (if b then Subsystem pc sub ∷ [] else PointCode pc ∷ Sccp pc ∷ Subsystem pc sub ∷ []) ≡ find (holds ms)
    (if b then Subsystem pc sub ∷ [] else PointCode pc ∷ Sccp pc ∷ Subsystem pc sub ∷ [])) [
      | true ↦ at_subsystem_with ms pc sub all ∙ sym (at_subsystem ms pc sub all)
      | false ↦ from_point ms (Sccp pc ∷ Subsystem pc sub ∷ []) pc all
          (λ e. found_later (Sccp pc) (Subsystem pc sub ∷ []) (with_sccp ms) (holds_sccp ms pc all e) (at_subsystem_with ms pc sub all))
          (found_later (Sccp pc) (Subsystem pc sub ∷ []) ms (no_sccp ms pc all) (at_subsystem ms pc sub all))
    ]

-- a step under marks that close the same targets
same_open : (node : Node) (ssn : ℕ) (ms ns : List Mark) → ((t : Target) → closing node ssn ms t ≡ closing node ssn ns t) → (k : ℕ)
    (ts : List Target) → first_open node ssn ms k ts ≡ first_open node ssn ns k ts
same_open node ssn ms ns same k [] = refl
same_open node ssn ms ns same k (t ∷ ts) =
    ap (λ (o : Option Mark). if is_none o then Some (k, t) else first_open node ssn ms (k + 1) ts) (same t)
    ∙ ap (λ (o : Option (ℕ × Target)). if is_none (closing node ssn ns t) then Some (k, t) else o)
    (same_open node ssn ms ns same (k + 1) ts)

same_taken : (plan : Network) (node : Node) (s : Spot) (ms ns : List Mark) (r : Rule)
    → ((t : Target) → closing node s.ssn ms t ≡ closing node s.ssn ns t) → (o : Option (ℕ × Target))
    → taken plan node s ms r o ≡ taken plan node s ns r o
same_taken plan node s ms ns r same (Some q) = refl
same_taken plan node s ms ns r same None =
    let all : closing node s.ssn ms ≡ closing node s.ssn ns = λ i t. same t i in
    ap (λ (f : Target → Option Mark). blocked (filter_map f r.targets)) all

same_row : (plan : Network) (node : Node) (s : Spot) (ms ns : List Mark)
    → ((t : Target) → closing node s.ssn ms t ≡ closing node s.ssn ns t) → (o : Option Rule)
    → step_by plan node s ms o ≡ step_by plan node s ns o
same_row plan node s ms ns same None = refl
same_row plan node s ms ns same (Some r) =
    ap (taken plan node s ms r) (same_open node s.ssn ms ns same 0 r.targets)
    ∙ same_taken plan node s ms ns r same (first_open node s.ssn ns 0 r.targets)

same_at : (plan : Network) (s : Spot) (ms ns : List Mark)
    → ((node : Node) (t : Target) → closing node s.ssn ms t ≡ closing node s.ssn ns t) → (o : Option Node)
    → step_at plan s ms o ≡ step_at plan s ns o
same_at plan s ms ns same None = refl
same_at plan s ms ns same (Some node) = same_row plan node s ms ns (same node) (row_for node s)

pub same_step : (plan : Network) (s : Spot) (ms : List Mark) → All IsPointMark ms → step plan s (with_sccp ms) ≡ step plan s ms
same_step plan s ms all =
    same_at plan s (with_sccp ms) ms (λ node t. same_closing ms all node s.ssn t) (slice_get plan.nodes s.node)
