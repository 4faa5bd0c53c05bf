-- The batches of a trace, line by line.
use Rattle.std.proofs.Common.{◌≡◌, ◌⊎◌, ◌<◌, List, [], ◌∷◌, ◌++◌, length, true, false, cond, refl, sym, ◌∙◌, ap, subst, append-nil}
use Rattle.std.proofs.Common.{append_assoc, arith, inl, inr}
use Rattle.std.proofs.lemmas.List.{length-append}
use Rattle.plan_model.specs.Network.{Network}
use Rattle.relay_net.specs.Batches.{Due}
use Rattle.sccp_report.specs.Roles.{Role, routed, later, aside, alone, role_of}
use Rattle.trace_text.specs.declared.line.Numbered.{Numbered}
use Rattle.sccp_replay.specs.BatchEnds.{begun_by, with_line, begun_after}
use Rattle.sccp_replay.specs.Replay.{is_full}
use Rattle.sccp_replay.proofs.Holding.{Joins, fold_append}
use Rattle.sccp_replay.proofs.Parts.{cut, no_front, same_head, same_tail}

-- a batch has begun with each front of these lines
abbrev pub IsOpen : Network → List Numbered → List Numbered → Type 0
IsOpen first done batch = (b r : List Numbered) → batch ≡ b ++ r → begun_after first (done ++ b) ≡ b

-- with each front that has not all of them
abbrev pub IsRun : Network → List Numbered → List Numbered → Type 0
IsRun first done ls = (b r : List Numbered) → ls ≡ b ++ r → 0 < length r → begun_after first (done ++ b) ≡ b

pub run_of : (first : Network) (done batch : List Numbered) → IsOpen first done batch → IsRun first done batch
run_of first done batch h b r e some = h b r e

all_begun : (first : Network) (done batch : List Numbered) → IsOpen first done batch → begun_after first (done ++ batch) ≡ batch
all_begun first done batch h = h batch [] (sym (append-nil batch))

pub run_more : (first : Network) (done batch : List Numbered) (l : Numbered) → IsOpen first done batch
    → IsRun first done (batch ++ l ∷ [])
run_more first done batch l h b r e some = on (cut batch (l ∷ []) b r e) where
  at_end : (c : List Numbered) → b ≡ batch ++ c → l ∷ [] ≡ c ++ r → begun_after first (done ++ b) ≡ b
  at_end [] f g = subst (λ k. begun_after first (done ++ k) ≡ k) (sym (f ∙ append-nil batch)) (all_begun first done batch h)
  at_end (m ∷ c) f g = absurd (omega (arith, some, ap length (same_tail g), length-append c r))

  on : ((mid : List Numbered) × (batch ≡ b ++ mid)) ⊎ ((c : List Numbered) × (b ≡ batch ++ c) × (l ∷ [] ≡ c ++ r))
      → begun_after first (done ++ b) ≡ b
  on (inl q) = h b q.0 q.1
  on (inr q) = at_end q.0 q.1 q.2

pub open_none : (first : Network) (done : List Numbered) → begun_after first done ≡ [] → IsOpen first done []
open_none first done h b r e = subst (λ k. begun_after first (done ++ k) ≡ k) (sym (no_front b r e))
    (ap (begun_after first) (append-nil done) ∙ h)

next : (first : Network) (done : List Numbered) (l : Numbered)
    → begun_after first (done ++ l ∷ []) ≡ begun_by (begun_after first done) l (role_of first l.line)
next first done l = fold_append (with_line first) [] done (l ∷ [])

joined : (batch : List Numbered) (l : Numbered) (r : Role) → ((d : Rattle.std.specs.Prelude.Option Due) → r ≡ alone d → ⊥)
    → begun_by batch l r ≡ cond (is_full (batch ++ l ∷ [])) [] (batch ++ l ∷ [])
joined batch l (routed x) never = refl
joined batch l (later name) never = refl
joined batch l aside never = refl
joined batch l (alone d) never = absurd (never d refl)

after_joined : (first : Network) (done batch : List Numbered) (l : Numbered) → IsOpen first done batch → Joins first l
    → begun_after first (done ++ (batch ++ l ∷ [])) ≡ cond (is_full (batch ++ l ∷ [])) [] (batch ++ l ∷ [])
after_joined first done batch l h own = ap (begun_after first) (sym (append_assoc done batch (l ∷ []))) ∙ next first (done ++ batch) l
    ∙ ap (λ k. begun_by k l (role_of first l.line)) (all_begun first done batch h) ∙ joined batch l (role_of first l.line) own

pub full_ends : (first : Network) (done batch : List Numbered) (l : Numbered) → IsOpen first done batch → Joins first l
    → is_full (batch ++ l ∷ []) ≡ true → begun_after first (done ++ (batch ++ l ∷ [])) ≡ []
full_ends first done batch l h own full = after_joined first done batch l h own ∙ ap (λ b. cond b [] (batch ++ l ∷ [])) full

pub alone_ends : (first : Network) (done : List Numbered) (l : Numbered) (d : Rattle.std.specs.Prelude.Option Due)
    → role_of first l.line ≡ alone d → begun_after first (done ++ l ∷ []) ≡ []
alone_ends first done l d role = next first done l ∙ ap (begun_by (begun_after first done) l) role

pub open_more : (first : Network) (done batch : List Numbered) (l : Numbered) → IsOpen first done batch → Joins first l
    → is_full (batch ++ l ∷ []) ≡ false → IsOpen first done (batch ++ l ∷ [])
open_more first done batch l h own few b r e = on (cut batch (l ∷ []) b r e) where
  whole : begun_after first (done ++ (batch ++ l ∷ [])) ≡ batch ++ l ∷ []
  whole = after_joined first done batch l h own ∙ ap (λ b. cond b [] (batch ++ l ∷ [])) few

  at_end : (c : List Numbered) → b ≡ batch ++ c → l ∷ [] ≡ c ++ r → begun_after first (done ++ b) ≡ b
  at_end [] f g = subst (λ k. begun_after first (done ++ k) ≡ k) (sym (f ∙ append-nil batch)) (all_begun first done batch h)
  at_end (m ∷ c) f g = subst (λ k. begun_after first (done ++ k) ≡ k)
      (sym (f ∙ (λ i. batch ++ (sym (same_head g) i ∷ no_front c r (same_tail g) i)))) whole

  on : ((mid : List Numbered) × (batch ≡ b ++ mid)) ⊎ ((c : List Numbered) × (b ≡ batch ++ c) × (l ∷ [] ≡ c ++ r))
      → begun_after first (done ++ b) ≡ b
  on (inl q) = h b q.0 q.1
  on (inr q) = at_end q.0 q.1 q.2
