-- relays whose rows do not differ
use Rattle.std.specs.Prelude.{ℕ, ◌≡◌, ◌⊎◌, ◌+◌, ◌==◌, not, cond, List, [], ◌∷◌, map, Option, Some, None, IsSomeAnd, slice_get, refl}
use Rattle.std.specs.Option.{option_map, unwrap_or}
use Rattle.std.proofs.Common.{sym, ◌∙◌, ap, subst, inl, inr}
use Rattle.std.proofs.lemmas.Option.{slice_get-map}
use Rattle.sccp_base.specs.declared.mark.Mark.{Mark}
use Rattle.plan_rules.specs.declared.target.Target.{Target}
use Rattle.plan_rules.specs.declared.target.Target.TheVariants.{Relay, Final}
use Rattle.plan_rules.specs.Rule.{Rule}
use Rattle.plan_model.specs.declared.node.Node.{Node}
use Rattle.plan_model.specs.declared.spot.Spot.{Spot}
use Rattle.plan_model.specs.Network.{Network, node_of}
use Rattle.plan_model.specs.RowFor.{row_for}
use Rattle.plan_model.specs.Targets.{first_open}
use Rattle.plan_model.specs.Steps.{step_at, step_by, taken, led, passed, rewritten}
use Rattle.plan_model.specs.SameNodes.{SameNodes, without_rows}
use Rattle.plan_change.specs.Holdings.{DoSame}
use Rattle.plan_order.specs.Sets.{Differs}
use Rattle.plan_order.proofs.Telling.{IsTold, told_list, told_rule}

abbrev Same : List Node → List Node → Type 0
Same xs ys = map without_rows xs ≡ map without_rows ys

-- point codes lead to the same places in both plans
same_places : (xs ys : List Node) (pc : ℕ) → Same xs ys → node_of xs pc ≡ node_of ys pc
same_places [] [] pc e = refl
same_places [] (y ∷ ys) pc e = absurd (cc)
same_places (x ∷ xs) [] pc e = absurd (cc)
same_places (x ∷ xs) (y ∷ ys) pc e =
    let first : without_rows x ≡ without_rows y = cc in
    let rest : Same xs ys = cc in
    ap (λ (own : ℕ). cond (not (own == pc)) (1 + node_of xs pc) 0) (ap (λ (w : List ℕ × ℕ × List ℕ × List ℕ). w.1) first)
    ∙ ap (λ (n : ℕ). cond (not (y.pc == pc)) (1 + n) 0) (same_places xs ys pc rest)

led_same : (old new : Network) (node : Node) (spot : Spot) (place : ℕ) (t : Target)
    → ((pc : ℕ) → node_of old.nodes pc ≡ node_of new.nodes pc) → led old node spot place t ≡ led new node spot place t
led_same old new node spot place (Final pc named) same = refl
led_same old new node spot place (Relay pc strip put selector named) same =
    ap (λ (n : ℕ). passed (record {
      node = n;
      selector = unwrap_or selector spot.selector;
      ssn = unwrap_or named spot.ssn;
      digits = rewritten strip put spot.digits;
    }) place) (same pc)

taken_same : (old new : Network) (node : Node) (spot : Spot) (marking : List Mark) (r : Rule) (o : Option (ℕ × Target))
    → ((pc : ℕ) → node_of old.nodes pc ≡ node_of new.nodes pc) → taken old node spot marking r o ≡ taken new node spot marking r o
taken_same old new node spot marking r None same = refl
taken_same old new node spot marking r (Some first) same = led_same old new node spot first.0 first.1 same

by_same : (old new : Network) (node : Node) (spot : Spot) (marking : List Mark) (o : Option Rule)
    → ((pc : ℕ) → node_of old.nodes pc ≡ node_of new.nodes pc) → step_by old node spot marking o ≡ step_by new node spot marking o
by_same old new node spot marking None same = refl
by_same old new node spot marking (Some r) same =
    taken_same old new node spot marking r (first_open node spot.ssn marking 0 r.targets) same

-- a relay with the same rows is the same relay
one_node : (a b : Node) → without_rows a ≡ without_rows b → a.table ≡ b.table → a ≡ b
one_node a b e t = λ i. record { name = (e i).0; pc = (e i).1; subsystems = (e i).2; concerned = (e i).3; table = t i }

-- what is known of the relay at a place: the rows differ, or both plans do the same there
abbrev pub Known : Network → Network → ℕ → Type 0
Known old new node = Differs old new node ⊎ ((Differs old new node → ⊥) × DoSame old new node)

pub differs_told : (old new : Network) → SameNodes old new → (node : ℕ) → Known old new node
differs_told old new same node = by (slice_get old.nodes node) (slice_get new.nodes node) refl refl
  where
    alike : (a b : Node) → slice_get old.nodes node ≡ Some a → slice_get new.nodes node ≡ Some b → without_rows a ≡ without_rows b
    alike a b e f =
        let h : Some (without_rows a) ≡ Some (without_rows b) =
        sym (ap (option_map without_rows) e) ∙ sym (slice_get-map without_rows old.nodes node)
        ∙ ap (λ (ws : List (List ℕ × ℕ × List ℕ × List ℕ)). slice_get ws node) same
        ∙ slice_get-map without_rows new.nodes node ∙ ap (option_map without_rows) f in
        cc

    -- there is a relay at the place in both plans, or in neither
    both : (a : Node) → slice_get old.nodes node ≡ Some a → slice_get new.nodes node ≡ None → ⊥
    both a e f =
        let h : Some (without_rows a) ≡ None =
        sym (ap (option_map without_rows) e) ∙ sym (slice_get-map without_rows old.nodes node)
        ∙ ap (λ (ws : List (List ℕ × ℕ × List ℕ × List ℕ)). slice_get ws node) same
        ∙ slice_get-map without_rows new.nodes node ∙ ap (option_map without_rows) f in
        cc

    neither : (b : Node) → slice_get old.nodes node ≡ None → slice_get new.nodes node ≡ Some b → ⊥
    neither b e f =
        let h : None ≡ Some (without_rows b) =
        sym (ap (option_map without_rows) e) ∙ sym (slice_get-map without_rows old.nodes node)
        ∙ ap (λ (ws : List (List ℕ × ℕ × List ℕ × List ℕ)). slice_get ws node) same
        ∙ slice_get-map without_rows new.nodes node ∙ ap (option_map without_rows) f in
        cc

    at : (o p : Option Node) → slice_get old.nodes node ≡ o → slice_get new.nodes node ≡ p
        → ((spot : Spot) (marking : List Mark) → step_at old spot marking o ≡ step_at new spot marking p) → DoSame old new node
    at o p e f h spot marking here =
        ap (step_at old spot marking) (ap (slice_get old.nodes) here ∙ e) ∙ h spot marking
        ∙ sym (ap (step_at new spot marking) (ap (slice_get new.nodes) here ∙ f))

    same_steps : (a b : Node) → a ≡ b → (spot : Spot) (marking : List Mark)
        → step_at old spot marking (Some a) ≡ step_at new spot marking (Some b)
    same_steps a b e spot marking =
        by_same old new a spot marking (row_for a spot) (λ pc. same_places old.nodes new.nodes pc same)
        ∙ ap (λ (n : Node). step_by new n spot marking (row_for n spot)) e

    rows : (a b : Node) → slice_get old.nodes node ≡ Some a → slice_get new.nodes node ≡ Some b → IsTold a.table b.table
        → Known old new node
    rows a b e f (inr other) =
        inl (subst (λ (o : Option Node). IsSomeAnd o (λ x. IsSomeAnd (slice_get new.nodes node) (λ y. x.table ≡ y.table → ⊥))) (sym e)
        (subst (λ (o : Option Node). IsSomeAnd o (λ y. a.table ≡ y.table → ⊥)) (sym f) other))
    rows a b e f (inl one) = inr (
      λ differs. subst (λ (o : Option Node). IsSomeAnd o (λ y. a.table ≡ y.table → ⊥)) f
          (subst (λ (o : Option Node). IsSomeAnd o (λ x. IsSomeAnd (slice_get new.nodes node) (λ y. x.table ≡ y.table → ⊥))) e differs) one,
      at (Some a) (Some b) e f (same_steps a b (one_node a b (alike a b e f) one)),
    )

    by : (o p : Option Node) → slice_get old.nodes node ≡ o → slice_get new.nodes node ≡ p → Known old new node
    by None None e f = inr (
      λ differs. subst (λ (o : Option Node). IsSomeAnd o (λ x. IsSomeAnd (slice_get new.nodes node) (λ y. x.table ≡ y.table
          → ⊥))) e differs,
      at None None e f (λ spot marking. refl),
    )
    by None (Some b) e f = absurd (neither b e f)
    by (Some a) None e f = absurd (both a e f)
    by (Some a) (Some b) e f = rows a b e f (told_list told_rule a.table b.table)
