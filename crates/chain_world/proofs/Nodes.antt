-- The nodes of a plan by their points.
use Rattle.std.specs.Prelude.{ℕ, ◌≡◌, ◌+◌, ◌<◌, ◌==◌, nat_lt, Bool, true, false, not, cond, ◌||◌, List, [], ◌∷◌, length, map, position}
use Rattle.std.specs.Prelude.{Some, None, is_some, refl}
use Rattle.std.specs.List.{list_any, prefix_len, position_or_len}
use Rattle.std.specs.Option.{option_map_or}
use Rattle.std.proofs.Common.{suc, sym, ◌∙◌, ap, ⊎_elim, arith, get_or}
use Rattle.std.proofs.lemmas.Bool.{eqb-true, cases_Bool, ltb-false, ltb-true, lt-ltb}
use Rattle.std.proofs.lemmas.List.Quantifiers.{position-Some}
use Rattle.std.proofs.lemmas.Option.{slice_get-get_or}
use Rattle.plan_model.specs.declared.node.Node.{Node}
use Rattle.plan_model.specs.Network.{Network, IsPlan, has_point, node_of}
use Rattle.sccp_scrc.specs.Arriving.{point_of}
use Rattle.couple_chain.specs.World.{is_node}
use Rattle.chain_world.specs.Kept.{network_of}

-- some element passes exactly if there is a first one that does
any_first : {A : Type 0} (p : A → Bool) (xs : List A) → list_any p xs ≡ nat_lt (position_or_len p xs) (length xs)
any_first p [] = refl
any_first {A} p (x ∷ xs) =
    elim (p x) as (λ b. (b || list_any p xs) ≡ nat_lt (cond (not b) (1 + prefix_len (λ y. not (p y)) xs) 0) (length (x ∷ xs))) [
      | true ↦ sym (lt-ltb 0 (length (x ∷ xs)) (omega arith))
      | false ↦ any_first p xs ∙ further (prefix_len (λ y. not (p y)) xs) (length xs)
    ]
  where
    further : (m n : ℕ) → nat_lt m n ≡ nat_lt (1 + m) (suc n)
    further m n = grind arith

any_points : (nodes : List Node) (pc : ℕ) → list_any (λ n. n == pc) (map (λ (node : Node). node.pc) nodes) ≡ list_any (has_point pc) nodes
any_points [] pc = refl
any_points (n ∷ nodes) pc = ap (λ (b : Bool). (n.pc == pc) || b) (any_points nodes pc)

some_if : (b : Bool) (n : ℕ) → is_some (cond b (Some n) None) ≡ b
some_if true n = refl
some_if false n = refl

-- whether a point is a node's
pub node_by_place : (plan : Network) (pc : ℕ) → is_some (position (has_point pc) plan.nodes) ≡ is_node (network_of plan) pc
node_by_place plan pc =
    some_if (nat_lt (position_or_len (has_point pc) plan.nodes) (length plan.nodes)) (position_or_len (has_point pc) plan.nodes)
    ∙ sym (any_first (has_point pc) plan.nodes)
    ∙ sym (any_points plan.nodes pc)

-- the place that was found
pub record At (plan : Network) (pc place : ℕ) : Type 0 where
  pub within : place < length plan.nodes
  pub point_is : point_of plan place ≡ pc
  pub found : node_of plan.nodes pc ≡ place

place_is : {A : Type 0} (p : A → Bool) (xs : List A) (i : ℕ) → position p xs ≡ Some i → position_or_len p xs ≡ i
place_is p xs i h =
    elim (nat_lt (position_or_len p xs) (length xs)) as (λ b. cond b (Some (position_or_len p xs)) None ≡ Some i
    → position_or_len p xs ≡ i) [
      | true ↦ λ k. cc
      | false ↦ λ k. absurd (let z : None ≡ Some i = k in cc)
    ] h

with_node : (nodes : List Node) (i : ℕ) → i < length nodes → (P : Type 0) → ((d : Node) → P) → P
with_node [] i lt P f = absurd (omega arith)
with_node (n ∷ nodes) i lt P f = f n

-- the point of the relay at a place of the plan
pub point_by : (plan : Network) (i : ℕ) (d : Node) → i < length plan.nodes → point_of plan i ≡ (get_or plan.nodes i d).pc
point_by plan i d lt = ap (λ o. option_map_or (λ (n : Node). n.pc) o 0) (slice_get-get_or plan.nodes i d lt)

within_by : (nodes : List Node) (pc i : ℕ) → position (has_point pc) nodes ≡ Some i → i < length nodes
within_by [] pc i h = absurd (cc)
within_by (n ∷ nodes) pc i h = (position-Some (has_point pc) (n ∷ nodes) i n h).0

-- a relay that is found under a point is at a place of the plan, and has that point
pub at_place : (plan : Network) (pc place : ℕ) → position (has_point pc) plan.nodes ≡ Some place → At plan pc place
at_place plan pc place h =
    let lt = within_by plan.nodes pc place h in
    record {
      within = lt;
      point_is = with_node plan.nodes place lt (point_of plan place ≡ pc) (λ d. point_by plan place d lt
          ∙ eqb-true (get_or plan.nodes place d).pc pc (position-Some (has_point pc) plan.nodes place d h).1);
      found = place_is (has_point pc) plan.nodes place h;
    }

-- a point under which a relay is found is a relay's
pub node_there : (plan : Network) (pc place : ℕ) → position (has_point pc) plan.nodes ≡ Some place → is_node (network_of plan) pc ≡ true
node_there plan pc place h = sym (node_by_place plan pc) ∙ ap is_some h

-- a point under which none is found is an end's
pub node_not_there : (plan : Network) (pc : ℕ) → position (has_point pc) plan.nodes ≡ None → is_node (network_of plan) pc ≡ false
node_not_there plan pc h = sym (node_by_place plan pc) ∙ ap is_some h

-- no two nodes have the same point
pub points_differ : (plan : Network) → IsPlan plan → (i j : ℕ) → i < length plan.nodes → j < length plan.nodes → (i ≡ j → ⊥)
    → point_of plan i ≡ point_of plan j → ⊥
points_differ plan is i j li lj differ same =
    with_node plan.nodes i li ⊥
    (λ d.
    let e : (get_or plan.nodes i d).pc ≡ (get_or plan.nodes j d).pc = sym (point_by plan i d li) ∙ same ∙ point_by plan j d lj in
    ⊎_elim
    (λ (less : nat_lt i j ≡ true). is.points i j d (ltb-true i j less) lj e)
    (λ (more : nat_lt i j ≡ false). let le = ltb-false i j more in is.points j i d (omega (arith, le, differ)) li (sym e))
    (cases_Bool (nat_lt i j)))
