-- A line as running relays find it is the line of the definition.
use Rattle.std.specs.Prelude.{ℕ, ◌≡◌, ◌+◌, ◌<◌, Bool, true, false, not, cond, ◌&&◌, List, [], ◌∷◌, find, map, length, position, Option}
use Rattle.std.specs.Prelude.{Some, None, is_some, option_map, option_and_then, refl}
use Rattle.std.proofs.Common.{zero, suc, sym, ◌∙◌, ap, subst, ⊎_elim, arith, get_or}
use Rattle.plan_model.specs.declared.node.Node.{Node}
use Rattle.plan_model.specs.Network as plans
use Rattle.plan_model.specs.Network.{has_point}
use Rattle.sccp_scrc.specs.Arriving.{point_of}
use Rattle.sccp_couple.specs.declared.section.Section.{Section}
use Rattle.sccp_couple.specs.Sections.{is_that, section_at, other_of, has_remote, is_established, is_near_of}
use Rattle.sccp_couple.specs.Runs.{Pair, Moment}
use Rattle.sccp_couple.proofs.Lookups.{option_cases, own_at}
use Rattle.couple_chain.specs.Line.{Leg, leg_with, leg_of, starts_at, leg_from, or_else, first_leg, next_leg, before, if_joined, legs_from}
use Rattle.couple_chain.specs.Relays.{Relaying}
use Rattle.couple_chain.specs.World.{Network, World, is_node}
use Rattle.couple_chain.proofs.Lines.{none_from}
use Rattle.chain_world.specs.declared.stage.Stage.{Stage}
use Rattle.chain_world.specs.Kept.{network_of}
use Rattle.chain_world.specs.Staged.{stage_with, stage_of, or_stage, first_in, sections_at, joined_to, next_in, is_open, stages_onward}
use Rattle.chain_world.specs.Staged.{stages_from}
use Rattle.chain_world.proofs.Happens.{IsRegular}
use Rattle.chain_world.proofs.Legs.{own_found, leg_is, no_leg}
use Rattle.chain_world.proofs.Nodes.{at_place, node_there, node_not_there}

-- what is found of a leg of the definition
pub record IsStage (plan : plans.Network) (w : World) (l : Leg) (s : Stage) : Type 0 where
  pub node_is : l.node ≡ point_of plan s.node
  pub within : s.node < length plan.nodes
  pub near_is : s.near ≡ l.near
  pub far_is : s.far ≡ l.far
  pub near_at : section_at (w.moments l.node).sections l.near.own ≡ Some l.near
  pub joined : other_of (w.moments l.node).sections l.near ≡ Some l.far
  pub stands : l.pair.stands ≡ true
  pub pair_near : l.pair.near ≡ l.near.own
  pub pair_far : l.pair.far ≡ l.far.own
  pub found : (q : Pair → Bool) × (find q (w.moments l.node).pairs ≡ Some l.pair)

-- a pair is found exactly if the definition has a leg, and it is that leg's
abbrev pub Same : plans.Network → World → Option Leg → Option Stage → Type 0
Same plan w None None = Unit {0}
Same plan w (Some l) (Some s) = IsStage plan w l s
Same plan w None (Some s) = ⊥
Same plan w (Some l) None = ⊥

none_both : (plan : plans.Network) (w : World) (o : Option Leg) (x : Option Stage) → o ≡ None → x ≡ None → Same plan w o x
none_both plan w o x e f = subst (λ (y : Option Stage). Same plan w o y) (sym f) (subst (λ (p : Option Leg). Same plan w p None) (sym e) tt)

some_both : (plan : plans.Network) (w : World) (o : Option Leg) (x : Option Stage) (l : Leg) (s : Stage) → o ≡ Some l → x ≡ Some s
    → IsStage plan w l s → Same plan w o x
some_both plan w o x l s e f is = subst (λ (y : Option Stage). Same plan w o y) (sym f)
    (subst (λ (p : Option Leg). Same plan w p (Some s)) (sym e) is)

found_both : (plan : plans.Network) (w : World) (place : ℕ) → place < length plan.nodes → IsRegular (w.moments (point_of plan place))
    → (point remote o : ℕ) (s t : Section) →
    find (is_near_of point remote) (w.moments (point_of plan place)).sections ≡ Some s → s.other ≡ Some o
    → section_at (w.moments (point_of plan place)).sections o ≡ Some t →
    Same plan w (leg_from w point remote (point_of plan place)) (stage_of (w.moments (point_of plan place)).sections place point remote)
found_both plan w place within regular point remote o s t found other at =
    let node : ℕ = point_of plan place in
    let m : Moment = w.moments node in
    let own = own_found (is_near_of point remote) m.sections regular.kept.coupling.differ s found in
    let p = leg_is m regular.kept point remote o s found other in
    let joined : other_of m.sections s ≡ Some t = ap (option_and_then (section_at m.sections)) other ∙ at in
    let far_own : t.own ≡ o = own_at m.sections o t at in
    some_both plan w (leg_from w point remote node) (stage_of m.sections place point remote)
    (record { node = node; pair = p.0; near = s; far = t }) (record { node = place; near = s; far = t })
    (ap (option_and_then (leg_of m node)) p.1
    ∙ ap (λ (x : Option Section). leg_with node p.0 x (section_at m.sections p.0.far)) (ap (section_at m.sections) p.3 ∙ own.0)
    ∙ ap (λ (x : Option Section). leg_with node p.0 (Some s) x) (ap (section_at m.sections) p.4 ∙ at))
    (ap (option_and_then (stage_with m.sections place)) found
    ∙ ap (option_map (λ (far : Section). record { node = place; near = s; far = far })) joined)
    (record {
      node_is = refl;
      within = within;
      near_is = refl;
      far_is = refl;
      near_at = own.0;
      joined = joined;
      stands = p.2;
      pair_near = p.3;
      pair_far = p.4 ∙ sym far_own;
      found = (starts_at m point remote, p.1);
    })

-- at each relay a pair is found exactly if the definition has one, and it is that one
pub stage_is_leg : (plan : plans.Network) (w : World) (place : ℕ) → place < length plan.nodes → IsRegular (w.moments (point_of plan place))
    → (point remote : ℕ) →
    Same plan w (leg_from w point remote (point_of plan place)) (stage_of (w.moments (point_of plan place)).sections place point remote)
stage_is_leg plan w place within regular point remote =
    let node : ℕ = point_of plan place in
    let m : Moment = w.moments node in
    ⊎_elim
    (λ (none : find (is_near_of point remote) m.sections ≡ None).
    none_both plan w (leg_from w point remote node) (stage_of m.sections place point remote)
    (ap (option_and_then (leg_of m node)) (no_leg m regular.kept regular.fair point remote (λ s o e f. none_some s (sym none ∙ e))))
    (ap (option_and_then (stage_with m.sections place)) none))
    (λ (some : (s : Section) × (find (is_near_of point remote) m.sections ≡ Some s)).
    ⊎_elim
    (λ (alone : some.0.other ≡ None).
    none_both plan w (leg_from w point remote node) (stage_of m.sections place point remote)
    (ap (option_and_then (leg_of m node)) (no_leg m regular.kept regular.fair point remote
    (λ s o e f. alone_not some.0 s o (sym some.1 ∙ e) alone f)))
    (ap (option_and_then (stage_with m.sections place)) some.1
    ∙ ap (λ (x : Option ℕ). option_map (λ (far : Section). record { node = place; near = some.0; far = far })
    (option_and_then (section_at m.sections) x)) alone))
    (λ (other : (o : ℕ) × (some.0.other ≡ Some o)).
    let own = own_found (is_near_of point remote) m.sections regular.kept.coupling.differ some.0 some.1 in
    let j = regular.kept.coupling.joined some.0.own some.0 other.0 own.0 other.1 in
    found_both plan w place within regular point remote other.0 some.0 j.0 some.1 other.1 j.1)
    (option_cases some.0.other))
    (option_cases (find (is_near_of point remote) m.sections))
  where
    none_some : (s : Section) → None ≡ Some s → ⊥
    none_some s h = cc

    alone_not : (s t : Section) (o : ℕ) → Some s ≡ Some t → s.other ≡ None → t.other ≡ Some o → ⊥
    alone_not s t o e f g = let same : s ≡ t = cc in let z : None ≡ Some o = sym f ∙ ap (λ (x : Section). x.other) same ∙ g in cc

-- ---- the first one

or_same : (plan : plans.Network) (w : World) (o p : Option Leg) (x y : Option Stage) → Same plan w o x → Same plan w p y
    → Same plan w (or_else o p) (or_stage x y)
or_same plan w None p None y h k = k
or_same plan w (Some l) p (Some s) y h k = h
or_same plan w None p (Some s) y h k = absurd h
or_same plan w (Some l) p None y h k = absurd h

-- over all relays a first pair is found exactly if the definition has one, and it is that one
pub first_same : (plan : plans.Network) (w : World) → ((n : ℕ) → IsRegular (w.moments n)) → (rs : List Relaying) (nodes : List Node) (k : ℕ)
    → length rs ≡ length nodes → k + length rs ≡ length plan.nodes →
    ((i : ℕ) (e : Node) → i < length nodes → point_of plan (k + i) ≡ (get_or nodes i e).pc)
    → ((i : ℕ) (d : Relaying) → i < length rs → (get_or rs i d).sections ≡ (w.moments (point_of plan (k + i))).sections)
    → (point remote : ℕ) →
    Same plan w (first_leg w point remote (map (λ (node : Node). node.pc) nodes)) (first_in k rs point remote)
first_same plan w regular [] [] k same whole points sections point remote = tt
first_same plan w regular [] (n ∷ nodes) k same whole points sections point remote = absurd (omega (arith, same))
first_same plan w regular (r ∷ rs) [] k same whole points sections point remote = absurd (omega (arith, same))
first_same plan w regular (r ∷ rs) (n ∷ nodes) k same whole points sections point remote =
    let zero_more : k + 0 ≡ k = omega arith in
    let here : point_of plan k ≡ n.pc = ap (point_of plan) (sym zero_more) ∙ points 0 n (omega arith) in
    let mine : r.sections ≡ (w.moments (point_of plan k)).sections = sections 0 r (omega arith)
    ∙ ap (λ (j : ℕ). (w.moments (point_of plan j)).sections) zero_more in
    let first = stage_is_leg plan w k (omega (arith, whole)) (regular (point_of plan k)) point remote in
    or_same plan w (leg_from w point remote n.pc) (first_leg w point remote (map (λ (node : Node). node.pc) nodes))
    (stage_of r.sections k point remote) (first_in (k + 1) rs point remote)
    (subst (λ (p : ℕ). Same plan w (leg_from w point remote p) (stage_of r.sections k point remote)) here
    (subst (λ l. Same plan w (leg_from w point remote (point_of plan k)) (stage_of l k point remote)) (sym mine) first))
    (first_same plan w regular rs nodes (k + 1) (omega (arith, same)) (omega (arith, whole))
    (λ i e lt. ap (point_of plan) (further k i) ∙ points (suc i) e (omega (arith, lt)))
    (λ i d lt. sections (suc i) d (omega (arith, lt)) ∙ ap (λ (j : ℕ). (w.moments (point_of plan j)).sections) (sym (further k i)))
    point remote)
  where
    further : (k i : ℕ) → (k + 1) + i ≡ k + suc i
    further k i = omega arith

-- ---- those after it

-- the pairs that were found are those of the legs, one by one
abbrev pub AllSame : plans.Network → World → List Leg → List Stage → Type 0
AllSame plan w [] [] = Unit {0}
AllSame plan w (l ∷ ls) (s ∷ ss) = IsStage plan w l s × AllSame plan w ls ss
AllSame plan w [] (s ∷ ss) = ⊥
AllSame plan w (l ∷ ls) [] = ⊥

-- pairs were found exactly if the definition has legs, and they are those
abbrev pub SameLists : plans.Network → World → Option (List Leg) → Option (List Stage) → Type 0
SameLists plan w None None = Unit {0}
SameLists plan w (Some ls) (Some ss) = AllSame plan w ls ss
SameLists plan w None (Some ss) = ⊥
SameLists plan w (Some ls) None = ⊥

before_same : (plan : plans.Network) (w : World) (l : Leg) (s : Stage) (o : Option (List Leg)) (x : Option (List Stage))
    → IsStage plan w l s → SameLists plan w o x → SameLists plan w (before l o) (option_map (λ ss. s ∷ ss) x)
before_same plan w l s None None is h = tt
before_same plan w l s (Some ls) (Some ss) is h = (is, h)
before_same plan w l s None (Some ss) is h = absurd h
before_same plan w l s (Some ls) None is h = absurd h

joined_same : (plan : plans.Network) (w : World) (l : Leg) (s : Stage) (o : Option Leg) (x : Option Stage) → IsStage plan w l s
    → Same plan w o x → Same plan w (option_and_then (if_joined l) o) (option_and_then (joined_to s) x)
joined_same plan w l s None None is h = tt
joined_same plan w l s (Some m) (Some t) is h =
    subst (λ (b : Bool). Same plan w (if_joined l m) (cond b (Some t) None))
    (ap (λ (x : Section). is_that x.remote m.near.own) (sym is.far_is)
    ∙ ap (λ (x : Section). is_that s.far.remote x.own) (sym h.near_is))
    (elim (is_that l.far.remote m.near.own) as (λ b. Same plan w (cond b (Some m) None) (cond b (Some t) None)) [ true ↦ h | false ↦ tt ])
joined_same plan w l s None (Some t) is h = absurd h
joined_same plan w l s (Some m) None is h = absurd h

open_is : (plan : plans.Network) (w : World) (l : Leg) (s : Stage) → IsStage plan w l s
    → is_established (w.moments l.node).sections l.near ≡ is_open s
open_is plan w l s is =
    ap (λ (o : Option Section). is_some l.near.remote && has_remote o) is.joined
    ∙ ap (λ (x : Section). is_some x.remote && is_some l.far.remote) (sym is.near_is)
    ∙ ap (λ (x : Section). is_some s.near.remote && is_some x.remote) (sym is.far_is)

onward_same : (plan : plans.Network) (w : World) (relays : List Relaying) (most : ℕ) (o : Option Leg) (x : Option Stage) →
    ((l : Leg) (s : Stage) → IsStage plan w l s → SameLists plan w (legs_from (network_of plan) w most (Some l))
    (stages_from plan relays most s)) → Same plan w o x →
    SameLists plan w (legs_from (network_of plan) w most o) (option_and_then (λ next. stages_from plan relays most next) x)
onward_same plan w relays most None None h k = subst (λ (y : Option (List Leg)). SameLists plan w y None)
    (sym (none_from (network_of plan) w most)) tt
onward_same plan w relays most (Some l) (Some s) h k = h l s k
onward_same plan w relays most None (Some s) h k = absurd k
onward_same plan w relays most (Some l) None h k = absurd k

-- from a pair on, relays find the pairs that the definition has
pub follow_same : (plan : plans.Network) (w : World) → ((n : ℕ) → IsRegular (w.moments n)) → (relays : List Relaying)
    → ((place : ℕ) → place < length plan.nodes → sections_at relays place ≡ (w.moments (point_of plan place)).sections)
    → (most : ℕ) (l : Leg) (s : Stage) → IsStage plan w l s →
    SameLists plan w (legs_from (network_of plan) w most (Some l)) (stages_from plan relays most s)
follow_same plan w regular relays sections zero l s is = tt
follow_same plan w regular relays sections (suc most) l s is =
    let network : Network = network_of plan in
    let rest : Option (List Leg) = legs_from network w most (option_and_then (if_joined l) (next_leg w l)) in
    let onward : Option (List Stage) = stages_onward (λ next. stages_from plan relays most next) plan relays s
    (position (has_point s.far.point) plan.nodes) in
    subst (λ (b : Bool). SameLists plan w (cond (not b) None (cond (is_node network l.far.point) (before l rest) (Some (l ∷ []))))
    (cond (is_open s) onward None)) (sym (open_is plan w l s is))
    (elim (is_open s) as (λ b. SameLists plan w (cond (not b) None (cond (is_node network l.far.point) (before l rest) (Some (l ∷ []))))
    (cond b onward None)) [
      | false ↦ tt
      | true ↦
          subst (λ (p : ℕ). SameLists plan w (cond (is_node network p) (before l rest) (Some (l ∷ []))) onward)
          (ap (λ (x : Section). x.point) is.far_is)
          (⊎_elim
          (λ (none : position (has_point s.far.point) plan.nodes ≡ None).
          subst (λ (b : Bool). SameLists plan w (cond b (before l rest) (Some (l ∷ []))) onward)
          (sym (node_not_there plan s.far.point none))
          (subst (λ (o : Option ℕ). SameLists plan w (Some (l ∷ []))
          (stages_onward (λ next. stages_from plan relays most next) plan relays s o)) (sym none) (is, tt)))
          (λ (some : (place : ℕ) × (position (has_point s.far.point) plan.nodes ≡ Some place)).
          let at = at_place plan s.far.point some.0 some.1 in
          let next = stage_is_leg plan w some.0 at.within (regular (point_of plan some.0)) l.node l.far.own in
          let there : point_of plan some.0 ≡ l.far.point = at.point_is ∙ ap (λ (x : Section). x.point) is.far_is in
          let mine : Same plan w (next_leg w l) (stage_of (sections_at relays some.0) some.0 (point_of plan s.node) s.far.own) =
          subst (λ (q : List Section). Same plan w (next_leg w l) (stage_of q some.0 (point_of plan s.node) s.far.own))
          (sym (sections some.0 at.within))
          (subst (λ (p : ℕ). Same plan w (next_leg w l) (stage_of
          (w.moments (point_of plan some.0)).sections some.0 p s.far.own)) is.node_is
          (subst (λ (x : Section). Same plan w (next_leg w l) (stage_of (w.moments (point_of plan some.0)).sections some.0 l.node x.own))
          (sym is.far_is)
          (subst (λ (p : ℕ). Same plan w (leg_from w l.node l.far.own p)
          (stage_of (w.moments (point_of plan some.0)).sections some.0 l.node l.far.own)) there next))) in
          subst (λ (b : Bool). SameLists plan w (cond b (before l rest) (Some (l ∷ []))) onward)
          (sym (node_there plan s.far.point some.0 some.1))
          (subst (λ (o : Option ℕ). SameLists plan w (before l rest)
          (stages_onward (λ next. stages_from plan relays most next) plan relays s o)) (sym some.1)
          (before_same plan w l s rest (option_and_then (λ next. stages_from plan relays most next) (next_in plan relays s some.0)) is
          (onward_same plan w relays most (option_and_then (if_joined l) (next_leg w l)) (next_in plan relays s some.0)
          (follow_same plan w regular relays sections most)
          (joined_same plan w l s (next_leg w l) (stage_of (sections_at relays some.0) some.0
          (point_of plan s.node) s.far.own) is mine)))))
          (option_cases (position (has_point s.far.point) plan.nodes)))
    ])
