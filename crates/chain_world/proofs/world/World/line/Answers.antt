use Rattle.std.proofs.Common.{◌≡◌, ◌<◌, ℕ, List, Option, Some, None, IfOk, IfSome, All, false, length, refl, ap, sym, subst, ◌∙◌}
use Rattle.std.specs.Prelude.{option_map}
use Rattle.plan_model.specs.Network as plans
use Rattle.couple_chain.specs.Line as lines
use Rattle.couple_chain.specs.Line.{line, IsInOrder, IsThrough}
use Rattle.couple_chain.specs.Relays.{Relaying}
use Rattle.couple_chain.specs.World.{is_node}
use Rattle.couple_chain.proofs.Lines.{in_order, through}
use Rattle.couple_chain.proofs.Worlds.{all_hold}
use Rattle.chain_world.specs.declared.line.Line.{Line}
use Rattle.chain_world.specs.declared.link.Link.{Link}
use Rattle.chain_world.specs.declared.stage.Stage.{Stage}
use Rattle.chain_world.specs.Kept.{Kept, network_of, world_of}
use Rattle.chain_world.specs.Staged.{told_line, first_in, stages_from, line_by}
use Rattle.chain_world.proofs.Lined.{found_path, first_within, path_within}
use Rattle.chain_world.proofs.Values.{ok_then}
use Rattle.chain_world.proofs.world.World.line.Goals as goal

if_told : (plan : plans.Network) (P : lines.Line → Type 0) (o : Option lines.Line) (l : Option Line) → ((x : lines.Line) → o ≡ Some x → P x)
    → option_map (told_line plan) l ≡ o → IfSome l (λ x. P (told_line plan x))
if_told plan P o None f e = tt
if_told plan P o (Some x) f e = f (told_line plan x) (sym e)

pub returns-in_default-clause-line : goal.returns-in_default-clause-line
returns-in_default-clause-line c =
    let out : is_node (network_of c.self.inside.plan) c.args.point ≡ false =
    subst (λ (k : Kept). is_node (network_of k.plan) c.args.point ≡ false) (sym c.self.view_is) (sym c.is_node.ensures
    ∙ c.if-is_node.false) in
    let none : first_in 0 c.self.inside.relays.items c.args.point c.args.reference ≡ None =
    ap (λ (rs : List Relaying). first_in 0 rs c.args.point c.args.reference) (sym c.as_slice-relays.ensures.value)
    ∙ sym c.first_stage.ensures ∙ c.in_default.is in
    subst (λ (k : Kept). None ≡ line (network_of k.plan) (world_of k) c.args.point c.args.reference) c.self.view_is
    (found_path c.self.inside.plan c.self.inside.relays.items c.self.inside.links.items c.self.inside.history.items c.self.invariant
    c.args.point c.args.reference None None out none refl)

pub follow-requires-clause-inside : goal.follow-requires-clause-inside
follow-requires-clause-inside c =
    first_within c.self.inside.plan c.self.inside.relays.items c.self.inside.links.items c.self.inside.history.items c.self.invariant
    c.args.point c.args.reference c.in-Some.first
    (ap (λ (rs : List Relaying). first_in 0 rs c.args.point c.args.reference) (sym c.as_slice-relays.ensures.value)
    ∙ sym c.first_stage.ensures ∙ c.in-Some.is)

pub returns-in_default-2-clause-line : goal.returns-in_default-2-clause-line
returns-in_default-2-clause-line c =
    let out : is_node (network_of c.self.inside.plan) c.args.point ≡ false =
    subst (λ (k : Kept). is_node (network_of k.plan) c.args.point ≡ false) (sym c.self.view_is) (sym c.is_node.ensures
    ∙ c.if-is_node.false) in
    let first : first_in 0 c.self.inside.relays.items c.args.point c.args.reference ≡ Some c.in-Some.first =
    ap (λ (rs : List Relaying). first_in 0 rs c.args.point c.args.reference) (sym c.as_slice-relays.ensures.value)
    ∙ sym c.first_stage.ensures ∙ c.in-Some.is in
    let none : stages_from c.self.inside.plan c.self.inside.relays.items 15 c.in-Some.first ≡ None =
    ap (λ (rs : List Relaying). stages_from c.self.inside.plan rs 15 c.in-Some.first) (sym c.as_slice-relays.ensures.value)
    ∙ sym c.in_ok-path.ensures ∙ c.in_default-2.is in
    subst (λ (k : Kept). None ≡ line (network_of k.plan) (world_of k) c.args.point c.args.reference) c.self.view_is
    (found_path c.self.inside.plan c.self.inside.relays.items c.self.inside.links.items c.self.inside.history.items c.self.invariant
    c.args.point c.args.reference (Some c.in-Some.first) None out first none)

pub line_along-requires-clause-inside : goal.line_along-requires-clause-inside
line_along-requires-clause-inside c =
    let first : first_in 0 c.self.inside.relays.items c.args.point c.args.reference ≡ Some c.in-Some.first =
    ap (λ (rs : List Relaying). first_in 0 rs c.args.point c.args.reference) (sym c.as_slice-relays.ensures.value)
    ∙ sym c.first_stage.ensures ∙ c.in-Some.is in
    let path : stages_from c.self.inside.plan c.self.inside.relays.items 15 c.in-Some.first ≡ Some c.in-Some-2.path =
    ap (λ (rs : List Relaying). stages_from c.self.inside.plan rs 15 c.in-Some.first) (sym c.as_slice-relays.ensures.value)
    ∙ sym c.in_ok-path.ensures ∙ c.in-Some-2.is in
    subst (All (λ (s : Stage). s.node < length c.self.inside.plan.nodes)) (sym c.as_slice.ensures)
    (path_within c.self.inside.plan c.self.inside.relays.items c.self.inside.links.items c.self.inside.history.items c.self.invariant
    c.args.point c.args.reference c.in-Some.first c.in-Some-2.path first path)

told : (c : goal.After-drop-path-inside) → IfOk c.line_along.result (λ l. option_map (told_line c.args.self.now.plan) l
    ≡ line (network_of c.args.self.now.plan) (world_of c.args.self.now) c.args.point c.args.reference)
told c =
    let out : is_node (network_of c.self.inside.plan) c.args.point ≡ false =
    subst (λ (k : Kept). is_node (network_of k.plan) c.args.point ≡ false) (sym c.self.view_is) (sym c.is_node.ensures
    ∙ c.if-is_node.false) in
    let first : first_in 0 c.self.inside.relays.items c.args.point c.args.reference ≡ Some c.in-Some.first =
    ap (λ (rs : List Relaying). first_in 0 rs c.args.point c.args.reference) (sym c.as_slice-relays.ensures.value)
    ∙ sym c.first_stage.ensures ∙ c.in-Some.is in
    let path : stages_from c.self.inside.plan c.self.inside.relays.items 15 c.in-Some.first ≡ Some c.in-Some-2.path =
    ap (λ (rs : List Relaying). stages_from c.self.inside.plan rs 15 c.in-Some.first) (sym c.as_slice-relays.ensures.value)
    ∙ sym c.in_ok-path.ensures ∙ c.in-Some-2.is in
    let whole =
    ap (λ (rs : List Relaying). line_by c.self.inside.plan rs c.as_slice-links.result.now c.args.point
    (Some c.as_slice.result.now)) c.as_slice-relays.ensures.value
    ∙ ap (λ (ls : List Link). line_by c.self.inside.plan c.self.inside.relays.items ls c.args.point
    (Some c.as_slice.result.now)) c.as_slice-links.ensures.value
    ∙ ap (λ (ss : List Stage). line_by c.self.inside.plan c.self.inside.relays.items c.self.inside.links.items c.args.point
    (Some ss)) c.as_slice.ensures
    ∙ found_path c.self.inside.plan c.self.inside.relays.items c.self.inside.links.items c.self.inside.history.items c.self.invariant
    c.args.point c.args.reference (Some c.in-Some.first) (Some c.in-Some-2.path) out first path in
    subst (λ (k : Kept). IfOk c.line_along.result (λ l. option_map (told_line k.plan) l
    ≡ line (network_of k.plan) (world_of k) c.args.point c.args.reference)) c.self.view_is
    (ok_then c.line_along.result (λ l e. e ∙ whole) c.line_along.ensures.value)

pub returns-clause-line : goal.returns-clause-line
returns-clause-line c = told c

pub returns-clause-inside : goal.returns-clause-inside
returns-clause-inside c =
    subst (λ (k : Kept). IfOk c.line_along.result (λ l. IfSome l
    (λ (x : Line). All (λ (node : ℕ). node < length k.plan.nodes) x.path))) c.self.view_is c.line_along.ensures.inside

pub returns-clause-order : goal.returns-clause-order
returns-clause-order c = λ fresh.
    ok_then c.line_along.result
    (λ l e. if_told c.args.self.now.plan IsInOrder (line (network_of c.args.self.now.plan)
    (world_of c.args.self.now) c.args.point c.args.reference) l
    (λ x is. in_order (network_of c.args.self.now.plan) (world_of c.args.self.now)
    (all_hold (network_of c.args.self.now.plan) c.args.self.now.history fresh) c.args.point c.args.reference x is) e)
    (told c)

pub returns-clause-all : goal.returns-clause-all
returns-clause-all c = λ fresh settled.
    ok_then c.line_along.result
    (λ l e. if_told c.args.self.now.plan IsThrough (line (network_of c.args.self.now.plan)
    (world_of c.args.self.now) c.args.point c.args.reference) l
    (λ x is. through (network_of c.args.self.now.plan) (world_of c.args.self.now)
    (all_hold (network_of c.args.self.now.plan) c.args.self.now.history fresh) settled c.args.point c.args.reference x is) e)
    (told c)
