-- Relays over which data go are a line.
use Rattle.std.specs.Prelude.{ℕ, ◌≡◌, ◌==◌, ◌<◌, Bool, true, false, cond, not, ◌&&◌, ◌||◌, List, [], ◌∷◌, length, map, find, Option, Some}
use Rattle.std.specs.Prelude.{None, refl}
use Rattle.std.specs.Prelude.{option_and_then}
use Rattle.std.specs.List.{list_any}
use Rattle.std.proofs.Common.{zero, suc, sym, ◌∙◌, ap, ⊎_elim, arith}
use Rattle.std.proofs.lemmas.Bool.{eqb-true, eq-eqb, and_parts}
use Rattle.sccp_couple.specs.declared.section.Section.{Section}
use Rattle.sccp_couple.specs.Sections.{is_that, section_at, has_remote, is_established, is_near_of}
use Rattle.sccp_couple.specs.Runs.{Pair, Moment}
use Rattle.sccp_couple.proofs.Fairness.{that_is}
use Rattle.sccp_couple.proofs.Lookups.{option_cases}
use Rattle.couple_chain.specs.declared.happening.Happening.{Happening}
use Rattle.couple_chain.specs.Line.{Leg, leg_with, leg_of, is_from, starts_at, leg_from, or_else, first_leg, next_leg, before, if_joined}
use Rattle.couple_chain.specs.Line.{legs_from}
use Rattle.couple_chain.specs.Line.{last_of, Line, line, line_of, line_from, HasNear}
use Rattle.couple_chain.specs.World.{Network, World, is_node, after}
use Rattle.couple_chain.proofs.Ends.{one_node}
use Rattle.chain_world.proofs.Happens.{IsRegular, regular}
use Rattle.chain_world.proofs.Legs.{own_found, leg_is}
use Rattle.chain_call.proofs.Tokens.{sections_at}
use Rattle.chain_call.proofs.Hops.{Hop, front_point, front_ref, near_section, far_section}
use Rattle.chain_call.proofs.HopSteps.{OpenAt, Opens}

-- the leg of a relay over which data go
abbrev leg_at : ℕ → ℕ → ℕ → Hop → List Hop → Pair → Leg
leg_at end point remote h hops p = record {
  node = h.node;
  pair = p;
  near = near_section h point remote;
  far = far_section h (front_point end hops) (Some (front_ref hops));
}

is_near : (h : Hop) (point remote : ℕ) → is_near_of point remote (near_section h point remote) ≡ true
is_near h point remote = ap (λ (b : Bool). b && (remote == remote)) (eq-eqb point point refl) ∙ eq-eqb remote remote refl

near_parts : (point remote : ℕ) (s : Section) → is_near_of point remote s ≡ true
    → (s.near ≡ true) × (s.point ≡ point) × (s.remote ≡ Some remote)
near_parts point remote s h =
    let a = and_parts s.near ((s.point == point) && is_that s.remote remote) h in
    let b = and_parts (s.point == point) (is_that s.remote remote) a.1 in
    (a.0, eqb-true s.point point b.0, that_is s.remote remote b.1)

-- a section that passes a test is found
some_found : (p : Section → Bool) (l : List Section) (q : ℕ) (s : Section) → section_at l q ≡ Some s → p s ≡ true → find p l ≡ None → ⊥
some_found p [] q s at h none = let z : None ≡ Some s = at in cc
some_found p (x ∷ xs) q s at h none =
    elim (p x) as (λ b. p x ≡ b → cond b (Some x) (find p xs) ≡ None → ⊥) [
      | true ↦ λ e k. let z : Some x ≡ None = k in cc
      | false ↦ λ e k.
          elim (x.own == q) as (λ b. cond b (Some x) (section_at xs q) ≡ Some s → ⊥) [
            | true ↦ λ f. let g : x ≡ s = cc in let z : true ≡ false = sym h ∙ ap p (sym g) ∙ e in cc
            | false ↦ λ f. some_found p xs q s f h k
          ] at
    ] refl none

found : (m : Moment) → IsRegular m → (h : Hop) (point remote : ℕ) → section_at m.sections h.near ≡ Some (near_section h point remote)
    → find (is_near_of point remote) m.sections ≡ Some (near_section h point remote)
found m regular h point remote at =
    let s : Section = near_section h point remote in
    let p : Section → Bool = is_near_of point remote in
    ⊎_elim
    (λ (none : find p m.sections ≡ None). absurd (some_found p m.sections h.near s at (is_near h point remote) none))
    (λ (some : (t : Section) × (find p m.sections ≡ Some t)).
    let own = own_found p m.sections regular.kept.coupling.differ some.0 some.1 in
    let parts = near_parts point remote some.0 own.1 in
    let one : some.0.own ≡ h.near = regular.kept.coupling.near_differ some.0.own h.near some.0 s own.0 at parts.0 refl parts.1 parts.2 in
    let same : Some some.0 ≡ Some s = sym own.0 ∙ ap (section_at m.sections) one ∙ at in
    some.1 ∙ same)
    (option_cases (find p m.sections))

pub leg_there : (network : Network) (w : World) (end point remote : ℕ) (h : Hop) (hops : List Hop) → IsRegular (w.moments h.node)
    → OpenAt network (sections_at w) end point remote h hops
    → (p : Pair) × (leg_from w point remote h.node ≡ Some (leg_at end point remote h hops p))
leg_there network w end point remote h hops regular opened =
    let m : Moment = w.moments h.node in
    let s : Section = near_section h point remote in
    let t : Section = far_section h (front_point end hops) (Some (front_ref hops)) in
    let r = leg_is m regular.kept point remote h.far s (found m regular h point remote opened.near_at) refl in (
      r.0,
      ap (option_and_then (leg_of m h.node)) r.1
          ∙ ap (λ (n : ℕ). leg_with h.node r.0 (section_at m.sections n) (section_at m.sections r.0.far)) r.3
          ∙ ap (λ (n : ℕ). leg_with h.node r.0 (section_at m.sections h.near) (section_at m.sections n)) r.4
          ∙ ap (λ (o : Option Section). leg_with h.node r.0 o (section_at m.sections h.far)) opened.near_at
          ∙ ap (leg_with h.node r.0 (Some s)) opened.far_at,
    )

-- the legs that follow
pub record AreLegs (network : Network) (w : World) (end : ℕ) (most : ℕ) (leg : Leg) (h : Hop) (hops : List Hop) : Type 0 where
  pub rest : List Leg
  pub legs_are : legs_from network w most (Some leg) ≡ Some (leg ∷ rest)
  pub path : map (λ (l : Leg). l.node) (leg ∷ rest) ≡ map (λ (g : Hop). g.node) (h ∷ hops)
  pub last : (last_of leg rest).far.point ≡ end

open_leg : (network : Network) (w : World) (end point remote : ℕ) (h : Hop) (hops : List Hop) (p : Pair)
    → OpenAt network (sections_at w) end point remote h hops
    → is_established (w.moments h.node).sections (near_section h point remote) ≡ true
open_leg network w end point remote h hops p opened = ap has_remote opened.far_at

legs_there : (network : Network) (w : World) (end point remote : ℕ) (h : Hop) (hops : List Hop) (most : ℕ) (p : Pair)
    → is_node network end ≡ false
    → ((n : ℕ) → IsRegular (w.moments n)) → Opens network (sections_at w) end point remote (h ∷ hops) → length hops < most
    → AreLegs network w end most (leg_at end point remote h hops p) h hops
legs_there network w end point remote h hops zero p outer regular opens lt = absurd (omega (arith, lt))
legs_there network w end point remote h [] (suc most) p outer regular opens lt =
    let leg : Leg = leg_at end point remote h [] p in
    let rest = legs_from network w most (option_and_then (if_joined leg) (next_leg w leg)) in
    record {
      rest = [];
      legs_are =
          ap (λ (b : Bool). cond (not b) None (cond (is_node network end) (before leg rest) (Some (leg ∷ []))))
          (open_leg network w end point remote h [] p opens.0)
          ∙ ap (λ (b : Bool). cond b (before leg rest) (Some (leg ∷ []))) outer;
      path = refl;
      last = refl;
    }
legs_there network w end point remote h (g ∷ hops) (suc most) p outer regular opens lt =
    let leg : Leg = leg_at end point remote h (g ∷ hops) p in
    let q = leg_there network w end h.node h.far g hops (regular g.node) opens.1.0 in
    let next : Leg = leg_at end h.node h.far g hops q.0 in
    let r = legs_there network w end h.node h.far g hops most q.0 outer regular opens.1 (omega (arith, lt)) in
    let joined : option_and_then (if_joined leg) (next_leg w leg) ≡ Some next =
    ap (option_and_then (if_joined leg)) q.1 ∙ ap (λ (b : Bool). cond b (Some next) None) (eq-eqb g.near g.near refl) in
    let later = legs_from network w most (option_and_then (if_joined leg) (next_leg w leg)) in
    record {
      rest = next ∷ r.rest;
      legs_are =
          ap (λ (b : Bool). cond (not b) None (cond (is_node network g.node) (before leg later) (Some (leg ∷ []))))
          (open_leg network w end point remote h (g ∷ hops) p opens.0)
          ∙ ap (λ (b : Bool). cond b (before leg later) (Some (leg ∷ []))) opens.1.0.inner
          ∙ ap (λ (o : Option Leg). before leg (legs_from network w most o)) joined
          ∙ ap (before leg) r.legs_are;
      path = ap (λ (ns : List ℕ). h.node ∷ ns) r.path;
      last = r.last;
    }

-- ---- the first one

find_true : (q : Pair → Bool) (ps : List Pair) (p : Pair) → find q ps ≡ Some p → q p ≡ true
find_true q [] p h = absurd (let z : None ≡ Some p = h in cc)
find_true q (x ∷ ps) p h =
    elim (q x) as (λ b. q x ≡ b → cond b (Some x) (find q ps) ≡ Some p → q p ≡ true) [
      | true ↦ λ e k. let same : x ≡ p = cc in ap q (sym same) ∙ e
      | false ↦ λ e k. find_true q ps p k
    ] refl h

from_near : (o : Option Section) (l : List Section) (point remote : ℕ) → is_from l point remote o ≡ true
    → (s : Section) × (o ≡ Some s) × (is_near_of point remote s ≡ true)
from_near None l point remote h = absurd (let z : false ≡ true = h in cc)
from_near (Some s) l point remote h = (s, refl, h)

-- a relay that has a leg has its near section
leg_near : (w : World) (point remote n : ℕ) (leg : Leg) → leg_from w point remote n ≡ Some leg
    → (own : ℕ) × HasNear w n point remote own
leg_near w point remote n leg h =
    let m : Moment = w.moments n in
    ⊎_elim
    (λ (none : find (starts_at m point remote) m.pairs ≡ None).
    absurd (let z : None ≡ Some leg = sym (ap (option_and_then (leg_of m n)) none) ∙ h in cc))
    (λ (some : (p : Pair) × (find (starts_at m point remote) m.pairs ≡ Some p)).
    let p : Pair = some.0 in
    let both = and_parts p.stands (is_from m.sections point remote (section_at m.sections p.near))
    (find_true (starts_at m point remote) m.pairs p some.1) in
    let s = from_near (section_at m.sections p.near) m.sections point remote both.1 in
    let parts = near_parts point remote s.0 s.2 in
    (p.near, record { section = s.0; at = s.1; near = parts.0; point_is = parts.1; remote_is = parts.2 }))
    (option_cases (find (starts_at m point remote) m.pairs))

first_there : (w : World) (point remote node : ℕ) (leg : Leg) (nodes : List ℕ) → leg_from w point remote node ≡ Some leg
    → ((n : ℕ) (l : Leg) → leg_from w point remote n ≡ Some l → n ≡ node) → list_any (λ n. n == node) nodes ≡ true
    → first_leg w point remote nodes ≡ Some leg
first_there w point remote node leg [] at only h = absurd (let z : false ≡ true = h in cc)
first_there w point remote node leg (n ∷ nodes) at only h =
    ⊎_elim
    (λ (none : leg_from w point remote n ≡ None).
    ap (λ (o : Option Leg). or_else o (first_leg w point remote nodes)) none
    ∙ first_there w point remote node leg nodes at only
    (elim (n == node) as (λ b. (n == node) ≡ b → (b || list_any (λ k. k == node) nodes) ≡ true → list_any (λ k. k == node) nodes ≡ true) [
      | true ↦ λ e k. absurd (let z : None ≡ Some leg = sym none ∙ ap (leg_from w point remote) (eqb-true n node e) ∙ at in cc)
      | false ↦ λ e k. k
    ] refl h))
    (λ (some : (l : Leg) × (leg_from w point remote n ≡ Some l)).
    ap (λ (o : Option Leg). or_else o (first_leg w point remote nodes))
    (ap (leg_from w point remote) (only n some.0 some.1) ∙ at))
    (option_cases (leg_from w point remote n))

-- the line over these relays
pub record HasLine (network : Network) (w : World) (from end : ℕ) (hops : List Hop) : Type 0 where
  pub found : Line
  pub line_is : line network w from 1 ≡ Some found
  pub path : found.path ≡ map (λ (g : Hop). g.node) hops
  pub end_is : found.end_point ≡ end

pub has_line : (network : Network) (history : List Happening) (from end : ℕ) (h : Hop) (hops : List Hop) → is_node network from ≡ false
    → is_node network end ≡ false → length hops < 15 → Opens network (sections_at (after network history)) end from 1 (h ∷ hops)
    → HasLine network (after network history) from end (h ∷ hops)
has_line network history from end h hops outer end_outer few opens =
    let w : World = after network history in
    let all : (n : ℕ) → IsRegular (w.moments n) = regular network history in
    let q = leg_there network w end from 1 h hops (all h.node) opens.0 in
    let leg : Leg = leg_at end from 1 h hops q.0 in
    let here : HasNear w h.node from 1 h.near =
    record { section = near_section h from 1; at = opens.0.near_at; near = refl; point_is = refl; remote_is = refl } in
    let only : (n : ℕ) (l : Leg) → leg_from w from 1 n ≡ Some l → n ≡ h.node = λ n l at.
    let near = leg_near w from 1 n l at in one_node network history from 1 n h.node near.0 h.near outer near.1 here in
    let r = legs_there network w end from 1 h hops 15 q.0 end_outer all opens few in
    let found : Line = line_from w from (leg ∷ r.rest) leg (last_of leg r.rest) in
    record {
      found = found;
      line_is =
          ap (line_of w from)
          (ap (λ (b : Bool). cond b None (legs_from network w 15 (first_leg w from 1 network.nodes))) outer
          ∙ ap (legs_from network w 15) (first_there w from 1 h.node leg network.nodes q.1 only opens.0.inner)
          ∙ r.legs_are);
      path = r.path;
      end_is = r.last;
    }

-- without sections there is no line
pub no_line : (network : Network) (w : World) (from : ℕ) → ((p : ℕ) (own : ℕ) (s : Section) → section_at (sections_at w p) own ≡ Some s → ⊥)
    → line network w from 1 ≡ None
no_line network w from none =
    elim (is_node network from) as (λ b. line_of w from (cond b None (legs_from network w 15 (first_leg w from 1 network.nodes))) ≡ None) [
      | true ↦ refl
      | false ↦ ap (λ (o : Option Leg). line_of w from (legs_from network w 15 o)) (nothing network.nodes)
    ]
  where
    nothing : (nodes : List ℕ) → first_leg w from 1 nodes ≡ None
    nothing [] = refl
    nothing (n ∷ nodes) =
        ⊎_elim
        (λ (e : leg_from w from 1 n ≡ None). ap (λ (o : Option Leg). or_else o (first_leg w from 1 nodes)) e ∙ nothing nodes)
        (λ (some : (l : Leg) × (leg_from w from 1 n ≡ Some l)).
        let near = leg_near w from 1 n some.0 some.1 in absurd (none n near.0 near.1.section near.1.at))
        (option_cases (leg_from w from 1 n))
