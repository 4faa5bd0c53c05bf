-- The classes that a plan reaches with one of its covers alone are among those that it reaches.
use Rattle.std.specs.Prelude.{ℕ, ◌≡◌, ◌+◌, ◌<◌, ◌&&◌, ◌==◌, not, nat_lt, Bool, true, false, if◌then◌else◌, List, [], ◌∷◌, ◌++◌, length}
use Rattle.std.specs.Prelude.{map, Option, Some, None, IsSomeAnd, slice_get, get_or, refl}
use Rattle.std.specs.List.{Contains, list_any, range_with_len}
use Rattle.std.specs.Option.{unwrap_or}
use Rattle.std.proofs.Common.{zero, suc, sym, ◌∙◌, ap, subst, arith, zero-add}
use Rattle.std.proofs.lemmas.List.{get_or-map, length-map}
use Rattle.std.proofs.lemmas.List.FromFn.{get_or-map-range_with_len, length-map-range_with_len}
use Rattle.plan_rules.specs.declared.target.Target.{Target}
use Rattle.plan_rules.specs.declared.target.Target.TheVariants.{Relay, Final}
use Rattle.plan_model.specs.declared.node.Node.{Node}
use Rattle.plan_model.specs.declared.cover.Cover.{Cover}
use Rattle.plan_model.specs.Network.{Network, node_of}
use Rattle.plan_model.specs.Alone.{alone}
use Rattle.plan_model.specs.Steps.{rewritten}
use Rattle.plan_classes.specs.declared.leads.Image.{Image}
use Rattle.plan_classes.specs.declared.leads.Image.TheVariants.{Next, Ends, NotEquipped, TooLong}
use Rattle.plan_classes.specs.Titles.{Titles, IsMember, closed, extended, parts_of}
use Rattle.plan_classes.specs.Classes.{start_of, Decided, class_targets, image_arrived, image_passed, image_at, HasImage}
use Rattle.plan_classes.specs.Classes.{Reachable, Start, Part, Onward, ReachesAtLeast}

-- the same titles, as those of the cover of this number
abbrev renumbered : ℕ → Titles → Titles
renumbered number c = record c { cover = number }

member : (number : ℕ) (c : Titles) (digits : List ℕ) → IsMember (renumbered number c) digits → IsMember c digits
member number c digits m = record { rest = m.rest; whole = m.whole; decimal = m.decimal; least = m.least; most = m.most }

renumbered_member : (number : ℕ) (c : Titles) (digits : List ℕ) → IsMember c digits → IsMember (renumbered number c) digits
renumbered_member number c digits m = record { rest = m.rest; whole = m.whole; decimal = m.decimal; least = m.least; most = m.most }

decided_in : (plan : Network) (cover : Cover) (number : ℕ) (c : Titles) → Decided (alone plan cover) c → Decided plan (renumbered number c)
decided_in plan cover number c h d e m n = h d e (member number c d m) (member number c e n)

decided_alone : (plan : Network) (cover : Cover) (number : ℕ) (c : Titles) → Decided plan (renumbered number c)
    → Decided (alone plan cover) c
decided_alone plan cover number c h d e m n = h d e (renumbered_member number c d m) (renumbered_member number c e n)

parts_renumbered : (number : ℕ) (c : Titles) → map (renumbered number) (parts_of c) ≡ parts_of (renumbered number c)
parts_renumbered number c =
    elim (c.least == 0) as (λ b. map (renumbered number) ((if b then closed c ∷ [] else []) ++ map (extended c) (range_with_len 0 10))
    ≡ (if b then closed (renumbered number c) ∷ [] else []) ++ map (extended (renumbered number c)) (range_with_len 0 10))
    [ true ↦ refl | false ↦ refl ]

part_in : (number : ℕ) (c part : Titles) → Contains (parts_of c) part → Contains (parts_of (renumbered number c)) (renumbered number part)
part_in number c part h =
    subst (λ parts. Contains parts (renumbered number part)) (parts_renumbered number c) (
      h.0,
      omega (arith, h.1, length-map (parts_of c) (renumbered number)),
      get_or-map (renumbered number) (parts_of c) h.0 part (renumbered number part) h.1 ∙ ap (renumbered number) h.2,
    )

extended_cover : (c part : Titles) (k : ℕ) → k < 10 → get_or (map (extended c) (range_with_len 0 10)) k part ≡ part
    → part.cover ≡ c.cover
extended_cover c part k lt is =
    ap (λ (p : Titles). p.cover) (sym is ∙ get_or-map-range_with_len (extended c) 0 10 k k part lt (zero-add k))

part_at : (b : Bool) (c part : Titles) (k : ℕ)
    → k < length ((if b then closed c ∷ [] else []) ++ map (extended c) (range_with_len 0 10))
    → get_or ((if b then closed c ∷ [] else []) ++ map (extended c) (range_with_len 0 10)) k part ≡ part → part.cover ≡ c.cover
part_at true c part zero lt is = ap (λ (p : Titles). p.cover) (sym is)
part_at true c part (suc k) lt is =
    extended_cover c part k (omega (arith, lt, length-map-range_with_len (extended c) 0 10)) is
part_at false c part k lt is = extended_cover c part k (omega (arith, lt, length-map-range_with_len (extended c) 0 10)) is

part_cover : (c part : Titles) → Contains (parts_of c) part → part.cover ≡ c.cover
part_cover c part h = part_at (c.least == 0) c part h.0 h.1 h.2

-- ---- what a target makes of them

abbrev renumbered_image : ℕ → Image → Image
renumbered_image number (Next next) = Next (renumbered number next)
renumbered_image number (Ends pc ssn) = Ends pc ssn
renumbered_image number NotEquipped = NotEquipped
renumbered_image number TooLong = TooLong

arrived_alone : (number : ℕ) (node : Node) (pc ssn : ℕ)
    → renumbered_image number (image_arrived node pc ssn) ≡ image_arrived node pc ssn
arrived_alone number node pc ssn =
    elim (pc == node.pc && not (list_any (λ own. own == ssn) node.subsystems)) as (λ b.
    renumbered_image number (if b then NotEquipped else Ends pc ssn) ≡ (if b then NotEquipped else Ends pc ssn))
    [ true ↦ refl | false ↦ refl ]

passed_alone : (number : ℕ) (next : Titles) → renumbered_image number (image_passed next) ≡ image_passed (renumbered number next)
passed_alone number next =
    elim (nat_lt 32 (length next.known + next.most)) as (λ b. renumbered_image number (if b then TooLong else Next next)
    ≡ (if b then TooLong else Next (renumbered number next))) [ true ↦ refl | false ↦ refl ]

image_alone : (plan : Network) (cover : Cover) (number : ℕ) (node : Node) (c : Titles) (t : Target)
    → renumbered_image number (image_at (alone plan cover) node c t) ≡ image_at plan node (renumbered number c) t
image_alone plan cover number node c (Final pc named) = arrived_alone number node pc (unwrap_or named c.ssn)
image_alone plan cover number node c (Relay pc strip put selector named) =
    passed_alone number (record c {
      node = node_of plan.nodes pc;
      selector = unwrap_or selector c.selector;
      ssn = unwrap_or named c.ssn;
      known = rewritten strip put c.known;
    })

image_of : (plan : Network) (cover : Cover) (number : ℕ) (c next : Titles) (o : Option Node) (p : Option Target)
    → IsSomeAnd o (λ node. IsSomeAnd p (λ t. Next next ≡ image_at (alone plan cover) node c t))
    → IsSomeAnd o (λ node. IsSomeAnd p (λ t. Next (renumbered number next) ≡ image_at plan node (renumbered number c) t))
image_of plan cover number c next None p h = absurd h
image_of plan cover number c next (Some node) None h = absurd h
image_of plan cover number c next (Some node) (Some t) h = ap (renumbered_image number) h ∙ image_alone plan cover number node c t

image_in : (plan : Network) (cover : Cover) (number : ℕ) (c next : Titles) (place : ℕ) → HasImage (alone plan cover) c place (Next next)
    → HasImage plan (renumbered number c) place (Next (renumbered number next))
image_in plan cover number c next place h =
    image_of plan cover number c next (slice_get plan.nodes c.node) (slice_get (class_targets plan c) place) h

abbrev cover_or : ℕ → Image → ℕ
cover_or cover (Next next) = next.cover
cover_or cover (Ends pc ssn) = cover
cover_or cover NotEquipped = cover
cover_or cover TooLong = cover

cover_kept : (plan : Network) (node : Node) (c : Titles) (t : Target) → cover_or c.cover (image_at plan node c t) ≡ c.cover
cover_kept plan node c (Final pc named) =
    elim (pc == node.pc && not (list_any (λ own. own == unwrap_or named c.ssn) node.subsystems)) as (λ b.
    cover_or c.cover (if b then NotEquipped else Ends pc (unwrap_or named c.ssn)) ≡ c.cover) [ true ↦ refl | false ↦ refl ]
cover_kept plan node c (Relay pc strip put selector named) =
    let next : Titles = record c {
      node = node_of plan.nodes pc;
      selector = unwrap_or selector c.selector;
      ssn = unwrap_or named c.ssn;
      known = rewritten strip put c.known;
    } in
    elim (nat_lt 32 (length next.known + next.most)) as (λ b. cover_or c.cover (if b then TooLong else Next next) ≡ c.cover)
    [ true ↦ refl | false ↦ refl ]

image_at_cover : (plan : Network) (c next : Titles) (o : Option Node) (p : Option Target)
    → IsSomeAnd o (λ node. IsSomeAnd p (λ t. Next next ≡ image_at plan node c t)) → next.cover ≡ c.cover
image_at_cover plan c next None p h = absurd h
image_at_cover plan c next (Some node) None h = absurd h
image_at_cover plan c next (Some node) (Some t) h = ap (cover_or c.cover) h ∙ cover_kept plan node c t

image_cover : (plan : Network) (c next : Titles) (place : ℕ) → HasImage plan c place (Next next) → next.cover ≡ c.cover
image_cover plan c next place h = image_at_cover plan c next (slice_get plan.nodes c.node) (slice_get (class_targets plan c) place) h

-- ---- the classes that are reached

start_in : (plan : Network) (cover other : Cover) (number place : ℕ) → slice_get plan.covers number ≡ Some cover
    → slice_get (cover ∷ []) place ≡ Some other → Reachable plan 0 (renumbered number (start_of place other)) × (place ≡ 0)
start_in plan cover other number zero at is =
    let same : cover ≡ other = cc in (subst (λ c. Reachable plan 0 (start_of number c)) same (Start number cover at), refl)
start_in plan cover other number (suc place) at is = absurd (cc)

reached_in : (plan : Network) (cover : Cover) (number : ℕ) (at : slice_get plan.covers number ≡ Some cover) (depth : ℕ) (c : Titles)
    → Reachable (alone plan cover) depth c → Reachable plan depth (renumbered number c) × (c.cover ≡ 0)
reached_in plan cover number at depth c (Start place other is) = start_in plan cover other number place at is
reached_in plan cover number at depth c (Part d whole part r undecided among) =
    let before = reached_in plan cover number at d whole r in (
      Part d (renumbered number whole) (renumbered number part) before.0 (λ h. undecided (decided_alone plan cover number whole h))
          (part_in number whole part among),
      part_cover whole part among ∙ before.1,
    )
reached_in plan cover number at depth c (Onward d whole next place r lt decided reaches image) =
    let before = reached_in plan cover number at d whole r in (
      Onward d (renumbered number whole) (renumbered number next) place before.0 lt (decided_in plan cover number whole decided) reaches
          (image_in plan cover number whole next place image),
      image_cover (alone plan cover) whole next place image ∙ before.1,
    )

-- equal titles of the only cover are equal under any number
same_class : (number : ℕ) (c d : Titles) → c.cover ≡ 0 → d.cover ≡ 0 → renumbered number c ≡ renumbered number d → c ≡ d
same_class number c d zc zd e =
    (ap (λ k. record c { cover = k }) zc) ∙ ap (λ (t : Titles). record t { cover = 0 }) e ∙ sym (ap (λ k. record d { cover = k }) zd)

pub alone_reaches_fewer : (plan : Network) (number : ℕ) (cover : Cover) (count : ℕ) → slice_get plan.covers number ≡ Some cover
    → ReachesAtLeast (alone plan cover) count → ReachesAtLeast plan count
alone_reaches_fewer plan number cover count at h =
    let mapped : List Titles = map (renumbered number) h.0 in
    let long : length mapped ≡ length h.0 = length-map h.0 (renumbered number) in (
      mapped,
      long ∙ h.1,
      λ i j d lt in' same.
          let inside : j < length h.0 = omega (arith, long, in') in
          let first = h.3 i d (omega (arith, lt, inside)) in
          let second = h.3 j d inside in
          h.2 i j d lt inside (same_class number (get_or h.0 i d) (get_or h.0 j d)
          (reached_in plan cover number at first.0 (get_or h.0 i d) first.1).1
          (reached_in plan cover number at second.0 (get_or h.0 j d) second.1).1
          (sym (get_or-map (renumbered number) h.0 i d d (omega (arith, lt, inside))) ∙ same
          ∙ get_or-map (renumbered number) h.0 j d d inside)),
      λ k d in'.
          let inside : k < length h.0 = omega (arith, long, in') in
          let r = h.3 k d inside in (
            r.0,
            subst (Reachable plan r.0) (sym (get_or-map (renumbered number) h.0 k d d inside))
                (reached_in plan cover number at r.0 (get_or h.0 k d) r.1).0,
          ),
    )
