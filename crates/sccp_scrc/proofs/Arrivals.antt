-- the arrival of a message that routes on a global title
use Rattle.std.specs.Prelude.{◌≡◌, ◌≢◌, ℕ, ◌-◌, ◌<◌, ◌≤◌, ◌==◌, Bool, true, false, nat_le, List, [], ◌∷◌, length, Option, Some, None}
use Rattle.std.specs.Prelude.{IfSome, option_map, slice_get, unwrap_or, refl, get_or, if◌then◌else◌, Ok}
use Rattle.std.specs.List.{find, All}
use Rattle.std.specs.Option.{option_map_or}
use Rattle.std.proofs.Common.{suc, sym, ◌∙◌, ap, subst, inl, inr, ⊎_elim, arith}
use Rattle.std.proofs.lemmas.Bool.{eqb-true, eq-eqb, leb-true, false_from_ne_true}
use Rattle.std.proofs.lemmas.Option.{slice_get_cases}
use Rattle.std.proofs.lemmas.List.Sums.{passes_at_first, position_or_len_is}
use Rattle.sccp_base.specs.Marks.{holds}
use Rattle.sccp_base.specs.declared.mark.Mark.{Mark}
use Rattle.sccp_base.specs.declared.mark.Mark.TheVariants.{PointCode, Sccp, Subsystem}
use Rattle.sccp_base.proofs.Among.{Among, All-among, find-None, Among-slice_get}
use Rattle.sccp_address.specs.declared.address.Address.{Address}
use Rattle.sccp_address.specs.declared.address.Title.{Title}
use Rattle.sccp_address.specs.declared.address.Title.TheVariants.{Absent, Global, Raw}
use Rattle.sccp_address.specs.Written.{written, IsTitle, IsAddress}
use Rattle.sccp_address.proofs.Kept.{AreOctets}
use Rattle.sccp_message.specs.declared.message.Message.{Message}
use Rattle.sccp_message.specs.Reading.{reading}
use Rattle.sccp_message.specs.Reads.{Reads}
use Rattle.sccp_message.proofs.Laws.{message_takes}
use Rattle.sccp_message.proofs.Made.{reads_kept, reads_sound}
use Rattle.sccp_message.specs.Written.{message_octets, Writable, Sound, IsMessage}
use Rattle.sccp_message.specs.Unitdata.{called_of, hops_of}
use Rattle.plan_rules.specs.Rule.{Rule}
use Rattle.plan_rules.specs.declared.target.Target.TheVariants.{Relay, Final}
use Rattle.plan_model.specs.declared.node.Node.{Node}
use Rattle.plan_model.specs.declared.spot.Spot.{Spot}
use Rattle.plan_model.specs.Network.{Network, IsPlan, LeadsOn, has_point, node_of}
use Rattle.plan_model.specs.Steps.{step}
use Rattle.plan_model.proofs.Leading.{IsSentBy, IsEndedBy}
use Rattle.sccp_scrc.specs.Unitdata.{redirected, octets_of, Room}
use Rattle.sccp_scrc.specs.Rewriting.{one_less, to_relay, to_place, spot_of, title_spot}
use Rattle.sccp_scrc.specs.Arriving.{point_of, after_step, translated, is_last_hop, at_title, by_called, of_message, arrival, at_subsystem}
use Rattle.sccp_scrc.proofs.Redirected.{Sound-redirected, IsMessage-redirected, Writable-redirected, Room-redirected, called-redirected}
use Rattle.sccp_scrc.proofs.Redirected.{reads_again, octets_written, called_kept}
use Rattle.sccp_scrc.proofs.Addresses.{few_octets, IsSpot, IsAddress-relay, spot-relay, named_fits, small, target_in}

-- a message whose called address routes on the title of a spot
pub record IsTitled (m : Message) (a : Address) (s : Spot) : Type 0 where
  pub called : called_of m ≡ Some a
  pub by_title : a.by_ssn ≡ false
  pub at : spot_of s.node a ≡ Some s
  pub spot : IsSpot s
  pub message : IsMessage m
  pub sound : Sound m

-- and which has room
pub record Carries (m : Message) (a : Address) (s : Spot) : Type 0 where
  pub titled : IsTitled m a s
  pub room : Room m

title_is : (node : ℕ) (ssn : Option ℕ) (title : Title) (s : Spot) → title_spot node ssn title ≡ Some s
    → (title ≡ Global s.selector s.digits) × (unwrap_or ssn 0 ≡ s.ssn) × (node ≡ s.node)
title_is node ssn Absent s e = absurd cc
title_is node ssn (Raw kind octets) s e = absurd cc
title_is node ssn (Global selector digits) s e =
    let whole : record { node = node; selector = selector; ssn = unwrap_or ssn 0; digits = digits } ≡ s =
    same (record { node = node; selector = selector; ssn = unwrap_or ssn 0; digits = digits }) s e in
    ((λ i. Global (whole i).selector (whole i).digits), ap (λ (z : Spot). z.ssn) whole, ap (λ (z : Spot). z.node) whole)
  where
    same : (x y : Spot) → Some x ≡ Some y → x ≡ y
    same x y e = cc

pub spot_title : (node : ℕ) (a : Address) (s : Spot) → spot_of node a ≡ Some s
    → (a.title ≡ Global s.selector s.digits) × (unwrap_or a.ssn 0 ≡ s.ssn) × (node ≡ s.node)
spot_title node a s e = title_is node a.ssn a.title s e

-- ---- the counter

pub not_last : (o : Option ℕ) (n : ℕ) → IfSome o (λ h. suc n < h) → is_last_hop o ≡ false
not_last None n h = refl
not_last (Some k) n h = false_from_ne_true (nat_le k 1) (λ e. let le : k ≤ 1 = leb-true k 1 e in omega (arith, le, h))

less_than : (b : Bool) (k n : ℕ) → suc n < k → suc n ≤ 14 → n < (if b then k else 15) - 1
less_than true k n h le = omega arith
less_than false k n h le = omega arith

pub counts_down : (o : Option ℕ) (n : ℕ) → suc n ≤ 14 → IfSome o (λ h. suc n < h) → IfSome (option_map one_less o) (λ h. n < h)
counts_down None n le h = tt
counts_down (Some k) n le h = less_than (nat_le k 15) k n h le

-- ---- the step is made

pub if_false : {X : Type 0} (b : Bool) (x y : X) → b ≡ false → (if b then x else y) ≡ y
if_false true x y e = absurd (cc)
if_false false x y e = refl

pub arrives : (plan : Network) (marking : List Mark) (origin : ℕ) (b : List ℕ) (m : Message) (a : Address) (s : Spot) → reading b ≡ Ok m
    → IsTitled m a s → is_last_hop (hops_of m) ≡ false → arrival plan s.node marking origin b
    ≡ after_step plan s.node marking origin m a (step plan s marking)
arrives plan marking origin b m a s reads c counter =
    ap (of_message plan s.node marking origin) reads
    ∙ (ap (by_called plan s.node marking origin m) c.called
    ∙ (if_false a.by_ssn (at_subsystem plan s.node marking origin m a.ssn) (at_title plan s.node marking origin m a) c.by_title
    ∙ (if_false (is_last_hop (hops_of m)) _ (translated plan s.node marking origin m a (spot_of s.node a)) counter
    ∙ ap (translated plan s.node marking origin m a) c.at)))

-- ---- on to a relay

pub relayed_octets : (m : Message) (a : Address) (s next : Spot) → Carries m a s → IsSpot next
    → octets_of (redirected (to_relay a next) one_less m) ≡ Some (message_octets (redirected (to_relay a next) one_less m))
relayed_octets m a s next c is =
    octets_written (redirected (to_relay a next) one_less m)
    (Writable-redirected (to_relay a next) one_less m (few_octets a.national false
    (to_relay a next).ssn next.selector next.digits is.few) c.room)

pub IsTitled-relayed : (m : Message) (a : Address) (s next : Spot) → IsTitled m a s → IsSpot next
    → IsTitled (redirected (to_relay a next) one_less m) (to_relay a next) next
IsTitled-relayed m a s next c is = record {
  called = called-redirected (to_relay a next) a one_less m c.called;
  by_title = refl;
  at = spot-relay a next;
  spot = is;
  message = IsMessage-redirected (to_relay a next) one_less m (IsAddress-relay a next is) c.message;
  sound = Sound-redirected (to_relay a next) one_less m c.sound;
}

pub Carries-relayed : (m : Message) (a : Address) (s next : Spot) → Carries m a s → IsSpot next
    → Carries (redirected (to_relay a next) one_less m) (to_relay a next) next
Carries-relayed m a s next c is = record {
  titled = IsTitled-relayed m a s next c.titled is;
  room = Room-redirected
      (to_relay a next) one_less m c.room;
}

pub IsTitled-reads : (m : Message) (a : Address) (s : Spot) → IsTitled m a s → reading (message_octets m) ≡ Ok m
IsTitled-reads m a s c = reads_again m c.message c.sound

-- the spot of an address keeps what titles keep
pub is_spot : (node : ℕ) (a : Address) (s : Spot) → IsAddress a → spot_of node a ≡ Some s → IsSpot s
is_spot node a s address at =
    let t = spot_title node a s at in
    let title = subst IsTitle t.0 address.title in
    record { selector = title.0; few = title.1; halves = title.2; even = title.3; ssn = subst (λ n. n < 256) t.1 (fits a.ssn address.ssn) }
  where
    fits : (o : Option ℕ) → IfSome o (λ n. n < 256) → unwrap_or o 0 < 256
    fits None k = omega arith
    fits (Some n) k = k

pub IsTitled-read : (b : List ℕ) (node : ℕ) (m : Message) (a : Address) (s : Spot) → AreOctets b → reading b ≡ Ok m → called_of m ≡ Some a
    → a.by_ssn ≡ false → spot_of node a ≡ Some s → IsTitled m a s
IsTitled-read b node m a s octets reads called by_title at =
    let r : Reads b m = message_takes b m reads in
    let message : IsMessage m = reads_kept b m octets r in
    let t = spot_title node a s at in
    record {
      called = called;
      by_title = by_title;
      at = subst (λ n. spot_of n a ≡ Some s) t.2 at;
      spot = is_spot node a s (called_kept a m called message) at;
      message = message;
      sound = reads_sound b m r;
    }

-- ---- the next node

-- the point code of a node, at the place that is found by it
there : (plan : Network) (pc : ℕ) → node_of plan.nodes pc < length plan.nodes → point_of plan (node_of plan.nodes pc) ≡ pc
there plan pc lt =
    let i : ℕ = node_of plan.nodes pc in
    ⊎_elim
    (λ (at : (c : Node) × (i < length plan.nodes) × (slice_get plan.nodes i ≡ Some c) × (get_or plan.nodes i c ≡ c)).
    ap (λ o. option_map_or (λ (n : Node). n.pc) o 0) at.2
    ∙ eqb-true at.0.pc pc (sym (ap (has_point pc) at.3) ∙ passes_at_first (has_point pc) plan.nodes at.0 lt))
    (λ (beyond : (length plan.nodes ≤ i) × (slice_get plan.nodes i ≡ None)). let le : length plan.nodes
    ≤ i = beyond.0 in absurd (omega (arith, le, lt)))
    (slice_get_cases plan.nodes i).1

-- each node is found again by its point code
pub node_again : (plan : Network) (node : ℕ) → IsPlan plan → node < length plan.nodes → node_of plan.nodes (point_of plan node) ≡ node
node_again plan node is lt =
    ⊎_elim
    (λ (at : (c : Node) × (node < length plan.nodes) × (slice_get plan.nodes node ≡ Some c) × (get_or plan.nodes node c ≡ c)).
    let le : node ≤ length plan.nodes = omega (arith, lt) in
    let own : (get_or plan.nodes node at.0).pc ≡ at.0.pc = ap (λ (n : Node). n.pc) at.3 in
    ap (λ o. node_of plan.nodes (option_map_or (λ (n : Node). n.pc) o 0)) at.2
    ∙ position_or_len_is (has_point at.0.pc) plan.nodes node at.0 le
    (λ k before. false_from_ne_true (has_point at.0.pc (get_or plan.nodes k at.0))
    (λ e. is.points k node at.0 before lt (eqb-true (get_or plan.nodes k at.0).pc at.0.pc e ∙ sym own)))
    (λ within. eq-eqb (get_or plan.nodes node at.0).pc at.0.pc own))
    (λ (beyond : (length plan.nodes ≤ node) × (slice_get plan.nodes node ≡ None)). let le : length plan.nodes
    ≤ node = beyond.0 in absurd (omega (arith, le, lt)))
    (slice_get_cases plan.nodes node).1

-- the next node of a title: the one with the target's point code, which is another one of the plan
record IsNext (plan : Network) (s next : Spot) (pc : ℕ) : Type 0 where
  within : next.node < length plan.nodes
  point : point_of plan next.node ≡ pc
  again : node_of plan.nodes pc ≡ next.node
  other : pc ≢ point_of plan s.node

sent_on : (plan : Network) (s next : Spot) → IsPlan plan → (t : IsSentBy plan s next) → IsNext plan s next t.pc
sent_on plan s next is t =
    let within : Among t.node plan.nodes = Among-slice_get plan.nodes s.node t.node t.at in
    let on : LeadsOn plan.nodes t.node (Relay t.pc t.strip t.put t.selector t.named) =
    All-among (LeadsOn plan.nodes t.node) (Relay t.pc t.strip t.put t.selector t.named) t.row.targets
    (All-among (λ (r : Rule). All (LeadsOn plan.nodes t.node) r.targets) t.row t.node.table
    (All-among (λ (n : Node). All
    (λ r. All (LeadsOn plan.nodes n) r.targets) n.table) t.node plan.nodes is.relays within) t.among) t.target in
    record {
      within = subst (λ n. n < length plan.nodes) (sym t.there) on.0;
      point = ap (point_of plan) t.there ∙ there plan t.pc on.0;
      again = sym t.there;
      other = λ same. on.1 (same ∙ ap (λ o. option_map_or (λ (n : Node). n.pc) o 0) t.at);
    }

-- the relay with the point code of the next node is the next node
pub next_again : (plan : Network) (s next : Spot) → IsPlan plan → IsSentBy plan s next
    → node_of plan.nodes (point_of plan next.node) ≡ next.node
next_again plan s next is t = let n = sent_on plan s next is t in ap (node_of plan.nodes) n.point ∙ n.again

pub next_within : (plan : Network) (s next : Spot) → IsPlan plan → IsSentBy plan s next → next.node < length plan.nodes
next_within plan s next is t = (sent_on plan s next is t).within

pub next_other : (plan : Network) (s next : Spot) → IsPlan plan → IsSentBy plan s next → point_of plan next.node ≢ point_of plan s.node
next_other plan s next is t = let n = sent_on plan s next is t in λ same. n.other (sym n.point ∙ same)

-- ---- to a destination

pub Writable-placed : (m : Message) (a : Address) (s : Spot) (ssn : ℕ) → Carries m a s → Writable (redirected (to_place a ssn) one_less m)
Writable-placed m a s ssn c =
    Writable-redirected (to_place a ssn) one_less m
    (subst (λ (t : Title). length (written (record { national = a.national; by_ssn = true; pc = None; ssn = Some ssn; title = t })) ≤ 21)
    (sym (spot_title s.node a s c.titled.at).0)
    (few_octets a.national true (Some ssn) s.selector s.digits c.titled.spot.few)) c.room

pub placed_reads : (m : Message) (a : Address) (s : Spot) (ssn : ℕ) → IsTitled m a s → ssn < 256
    → reading (message_octets (redirected (to_place a ssn) one_less m)) ≡ Ok (redirected (to_place a ssn) one_less m)
placed_reads m a s ssn c lt =
    let title : IsTitle a.title = subst IsTitle (sym (spot_title s.node a s c.at).0)
    (c.spot.selector, c.spot.few, c.spot.halves, c.spot.even) in
    let address : IsAddress (to_place a ssn) = record { pc = tt; ssn = lt; title = title } in
    reads_again (redirected (to_place a ssn) one_less m) (IsMessage-redirected (to_place a ssn) one_less m address c.message)
    (Sound-redirected (to_place a ssn) one_less m c.sound)

pub ended_ssn : (plan : Network) (s : Spot) (marking : List Mark) (pc ssn : ℕ) → IsPlan plan → IsSpot s → IsEndedBy plan s marking pc ssn
    → ssn < 256
ended_ssn plan s marking pc ssn is h t =
    let within : Among t.node plan.nodes = Among-slice_get plan.nodes s.node t.node t.at in
    let kept = target_in plan t.node t.row (Final pc t.named) is within t.among t.target in
    subst (λ n. n < 256) (sym t.ssn_is) (named_fits t.named s.ssn (small t.named kept.1) h.ssn)

-- none of the marks of a destination that is taken is held
pub record IsOpen (plan : Network) (z : Spot) (marking : List Mark) (pc ssn : ℕ) : Type 0 where
  pub subsystem : holds marking (Subsystem pc ssn) ≡ false
  pub point : (pc == point_of plan z.node) ≡ false → (holds marking (PointCode pc) ≡ false) × (holds marking (Sccp pc) ≡ false)

unmarked : (marking : List Mark) (pc ssn : ℕ) (b : Bool)
    → find (holds marking) (if b then Subsystem pc ssn ∷ [] else PointCode pc ∷ Sccp pc ∷ Subsystem pc ssn ∷ []) ≡ None
    → (holds marking (Subsystem pc ssn) ≡ false) × (b ≡ false → (holds marking (PointCode pc) ≡ false) × (holds marking (Sccp pc) ≡ false))
unmarked marking pc ssn true e = (find-None (holds marking) (Subsystem pc ssn) (Subsystem pc ssn ∷ []) e (inl refl), λ f. absurd (cc))
unmarked marking pc ssn false e =
    let all : List Mark = PointCode pc ∷ Sccp pc ∷ Subsystem pc ssn ∷ [] in (
      find-None (holds marking) (Subsystem pc ssn) all e (inr (inr (inl refl))),
      λ f.
          (find-None (holds marking) (PointCode pc) all e (inl refl), find-None (holds marking) (Sccp pc) all e (inr (inl refl))),
    )

pub open_place : (plan : Network) (s : Spot) (marking : List Mark) (pc ssn : ℕ) → IsEndedBy plan s marking pc ssn
    → IsOpen plan s marking pc ssn
open_place plan s marking pc ssn t =
    let own : t.node.pc ≡ point_of plan s.node = sym (ap (λ o. option_map_or (λ (n : Node). n.pc) o 0) t.at) in
    let u = unmarked marking pc (unwrap_or t.named s.ssn) (pc == t.node.pc) t.is_open in
    record {
      subsystem = subst (λ n. holds marking (Subsystem pc n) ≡ false) (sym t.ssn_is) u.0;
      point = λ e. u.1 (ap (λ n. pc == n) own ∙ e);
    }
