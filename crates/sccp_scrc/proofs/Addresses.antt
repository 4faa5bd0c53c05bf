-- the called address after a step
use Rattle.std.specs.Prelude.{◌≡◌, ℕ, zero, suc, ◌+◌, ◌-◌, ◌*◌, ◌%◌, ◌<◌, ◌≤◌, ◌==◌, ◌&&◌, Bool, true, false, List, [], ◌∷◌, ◌++◌, length}
use Rattle.std.specs.Prelude.{drop, Option, Some, None, slice_get, IfSome, unwrap_or, refl, nat_eq, if◌then◌else◌}
use Rattle.std.specs.List.{AllByRecursion, All, starts_with}
use Rattle.std.proofs.Common.{sym, ◌∙◌, ap, subst, arith, length-append}
use Rattle.std.proofs.lemmas.Bool.{and_parts, ltb-false, eqb-true}
use Rattle.sccp_base.specs.Bcd.{packed}
use Rattle.sccp_base.specs.Selector.{Numbers, IsSelector}
use Rattle.sccp_base.proofs.Among.{Among, All-among, position-None, list_any-none, Among-slice_get}
use Rattle.sccp_base.proofs.Prefix.{fits-starts_with}
use Rattle.sccp_base.proofs.Selectors.{same_selector-≡}
use Rattle.sccp_address.specs.declared.address.Address.{Address}
use Rattle.sccp_address.specs.declared.address.Title.TheVariants.{Global}
use Rattle.sccp_address.specs.Written.{flag, heading, written, IsAddress}
use Rattle.plan_rules.specs.Rule.{Rule}
use Rattle.plan_rules.specs.declared.target.Target.{Target}
use Rattle.plan_rules.specs.declared.target.Target.TheVariants.{Relay}
use Rattle.plan_rules.specs.Rows.{has_selector, takes_ssn}
use Rattle.plan_rules.specs.Tables.{IsTable, IsRule, strips_too_long, makes_odd}
use Rattle.plan_rules.specs.Target.{ssn_of, strips_more, target_makes_odd, IsTarget}
use Rattle.plan_model.specs.declared.node.Node.{Node}
use Rattle.plan_model.specs.declared.spot.Spot.{Spot}
use Rattle.plan_model.specs.Network.{Network, IsPlan, IsNode, IsSubsystem, NamesSubsystems}
use Rattle.plan_model.proofs.Leading.{IsSentBy}
use Rattle.plan_model.proofs.Spots.{selector_fits, stays_even}
use Rattle.sccp_scrc.specs.Rewriting.{ssn_after, to_relay, to_place, spot_of}

-- ---- how long an address is

pub length-packed : (ds : List ℕ) (n : ℕ) → length ds ≤ 2 * n → length (packed ds) ≤ n
length-packed [] n le = omega arith
length-packed (d ∷ []) n le = let k : 1 ≤ 2 * n = le in omega (arith, k)
length-packed (d ∷ e ∷ ds) n le =
    let k : suc (suc (length ds)) ≤ 2 * n = le in
    let r = length-packed ds (n - 1) (omega (arith, k)) in
    let goal : suc (length (packed ds)) ≤ n = omega (arith, r, k) in goal

pub length-heading : (s : Numbers) (odd : Bool) → length (heading s odd) ≤ 3
length-heading s odd = chosen (s.kind == 1) (s.kind == 2) (s.kind == 3)
  where
    chosen : (a b c : Bool) → length (if a then (s.nature + 128 * flag odd) ∷ [] else if b then s.translation ∷ [] else if c
        then s.translation ∷ (16 * s.plan + (if odd then 1 else 2)) ∷ [] else s.translation ∷ (16 * s.plan + (if odd then 1 else 2))
        ∷ s.nature ∷ []) ≤ 3
    chosen true b c = omega arith
    chosen false true c = omega arith
    chosen false false true = omega arith
    chosen false false false = omega arith

-- with a global title of up to 32 digits and no point code it has at most 21 octets
pub few_octets : (national by_ssn : Bool) (ssn : Option ℕ) (s : Numbers) (digits : List ℕ) → length digits ≤ 32
    → length (written (record { national = national; by_ssn = by_ssn; pc = None; ssn = ssn; title = Global s digits })) ≤ 21
few_octets national by_ssn None s digits le =
    let odd : Bool = length digits % 2 == 1 in
    let sum : length (heading s odd ++ packed digits) ≡ length (heading s odd) + length (packed digits) =
    length-append (heading s odd) (packed digits) in
    let goal : suc (length (heading s odd ++ packed digits)) ≤ 21 =
    omega (arith, sum, length-heading s odd, length-packed digits 16 le) in goal
few_octets national by_ssn (Some n) s digits le =
    let odd : Bool = length digits % 2 == 1 in
    let sum : length (heading s odd ++ packed digits) ≡ length (heading s odd) + length (packed digits) =
    length-append (heading s odd) (packed digits) in
    let goal : suc (suc (length (heading s odd ++ packed digits))) ≤ 21 =
    omega (arith, sum, length-heading s odd, length-packed digits 16 le) in goal

-- ---- the SSN

again : (b : Bool) (n : ℕ) → (n == 0) ≡ b → unwrap_or (if b then None else Some n) 0 ≡ n
again true n e = sym (eqb-true n 0 e)
again false n e = refl

pub ssn_again : (o : Option ℕ) (n : ℕ) → unwrap_or (ssn_after o n) 0 ≡ n
ssn_again (Some k) n = refl
ssn_again None n = again (n == 0) n refl

fits : (b : Bool) (n : ℕ) → n < 256 → IfSome (if b then None else Some n) (λ k. k < 256)
fits true n lt = tt
fits false n lt = lt

ssn_fits : (o : Option ℕ) (n : ℕ) → n < 256 → IfSome (ssn_after o n) (λ k. k < 256)
ssn_fits (Some k) n lt = lt
ssn_fits None n lt = fits (n == 0) n lt

pub named_fits : (o : Option ℕ) (n : ℕ) → IfSome o (λ k. k < 256) → n < 256 → unwrap_or o n < 256
named_fits None n h lt = lt
named_fits (Some k) n h lt = h

-- ---- the title

-- element by element
all_each : (P : ℕ → Type 0) (xs : List ℕ) → All P xs → AllByRecursion P xs
all_each P [] h = tt
all_each P (x ∷ xs) h = (h 0 x (omega arith), all_each P xs (λ k d lt. h (suc k) d (omega (arith, lt))))

-- a subsystem that a target names
pub small : (o : Option ℕ) → IfSome o IsSubsystem → IfSome o (λ n. n < 256)
small None h = tt
small (Some n) h = omega (arith, h.1)

-- what a node's targets keep
pub target_in : (plan : Network) (node : Node) (row : Rule) (t : Target) → IsPlan plan → Among node plan.nodes → Among row node.table
    → Among t row.targets → IsTarget t × IfSome (ssn_of t) IsSubsystem
target_in plan node row t is in_nodes in_table in_targets =
    let table : IsTable node.table = All-among (λ (n : Node). IsTable n.table) node plan.nodes is.tables in_nodes in
    let rule : IsRule row = All-among IsRule row node.table table.rules in_table in
    let own : IsNode node = All-among IsNode node plan.nodes is.nodes in_nodes in (
      All-among IsTarget t row.targets rule.targets in_targets,
      All-among (λ (t : Target). IfSome (ssn_of t) IsSubsystem) t row.targets
          (All-among NamesSubsystems row node.table own.named in_table).targets in_targets,
    )

halves_drop : (n : ℕ) (ds : List ℕ) → AllByRecursion (λ d. d < 16) ds → AllByRecursion (λ d. d < 16) (drop n ds)
halves_drop zero ds h = h
halves_drop (suc n) [] h = tt
halves_drop (suc n) (d ∷ ds) h = halves_drop n ds h.1

halves_append : (xs ys : List ℕ) → AllByRecursion (λ d. d < 16) xs → AllByRecursion (λ d. d < 16) ys
    → AllByRecursion (λ d. d < 16) (xs ++ ys)
halves_append [] ys h k = k
halves_append (x ∷ xs) ys h k = (h.0, halves_append xs ys h.1 k)

-- what a spot's title keeps
pub record IsSpot (s : Spot) : Type 0 where
  pub selector : IsSelector s.selector
  pub few : length s.digits ≤ 32
  pub halves : AllByRecursion (λ d. d < 16) s.digits
  pub even : s.selector.kind ≡ 2 → length s.digits % 2 ≡ 0
  pub ssn : s.ssn < 256

-- a title that is sent on is one again
pub IsSpot-sent : (plan : Network) (s next : Spot) → IsPlan plan → IsSpot s → IsSentBy plan s next → IsSpot next
IsSpot-sent plan s next is h t =
    let d : Target = Relay t.pc t.strip t.put t.selector t.named in
    let within : Among t.node plan.nodes = node_among t.at in
    let table : IsTable t.node.table = All-among (λ (n : Node). IsTable n.table) t.node plan.nodes is.tables within in
    let kept : IsTarget d × IfSome (ssn_of d) IsSubsystem = target_in plan t.node t.row d is within t.among t.target in
    let parts = and_parts (has_selector s.selector t.row && takes_ssn s.ssn t.row) (starts_with nat_eq s.digits t.row.prefix) t.matching in
    let same : t.row.selector ≡ s.selector = same_selector-≡ t.row.selector s.selector
    (and_parts (has_selector s.selector t.row) (takes_ssn s.ssn t.row) parts.0).0 in
    let strips : strips_more (length t.row.prefix) d ≡ false = list_any-none (strips_more (length t.row.prefix)) d t.row.targets
    (position-None strips_too_long t.row t.node.table table.strips t.among) t.target in
    let short : t.strip ≤ length t.row.prefix = ltb-false (length t.row.prefix) t.strip strips in
    let le : t.strip ≤ length s.digits = omega (arith, short, fits-starts_with s.digits t.row.prefix parts.1) in
    let evens : target_makes_odd t.row.selector.kind d ≡ false = list_any-none (target_makes_odd t.row.selector.kind) d t.row.targets
    (position-None makes_odd t.row t.node.table table.even t.among) t.target in
    record {
      selector = subst IsSelector (sym t.selected) (selector_fits t.selector s.selector kept.0.selector h.selector);
      few = t.few;
      halves = subst (AllByRecursion (λ d. d < 16)) (sym t.digits)
          (halves_append t.put (drop t.strip s.digits) (all_each (λ d. d < 16) t.put kept.0.halves)
          (halves_drop t.strip s.digits h.halves));
      even = λ two. subst (λ (ds : List ℕ). length ds % 2 ≡ 0) (sym t.digits)
          (stays_even t.selector s.selector t.row.selector.kind t.strip t.put s.digits (ap (λ (n : Numbers). n.kind) same) evens le h.even
          (sym (ap (λ (n : Numbers). n.kind) t.selected) ∙ two));
      ssn = subst (λ n. n < 256) (sym t.ssn) (named_fits t.named s.ssn (small t.named kept.1) h.ssn);
    }
  where
    node_among : slice_get plan.nodes s.node ≡ Some t.node → Among t.node plan.nodes
    node_among e = Among-slice_get plan.nodes s.node t.node e

-- the address to a relay
pub IsAddress-relay : (a : Address) (next : Spot) → IsSpot next → IsAddress (to_relay a next)
IsAddress-relay a next h = record { pc = tt; ssn = ssn_fits a.ssn next.ssn h.ssn; title = (h.selector, h.few, h.halves, h.even) }

-- the address to a destination
pub IsAddress-place : (a : Address) (ssn : ℕ) → IsAddress a → ssn < 256 → IsAddress (to_place a ssn)
IsAddress-place a ssn h lt = record { pc = tt; ssn = lt; title = h.title }

pub spot-relay : (a : Address) (next : Spot) → spot_of next.node (to_relay a next) ≡ Some next
spot-relay a next = ap (λ n. Some (record { node = next.node; selector = next.selector; ssn = n; digits = next.digits }))
    (ssn_again a.ssn next.ssn)
