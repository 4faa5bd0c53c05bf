-- The questions about a running world, answered from its fields.
use Rattle.std.specs.Prelude.{ℕ, ◌≡◌, ◌↔◌, ◌+◌, ◌<◌, ◌≤◌, ◌==◌, ◌⊎◌, Bool, true, false, not, cond, ◌&&◌, ◌||◌, List, [], ◌∷◌, drop, length}
use Rattle.std.specs.Prelude.{map, sum, slice_get, All, Option, Some, None, is_some, refl}
use Rattle.std.specs.List.{list_any, list_all}
use Rattle.std.proofs.Common.{zero, suc, sym, ◌∙◌, ap, subst, ⊎_elim, inl, inr, arith, get_or}
use Rattle.std.proofs.Math.Seq.{drop-cons}
use Rattle.std.proofs.lemmas.Bool.{and_parts, and_from, cases_Bool, eqb-true}
use Rattle.std.proofs.lemmas.Option.{slice_get-get_or}
use Rattle.plan_model.specs.declared.node.Node.{Node}
use Rattle.plan_model.specs.Network as plans
use Rattle.sccp_scrc.specs.Arriving.{point_of}
use Rattle.sccp_message.specs.declared.message.Message.{Message}
use Rattle.sccp_message.specs.Written.{message_octets}
use Rattle.couple_chain.specs.declared.happening.Happening.{Happening}
use Rattle.couple_chain.specs.Line.{given, no_repeat, is_fresh, IsSettled}
use Rattle.couple_chain.specs.Relays.{Relaying}
use Rattle.couple_chain.specs.World.{World, after, IsNextLink}
use Rattle.couple_chain.proofs.Bounds.{at_most}
use Rattle.chain_world.specs.declared.link.Link.{Link}
use Rattle.chain_world.specs.Kept.{network_of}
use Rattle.chain_world.specs.Links.{is_link, of_link, octets_on, gone_from}
use Rattle.chain_world.specs.Running.{IsRelay, IsWorld, holds_on, is_before, lesser, best_of, sections_of}
use Rattle.chain_world.proofs.Before.{Precedes, precedes_by, precedes_not, precedes_then, precedes_same}
use Rattle.chain_world.proofs.Happens.{front_is, oldest_not, regular}
use Rattle.chain_world.proofs.Nodes.{point_by}

-- ---- references that are given once

-- references from a place on are given once each, if the first is not given again and those after it are given once each
pub given_once : (ns : List ℕ) (i : ℕ) (b : Bool) → i < length ns
    → ((own : ℕ) → slice_get ns i ≡ Some own → b ≡ list_any (λ m. m == own) (drop (i + 1) ns))
    → no_repeat (drop i ns) ≡ (not b && no_repeat (drop (i + 1) ns))
given_once ns i b lt h =
    let own : ℕ = get_or ns i 0 in
    ap no_repeat (drop-cons ns i 0 lt ∙ ap (λ (n : ℕ). own ∷ drop n ns) (one_more i))
    ∙ ap (λ (c : Bool). not c && no_repeat (drop (i + 1) ns)) (sym (h own (slice_get-get_or ns i 0 lt)))
  where
    one_more : (n : ℕ) → suc n ≡ n + 1
    one_more n = omega arith

-- no reference is at or after a place that is no place of the list
pub nothing_left : (ns : List ℕ) (i : ℕ) → length ns ≤ i → drop i ns ≡ []
nothing_left [] zero h = refl
nothing_left [] (suc i) h = refl
nothing_left (n ∷ ns) zero h = absurd (omega arith)
nothing_left (n ∷ ns) (suc i) h = nothing_left ns i (omega arith)

-- ---- over the relays, in the order of the nodes

-- Let each relay pass a test exactly if its point passes another one. Then all relays pass the one exactly if all points pass
-- the other.
pub all_by_node : (f : Relaying → Bool) (g : ℕ → Bool) (rs : List Relaying) (nodes : List Node) → length rs ≡ length nodes
    → ((i : ℕ) (d : Relaying) (e : Node) → i < length rs → f (get_or rs i d) ≡ g (get_or nodes i e).pc) →
    list_all f rs ≡ list_all g (map (λ (node : Node). node.pc) nodes)
all_by_node f g [] [] same h = refl
all_by_node f g [] (n ∷ nodes) same h = absurd (omega (arith, same))
all_by_node f g (r ∷ rs) [] same h = absurd (omega (arith, same))
all_by_node f g (r ∷ rs) (n ∷ nodes) same h =
    ap (λ (b : Bool). b && list_all f rs) (h 0 r n (omega arith))
    ∙ ap (λ (b : Bool). g n.pc && b) (all_by_node f g rs nodes (omega (arith, same)) (λ i d e lt. h (suc i) d e (omega (arith, lt))))

maps_by_node : (f : Relaying → ℕ) (g : ℕ → ℕ) (rs : List Relaying) (nodes : List Node) → length rs ≡ length nodes
    → ((i : ℕ) (d : Relaying) (e : Node) → i < length rs → f (get_or rs i d) ≡ g (get_or nodes i e).pc) →
    map f rs ≡ map g (map (λ (node : Node). node.pc) nodes)
maps_by_node f g [] [] same h = refl
maps_by_node f g [] (n ∷ nodes) same h = absurd (omega (arith, same))
maps_by_node f g (r ∷ rs) [] same h = absurd (omega (arith, same))
maps_by_node f g (r ∷ rs) (n ∷ nodes) same h =
    ap (λ (k : ℕ). k ∷ map f rs) (h 0 r n (omega arith))
    ∙ ap (λ (ks : List ℕ). g n.pc ∷ ks) (maps_by_node f g rs nodes (omega (arith, same)) (λ i d e lt. h (suc i) d e (omega (arith, lt))))

relay_by : (plan : plans.Network) (relays : List Relaying) (links : List Link) (history : List Happening)
    → IsWorld plan relays links history → (i : ℕ) (d : Relaying) (e : Node) → i < length relays →
    IsRelay i ((after (network_of plan) history).moments (get_or plan.nodes i e).pc) (get_or relays i d)
relay_by plan relays links history is i d e lt =
    subst (λ (n : ℕ). IsRelay i ((after (network_of plan) history).moments n) (get_or relays i d))
    (point_by plan i e (omega (arith, is.count, lt))) (is.each i d lt)

-- what relays note of the references that they gave shows whether the world is fresh
pub fresh_by : (plan : plans.Network) (relays : List Relaying) (links : List Link) (history : List Happening)
    → IsWorld plan relays links history → list_all (λ (r : Relaying). no_repeat r.given) relays
    ≡ is_fresh (network_of plan) (after (network_of plan) history)
fresh_by plan relays links history is =
    all_by_node (λ (r : Relaying). no_repeat r.given) (λ n. no_repeat
    (given ((after (network_of plan) history).moments n))) relays plan.nodes is.count
    (λ i d e lt. ap no_repeat (relay_by plan relays links history is i d e lt).given_are)

-- the relays have as many sections as the world of the definition
pub sections_by : (plan : plans.Network) (relays : List Relaying) (links : List Link) (history : List Happening)
    → IsWorld plan relays links history → sum (map (λ (r : Relaying). length r.sections) relays)
    ≡ sections_of (network_of plan) (after (network_of plan) history)
sections_by plan relays links history is =
    ap sum
    (maps_by_node (λ (r : Relaying). length r.sections) (λ n. length
    ((after (network_of plan) history).moments n).sections) relays plan.nodes is.count
    (λ i d e lt. ap length (relay_by plan relays links history is i d e lt).sections_are))

-- each relay has at most 4,096 sections
pub few_sections : (plan : plans.Network) (relays : List Relaying) (links : List Link) (history : List Happening)
    → IsWorld plan relays links history → All (λ (r : Relaying). length r.sections ≤ 4096) relays
few_sections plan relays links history is = few_in relays (λ i d lt. few i d lt)
  where
    few : (i : ℕ) (d : Relaying) → i < length relays → length (get_or relays i d).sections ≤ 4096
    few i d lt =
        let r = is.each i d lt in
        let m = at_most _ (regular (network_of plan) history (point_of plan i)).kept.coupling in
        subst (λ l. length l ≤ 4096) (sym r.sections_are) m

    few_in : (rs : List Relaying) → ((i : ℕ) (d : Relaying) → i < length rs → length (get_or rs i d).sections ≤ 4096)
        → All (λ (r : Relaying). length r.sections ≤ 4096) rs
    few_in rs h = λ k d lt. h k d lt

-- ---- links that hold nothing

find_all : (f : Link → Bool) (ls : List Link) (a b : ℕ) → list_all f ls ≡ true → list_any (is_link a b) ls ≡ true
    → (l : Link) × (is_link a b l ≡ true) × (f l ≡ true)
find_all f [] a b h k = absurd (let z : false ≡ true = k in cc)
find_all f (l ∷ ls) a b h k =
    let parts = and_parts (f l) (list_all f ls) h in
    elim (is_link a b l) as (λ c. is_link a b l ≡ c → (c || list_any (is_link a b) ls) ≡ true
    → (m : Link) × (is_link a b m ≡ true) × (f m ≡ true)) [
      | true ↦ λ e j. (l, e, parts.0)
      | false ↦ λ e j. find_all f ls a b parts.1 j
    ] refl k

none_any : {A : Type 0} (f : Link → A) (none : A) (ls : List Link) (a b : ℕ) → list_any (is_link a b) ls ≡ false
    → of_link f none ls a b ≡ none
none_any f none [] a b h = refl
none_any {A} f none (l ∷ ls) a b h =
    elim (is_link a b l) as (λ c. (c || list_any (is_link a b) ls) ≡ false → cond c (f l) (of_link f none ls a b) ≡ none) [
      | true ↦ λ j. absurd (let z : true ≡ false = j in cc)
      | false ↦ λ j. none_any f none ls a b j
    ] h

is_none_of : {A : Type 0} (o : Option A) → not (is_some o) ≡ true → o ≡ None
is_none_of None h = refl
is_none_of (Some x) h = absurd (let z : false ≡ true = h in cc)

nothing_held : (links : List Link) (a b : ℕ) → list_all (λ l. not (holds_on links l)) links ≡ true
    → slice_get (octets_on links a b) (gone_from links a b) ≡ None
nothing_held links a b h =
    ⊎_elim
    (λ (some : list_any (is_link a b) links ≡ true).
    let l = find_all (λ l. not (holds_on links l)) links a b h some in
    let parts = and_parts (l.0.from == a) (l.0.to == b) l.1 in
    ap (λ (n : ℕ). slice_get (octets_on links n b) (gone_from links n b)) (sym (eqb-true l.0.from a parts.0))
    ∙ ap (λ (n : ℕ). slice_get (octets_on links l.0.from n) (gone_from links l.0.from n)) (sym (eqb-true l.0.to b parts.1))
    ∙ is_none_of (slice_get (octets_on links l.0.from l.0.to) (gone_from links l.0.from l.0.to)) l.2)
    (λ (none : list_any (is_link a b) links ≡ false). ap (λ (os : List (List ℕ)). slice_get os (gone_from links a b))
    (none_any (λ l. l.octets.items) [] links a b none))
    (cases_Bool (list_any (is_link a b) links))

all_always : (f : Link → Bool) (ls : List Link) → ((l : Link) → f l ≡ true) → list_all f ls ≡ true
all_always f [] h = refl
all_always f (l ∷ ls) h = and_from (f l) (list_all f ls) (h l) (all_always f ls h)

-- no record is one of a link that holds a message, exactly if no link of the world holds one
pub settled_by : (plan : plans.Network) (relays : List Relaying) (links : List Link) (history : List Happening)
    → IsWorld plan relays links history → (list_all (λ l. not (holds_on links l)) links ≡ true)
    ↔ IsSettled (after (network_of plan) history)
settled_by plan relays links history is = (
  λ h a b. oldest_not plan relays links history a b is (nothing_held links a b h),
  λ settled. all_always (λ l. not (holds_on links l)) links
      (λ l. ap (λ (o : Option (List ℕ)). not (is_some o)) (front_is plan relays links history l.from l.to is
      ∙ ap (λ (ms : List Message). slice_get (map message_octets ms) 0) (settled l.from l.to))),
)

-- ---- the least link that holds a message

-- what was found is a link that holds a message, and precedes what was best and each one in the list
record IsBest (links : List Link) (best : Option (ℕ × ℕ)) (ls : List Link) (found : Option (ℕ × ℕ)) : Type 0 where
  holding : (p : ℕ × ℕ) → found ≡ Some p → is_some (slice_get (octets_on links p.0 p.1) (gone_from links p.0 p.1)) ≡ true
  before_best : (q : ℕ × ℕ) → best ≡ Some q → (p : ℕ × ℕ) × (found ≡ Some p) × Precedes p q.0 q.1
  before_each : (a b : ℕ) → list_any (is_link a b) ls ≡ true → is_some (slice_get (octets_on links a b) (gone_from links a b)) ≡ true
      → (p : ℕ × ℕ) × (found ≡ Some p) × Precedes p a b

abbrev Holding : List Link → Option (ℕ × ℕ) → Type 0
Holding links best = (p : ℕ × ℕ) → best ≡ Some p → is_some (slice_get (octets_on links p.0 p.1) (gone_from links p.0 p.1)) ≡ true

holding_lesser : (links : List Link) (best : Option (ℕ × ℕ)) (l : Link) → Holding links best → holds_on links l ≡ true
    → Holding links (Some (lesser best l.from l.to))
holding_lesser links None l h k p e = let f : (l.from, l.to) ≡ p =
    cc in subst (λ (q : ℕ × ℕ). is_some (slice_get (octets_on links q.0 q.1) (gone_from links q.0 q.1)) ≡ true) f k
holding_lesser links (Some q) l h k p e =
    elim (is_before q.0 q.1 l.from l.to) as (λ c. Some (cond c q (l.from, l.to)) ≡ Some p
    → is_some (slice_get (octets_on links p.0 p.1) (gone_from links p.0 p.1)) ≡ true) [
      | true ↦ λ g. h p g
      | false ↦ λ g. let f : (l.from, l.to) ≡ p = cc in subst
          (λ (r : ℕ × ℕ). is_some (slice_get (octets_on links r.0 r.1) (gone_from links r.0 r.1)) ≡ true) f k
    ] e

lesser_new : (best : Option (ℕ × ℕ)) (a b : ℕ) → Precedes (lesser best a b) a b
lesser_new None a b = precedes_same a b
lesser_new (Some q) a b =
    elim (is_before q.0 q.1 a b) as (λ c. is_before q.0 q.1 a b ≡ c → Precedes (cond c q (a, b)) a b) [
      | true ↦ λ e. precedes_by q a b e
      | false ↦ λ e. precedes_same a b
    ] refl

lesser_old : (q : ℕ × ℕ) (a b : ℕ) → Precedes (lesser (Some q) a b) q.0 q.1
lesser_old q a b =
    elim (is_before q.0 q.1 a b) as (λ c. is_before q.0 q.1 a b ≡ c → Precedes (cond c q (a, b)) q.0 q.1) [
      | true ↦ λ e. precedes_same q.0 q.1
      | false ↦ λ e. precedes_not q a b e
    ] refl

best_is : (links : List Link) (best : Option (ℕ × ℕ)) (ls : List Link) → Holding links best → IsBest links best ls (best_of links best ls)
best_is links best [] h = record {
  holding = h;
  before_best = λ q e. (q, e, precedes_same q.0 q.1);
  before_each = λ a b k j. absurd
      (let z : false ≡ true = k in cc);
}
best_is links best (l ∷ ls) h =
    elim (holds_on links l) as (λ c. holds_on links l ≡ c
    → IsBest links best (l ∷ ls) (best_of links (cond c (Some (lesser best l.from l.to)) best) ls)) [
      | true ↦ λ e.
          let r = best_is links (Some (lesser best l.from l.to)) ls (holding_lesser links best l h e) in
          let first = r.before_best (lesser best l.from l.to) refl in
          record {
            holding = r.holding;
            before_best = λ q f. (
              first.0,
              first.1,
              precedes_then first.0 (lesser best l.from l.to) q.0 q.1 first.2
                  (subst (λ (o : Option (ℕ × ℕ)). Precedes (lesser o l.from l.to) q.0 q.1) (sym f) (lesser_old q l.from l.to)),
            );
            before_each = λ a b k j.
                elim (is_link a b l) as (λ c. is_link a b l ≡ c → (c || list_any (is_link a b) ls) ≡ true
                → (p : ℕ × ℕ) × (best_of links (Some (lesser best l.from l.to)) ls ≡ Some p) × Precedes p a b) [
                  | true ↦ λ g m.
                      let parts = and_parts (l.from == a) (l.to == b) g in (
                        first.0,
                        first.1,
                        subst (λ (n : ℕ). Precedes first.0 n b) (eqb-true l.from a parts.0)
                            (subst (λ (n : ℕ). Precedes first.0 l.from n) (eqb-true l.to b parts.1)
                            (precedes_then first.0 (lesser best l.from l.to) l.from l.to first.2 (lesser_new best l.from l.to))),
                      )
                  | false ↦ λ g m. r.before_each a b m j
                ] refl k;
          }
      | false ↦ λ e.
          let r = best_is links best ls h in
          record {
            holding = r.holding;
            before_best = r.before_best;
            before_each = λ a b k j.
                elim (is_link a b l) as (λ c. is_link a b l ≡ c → (c || list_any (is_link a b) ls) ≡ true
                → (p : ℕ × ℕ) × (best_of links best ls ≡ Some p) × Precedes p a b) [
                  | true ↦ λ g m.
                      let parts = and_parts (l.from == a) (l.to == b) g in
                      absurd (clash (sym j ∙ ap (λ (n : ℕ). is_some (slice_get (octets_on links n b) (gone_from links n b)))
                      (sym (eqb-true l.from a parts.0))
                      ∙ ap (λ (n : ℕ). is_some (slice_get (octets_on links l.from n) (gone_from links l.from n)))
                      (sym (eqb-true l.to b parts.1)) ∙ e))
                  | false ↦ λ g m. r.before_each a b m j
                ] refl k;
          }
    ] refl
  where
    clash : true ≡ false → ⊥
    clash z = cc

-- a link that holds a message is one of the list
among_held : (links : List Link) (a b : ℕ) → is_some (slice_get (octets_on links a b) (gone_from links a b)) ≡ true
    → list_any (is_link a b) links ≡ true
among_held links a b h =
    ⊎_elim
    (λ (some : list_any (is_link a b) links ≡ true). some)
    (λ (none : list_any (is_link a b) links ≡ false).
    absurd (let z : false ≡ true = sym (ap (λ (os : List (List ℕ)). is_some (slice_get os (gone_from links a b)))
    (none_any (λ l. l.octets.items) [] links a b none)) ∙ h in cc))
    (cases_Bool (list_any (is_link a b) links))

some_message : (ms : List Message) → is_some (slice_get (map message_octets ms) 0) ≡ true → ms ≡ [] → ⊥
some_message ms h e = let z : false ≡ true = sym (ap (λ (x : List Message). is_some (slice_get (map message_octets x) 0)) e) ∙ h in cc

held_message : (ms : List Message) → (ms ≡ [] → ⊥) → is_some (slice_get (map message_octets ms) 0) ≡ true
held_message [] h = absurd (h refl)
held_message (m ∷ ms) h = refl

best_cases : (o : Option (ℕ × ℕ)) → (o ≡ None) ⊎ ((p : ℕ × ℕ) × (o ≡ Some p))
best_cases None = inl refl
best_cases (Some p) = inr (p, refl)

-- the first link among the records, in order, is the one that is to deliver next
pub next_by : (plan : plans.Network) (relays : List Relaying) (links : List Link) (history : List Happening)
    → IsWorld plan relays links history → (p : ℕ × ℕ) → best_of links None links ≡ Some p
    → IsNextLink (after (network_of plan) history) p.0 p.1
next_by plan relays links history is p e =
    let r = best_is links None links (λ q f. absurd (let z : None ≡ Some q = f in cc)) in
    let w : World = after (network_of plan) history in
    record {
      holds = some_message (w.waiting p.0 p.1)
          (sym (ap (λ (o : Option (List ℕ)). is_some o) (front_is plan relays links history p.0 p.1 is)) ∙ r.holding p e);
      least = λ a b some.
          let h : is_some (slice_get (octets_on links a b) (gone_from links a b)) ≡ true =
          ap (λ (o : Option (List ℕ)). is_some o) (front_is plan relays links history a b is) ∙ held_message (w.waiting a b) some in
          let t = r.before_each a b (among_held links a b h) h in
          let same : t.0 ≡ p = let f = t.1 in cc in
          subst (λ (q : ℕ × ℕ). Precedes q a b) same t.2;
    }

-- if no record is one of a link that holds a message, no link of the world holds one
pub none_next : (plan : plans.Network) (relays : List Relaying) (links : List Link) (history : List Happening)
    → IsWorld plan relays links history → best_of links None links ≡ None → IsSettled (after (network_of plan) history)
none_next plan relays links history is e a b =
    let r = best_is links None links (λ q f. absurd (let z : None ≡ Some q = f in cc)) in
    ⊎_elim
    (λ (some : is_some (slice_get (octets_on links a b) (gone_from links a b)) ≡ true). let t = r.before_each a b
    (among_held links a b some) some in absurd (let z : None ≡ Some t.0 = sym e ∙ t.1 in cc))
    (λ (none : is_some (slice_get (octets_on links a b) (gone_from links a b)) ≡ false). oldest_not plan relays links history a b is
    (is_none_of (slice_get (octets_on links a b) (gone_from links a b)) (ap not none)))
    (cases_Bool (is_some (slice_get (octets_on links a b) (gone_from links a b))))

-- if no link of the world holds a message, no record is one of a link that does
pub settled_none : (plan : plans.Network) (relays : List Relaying) (links : List Link) (history : List Happening)
    → IsWorld plan relays links history → IsSettled (after (network_of plan) history) → best_of links None links ≡ None
settled_none plan relays links history is settled =
    ⊎_elim
    (λ (none : best_of links None links ≡ None). none)
    (λ (some : (p : ℕ × ℕ) × (best_of links None links ≡ Some p)). absurd
    ((next_by plan relays links history is some.0 some.1).holds (settled some.0.0 some.0.1)))
    (best_cases (best_of links None links))
