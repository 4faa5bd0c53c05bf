-- The relays that a connection goes over, from the one that was reached last back to the first, and their sections.
use Rattle.std.specs.Prelude.{ℕ, ◌≡◌, ◌==◌, ◌⊎◌, ◌≤◌, ◌+◌, ◌*◌, true, false, cond, List, [], ◌∷◌, ◌++◌, length, Option, Some, None, refl}
use Rattle.std.proofs.Common.{sym, ◌∙◌, ap, ⊎_elim, inl, inr, arith}
use Rattle.std.proofs.lemmas.Bool.{cases_eq, eqb-true}
use Rattle.sccp_couple.specs.declared.section.Section.{Section}
use Rattle.sccp_couple.specs.Sections.{section_at, with_pair}
use Rattle.sccp_couple.proofs.Fresh.{AreFresh}
use Rattle.sccp_couple.proofs.Lookups.{at_head, at_tail, append_some, append_none, append_cases}
use Rattle.couple_chain.specs.World.{Network, is_node}

-- a relay, and the own references of the two sections that the connection has there
pub record Hop : Type 0 where
  pub node : ℕ
  pub near : ℕ
  pub far : ℕ

-- the sections of each point
abbrev pub Sections : Type 0
Sections = ℕ → List Section

-- where an answer goes that comes back over these relays, and the reference that it has there
abbrev pub back_point : ℕ → List Hop → ℕ
back_point from [] = from
back_point from (h ∷ hops) = h.node

abbrev pub back_ref : List Hop → ℕ
back_ref [] = 1
back_ref (h ∷ hops) = h.far

-- where data go that go on over these relays, and the reference that they have there
abbrev pub front_point : ℕ → List Hop → ℕ
front_point end [] = end
front_point end (h ∷ hops) = h.node

abbrev pub front_ref : List Hop → ℕ
front_ref [] = 2
front_ref (h ∷ hops) = h.near

abbrev pub near_section : Hop → ℕ → ℕ → Section
near_section h point remote = record { own = h.near; point = point; remote = Some remote; other = Some h.far; near = true }

abbrev pub far_section : Hop → ℕ → Option ℕ → Section
far_section h point remote = record { own = h.far; point = point; remote = remote; other = Some h.near; near = false }

-- ---- while the request is on its way, and while its answer comes back

-- if two relays are one, their references differ
pub record IsApart (h g : Hop) : Type 0 where
  pub near_near : g.node ≡ h.node → g.near ≡ h.near → ⊥
  pub near_far : g.node ≡ h.node → g.near ≡ h.far → ⊥
  pub far_near : g.node ≡ h.node → g.far ≡ h.near → ⊥
  pub far_far : g.node ≡ h.node → g.far ≡ h.far → ⊥

abbrev pub Apart : Hop → List Hop → Type 0
Apart h [] = Unit {0}
Apart h (g ∷ hops) = IsApart h g × Apart h hops

-- the two sections of a relay that waits for an answer from a point; the relays before it are given too
pub record Stands (network : Network) (S : Sections) (from y : ℕ) (h : Hop) (hops : List Hop) : Type 0 where
  pub inner : is_node network h.node ≡ true
  pub near_at : section_at (S h.node) h.near ≡ Some (near_section h (back_point from hops) (back_ref hops))
  pub far_at : section_at (S h.node) h.far ≡ Some (far_section h y None)
  pub two : h.near ≡ h.far → ⊥
  pub apart : Apart h hops

-- all these relays wait, the last of them for the point y
abbrev pub Waits : Network → Sections → ℕ → ℕ → List Hop → Type 0
Waits network S from y [] = Unit {0}
Waits network S from y (h ∷ hops) = Stands network S from y h hops × Waits network S from h.node hops

-- the own reference is one of these relays'
abbrev pub Among : ℕ → ℕ → List Hop → Type 0
Among p own [] = ⊥
Among p own (h ∷ hops) = ((p ≡ h.node) × ((own ≡ h.near) ⊎ (own ≡ h.far))) ⊎ Among p own hops

abbrev pub AllAmong : Sections → List Hop → Type 0
AllAmong S hops = (p own : ℕ) (s : Section) → section_at (S p) own ≡ Some s → Among p own hops

none_some : {A : Type 0} (x : A) → None ≡ Some x → ⊥
none_some x e = cc

-- sections that stay leave the relays waiting
pub waits_more : (network : Network) (S T : Sections) (from y : ℕ) (hops : List Hop)
    → ((p own : ℕ) (s : Section) → section_at (S p) own ≡ Some s → section_at (T p) own ≡ Some s) → Waits network S from y hops
    → Waits network T from y hops
waits_more network S T from y [] more h = tt
waits_more network S T from y (g ∷ hops) more h = (
  record {
    inner = h.0.inner;
    near_at = more g.node g.near (near_section g (back_point from hops) (back_ref hops)) h.0.near_at;
    far_at = more g.node g.far (far_section g y None) h.0.far_at;
    two = h.0.two;
    apart = h.0.apart;
  },
  waits_more network S T from g.node hops more h.1,
)

-- so do changes of the sections of a relay after them
pub waits_still : (network : Network) (S T : Sections) (from y : ℕ) (h : Hop) (hops : List Hop) → Apart h hops
    → ((p own : ℕ) (s : Section) → (p ≡ h.node → own ≡ h.near → ⊥) → (p ≡ h.node → own ≡ h.far → ⊥) → section_at (S p) own ≡ Some s
    → section_at (T p) own ≡ Some s) → Waits network S from y hops → Waits network T from y hops
waits_still network S T from y h [] apart still w = tt
waits_still network S T from y h (g ∷ hops) apart still w = (
  record {
    inner = w.0.inner;
    near_at = still g.node g.near (near_section g (back_point from hops) (back_ref hops)) apart.0.near_near apart.0.near_far w.0.near_at;
    far_at = still g.node g.far (far_section g y None) apart.0.far_near apart.0.far_far w.0.far_at;
    two = w.0.two;
    apart = w.0.apart;
  },
  waits_still network S T from g.node h hops apart.1 still w.1,
)

-- references that no section has are apart from those of relays that wait
clash : (S : Sections) (p q own n : ℕ) (s : Section) → section_at (S p) own ≡ Some s → section_at (S q) n ≡ None → p ≡ q → own ≡ n → ⊥
clash S p q own n s some none same equal =
    let e : None ≡ Some s = sym none ∙ ap (section_at (S q)) (sym equal) ∙ ap (λ (x : ℕ). section_at (S x) own) (sym same) ∙ some in
    none_some s e

apart_new : (network : Network) (S : Sections) (from y : ℕ) (h : Hop) (hops : List Hop) → section_at (S h.node) h.near ≡ None
    → section_at (S h.node) h.far ≡ None → Waits network S from y hops → Apart h hops
apart_new network S from y h [] near far w = tt
apart_new network S from y h (g ∷ hops) near far w = (
  record {
    near_near = clash S g.node h.node g.near h.near (near_section g (back_point from hops) (back_ref hops)) w.0.near_at near;
    near_far = clash S g.node h.node g.near h.far (near_section g (back_point from hops) (back_ref hops)) w.0.near_at far;
    far_near = clash S g.node h.node g.far h.near (far_section g y None) w.0.far_at near;
    far_far = clash S g.node h.node g.far h.far (far_section g y None) w.0.far_at far;
  },
  apart_new network S from g.node h hops near far w.1,
)

-- ---- the request goes on

-- the sections after a relay made a pair
pub record Pairs (S T : Sections) (from to : ℕ) (h : Hop) (hops : List Hop) : Type 0 where
  pub here : T h.node ≡ with_pair h.near h.far (back_point from hops) (back_ref hops) to (S h.node)
  pub there : (p : ℕ) → (p ≡ h.node → ⊥) → T p ≡ S p
  pub fresh : AreFresh (S h.node) h.near h.far

-- all that holds while a request is on its way to y
pub record Asks (network : Network) (S : Sections) (from y : ℕ) (hops : List Hop) : Type 0 where
  pub outer : is_node network from ≡ false
  pub waits : Waits network S from y hops
  pub all : AllAmong S hops
  pub few : (p : ℕ) → length (S p) ≤ 2 * length hops
  -- a near section's remote is an own reference of its point, unless that is the end that calls
  pub named : (p own : ℕ) (s : Section) → section_at (S p) own ≡ Some s → s.near ≡ true
      → (s.point ≡ from) ⊎ ((r : ℕ) × (t : Section) × (s.remote ≡ Some r) × (section_at (S s.point) r ≡ Some t))
  -- the request was not received before
  pub first : (p own : ℕ) (s : Section) → section_at (S p) own ≡ Some s → s.near ≡ true → s.point ≡ back_point from hops
      → s.remote ≡ Some (back_ref hops) → ⊥

pair_grows : (S T : Sections) (from to : ℕ) (h : Hop) (hops : List Hop) → Pairs S T from to h hops → (p own : ℕ) (s : Section)
    → section_at (S p) own ≡ Some s → section_at (T p) own ≡ Some s
pair_grows S T from to h hops made p own s at =
    ⊎_elim
    (λ (e : p ≡ h.node).
    ap (λ (x : ℕ). section_at (T x) own) e ∙ ap (λ l. section_at l own) made.here
    ∙ append_some (S h.node) (near_section h (back_point from hops) (back_ref hops) ∷ far_section h to None ∷ []) own s
    (ap (λ (x : ℕ). section_at (S x) own) (sym e) ∙ at))
    (λ (n : p ≡ h.node → ⊥). ap (λ l. section_at l own) (made.there p n) ∙ at)
    (cases_eq p h.node)

-- a section afterwards is one as before, or one of the two
data New (S : Sections) (from to : ℕ) (h : Hop) (hops : List Hop) (p own : ℕ) (s : Section) : Type 0 where
  old : section_at (S p) own ≡ Some s → New S from to h hops p own s
  near_one : p ≡ h.node → own ≡ h.near → s ≡ near_section h (back_point from hops) (back_ref hops) → New S from to h hops p own s
  far_one : p ≡ h.node → own ≡ h.far → s ≡ far_section h to None → New S from to h hops p own s

two_cases : (a b : Section) (own : ℕ) (s : Section) → section_at (a ∷ b ∷ []) own ≡ Some s
    → ((own ≡ a.own) × (s ≡ a)) ⊎ ((own ≡ b.own) × (s ≡ b))
two_cases a b own s h =
    elim (a.own == own) as (λ c. (a.own == own) ≡ c → cond c (Some a) (section_at (b ∷ []) own) ≡ Some s
    → ((own ≡ a.own) × (s ≡ a)) ⊎ ((own ≡ b.own) × (s ≡ b))) [
      | true ↦ λ e k. inl (sym (eqb-true a.own own e), (let f : a ≡ s = cc in sym f))
      | false ↦ λ e k.
          elim (b.own == own) as (λ c. (b.own == own) ≡ c → cond c (Some b) None ≡ Some s
          → ((own ≡ a.own) × (s ≡ a)) ⊎ ((own ≡ b.own) × (s ≡ b))) [
            | true ↦ λ f j. inr (sym (eqb-true b.own own f), (let g : b ≡ s = cc in sym g))
            | false ↦ λ f j. absurd (none_some s j)
          ] refl k
    ] refl h

pair_cases : (S T : Sections) (from to : ℕ) (h : Hop) (hops : List Hop) → Pairs S T from to h hops → (p own : ℕ) (s : Section)
    → section_at (T p) own ≡ Some s → New S from to h hops p own s
pair_cases S T from to h hops made p own s at =
    ⊎_elim
    (λ (e : p ≡ h.node).
    let l : List Section = S h.node in
    let a : Section = near_section h (back_point from hops) (back_ref hops) in
    let b : Section = far_section h to None in
    let there : section_at (l ++ a ∷ b ∷ []) own ≡ Some s =
    sym (ap (λ (x : ℕ). section_at (T x) own) e ∙ ap (λ l. section_at l own) made.here) ∙ at in
    ⊎_elim
    (λ (k : section_at l own ≡ Some s). old (ap (λ (x : ℕ). section_at (S x) own) e ∙ k))
    (λ (k : (section_at l own ≡ None) × (section_at (a ∷ b ∷ []) own ≡ Some s)).
    ⊎_elim
    (λ (j : (own ≡ a.own) × (s ≡ a)). near_one e j.0 j.1)
    (λ (j : (own ≡ b.own) × (s ≡ b)). far_one e j.0 j.1)
    (two_cases a b own s k.1))
    (append_cases l (a ∷ b ∷ []) own s there))
    (λ (n : p ≡ h.node → ⊥). old (sym (ap (λ l. section_at l own) (made.there p n)) ∙ at))
    (cases_eq p h.node)

-- the relay at which an answer comes back is no end
back_exists : (network : Network) (S : Sections) (from y : ℕ) (hops : List Hop) → Waits network S from y hops
    → (back_point from hops ≡ from) ⊎ ((t : Section) × (section_at (S (back_point from hops)) (back_ref hops) ≡ Some t))
back_exists network S from y [] w = inl refl
back_exists network S from y (h ∷ hops) w = inr (far_section h y None, w.0.far_at)

pub asks_on : (network : Network) (S T : Sections) (from to : ℕ) (h : Hop) (hops : List Hop) → Asks network S from h.node hops
    → is_node network h.node ≡ true → Pairs S T from to h hops → Asks network T from to (h ∷ hops)
asks_on network S T from to h hops asks inner made =
    let l : List Section = S h.node in
    let a : Section = near_section h (back_point from hops) (back_ref hops) in
    let b : Section = far_section h to None in
    let grows = pair_grows S T from to h hops made in
    let two : h.near ≡ h.far → ⊥ = λ e. let lt = made.fresh.below in absurd (omega (arith, e, lt)) in
    record {
      outer = asks.outer;
      waits = (
        record {
          inner = inner;
          near_at = ap (λ l. section_at l h.near) made.here ∙ append_none l (a ∷ b ∷ []) h.near made.fresh.near_free
              ∙ at_head a (b ∷ []) h.near refl;
          far_at = ap (λ l. section_at l h.far) made.here ∙ append_none l (a ∷ b ∷ []) h.far made.fresh.far_free
              ∙ at_tail a (b ∷ []) h.far two ∙ at_head b [] h.far refl;
          two = two;
          apart = apart_new network S from h.node h hops made.fresh.near_free made.fresh.far_free asks.waits;
        },
        waits_more network S T from h.node hops grows asks.waits,
      );
      all = λ p own s at. all_cases p own s (pair_cases S T from to h hops made p own s at);
      few = λ p.
          ⊎_elim
          (λ (e : p ≡ h.node).
          let x = asks.few h.node in
          let y = ap (λ (n : ℕ). length (T n)) e ∙ ap (λ l. length l) made.here in
          let z = length_pair l a b in
          omega (arith, x, y, z))
          (λ (n : p ≡ h.node → ⊥). let x = asks.few p in let y = ap (λ l. length l) (made.there p n) in omega (arith, x, y))
          (cases_eq p h.node);
      named = λ p own s at near. named_cases p own s near (pair_cases S T from to h hops made p own s at);
      first = λ p own s at near point remote. first_cases p own s near point remote (pair_cases S T from to h hops made p own s at);
    }
  where
    length_pair : (l : List Section) (a b : Section) → length (l ++ a ∷ b ∷ []) ≡ length l + 2
    length_pair [] a b = refl
    length_pair (x ∷ l) a b = let e = length_pair l a b in omega (arith, e)

    all_cases : (p own : ℕ) (s : Section) → New S from to h hops p own s → Among p own (h ∷ hops)
    all_cases p own s (old at) = inr (asks.all p own s at)
    all_cases p own s (near_one e f g) = inl (e, inl f)
    all_cases p own s (far_one e f g) = inl (e, inr f)

    named_cases : (p own : ℕ) (s : Section) → s.near ≡ true → New S from to h hops p own s
        → (s.point ≡ from) ⊎ ((r : ℕ) × (t : Section) × (s.remote ≡ Some r) × (section_at (T s.point) r ≡ Some t))
    named_cases p own s near (old at) =
        ⊎_elim
        (λ (e : s.point ≡ from). inl e)
        (λ (k : (r : ℕ) × (t : Section) × (s.remote ≡ Some r) × (section_at (S s.point) r ≡ Some t)).
        inr (k.0, k.1, k.2, pair_grows S T from to h hops made s.point k.0 k.1 k.3))
        (asks.named p own s at near)
    named_cases p own s near (near_one e f g) =
        ⊎_elim
        (λ (k : back_point from hops ≡ from). inl (ap (λ (x : Section). x.point) g ∙ k))
        (λ (k : (t : Section) × (section_at (S (back_point from hops)) (back_ref hops) ≡ Some t)).
        inr (
          back_ref hops,
          k.0,
          ap (λ (x : Section). x.remote) g,
          ap (λ (x : Section). section_at (T x.point) (back_ref hops)) g
              ∙ pair_grows S T from to h hops made (back_point from hops) (back_ref hops) k.0 k.1,
        ))
        (back_exists network S from h.node hops asks.waits)
    named_cases p own s near (far_one e f g) = absurd (let z : false ≡ true = ap (λ (x : Section). x.near) (sym g) ∙ near in cc)

    not_from : h.node ≡ from → ⊥
    not_from e = let z : true ≡ false = sym inner ∙ ap (is_node network) e ∙ asks.outer in cc

    first_cases : (p own : ℕ) (s : Section) → s.near ≡ true → s.point ≡ h.node → s.remote ≡ Some h.far → New S from to h hops p own s → ⊥
    first_cases p own s near point remote (old at) =
        ⊎_elim
        (λ (e : s.point ≡ from). not_from (sym point ∙ e))
        (λ (k : (r : ℕ) × (t : Section) × (s.remote ≡ Some r) × (section_at (S s.point) r ≡ Some t)).
        let same : k.0 ≡ h.far = let u : Some k.0 ≡ Some h.far = sym k.2 ∙ remote in cc in
        clash S s.point h.node k.0 h.far k.1 k.3 made.fresh.far_free point same)
        (asks.named p own s at near)
    first_cases p own s near point remote (near_one e f g) =
        let there : back_point from hops ≡ h.node = ap (λ (x : Section). x.point) (sym g) ∙ point in
        let same : back_ref hops ≡ h.far = let u : Some (back_ref hops) ≡ Some h.far = ap (λ (x : Section). x.remote) (sym g)
        ∙ remote in cc in
        ⊎_elim
        (λ (k : back_point from hops ≡ from). not_from (sym there ∙ k))
        (λ (k : (t : Section) × (section_at (S (back_point from hops)) (back_ref hops) ≡ Some t)).
        clash S (back_point from hops) h.node (back_ref hops) h.far k.0 k.1 made.fresh.far_free there same)
        (back_exists network S from h.node hops asks.waits)
    first_cases p own s near point remote (far_one e f g) =
        let z : false ≡ true = ap (λ (x : Section). x.near) (sym g) ∙ near in absurd (cc)
