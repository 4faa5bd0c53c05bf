-- What holds while a release and its completions are under way.
use Rattle.std.specs.Prelude.{ℕ, ◌≡◌, ◌==◌, ◌⊎◌, Bool, true, false, ◌&&◌, List, [], ◌∷◌, ◌++◌, filter, Some, None, refl}
use Rattle.std.specs.List.{list_any}
use Rattle.std.proofs.Common.{sym, ◌∙◌, ap, ⊎_elim, inl, inr}
use Rattle.std.proofs.lemmas.Bool.{cases_eq, eq-eqb}
use Rattle.sccp_message.specs.declared.message.Message.TheVariants as messages
use Rattle.sccp_couple.specs.declared.section.Section.{Section}
use Rattle.sccp_couple.specs.Sections.{section_at, without, changed, released}
use Rattle.sccp_couple.proofs.Lookups.{without_same, without_else, without_cases, changed_same, changed_else, changed_none, changed_cases}
use Rattle.couple_chain.specs.World.{Network, is_node}
use Rattle.chain_call.proofs.Flows.{Every}
use Rattle.chain_call.proofs.Hops.{Hop, Sections, back_point, back_ref, front_point, front_ref, far_section, Apart, IsApart, Among}
use Rattle.chain_call.proofs.HopSteps.{OpenAt, Opens, Crossed}
use Rattle.chain_call.proofs.Marks.{Mark, any_in, any_out, any_last, every_out, every_in, filter_out, filter_one, filter_in}
use Rattle.chain_call.proofs.Releases.{loose, Completes, is_due, is_release, FarIn, Aimed, is_done, is_rlsd, Halves, LastHalf}
use Rattle.chain_call.proofs.Releases.{halves_done, last_done, opens_done}

-- ---- the sections of a relay that a release has reached

pub record Frees (S T : Sections) (h : Hop) : Type 0 where
  pub here : T h.node ≡ changed released h.far (without h.near (S h.node))
  pub there : (p : ℕ) → (p ≡ h.node → ⊥) → T p ≡ S p

near_none : (S T : Sections) (h : Hop) → Frees S T h → section_at (T h.node) h.near ≡ None
near_none S T h frees =
    ap (λ l. section_at l h.near) frees.here
    ∙ changed_none released (λ s. refl) (without h.near (S h.node)) h.far h.near (without_same (S h.node) h.near)

far_loose : (network : Network) (S T : Sections) (end point remote : ℕ) (h : Hop) (hops : List Hop) → Frees S T h
    → OpenAt network S end point remote h hops → section_at (T h.node) h.far ≡ Some (loose h (front_point end hops) (front_ref hops))
far_loose network S T end point remote h hops frees o =
    ap (λ l. section_at l h.far) frees.here
    ∙ changed_same released (λ s. refl) (without h.near (S h.node)) h.far (far_section h (front_point end hops) (Some (front_ref hops)))
    (without_else (S h.node) h.near h.far (λ e. o.two (sym e)) ∙ o.far_at)

still : (S T : Sections) (h : Hop) → Frees S T h → (p own : ℕ) → (p ≡ h.node → own ≡ h.near → ⊥) → (p ≡ h.node → own ≡ h.far → ⊥)
    → section_at (T p) own ≡ section_at (S p) own
still S T h frees p own near far =
    ⊎_elim
    (λ (e : p ≡ h.node).
    ap (λ k. section_at (T k) own) e ∙ ap (λ l. section_at l own) frees.here
    ∙ changed_else released (λ s. refl) (without h.near (S h.node)) h.far own (far e)
    ∙ without_else (S h.node) h.near own (near e) ∙ ap (λ k. section_at (S k) own) (sym e))
    (λ (e : p ≡ h.node → ⊥). ap (λ l. section_at l own) (frees.there p e))
    (cases_eq p h.node)

there_before : (S T : Sections) (h : Hop) → Frees S T h → (p own : ℕ) (s : Section) → section_at (T p) own ≡ Some s
    → (t : Section) × (section_at (S p) own ≡ Some t)
there_before S T h frees p own s at =
    ⊎_elim
    (λ (e : p ≡ h.node).
    let l : List Section = without h.near (S h.node) in
    let k : section_at (changed released h.far l) own ≡ Some s =
    sym (ap (λ n. section_at (T n) own) e ∙ ap (λ x. section_at x own) frees.here) ∙ at in
    ⊎_elim
    (λ (f : (t : Section) × (own ≡ h.far) × (section_at l h.far ≡ Some t) × (s ≡ released t)).
    (f.0, ap (λ n. section_at (S n) own) e ∙ ap (section_at (S h.node)) f.1 ∙ (without_cases (S h.node) h.near h.far f.0 f.2).1))
    (λ (f : (own ≡ h.far → ⊥) × (section_at l own ≡ Some s)).
    (s, ap (λ n. section_at (S n) own) e ∙ (without_cases (S h.node) h.near own s f.1).1))
    (changed_cases released (λ t. refl) l h.far own s k))
    (λ (e : p ≡ h.node → ⊥). (s, ap (λ x. section_at x own) (sym (frees.there p e)) ∙ at))
    (cases_eq p h.node)

-- ---- the state while the release is under way

abbrev pub tail : List Hop → List Hop
tail [] = []
tail (h ∷ hops) = hops

abbrev pub ApartAll : List Hop → Type 0
ApartAll [] = Unit {0}
ApartAll (h ∷ hops) = Apart h hops × ApartAll hops

abbrev pub AllInner : Network → List Hop → Type 0
AllInner network [] = Unit {0}
AllInner network (h ∷ hops) = (is_node network h.node ≡ true) × AllInner network hops

abbrev pub release_mark : ℕ → ℕ → List Hop → List Hop → Mark
release_mark from end back hops = record {
  from = back_point from back;
  to = front_point end hops;
  message = messages.Rlsd (front_ref hops) (back_ref back) 0 [];
}

-- the relays in `back` have been reached, the last one first, and those in `hops` have not
pub record Going (network : Network) (S : Sections) (ts : List Mark) (from end : ℕ) (back hops : List Hop) : Type 0 where
  pub outer : is_node network from ≡ false
  pub aimed : Every (Aimed from (tail back)) ts
  pub one : filter is_release ts ≡ release_mark from end back hops ∷ []
  pub last : LastHalf S ts (front_point end hops) (front_ref hops) back
  pub opens : Opens network S end (back_point from back) (back_ref back) hops
  pub crossed : Crossed back hops
  pub apart : ApartAll back
  pub inner : AllInner network back
  pub all : (p own : ℕ) (s : Section) → section_at (S p) own ≡ Some s → Among p own back ⊎ Among p own hops

-- all relays have been reached, and the far end has answered
pub record Ended (network : Network) (S : Sections) (ts : List Mark) (from end : ℕ) (back : List Hop) : Type 0 where
  pub aimed : Every (Aimed from back) ts
  pub none : filter is_release ts ≡ []
  pub halves : Halves S ts end 2 back
  pub inner : AllInner network back
  pub all : (p own : ℕ) (s : Section) → section_at (S p) own ≡ Some s → Among p own back

among_inner : (network : Network) (p own : ℕ) (hops : List Hop) → AllInner network hops → Among p own hops → is_node network p ≡ true
among_inner network p own [] inner h = absurd h
among_inner network p own (g ∷ hops) inner (inl h) = ap (is_node network) h.0 ∙ inner.0
among_inner network p own (g ∷ hops) inner (inr h) = among_inner network p own hops inner.1 h

open_inner : (network : Network) (S : Sections) (end point remote : ℕ) (hops : List Hop) → Opens network S end point remote hops
    → AllInner network hops
open_inner network S end point remote [] o = tt
open_inner network S end point remote (h ∷ hops) o = (o.0.inner, open_inner network S end h.node h.far hops o.1)

-- ends have no sections
pub going_ends : (network : Network) (S : Sections) (ts : List Mark) (from end : ℕ) (back hops : List Hop)
    → Going network S ts from end back hops → (b own : ℕ) (s : Section) → is_node network b ≡ false → section_at (S b) own ≡ Some s → ⊥
going_ends network S ts from end back hops g b own s outer at =
    ⊎_elim
    (λ (h : Among b own back). let z : true ≡ false = sym (among_inner network b own back g.inner h) ∙ outer in cc)
    (λ (h : Among b own hops).
    let z : true ≡ false = sym (among_inner network b own hops
    (open_inner network S end (back_point from back) (back_ref back) hops g.opens) h) ∙ outer in cc)
    (g.all b own s at)

pub ended_ends : (network : Network) (S : Sections) (ts : List Mark) (from end : ℕ) (back : List Hop)
    → Ended network S ts from end back → (b own : ℕ) (s : Section) → is_node network b ≡ false → section_at (S b) own ≡ Some s → ⊥
ended_ends network S ts from end back g b own s outer at =
    let z : true ≡ false = sym (among_inner network b own back g.inner (g.all b own s at)) ∙ outer in cc

-- ---- a completion arrives

node_differs : (network : Network) (a b : ℕ) → is_node network a ≡ true → is_node network b ≡ false → a ≡ b → ⊥
node_differs network a b inner outer e = let z : true ≡ false = sym inner ∙ ap (is_node network) e ∙ outer in cc

pub going_done : (network : Network) (S T : Sections) (from end a b d n : ℕ) (front after : List Mark) (back hops : List Hop)
    → Completes S T a b d n
    → (b ≡ from) ⊎ FarIn b d (tail back)
    → Going network S (front ++ record { from = a; to = b; message = messages.Rlc d n } ∷ after) from end back hops
    → Going network T (front ++ after) from end back hops
going_done network S T from end a b d n front after back hops done aimed g =
    let t : Mark = record { from = a; to = b; message = messages.Rlc d n } in
    record {
      outer = g.outer;
      aimed = (every_out (Aimed from (tail back)) front after t g.aimed).1;
      one = sym (filter_out is_release front after t refl) ∙ g.one;
      last = by_last back aimed g.inner g.apart g.last;
      opens = opens_done network S T a b d n end (back_point from back) (back_ref back) hops done g.opens;
      crossed = g.crossed;
      apart = g.apart;
      inner = g.inner;
      all = λ p own s at. g.all p own s (done.only p own s at);
    }
  where
    by_last : (back : List Hop) → (b ≡ from) ⊎ FarIn b d (tail back) → AllInner network back → ApartAll back
        → LastHalf S (front ++ record { from = a; to = b; message = messages.Rlc d n } ∷ after) (front_point end hops) (front_ref hops) back
        → LastHalf T (front ++ after) (front_point end hops) (front_ref hops) back
    by_last [] aimed inner apart last = tt
    by_last (h ∷ rest) aimed inner apart last =
        last_done S T from a b d n front after (front_point end hops) (front_ref hops) h rest done apart.0
        (node_differs network h.node from inner.0 g.outer) aimed last

pub ended_done : (network : Network) (S T : Sections) (from end a b d n : ℕ) (front after : List Mark) (back : List Hop)
    → Completes S T a b d n
    → Ended network S (front ++ record { from = a; to = b; message = messages.Rlc d n } ∷ after) from end back
    → Ended network T (front ++ after) from end back
ended_done network S T from end a b d n front after back done g =
    let t : Mark = record { from = a; to = b; message = messages.Rlc d n } in
    record {
      aimed = (every_out (Aimed from back) front after t g.aimed).1;
      none = sym (filter_out is_release front after t refl) ∙ g.none;
      halves = halves_done S T a b d n front after end 2 back done g.halves;
      inner = g.inner;
      all = λ p own s at. g.all p own s (done.only p own s at);
    }

-- ---- the release arrives at a relay

no_due : (y p d n a b e s : ℕ) → is_due y p d n (record { from = a; to = b; message = messages.Rlsd e s 0 [] }) ≡ false
no_due y p d n a b e s = elim ((a == y) && (b == p)) as (λ k. (k && false) ≡ false) [ true ↦ refl | false ↦ refl ]

due_here : (y p d n : ℕ) → is_due y p d n (record { from = y; to = p; message = messages.Rlc d n }) ≡ true
due_here y p d n =
    ap (λ (k : Bool). (k && (p == p)) && ((d == d) && (n == n))) (eq-eqb y y refl)
    ∙ ap (λ (k : Bool). k && ((d == d) && (n == n))) (eq-eqb p p refl)
    ∙ ap (λ (k : Bool). k && (n == n)) (eq-eqb d d refl) ∙ eq-eqb n n refl

-- the completions that are due stay under way
abbrev Stay : List Mark → List Mark → Type 0
Stay ts us = (y p d n : ℕ) → list_any (is_due y p d n) ts ≡ true → list_any (is_due y p d n) us ≡ true

halves_still : (S T : Sections) (ts us : List Mark) (h : Hop) (y n : ℕ) (back hops : List Hop) → Frees S T h → Stay ts us
    → Crossed back (h ∷ hops)
    → Halves S ts y n back → Halves T us y n back
halves_still S T ts us h y n [] hops frees stay crossed halves = tt
halves_still S T ts us h y n (g ∷ back) hops frees stay crossed halves =
    let a = crossed.0.0 in
    let near : section_at (T g.node) g.near ≡ section_at (S g.node) g.near = still S T h frees g.node g.near
    (λ e f. a.near_near (sym e) (sym f)) (λ e f. a.far_near (sym e) (sym f)) in
    let far : section_at (T g.node) g.far ≡ section_at (S g.node) g.far = still S T h frees g.node g.far
    (λ e f. a.near_far (sym e) (sym f)) (λ e f. a.far_far (sym e) (sym f)) in (
      record {
        near_gone = near ∙ halves.0.near_gone;
        far_due = ⊎_elim (λ none. inl (far ∙ none)) (λ due. inr (far ∙ due.0, stay y g.node g.far n due.1)) halves.0.far_due;
      },
      halves_still S T ts us h g.node g.near back hops frees stay crossed.1 halves.1,
    )

opens_apart : (network : Network) (S T : Sections) (h : Hop) (end point remote : ℕ) (hops : List Hop) → Frees S T h → Apart h hops
    → Opens network S end point remote hops → Opens network T end point remote hops
opens_apart network S T h end point remote [] frees apart o = tt
opens_apart network S T h end point remote (g ∷ hops) frees apart o = (
  record {
    inner = o.0.inner;
    near_at = still S T h frees g.node g.near apart.0.near_near apart.0.near_far ∙ o.0.near_at;
    far_at = still S T h frees g.node g.far apart.0.far_near apart.0.far_far ∙ o.0.far_at;
    two = o.0.two;
    apart = o.0.apart;
  },
  opens_apart network S T h end g.node g.far hops frees apart.1 o.1,
)

apart_back : (h g : Hop) → IsApart h g → IsApart g h
apart_back h g a = record {
  near_near = λ e f. a.near_near (sym e) (sym f);
  near_far = λ e f. a.far_near (sym e) (sym f);
  far_near = λ e f. a.near_far (sym e) (sym f);
  far_far = λ e f. a.far_far (sym e) (sym f);
}

apart_crossed : (h : Hop) (back hops : List Hop) → Crossed back (h ∷ hops) → Apart h back
apart_crossed h [] hops crossed = tt
apart_crossed h (g ∷ back) hops crossed = (apart_back g h crossed.0.0, apart_crossed h back hops crossed.1)

crossed_less : (h : Hop) (back hops : List Hop) → Crossed back (h ∷ hops) → Crossed back hops
crossed_less h [] hops crossed = tt
crossed_less h (g ∷ back) hops crossed = (crossed.0.1, crossed_less h back hops crossed.1)

aimed_more : (from : ℕ) (back : List Hop) (t : Mark) → Aimed from (tail back) t → Aimed from back t
aimed_more from [] t a = a
aimed_more from (h ∷ back) t (is_done d n e aim) = is_done d n e (⊎_elim (λ k. inl k) (λ k. inr (inr k)) aim)
aimed_more from (h ∷ back) t (is_rlsd d s e) = is_rlsd d s e

every_more : (from : ℕ) (back : List Hop) (ts : List Mark) → Every (Aimed from (tail back)) ts → Every (Aimed from back) ts
every_more from back [] h = tt
every_more from back (t ∷ ts) h = (aimed_more from back t h.0, every_more from back ts h.1)

aim_back : (from : ℕ) (back : List Hop) → (back_point from back ≡ from) ⊎ FarIn (back_point from back) (back_ref back) back
aim_back from [] = inl refl
aim_back from (h ∷ back) = inr (inl (refl, refl))

-- the marks afterwards
abbrev pub answers : ℕ → ℕ → List Hop → Hop → List Hop → List Mark → List Mark
answers from end back h hops ts =
    (ts ++ record { from = h.node; to = back_point from back; message = messages.Rlc (back_ref back) h.near } ∷ [])
    ++ release_mark from end (h ∷ back) hops ∷ []

pub going_on : (network : Network) (S T : Sections) (from end : ℕ) (front after : List Mark) (back hops : List Hop) (h : Hop) → Frees S T h
    → Going network S (front ++ release_mark from end back (h ∷ hops) ∷ after) from end back (h ∷ hops)
    → Going network T (answers from end back h hops (front ++ after)) from end (h ∷ back) hops
going_on network S T from end front after back hops h frees g =
    let t : Mark = release_mark from end back (h ∷ hops) in
    let a : Mark = record { from = h.node; to = back_point from back; message = messages.Rlc (back_ref back) h.near } in
    let b : Mark = release_mark from end (h ∷ back) hops in
    let rest : List Mark = front ++ after in
    let gone = filter_one is_release front after t t refl g.one in
    let o = g.opens.0 in
    record {
      outer = g.outer;
      aimed = every_in (Aimed from back) (rest ++ a ∷ []) b
          (every_in (Aimed from back) rest a (every_more from back rest (every_out (Aimed from (tail back)) front after t g.aimed).1)
          (is_done (back_ref back) h.near refl (aim_back from back)))
          (is_rlsd (front_ref hops) h.far refl);
      one = filter_in is_release (rest ++ a ∷ []) b ∙ ap (λ (l : List Mark). l ++ b ∷ [])
          (filter_in is_release rest a ∙ ap (λ (l : List Mark). l ++ []) gone.1);
      last = (
        (near_none S T h frees, far_loose network S T end (back_point from back) (back_ref back) h hops frees o),
        by_last back g.crossed g.last,
      );
      opens = opens_apart network S T h end h.node h.far hops frees o.apart g.opens.1;
      crossed = (o.apart, crossed_less h back hops g.crossed);
      apart = (apart_crossed h back hops g.crossed, g.apart);
      inner = (o.inner, g.inner);
      all = λ p own s at. let k = there_before S T h frees p own s at in moved p own (g.all p own k.0 k.1);
    }
  where
    stay : Stay (front ++ release_mark from end back (h ∷ hops) ∷ after) (answers from end back h hops (front ++ after))
    stay y p d n there =
        let a : Mark = record { from = h.node; to = back_point from back; message = messages.Rlc (back_ref back) h.near } in
        any_in (is_due y p d n) ((front ++ after) ++ a ∷ []) (release_mark from end (h ∷ back) hops)
        (any_in (is_due y p d n) (front ++ after) a
        (any_out (is_due y p d n) front after (release_mark from end back (h ∷ hops))
        (no_due y p d n (back_point from back) h.node h.near (back_ref back)) there))

    by_last : (back : List Hop) → Crossed back (h ∷ hops)
        → LastHalf S (front ++ release_mark from end back (h ∷ hops) ∷ after) h.node h.near back
        → Halves T (answers from end back h hops (front ++ after)) h.node h.near back
    by_last [] crossed last = tt
    by_last (k ∷ rest) crossed last =
        let c = crossed.0.0 in
        let near : section_at (T k.node) k.near ≡ section_at (S k.node) k.near = still S T h frees k.node k.near
        (λ e f. c.near_near (sym e) (sym f)) (λ e f. c.far_near (sym e) (sym f)) in
        let far : section_at (T k.node) k.far ≡ section_at (S k.node) k.far = still S T h frees k.node k.far
        (λ e f. c.near_far (sym e) (sym f)) (λ e f. c.far_far (sym e) (sym f)) in
        let a : Mark = record { from = h.node; to = k.node; message = messages.Rlc k.far h.near } in (
          record {
            near_gone = near ∙ last.0.0;
            far_due = inr (
              far ∙ last.0.1,
              any_in (is_due h.node k.node k.far h.near) ((front ++ after) ++ a ∷ []) (release_mark from end (h ∷ k ∷ rest) hops)
                  (any_last (is_due h.node k.node k.far h.near) (front ++ after) a (due_here h.node k.node k.far h.near)),
            );
          },
          halves_still S T (front ++ release_mark from end (k ∷ rest) (h ∷ hops) ∷ after)
              (answers from end (k ∷ rest) h hops (front ++ after)) h k.node k.near
              rest hops frees (stays (k ∷ rest)) crossed.1 last.1,
        )
      where
        stays : (back : List Hop) → Stay (front ++ release_mark from end back (h ∷ hops) ∷ after)
            (answers from end back h hops (front ++ after))
        stays back y p d n there =
            let a : Mark = record { from = h.node; to = back_point from back; message = messages.Rlc (back_ref back) h.near } in
            any_in (is_due y p d n) ((front ++ after) ++ a ∷ []) (release_mark from end (h ∷ back) hops)
            (any_in (is_due y p d n) (front ++ after) a
            (any_out (is_due y p d n) front after (release_mark from end back (h ∷ hops))
            (no_due y p d n (back_point from back) h.node h.near (back_ref back)) there))

    moved : (p own : ℕ) → Among p own back ⊎ Among p own (h ∷ hops) → Among p own (h ∷ back) ⊎ Among p own hops
    moved p own (inl k) = inl (inr k)
    moved p own (inr (inl k)) = inl (inl k)
    moved p own (inr (inr k)) = inr k

-- ---- the release arrives at the far end, which answers

pub going_out : (network : Network) (S T : Sections) (from end : ℕ) (front after : List Mark) (h : Hop) (back : List Hop)
    → ((p : ℕ) → T p ≡ S p)
    → Going network S (front ++ release_mark from end (h ∷ back) [] ∷ after) from end (h ∷ back) []
    → Ended network T ((front ++ after) ++ record { from = end; to = h.node; message = messages.Rlc h.far 2 } ∷ []) from end (h ∷ back)
going_out network S T from end front after h back same g =
    let t : Mark = release_mark from end (h ∷ back) [] in
    let a : Mark = record { from = end; to = h.node; message = messages.Rlc h.far 2 } in
    let rest : List Mark = front ++ after in
    let gone = filter_one is_release front after t t refl g.one in
    record {
      aimed = every_in (Aimed from (h ∷ back)) rest a (every_more from (h ∷ back) rest
          (every_out (Aimed from back) front after t g.aimed).1)
          (is_done h.far 2 refl (inr (inl (refl, refl))));
      none = filter_in is_release rest a ∙ ap (λ (l : List Mark). l ++ []) gone.1;
      halves = (
        record {
          near_gone = ap (λ l. section_at l h.near) (same h.node) ∙ g.last.0.0;
          far_due = inr (
            ap (λ l. section_at l h.far) (same h.node) ∙ g.last.0.1,
            any_last (is_due end h.node h.far 2) rest a (due_here end h.node h.far 2),
          );
        },
        halves_same h.node h.near back g.last.1,
      );
      inner = g.inner;
      all = λ p own s at. only p own (g.all p own s (ap (λ l. section_at l own) (sym (same p)) ∙ at));
    }
  where
    stay : (y p d n : ℕ) → list_any (is_due y p d n) (front ++ release_mark from end (h ∷ back) [] ∷ after) ≡ true
        → list_any (is_due y p d n) ((front ++ after) ++ record { from = end; to = h.node; message = messages.Rlc h.far 2 } ∷ []) ≡ true
    stay y p d n there =
        any_in (is_due y p d n) (front ++ after) (record { from = end; to = h.node; message = messages.Rlc h.far 2 })
        (any_out (is_due y p d n) front after (release_mark from end (h ∷ back) []) (no_due y p d n h.node end 2 h.far) there)

    halves_same : (y n : ℕ) (hops : List Hop) → Halves S (front ++ release_mark from end (h ∷ back) [] ∷ after) y n hops
        → Halves T ((front ++ after) ++ record { from = end; to = h.node; message = messages.Rlc h.far 2 } ∷ []) y n hops
    halves_same y n [] halves = tt
    halves_same y n (k ∷ hops) halves = (
      record {
        near_gone = ap (λ l. section_at l k.near) (same k.node) ∙ halves.0.near_gone;
        far_due = ⊎_elim (λ none. inl (ap (λ l. section_at l k.far) (same k.node) ∙ none))
            (λ due. inr (ap (λ l. section_at l k.far) (same k.node) ∙ due.0, stay y k.node k.far n due.1)) halves.0.far_due;
      },
      halves_same k.node k.near hops halves.1,
    )

    only : (p own : ℕ) → Among p own (h ∷ back) ⊎ Among p own [] → Among p own (h ∷ back)
    only p own (inl k) = k
    only p own (inr k) = absurd k

-- ---- nothing is left

pub nothing_left : (network : Network) (S : Sections) (from end : ℕ) (back : List Hop) → Ended network S [] from end back
    → (p own : ℕ) (s : Section)
    → section_at (S p) own ≡ Some s → ⊥
nothing_left network S from end back g p own s at = by end 2 back g.halves (g.all p own s at)
  where
    by : (y n : ℕ) (hops : List Hop) → Halves S [] y n hops → Among p own hops → ⊥
    by y n [] halves h = h
    by y n (k ∷ hops) halves (inr h) = by k.node k.near hops halves.1 h
    by y n (k ∷ hops) halves (inl h) =
        ⊎_elim
        (λ (e : own ≡ k.near).
        let z : None ≡ Some s = sym halves.0.near_gone ∙ ap (section_at (S k.node)) (sym e) ∙ ap (λ m. section_at (S m) own) (sym h.0)
        ∙ at in cc)
        (λ (e : own ≡ k.far).
        ⊎_elim
        (λ (none : section_at (S k.node) k.far ≡ None).
        let z : None ≡ Some s = sym none ∙ ap (section_at (S k.node)) (sym e) ∙ ap (λ m. section_at (S m) own) (sym h.0) ∙ at in cc)
        (λ (due : (section_at (S k.node) k.far ≡ Some (loose k y n)) × (list_any (is_due y k.node k.far n) [] ≡ true)).
        let z : false ≡ true = due.1 in cc)
        halves.0.far_due)
        h.1
