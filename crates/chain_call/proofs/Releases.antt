-- A release on its way over open relays: what each relay does with it and with its completion.
use Rattle.std.specs.Prelude.{ℕ, ◌≡◌, ◌==◌, ◌⊎◌, Bool, true, false, cond, ◌&&◌, List, [], ◌∷◌, ◌++◌, Option, Some, None, is_none, refl}
use Rattle.std.specs.Prelude.{option_and_then}
use Rattle.std.specs.List.{list_any}
use Rattle.std.proofs.Common.{sym, ◌∙◌, ap, ⊎_elim, inl, inr}
use Rattle.std.proofs.lemmas.Bool.{cases_eq, cases_Bool, eqb-true, eq-eqb, and_parts, and_from}
use Rattle.sccp_message.specs.declared.message.Message.{Message}
use Rattle.sccp_message.specs.declared.message.Message.TheVariants as messages
use Rattle.sccp_couple.specs.declared.section.Section.{Section}
use Rattle.sccp_couple.specs.declared.way.Way.{Way}
use Rattle.sccp_couple.specs.Sections.{is_that, section_at, known, if_from, without, changed, released, has_remote}
use Rattle.sccp_couple.specs.Events.{Answer}
use Rattle.sccp_couple.specs.Coupling.{coupled, to_one, toward, only_sends, on_release, on_complete, release}
use Rattle.sccp_couple.proofs.Lookups.{option_cases, without_same, without_else, without_cases}
use Rattle.couple_chain.specs.World.{Network}
use Rattle.chain_call.proofs.Hops.{Hop, Sections, front_point, front_ref, near_section, far_section, Apart}
use Rattle.chain_call.proofs.HopSteps.{event_with, OpenAt, Opens}
use Rattle.chain_call.proofs.Marks.{Mark, any_out}

-- ---- what a relay does

-- the far section of a relay that was released, until the release is completed
abbrev pub loose : Hop → ℕ → ℕ → Section
loose h y n = record { own = h.far; point = y; remote = Some n; other = None; near = false }

pub release_on : (network : Network) (S : Sections) (end point remote : ℕ) (h : Hop) (hops : List Hop) (way : Way)
    → OpenAt network S end point remote h hops → coupled (S h.node) (event_with point (messages.Rlsd h.near remote 0 []) way)
    ≡ record {
      sections = changed released h.far (without h.near (S h.node));
      sent = to_one point (messages.Rlc remote h.near) ++ to_one (front_point end hops) (messages.Rlsd (front_ref hops) h.far 0 []);
    }
release_on network S end point remote h hops way o =
    let l : List Section = S h.node in
    let s : Section = near_section h point remote in
    let done : List Answer = to_one point (messages.Rlc remote h.near) in
    let after : List Section = changed released h.far (without h.near l) in
    ap (on_release l point h.near remote 0 [])
    (ap (option_and_then (if_from point)) o.near_at ∙ ap (λ (b : Bool). cond b (Some s) None) (eq-eqb point point refl))
    ∙ ap (λ (b : Bool). cond b (release l s done 0 [] (Some h.far)) (only_sends l (to_one point (messages.Err remote 1))))
    (eq-eqb remote remote refl)
    ∙ ap (λ (x : Option Section). cond (has_remote x)
    (record { sections = after; sent = done ++ toward x (λ far own. messages.Rlsd far own 0 []) })
    (record { sections = without h.far (without h.near l); sent = done })) o.far_at

-- what a completion from a, with these references, does at a relay b
pub record Completes (S T : Sections) (a b d n : ℕ) : Type 0 where
  pub only : (p own : ℕ) (s : Section) → section_at (T p) own ≡ Some s → section_at (S p) own ≡ Some s
  pub coupled_stays : (p own : ℕ) (s : Section) (o : ℕ) → section_at (S p) own ≡ Some s → s.other ≡ Some o → section_at (T p) own ≡ Some s
  pub taken : (p own : ℕ) (s : Section) → section_at (S p) own ≡ Some s → section_at (T p) own ≡ None → (p ≡ b) × (own ≡ d)
  pub gone : (s : Section) → section_at (S b) d ≡ Some s → s.point ≡ a → s.remote ≡ Some n → s.other ≡ None → section_at (T b) d ≡ None

none_some : {A : Type 0} {B : Type 0} (x : A) → None ≡ Some x → B
none_some x e = absurd (cc)

-- a relay where nothing changes
pub completes_same : (S T : Sections) (a b d n : ℕ) → ((p : ℕ) → T p ≡ S p)
    → ((s : Section) → section_at (S b) d ≡ Some s → s.point ≡ a → s.remote ≡ Some n → s.other ≡ None → ⊥) → Completes S T a b d n
completes_same S T a b d n same never = record {
  only = λ p own s at. ap (λ l. section_at l own) (sym (same p)) ∙ at;
  coupled_stays = λ p own s o at other. ap (λ l. section_at l own) (same p) ∙ at;
  taken = λ p own s at none. none_some s (sym none ∙ ap (λ l. section_at l own) (same p) ∙ at);
  gone = λ s at point remote other. absurd (never s at point remote other);
}

completes_without : (S T : Sections) (a b d n : ℕ) (s : Section) → T b ≡ without s.own (S b) → ((p : ℕ) → (p ≡ b → ⊥) → T p ≡ S p)
    → section_at (S b) d ≡ Some s → s.own ≡ d → s.other ≡ None → Completes S T a b d n
completes_without S T a b d n s here there at own alone = record {
  only = λ p q t f. ⊎_elim
      (λ (e : p ≡ b). ap (λ k. section_at (S k) q) e
      ∙ (without_cases (S b) s.own q t (sym (ap (λ k. section_at (T k) q) e ∙ ap (λ l. section_at l q) here) ∙ f)).1)
      (λ (e : p ≡ b → ⊥). ap (λ l. section_at l q) (sym (there p e)) ∙ f)
      (cases_eq p b);
  coupled_stays = λ p q t o f other. ⊎_elim
      (λ (e : p ≡ b). ⊎_elim
      (λ (g : q ≡ s.own).
      let same : Some s ≡ Some t = sym (ap (section_at (S b)) (g ∙ own) ∙ at) ∙ ap (λ k. section_at (S k) q) (sym e) ∙ f in
      let z : None ≡ Some o = sym alone ∙ ap (λ (x : Section). x.other) (let r : s ≡ t = cc in r) ∙ other in none_some o z)
      (λ (g : q ≡ s.own → ⊥). ap (λ k. section_at (T k) q) e ∙ ap (λ l. section_at l q) here ∙ without_else (S b) s.own q g
      ∙ ap (λ k. section_at (S k) q) (sym e) ∙ f)
      (cases_eq q s.own))
      (λ (e : p ≡ b → ⊥). ap (λ l. section_at l q) (there p e) ∙ f)
      (cases_eq p b);
  taken = λ p q t f none. ⊎_elim
      (λ (e : p ≡ b). ⊎_elim
      (λ (g : q ≡ s.own). (e, g ∙ own))
      (λ (g : q ≡ s.own → ⊥).
      none_some t (sym none ∙ ap (λ k. section_at (T k) q) e ∙ ap (λ l. section_at l q) here ∙ without_else (S b) s.own q g
      ∙ ap (λ k. section_at (S k) q) (sym e) ∙ f))
      (cases_eq q s.own))
      (λ (e : p ≡ b → ⊥). none_some t (sym none ∙ ap (λ l. section_at l q) (there p e) ∙ f))
      (cases_eq p b);
  gone = λ t f point remote other. ap (λ l. section_at l d) here ∙ ap (section_at (without s.own (S b))) (sym own)
      ∙ without_same (S b) s.own;
}

-- a completion is never answered
pub complete_silent : (l : List Section) (a d n : ℕ) (way : Way) → (coupled l (event_with a (messages.Rlc d n) way)).sent ≡ []
complete_silent l a d n way = by (known l a d)
  where
    by : (o : Option Section) → (on_complete l n o).sent ≡ []
    by None = refl
    by (Some s) = elim (is_none s.other && is_that s.remote n) as (λ b. (cond b (record { sections = without s.own l; sent = [] })
        (only_sends l [])).sent ≡ []) [ true ↦ refl | false ↦ refl ]

known_parts : (l : List Section) (a d : ℕ) (s : Section) → known l a d ≡ Some s → (section_at l d ≡ Some s) × (s.point ≡ a)
known_parts l a d s h = by (section_at l d) h
  where
    by : (o : Option Section) → option_and_then (if_from a) o ≡ Some s → (o ≡ Some s) × (s.point ≡ a)
    by None k = none_some s k
    by (Some t) k =
        elim (t.point == a) as (λ b. (t.point == a) ≡ b → cond b (Some t) None ≡ Some s → (Some t ≡ Some s) × (s.point ≡ a)) [
          | true ↦ λ e f. (f, (let same : t ≡ s = cc in ap (λ (x : Section). x.point) (sym same) ∙ eqb-true t.point a e))
          | false ↦ λ e f. none_some s f
        ] refl k

known_back : (l : List Section) (a d : ℕ) (s : Section) → section_at l d ≡ Some s → s.point ≡ a → known l a d ≡ Some s
known_back l a d s at point =
    ap (option_and_then (if_from a)) at ∙ ap (λ (b : Bool). cond b (Some s) None) (eq-eqb s.point a point)

none_is : (o : Option ℕ) → is_none o ≡ true → o ≡ None
none_is None h = refl
none_is (Some n) h = absurd (let z : false ≡ true = h in cc)

pub complete_at : (S T : Sections) (a b d n : ℕ) (way : Way) → ((own : ℕ) (s : Section) → section_at (S b) own ≡ Some s → s.own ≡ own)
    → T b ≡ (coupled (S b) (event_with a (messages.Rlc d n) way)).sections → ((p : ℕ) → (p ≡ b → ⊥) → T p ≡ S p) → Completes S T a b d n
complete_at S T a b d n way owns here there = by (known (S b) a d) refl here
  where
    same : T b ≡ S b → (p : ℕ) → T p ≡ S p
    same e p = ⊎_elim (λ (k : p ≡ b). ap T k ∙ e ∙ ap S (sym k)) (λ (k : p ≡ b → ⊥). there p k) (cases_eq p b)

    by : (o : Option Section) → known (S b) a d ≡ o → T b ≡ (on_complete (S b) n o).sections → Completes S T a b d n
    by None e h = completes_same S T a b d n (same h)
        (λ s at point remote other. none_some s (sym e ∙ known_back (S b) a d s at point))
    by (Some s) e h =
        let parts = known_parts (S b) a d s e in
        elim (is_none s.other && is_that s.remote n) as (λ k. (is_none s.other && is_that s.remote n) ≡ k
        → T b ≡ (cond k (record { sections = without s.own (S b); sent = [] }) (only_sends (S b) [])).sections → Completes S T a b d n) [
          | true ↦ λ f g.
              let both = and_parts (is_none s.other) (is_that s.remote n) f in
              completes_without S T a b d n s g there parts.0 (owns d s parts.0) (none_is s.other both.0)
          | false ↦ λ f g. completes_same S T a b d n (same g) (λ t at point remote other.
              let one : s ≡ t = let z : Some s ≡ Some t = sym parts.0 ∙ at in cc in
              let yes_it : (is_none s.other && is_that s.remote n) ≡ true =
              and_from (is_none s.other) (is_that s.remote n) (ap (λ (x : Section). is_none x.other) one ∙ ap is_none other)
              (ap (λ (x : Section). is_that x.remote n) one ∙ ap (λ r. is_that r n) remote ∙ eq-eqb n n refl) in
              let z : false ≡ true = sym f ∙ yes_it in cc)
        ] refl h

-- ---- marks of releases and completions

abbrev pub completes : ℕ → ℕ → Message → Bool
completes d n (messages.Rlc dlr slr) = (dlr == d) && (slr == n)
completes d n _ = false

abbrev pub releases : Message → Bool
releases (messages.Rlsd dlr slr cause params) = true
releases _ = false

-- the completion from y that a relay waits for
abbrev pub is_due : ℕ → ℕ → ℕ → ℕ → Mark → Bool
is_due y p d n t = ((t.from == y) && (t.to == p)) && completes d n t.message

abbrev pub is_release : Mark → Bool
is_release t = releases t.message

abbrev pub FarIn : ℕ → ℕ → List Hop → Type 0
FarIn p d [] = ⊥
FarIn p d (h ∷ hops) = ((p ≡ h.node) × (d ≡ h.far)) ⊎ FarIn p d hops

-- a mark is a release, or a completion for the end that calls or for one of these relays
pub data Aimed (from : ℕ) (hops : List Hop) (t : Mark) : Type 0 where
  is_done : (d n : ℕ) → t.message ≡ messages.Rlc d n → (t.to ≡ from) ⊎ FarIn t.to d hops → Aimed from hops t
  is_rlsd : (d s : ℕ) → t.message ≡ messages.Rlsd d s 0 [] → Aimed from hops t

-- a relay whose near section has ended; its far section has too, or its completion is under way
pub record Half (S : Sections) (ts : List Mark) (y n : ℕ) (h : Hop) : Type 0 where
  pub near_gone : section_at (S h.node) h.near ≡ None
  pub far_due : (section_at (S h.node) h.far ≡ None)
      ⊎ ((section_at (S h.node) h.far ≡ Some (loose h y n)) × (list_any (is_due y h.node h.far n) ts ≡ true))

abbrev pub Halves : Sections → List Mark → ℕ → ℕ → List Hop → Type 0
Halves S ts y n [] = Unit {0}
Halves S ts y n (h ∷ hops) = Half S ts y n h × Halves S ts h.node h.near hops

-- the last one was just released
abbrev pub LastHalf : Sections → List Mark → ℕ → ℕ → List Hop → Type 0
LastHalf S ts y n [] = Unit {0}
LastHalf S ts y n (h ∷ hops) =
    ((section_at (S h.node) h.near ≡ None) × (section_at (S h.node) h.far ≡ Some (loose h y n))) × Halves S ts h.node h.near hops

-- ---- a completion arrives

none_kept : (S T : Sections) (a b d n : ℕ) → Completes S T a b d n → (p own : ℕ) → section_at (S p) own ≡ None → section_at (T p) own ≡ None
none_kept S T a b d n done p own none =
    ⊎_elim
    (λ (e : section_at (T p) own ≡ None). e)
    (λ (some : (s : Section) × (section_at (T p) own ≡ Some s)). none_some some.0 (sym none ∙ done.only p own some.0 some.1))
    (option_cases (section_at (T p) own))

due_is : (y p d' n' a b d n : ℕ) → is_due y p d' n' (record { from = a; to = b; message = messages.Rlc d n }) ≡ true
    → (a ≡ y) × (b ≡ p) × (d ≡ d') × (n ≡ n')
due_is y p d' n' a b d n h =
    let x = and_parts ((a == y) && (b == p)) ((d == d') && (n == n')) h in
    let u = and_parts (a == y) (b == p) x.0 in
    let v = and_parts (d == d') (n == n') x.1 in
    (eqb-true a y u.0, eqb-true b p u.1, eqb-true d d' v.0, eqb-true n n' v.1)

half_done : (S T : Sections) (a b d n : ℕ) (front back : List Mark) (y m : ℕ) (h : Hop) → Completes S T a b d n
    → Half S (front ++ record { from = a; to = b; message = messages.Rlc d n } ∷ back) y m h → Half T (front ++ back) y m h
half_done S T a b d n front back y m h done half =
    let t : Mark = record { from = a; to = b; message = messages.Rlc d n } in
    record {
      near_gone = none_kept S T a b d n done h.node h.near half.near_gone;
      far_due = ⊎_elim
          (λ (none : section_at (S h.node) h.far ≡ None). inl (none_kept S T a b d n done h.node h.far none))
          (λ (due : (section_at (S h.node) h.far ≡ Some (loose h y m)) × (list_any (is_due y h.node h.far m) (front ++ t ∷ back) ≡ true)).
          ⊎_elim
          (λ (it : is_due y h.node h.far m t ≡ true).
          let e = due_is y h.node h.far m a b d n it in
          let at : section_at (S b) d ≡ Some (loose h y m) = ap (λ k. section_at (S k) d) e.1 ∙ ap (section_at (S h.node)) e.2 ∙ due.0 in
          inl (ap (λ k. section_at (T k) h.far) (sym e.1) ∙ ap (section_at (T b)) (sym e.2)
          ∙ done.gone (loose h y m) at (sym e.0) (ap (λ (k : ℕ). Some k) (sym e.3)) refl))
          (λ (other : is_due y h.node h.far m t ≡ false).
          ⊎_elim
          (λ (none : section_at (T h.node) h.far ≡ None). inl none)
          (λ (some : (s : Section) × (section_at (T h.node) h.far ≡ Some s)).
          inr (some.1 ∙ sym (done.only h.node h.far some.0 some.1) ∙ due.0, any_out (is_due y h.node h.far m) front back t other due.1))
          (option_cases (section_at (T h.node) h.far)))
          (cases_Bool (is_due y h.node h.far m t)))
          half.far_due;
    }

pub halves_done : (S T : Sections) (a b d n : ℕ) (front back : List Mark) (y m : ℕ) (hops : List Hop) → Completes S T a b d n
    → Halves S (front ++ record { from = a; to = b; message = messages.Rlc d n } ∷ back) y m hops → Halves T (front ++ back) y m hops
halves_done S T a b d n front back y m [] done h = tt
halves_done S T a b d n front back y m (g ∷ hops) done h =
    (half_done S T a b d n front back y m g done h.0, halves_done S T a b d n front back g.node g.near hops done h.1)

apart_far : (h : Hop) (hops : List Hop) (p d : ℕ) → Apart h hops → FarIn p d hops → p ≡ h.node → d ≡ h.far → ⊥
apart_far h [] p d apart far e f = far
apart_far h (g ∷ hops) p d apart (inl k) e f = apart.0.far_far (sym k.0 ∙ e) (sym k.1 ∙ f)
apart_far h (g ∷ hops) p d apart (inr k) e f = apart_far h hops p d apart.1 k e f

pub last_done : (S T : Sections) (from a b d n : ℕ) (front back : List Mark) (y m : ℕ) (h : Hop) (hops : List Hop) → Completes S T a b d n
    → Apart h hops → (h.node ≡ from → ⊥) → (b ≡ from) ⊎ FarIn b d hops
    → LastHalf S (front ++ record { from = a; to = b; message = messages.Rlc d n } ∷ back) y m (h ∷ hops)
    → LastHalf T (front ++ back) y m (h ∷ hops)
last_done S T from a b d n front back y m h hops done apart outer aimed last =
    let stays : section_at (T h.node) h.far ≡ Some (loose h y m) =
    ⊎_elim
    (λ (none : section_at (T h.node) h.far ≡ None).
    let k = done.taken h.node h.far (loose h y m) last.0.1 none in
    absurd (⊎_elim (λ (e : b ≡ from). outer (k.0 ∙ e)) (λ (f : FarIn b d hops). apart_far h hops b d apart f (sym k.0) (sym k.1)) aimed))
    (λ (some : (s : Section) × (section_at (T h.node) h.far ≡ Some s)).
    some.1 ∙ sym (done.only h.node h.far some.0 some.1) ∙ last.0.1)
    (option_cases (section_at (T h.node) h.far)) in
    ((none_kept S T a b d n done h.node h.near last.0.0, stays), halves_done S T a b d n front back h.node h.near hops done last.1)

pub opens_done : (network : Network) (S T : Sections) (a b d n : ℕ) (end point remote : ℕ) (hops : List Hop) → Completes S T a b d n
    → Opens network S end point remote hops → Opens network T end point remote hops
opens_done network S T a b d n end point remote [] done o = tt
opens_done network S T a b d n end point remote (h ∷ hops) done o = (
  record {
    inner = o.0.inner;
    near_at = done.coupled_stays h.node h.near (near_section h point remote) h.far o.0.near_at refl;
    far_at = done.coupled_stays h.node h.far (far_section h (front_point end hops) (Some (front_ref hops))) h.near o.0.far_at refl;
    two = o.0.two;
    apart = o.0.apart;
  },
  opens_done network S T a b d n end h.node h.far hops done o.1,
)
