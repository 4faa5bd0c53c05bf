-- What a relay does with a request, its refusal and its confirmation.
use Rattle.std.specs.Prelude.{ℕ, ◌≡◌, ◌==◌, ◌⊎◌, Bool, true, false, cond, ◌&&◌, ◌||◌, List, [], ◌∷◌, length, Option, Some, None, refl}
use Rattle.std.specs.Prelude.{option_and_then, nat_lt}
use Rattle.std.specs.List.{list_any}
use Rattle.std.proofs.Common.{sym, ◌∙◌, ap, subst, ⊎_elim, inl, inr}
use Rattle.std.proofs.lemmas.Bool.{cases_eq, cases_Bool, eqb-true, eq-eqb, and_parts}
use Rattle.sccp_address.specs.declared.address.Address.{Address}
use Rattle.sccp_layout.specs.Parameter.{Parameter}
use Rattle.sccp_message.specs.declared.message.Message.{Message}
use Rattle.sccp_message.specs.declared.message.Message.TheVariants as messages
use Rattle.sccp_couple.specs.declared.section.Section.{Section}
use Rattle.sccp_couple.specs.declared.way.Way.{Way}
use Rattle.sccp_couple.specs.declared.way.Way.TheVariants.{Refused, Onward}
use Rattle.sccp_couple.specs.Sections.{is_that, section_at, known, if_from, is_near_of, without, changed, confirmed}
use Rattle.sccp_couple.specs.Sections.{first_new, second_new}
use Rattle.sccp_couple.specs.Events.{Event, Outcome}
use Rattle.sccp_couple.specs.Coupling.{coupled, to_one, on_refusal, on_confirm, only_sends, toward, couple}
use Rattle.sccp_couple.specs.Invariant.{OwnDiffer}
use Rattle.sccp_couple.proofs.Lookups.{at_head, at_tail, without_else, without_cases, changed_same, changed_else, changed_cases}
use Rattle.couple_chain.specs.World.{Network, is_node}
use Rattle.chain_call.proofs.Hops.{Hop, Sections, back_point, back_ref, front_point, front_ref, near_section, far_section, IsApart, Apart}
use Rattle.chain_call.proofs.Hops.{Stands}
use Rattle.chain_call.proofs.Hops.{Waits, Among, AllAmong, waits_still, Asks}

-- ---- the request

-- a section passes a test if the list has one that does
some_passes : (p : Section → Bool) (l : List Section) → OwnDiffer l → list_any p l ≡ true
    → (s : Section) × (section_at l s.own ≡ Some s) × (p s ≡ true)
some_passes p [] d h = absurd (let z : false ≡ true = h in cc)
some_passes p (x ∷ xs) d h =
    elim (p x) as (λ b. p x ≡ b → (b || list_any p xs) ≡ true → (s : Section) × (section_at (x ∷ xs) s.own ≡ Some s) × (p s ≡ true)) [
      | true ↦ λ e k. (x, at_head x xs x.own refl, e)
      | false ↦ λ e k.
          let r = some_passes p xs d.1 k in
          (r.0, at_tail x xs r.0.own (λ same. clash x xs r.0 same d.0 r.1) ∙ r.1, r.2)
    ] refl h
  where
    clash : (x : Section) (xs : List Section) (s : Section) → x.own ≡ s.own → section_at xs x.own ≡ None → section_at xs s.own ≡ Some s → ⊥
    clash x xs s same none some = let a : section_at xs s.own ≡ None = subst (λ (n : ℕ). section_at xs n ≡ None) same none in cc

that_one : (o : Option ℕ) (n : ℕ) → is_that o n ≡ true → o ≡ Some n
that_one None n h = absurd (let z : false ≡ true = h in cc)
that_one (Some m) n h = ap (λ (k : ℕ). Some k) (eqb-true m n h)

-- a request that is on its way was not received before
pub not_before : (network : Network) (S : Sections) (from y : ℕ) (hops : List Hop) → Asks network S from y hops → OwnDiffer (S y)
    → list_any (is_near_of (back_point from hops) (back_ref hops)) (S y) ≡ false
not_before network S from y hops asks differ =
    ⊎_elim
    (λ (e : list_any (is_near_of (back_point from hops) (back_ref hops)) (S y) ≡ true).
    let r = some_passes (is_near_of (back_point from hops) (back_ref hops)) (S y) differ e in
    let s : Section = r.0 in
    let a = and_parts s.near ((s.point == back_point from hops) && is_that s.remote (back_ref hops)) r.2 in
    let b = and_parts (s.point == back_point from hops) (is_that s.remote (back_ref hops)) a.1 in
    absurd (asks.first y s.own s r.1 a.0 (eqb-true s.point (back_point from hops) b.0) (that_one s.remote (back_ref hops) b.1)))
    (λ (e : list_any (is_near_of (back_point from hops) (back_ref hops)) (S y) ≡ false). e)
    (cases_Bool (list_any (is_near_of (back_point from hops) (back_ref hops)) (S y)))

abbrev pub event_with : ℕ → Message → Way → Event
event_with origin m way = record { origin = origin; message = m; way = way }

pub request_refused : (l : List Section) (origin slr class cause : ℕ) (called : Address) (params : List Parameter)
    → list_any (is_near_of origin slr) l ≡ false
    → coupled l (event_with origin (messages.Cr slr class called params) (Refused cause))
    ≡ only_sends l (to_one origin (messages.Cref slr cause []))
request_refused l origin slr class cause called params none =
    ap (λ (b : Bool). cond b (only_sends l []) (only_sends l (to_one origin (messages.Cref slr cause [])))) none

pub request_onward : (l : List Section) (origin slr class to : ℕ) (called next : Address) (params further : List Parameter)
    → list_any (is_near_of origin slr) l ≡ false → nat_lt 4094 (length l) ≡ false
    → coupled l (event_with origin (messages.Cr slr class called params) (Onward to next further))
    ≡ couple l (first_new l) (second_new l) origin slr to (λ far. messages.Cr far class next further)
request_onward l origin slr class to called next params further none few =
    let on : Outcome = couple l (first_new l) (second_new l) origin slr to (λ far. messages.Cr far class next further) in
    ap (λ (b : Bool). cond b (only_sends l []) (cond (nat_lt 4094 (length l))
    (only_sends l (to_one origin (messages.Cref slr 7 []))) on)) none
    ∙ ap (λ (b : Bool). cond b (only_sends l (to_one origin (messages.Cref slr 7 []))) on) few

-- ---- its refusal

known_far : (network : Network) (S : Sections) (from y : ℕ) (h : Hop) (hops : List Hop) → Stands network S from y h hops
    → known (S h.node) y h.far ≡ Some (far_section h y None)
known_far network S from y h hops stands =
    ap (option_and_then (if_from y)) stands.far_at ∙ ap (λ (b : Bool). cond b (Some (far_section h y None)) None) (eq-eqb y y refl)

pub refusal_back : (network : Network) (S : Sections) (from y : ℕ) (h : Hop) (hops : List Hop) (cause : ℕ) (params : List Parameter)
    (way : Way)
    → Stands network S from y h hops → coupled (S h.node) (event_with y (messages.Cref h.far cause params) way)
    ≡ record {
      sections = without h.near (without h.far (S h.node));
      sent = to_one (back_point from hops) (messages.Cref (back_ref hops) cause params);
    }
refusal_back network S from y h hops cause params way stands =
    let l : List Section = S h.node in
    ap (on_refusal l cause params) (known_far network S from y h hops stands)
    ∙ ap (λ (o : Option Section). record {
      sections = without h.near (without h.far l);
      sent = toward o
          (λ remote own. messages.Cref remote cause params);
    })
    stands.near_at

-- the sections after a relay ended its pair
pub record Ends (S T : Sections) (h : Hop) : Type 0 where
  pub here : T h.node ≡ without h.near (without h.far (S h.node))
  pub there : (p : ℕ) → (p ≡ h.node → ⊥) → T p ≡ S p

-- all that holds while a refusal is on its way back from y
pub record Refuses (network : Network) (S : Sections) (from y : ℕ) (hops : List Hop) : Type 0 where
  pub waits : Waits network S from y hops
  pub all : AllAmong S hops

pub refuses_on : (network : Network) (S T : Sections) (from y : ℕ) (h : Hop) (hops : List Hop) → Refuses network S from y (h ∷ hops)
    → Ends S T h → Refuses network T from h.node hops
refuses_on network S T from y h hops refuses ends =
    record {
      waits = waits_still network S T from h.node h hops refuses.waits.0.apart still refuses.waits.1;
      all = λ p own s at.
          ⊎_elim
          (λ (e : p ≡ h.node).
          let there : section_at (without h.near (without h.far (S h.node))) own ≡ Some s =
          sym (ap (λ (x : ℕ). section_at (T x) own) e ∙ ap (λ l. section_at l own) ends.here) ∙ at in
          let a = without_cases (without h.far (S h.node)) h.near own s there in
          let b = without_cases (S h.node) h.far own s a.1 in
          other p own a.0 b.0 (refuses.all p own s (ap (λ (x : ℕ). section_at (S x) own) e ∙ b.1)))
          (λ (n : p ≡ h.node → ⊥).
          elsewhere p own n (refuses.all p own s (sym (ap (λ l. section_at l own) (ends.there p n)) ∙ at)))
          (cases_eq p h.node);
    }
  where
    still : (p own : ℕ) (s : Section) → (p ≡ h.node → own ≡ h.near → ⊥) → (p ≡ h.node → own ≡ h.far → ⊥) → section_at (S p) own ≡ Some s
        → section_at (T p) own ≡ Some s
    still p own s near far at =
        ⊎_elim
        (λ (e : p ≡ h.node).
        ap (λ (x : ℕ). section_at (T x) own) e ∙ ap (λ l. section_at l own) ends.here
        ∙ without_else (without h.far (S h.node)) h.near own (near e) ∙ without_else (S h.node) h.far own (far e)
        ∙ ap (λ (x : ℕ). section_at (S x) own) (sym e) ∙ at)
        (λ (n : p ≡ h.node → ⊥). ap (λ l. section_at l own) (ends.there p n) ∙ at)
        (cases_eq p h.node)

    other : (p own : ℕ) → (own ≡ h.near → ⊥) → (own ≡ h.far → ⊥) → Among p own (h ∷ hops) → Among p own hops
    other p own near far (inl k) = ⊎_elim (λ (e : own ≡ h.near). absurd (near e)) (λ (e : own ≡ h.far). absurd (far e)) k.1
    other p own near far (inr k) = k

    elsewhere : (p own : ℕ) → (p ≡ h.node → ⊥) → Among p own (h ∷ hops) → Among p own hops
    elsewhere p own n (inl k) = absurd (n k.0)
    elsewhere p own n (inr k) = k

-- ---- its confirmation

pub confirm_back : (network : Network) (S : Sections) (from y : ℕ) (h : Hop) (hops : List Hop) (slr class : ℕ) (params : List Parameter)
    (way : Way)
    → Stands network S from y h hops → coupled (S h.node) (event_with y (messages.Cc h.far slr class params) way)
    ≡ record {
      sections = changed (confirmed slr) h.far (S h.node);
      sent = to_one (back_point from hops) (messages.Cc (back_ref hops) h.near class params);
    }
confirm_back network S from y h hops slr class params way stands =
    let l : List Section = S h.node in
    ap (on_confirm l y slr class params) (known_far network S from y h hops stands)
    ∙ ap (λ (o : Option Section). record {
      sections = changed (confirmed slr) h.far l;
      sent = toward o
          (λ remote own. messages.Cc remote own class params);
    })
    stands.near_at

-- the two sections of a relay over which data go; the relays after it are given too
pub record OpenAt (network : Network) (S : Sections) (end point remote : ℕ) (h : Hop) (hops : List Hop) : Type 0 where
  pub inner : is_node network h.node ≡ true
  pub near_at : section_at (S h.node) h.near ≡ Some (near_section h point remote)
  pub far_at : section_at (S h.node) h.far ≡ Some (far_section h (front_point end hops) (Some (front_ref hops)))
  pub two : h.near ≡ h.far → ⊥
  pub apart : Apart h hops

-- data go over all these relays, from a point with a reference to the end
abbrev pub Opens : Network → Sections → ℕ → ℕ → ℕ → List Hop → Type 0
Opens network S end point remote [] = Unit {0}
Opens network S end point remote (h ∷ hops) = OpenAt network S end point remote h hops × Opens network S end h.node h.far hops

-- each of these is apart from those
abbrev pub Crossed : List Hop → List Hop → Type 0
Crossed [] hops = Unit {0}
Crossed (h ∷ back) hops = Apart h hops × Crossed back hops

-- the sections after a relay was told the reference of the point y
pub record Confirms (S T : Sections) (slr : ℕ) (h : Hop) : Type 0 where
  pub here : T h.node ≡ changed (confirmed slr) h.far (S h.node)
  pub there : (p : ℕ) → (p ≡ h.node → ⊥) → T p ≡ S p

-- all that holds while a confirmation is on its way back; data go already over the relays `hops`
pub record Accepts (network : Network) (S : Sections) (from end : ℕ) (back hops : List Hop) : Type 0 where
  pub waits : Waits network S from (front_point end hops) back
  pub opens : Opens network S end (back_point from back) (back_ref back) hops
  pub crossed : Crossed back hops
  pub all : (p own : ℕ) (s : Section) → section_at (S p) own ≡ Some s → Among p own back ⊎ Among p own hops

opens_still : (network : Network) (S T : Sections) (end point remote : ℕ) (hops : List Hop) (x own : ℕ) (s : Section)
    → section_at (S x) own ≡ Some s → s.near ≡ false → s.remote ≡ None
    → ((p q : ℕ) (t : Section) → (p ≡ x → q ≡ own → ⊥) → section_at (S p) q ≡ Some t → section_at (T p) q ≡ Some t)
    → Opens network S end point remote hops → Opens network T end point remote hops
opens_still network S T end point remote [] x own s at near none still h = tt
opens_still network S T end point remote (g ∷ hops) x own s at near none still h =
    let one : (q : ℕ) (t : Section) → section_at (S g.node) q ≡ Some t → g.node ≡ x → q ≡ own → s ≡ t = λ q t there e f.
    let k : Some s ≡ Some t = sym at ∙ sym (ap (λ (n : ℕ). section_at (S n) own) e) ∙ sym (ap (section_at (S g.node)) f) ∙ there in cc in
    let a : Section = near_section g point remote in
    let b : Section = far_section g (front_point end hops) (Some (front_ref hops)) in (
      record {
        inner = h.0.inner;
        near_at = still g.node g.near a (λ e f. let k : false ≡ true = sym near
            ∙ ap (λ (y : Section). y.near) (one g.near a h.0.near_at e f) in absurd (cc))
            h.0.near_at;
        far_at = still g.node g.far b (λ e f. let k : None ≡ Some (front_ref hops) = sym none
            ∙ ap (λ (y : Section). y.remote) (one g.far b h.0.far_at e f) in
            absurd (cc)) h.0.far_at;
        two = h.0.two;
        apart = h.0.apart;
      },
      opens_still network S T end g.node g.far hops x own s at near none still h.1,
    )

-- sections that stay leave them open
pub opens_more : (network : Network) (S T : Sections) (end point remote : ℕ) (hops : List Hop)
    → ((p own : ℕ) (s : Section) → section_at (S p) own ≡ Some s → section_at (T p) own ≡ Some s)
    → Opens network S end point remote hops → Opens network T end point remote hops
opens_more network S T end point remote [] keeps h = tt
opens_more network S T end point remote (g ∷ hops) keeps h = (
  record {
    inner = h.0.inner;
    near_at = keeps g.node g.near (near_section g point remote) h.0.near_at;
    far_at = keeps g.node g.far (far_section g (front_point end hops) (Some (front_ref hops))) h.0.far_at;
    two = h.0.two;
    apart = h.0.apart;
  },
  opens_more network S T end g.node g.far hops keeps h.1,
)

-- apart both ways
apart_back : (h g : Hop) → IsApart h g → IsApart g h
apart_back h g a = record {
  near_near = λ e f. a.near_near (sym e) (sym f);
  near_far = λ e f. a.far_near (sym e) (sym f);
  far_near = λ e f. a.near_far (sym e) (sym f);
  far_far = λ e f. a.far_far (sym e) (sym f);
}

crossed_on : (h : Hop) (back hops : List Hop) → Apart h back → Crossed back hops → Crossed back (h ∷ hops)
crossed_on h [] hops apart crossed = tt
crossed_on h (g ∷ back) hops apart crossed = ((apart_back h g apart.0, crossed.0), crossed_on h back hops apart.1 crossed.1)

pub accepts_on : (network : Network) (S T : Sections) (from end : ℕ) (h : Hop) (back hops : List Hop)
    → Accepts network S from end (h ∷ back) hops
    → Confirms S T (front_ref hops) h → Accepts network T from end back (h ∷ hops)
accepts_on network S T from end h back hops accepts confirms =
    let y : ℕ = front_point end hops in
    let n : ℕ = front_ref hops in
    let stands = accepts.waits.0 in
    let f : Section → Section = confirmed n in
    record {
      waits = waits_still network S T from h.node h back stands.apart (λ p own s near far at. still p own s far at) accepts.waits.1;
      opens = (
        record {
          inner = stands.inner;
          near_at = still h.node h.near (near_section h (back_point from back) (back_ref back)) (λ e k. stands.two k) stands.near_at;
          far_at = ap (λ l. section_at l h.far) confirms.here
              ∙ changed_same f (λ s. refl) (S h.node) h.far (far_section h y None) stands.far_at;
          two = stands.two;
          apart = accepts.crossed.0;
        },
        opens_still network S T end h.node h.far hops h.node h.far (far_section h y None) stands.far_at refl refl still accepts.opens,
      );
      crossed = crossed_on h back hops stands.apart accepts.crossed.1;
      all = λ p own s at. moved p own (before p own s at);
    }
  where
    still : (p own : ℕ) (s : Section) → (p ≡ h.node → own ≡ h.far → ⊥) → section_at (S p) own ≡ Some s → section_at (T p) own ≡ Some s
    still p own s far at =
        ⊎_elim
        (λ (e : p ≡ h.node).
        ap (λ (x : ℕ). section_at (T x) own) e ∙ ap (λ l. section_at l own) confirms.here
        ∙ changed_else (confirmed (front_ref hops)) (λ t. refl) (S h.node) h.far own (far e)
        ∙ ap (λ (x : ℕ). section_at (S x) own) (sym e) ∙ at)
        (λ (n : p ≡ h.node → ⊥). ap (λ l. section_at l own) (confirms.there p n) ∙ at)
        (cases_eq p h.node)

    before : (p own : ℕ) (s : Section) → section_at (T p) own ≡ Some s → Among p own (h ∷ back) ⊎ Among p own hops
    before p own s at =
        ⊎_elim
        (λ (e : p ≡ h.node).
        let there : section_at (changed (confirmed (front_ref hops)) h.far (S h.node)) own ≡ Some s =
        sym (ap (λ (x : ℕ). section_at (T x) own) e ∙ ap (λ l. section_at l own) confirms.here) ∙ at in
        ⊎_elim
        (λ (k : (t : Section) × (own ≡ h.far) × (section_at (S h.node) h.far ≡ Some t) × (s ≡ confirmed (front_ref hops) t)).
        inl (inl (e, inr k.1)))
        (λ (k : (own ≡ h.far → ⊥) × (section_at (S h.node) own ≡ Some s)).
        accepts.all p own s (ap (λ (x : ℕ). section_at (S x) own) e ∙ k.1))
        (changed_cases (confirmed (front_ref hops)) (λ t. refl) (S h.node) h.far own s there))
        (λ (n : p ≡ h.node → ⊥). accepts.all p own s (sym (ap (λ l. section_at l own) (confirms.there p n)) ∙ at))
        (cases_eq p h.node)

    moved : (p own : ℕ) → Among p own (h ∷ back) ⊎ Among p own hops → Among p own back ⊎ Among p own (h ∷ hops)
    moved p own (inl (inl k)) = inr (inl k)
    moved p own (inl (inr k)) = inl k
    moved p own (inr k) = inr (inr k)
