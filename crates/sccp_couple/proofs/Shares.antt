-- a DT1 that answers an event is in what one pair sends
use Rattle.std.specs.Prelude.{ℕ, ◌≡◌, ◌==◌, ◌≤◌, ◌⊎◌, Bool, true, false, not, cond, ◌&&◌, ◌||◌, List, [], ◌∷◌, ◌++◌, length, filter, Option}
use Rattle.std.specs.Prelude.{Some, None, is_some, option_and_then, refl}
use Rattle.std.specs.List.{filter_map, flat_map}
use Rattle.std.proofs.Common.{sym, ◌∙◌, ap, subst, inl, inr, ⊎_elim, arith}
use Rattle.std.proofs.lemmas.Bool.{cases_Bool, eq-eqb, ne_eqb, and_from, and_parts, or_parts}
use Rattle.sccp_message.specs.declared.message.Message.{Message}
use Rattle.sccp_message.specs.declared.message.Message.TheVariants as messages
use Rattle.sccp_couple.specs.declared.section.Section.{Section}
use Rattle.sccp_couple.specs.Sections.{section_at, known, if_from, other_of, has_remote, is_established}
use Rattle.sccp_couple.specs.declared.way.Way.{Way}
use Rattle.sccp_couple.specs.Events.{Event, Answer, Piece, Data, data_of}
use Rattle.sccp_couple.specs.Coupling.{coupled, on_data, toward, to_remote}
use Rattle.sccp_couple.specs.Invariant.{IsCoupling}
use Rattle.sccp_couple.specs.Runs.{Pair, Moment, knows, is_open, passed_in, sent_in, pieces_toward, piece_in, answered, added}
use Rattle.sccp_couple.specs.Laws.{IsUnheard}
use Rattle.sccp_couple.proofs.Lookups.{option_cases}
use Rattle.sccp_couple.proofs.Answers.{NoData, quiet, is_dt1, quiet_toward, quiet_answer, all_passed}
use Rattle.sccp_couple.proofs.Keeping.{none_some, true_false}
use Rattle.sccp_couple.proofs.Ledger.{has, IsLedger, near_of, far_of}

abbrev pub dt1 : ℕ → Way → ℕ → Bool → List ℕ → Event
dt1 origin way dlr more payload = record { origin = origin; message = messages.Dt1 dlr more payload; way = way }

-- what answers a DT1: nothing, or one DT1 to the other section of the one that it belongs to
pub record Passes (l : List Section) (origin : ℕ) (way : Way) (dlr : ℕ) (more : Bool) (payload : List ℕ) : Type 0 where
  pub section : Section
  pub other : ℕ
  pub other_section : Section
  pub remote : ℕ
  pub at : section_at l dlr ≡ Some section
  pub joined : section.other ≡ Some other
  pub there : section_at l other ≡ Some other_section
  pub has_it : other_section.remote ≡ Some remote
  pub known_here : knows l dlr (dt1 origin way dlr more payload) ≡ true
  pub open_here : is_open l (section_at l dlr) ≡ true
  pub sent : (coupled l (dt1 origin way dlr more payload)).sent
      ≡ record { to = other_section.point; message = messages.Dt1 remote more payload } ∷ []

known_parts : (l : List Section) (origin dlr : ℕ) (s : Section) → known l origin dlr ≡ Some s → section_at l dlr ≡ Some s
known_parts l origin dlr s h =
    ⊎_elim
    (λ (none : section_at l dlr ≡ None). absurd (let g : None
    ≡ Some s = sym (ap (λ (o : Option Section). option_and_then (if_from origin) o) none) ∙ h in cc))
    (λ (some : (t : Section) × (section_at l dlr ≡ Some t)).
    let g : if_from origin some.0 ≡ Some s = sym (ap (λ (o : Option Section). option_and_then (if_from origin) o) some.1) ∙ h in
    elim (some.0.point == origin) as (λ b. cond b (Some some.0) None ≡ Some s → section_at l dlr ≡ Some s) [
      | true ↦ λ k. let e : some.0 ≡ s = cc in some.1 ∙ ap Some e
      | false ↦ λ k. absurd (let z : None ≡ Some s = k in cc)
    ] g)
    (option_cases (section_at l dlr))

has_remote_is : (o : Option Section) → has_remote o ≡ true → (t : Section) × (r : ℕ) × (o ≡ Some t) × (t.remote ≡ Some r)
has_remote_is None h = absurd (cc)
has_remote_is (Some t) h =
    ⊎_elim
    (λ (none : t.remote ≡ None). true_false (sym h ∙ ap (λ (x : Option ℕ). is_some x) none))
    (λ (some : (r : ℕ) × (t.remote ≡ Some r)). (t, some.0, refl, some.1))
    (option_cases t.remote)

pub dt1_goes : (l : List Section) (origin : ℕ) (way : Way) (dlr : ℕ) (more : Bool) (payload : List ℕ) →
    ((coupled l (dt1 origin way dlr more payload)).sent ≡ []) ⊎ Passes l origin way dlr more payload
dt1_goes l origin way dlr more payload =
    let send : Option Section → List Answer = λ o. (on_data l more payload o).sent in
    ⊎_elim
    (λ (none : known l origin dlr ≡ None). inl (ap send none))
    (λ (some : (s : Section) × (known l origin dlr ≡ Some s)).
    let s : Section = some.0 in
    let at : section_at l dlr ≡ Some s = known_parts l origin dlr s some.1 in
    ⊎_elim
    (λ (opened : is_established l s ≡ true).
    let parts = and_parts (is_some s.remote) (has_remote (other_of l s)) opened in
    let t = has_remote_is (other_of l s) parts.1 in
    ⊎_elim
    (λ (none : s.other ≡ None). absurd (let g : None ≡ Some t.0 = sym (ap (λ (o : Option ℕ). option_and_then (section_at l) o) none)
    ∙ t.2 in cc))
    (λ (o : (o : ℕ) × (s.other ≡ Some o)).
    let there : section_at l o.0 ≡ Some t.0 = sym (ap (λ (o : Option ℕ). option_and_then (section_at l) o) o.1) ∙ t.2 in
    inr (record {
      section = s;
      other = o.0;
      other_section = t.0;
      remote = t.1;
      at = at;
      joined = o.1;
      there = there;
      has_it = t.3;
      known_here = and_from (dlr == dlr) (is_some (known l origin dlr)) (eq-eqb dlr dlr refl)
          (ap (λ (o : Option Section). is_some o) some.1);
      open_here = ap (λ (o : Option Section). is_open l o) at ∙ opened;
      sent = ap send some.1
          ∙ ap (λ (b : Bool). cond b (toward (other_of l s) (λ remote own. messages.Dt1 remote more payload)) []) opened
          ∙ ap (λ (o : Option Section). toward o (λ remote own. messages.Dt1 remote more payload)) t.2
          ∙ ap (λ (o : Option ℕ). to_remote t.0.point t.0.own o (λ remote own. messages.Dt1 remote more payload)) t.3;
    }))
    (option_cases s.other))
    (λ (shut : is_established l s ≡ false). inl (ap send some.1
    ∙ ap (λ (b : Bool). cond b (toward (other_of l s) (λ remote own. messages.Dt1 remote more payload)) []) shut))
    (cases_Bool (is_established l s)))
    (option_cases (known l origin dlr))

-- an event that no established section knows is not answered by a DT1
pub by_kind : (P : Message → Type 0) (m : Message) → (data_of m ≡ None → P m)
    → ((dlr : ℕ) (more : Bool) (payload : List ℕ) → P (messages.Dt1 dlr more payload)) → P m
by_kind P m none some =
    ⊎_elim
    (λ (h : data_of m ≡ None). none h)
    (λ (h : (d : Data) × (data_of m ≡ Some d)). subst P (sym (is_dt1 m h.0 h.1)) (some h.0.dlr h.0.piece.more h.0.piece.payload))
    (option_cases (data_of m))

abbrev pub with_message : Event → Message → Event
with_message event m = record { origin = event.origin; message = m; way = event.way }

pub unheard : (l : List Section) (event : Event) → IsUnheard l event → answered l event ≡ []
unheard l event h =
    by_kind (λ m. IsUnheard l (with_message event m) → answered l (with_message event m) ≡ []) event.message
    (λ none _. quiet_answer l event none)
    (λ dlr more payload g.
    ⊎_elim
    (λ (nothing : (coupled l (dt1 event.origin event.way dlr more payload)).sent ≡ []). ap
    (λ (x : List Answer). filter_map piece_in x) nothing)
    (λ (p : Passes l event.origin event.way dlr more payload). true_false (sym p.open_here ∙ g dlr p.known_here))
    (dt1_goes l event.origin event.way dlr more payload))
    h

pub one_at_most : (l : List Section) (event : Event) → length (answered l event) ≤ 1
one_at_most l event =
    by_kind (λ m. length (answered l (with_message event m)) ≤ 1) event.message
    (λ none. let e = ap (λ (x : List Piece). length x) (quiet_answer l event none) in omega arith)
    (λ dlr more payload.
    ⊎_elim
    (λ (nothing : (coupled l (dt1 event.origin event.way dlr more payload)).sent ≡ []). let e = ap
    (λ (x : List Answer). length (filter_map piece_in x)) nothing in omega arith)
    (λ (p : Passes l event.origin event.way dlr more payload). let e = ap
    (λ (x : List Answer). length (filter_map piece_in x)) p.sent in omega arith)
    (dt1_goes l event.origin event.way dlr more payload))

-- pairs without the section that a DT1 is for do not send it
flat_map-filter : (f : Pair → List Piece) (q : Pair → Bool) → ((p : Pair) → q p ≡ false → f p ≡ []) → (ps : List Pair)
    → flat_map f ps ≡ flat_map f (filter q ps)
flat_map-filter f q h [] = refl
flat_map-filter f q h (p ∷ ps) =
    elim (q p) as (λ b. q p ≡ b → f p ++ flat_map f ps ≡ flat_map f (cond b (p ∷ filter q ps) (filter q ps))) [
      | true ↦ λ e. ap (λ (x : List Piece). f p ++ x) (flat_map-filter f q h ps)
      | false ↦ λ e. ap (λ (x : List Piece). x ++ flat_map f ps) (h p e) ∙ flat_map-filter f q h ps
    ] refl

flat_map-none : (f : Pair → List Piece) → ((p : Pair) → f p ≡ []) → (ps : List Pair) → flat_map f ps ≡ []
flat_map-none f h [] = refl
flat_map-none f h (p ∷ ps) = ap (λ (x : List Piece). x ++ flat_map f ps) (h p) ∙ flat_map-none f h ps

deaf_sent : (l : List Section) (own other : ℕ) (event : Event) → knows l other event ≡ false → sent_in l own other event ≡ []
deaf_sent l own other event h = ap (λ (b : Bool). cond b (pieces_toward (section_at l own) (coupled l event).sent) []) h

dlr_else : (l : List Section) (origin : ℕ) (way : Way) (dlr : ℕ) (more : Bool) (payload : List ℕ) (own : ℕ) → (dlr == own) ≡ false
    → knows l own (dt1 origin way dlr more payload) ≡ false
dlr_else l origin way dlr more payload own h = ap (λ (b : Bool). b && is_some (known l origin own)) h

silent_added : (l : List Section) (event : Event) (p : Pair) → NoData (coupled l event).sent → added l event p ≡ []
silent_added l event p h =
    let nothing : (own other : ℕ) → sent_in l own other event ≡ [] = λ own other.
    ap (λ (x : List Piece). cond (knows l other event) x []) (quiet_toward (section_at l own) (coupled l event).sent h)
    ∙ elim (knows l other event) as (λ b. cond {A = List Piece} b [] [] ≡ []) [ true ↦ refl | false ↦ refl ] in
    elim p.stands as (λ b. cond b (sent_in l p.near p.far event ++ sent_in l p.far p.near event) [] ≡ []) [
      | true ↦ ap (λ (x : List Piece). x ++ sent_in l p.far p.near event) (nothing p.near p.far) ∙ nothing p.far p.near
      | false ↦ refl
    ]

else_added : (l : List Section) (origin : ℕ) (way : Way) (dlr : ℕ) (more : Bool) (payload : List ℕ) (p : Pair) → has dlr p ≡ false
    → added l (dt1 origin way dlr more payload) p ≡ []
else_added l origin way dlr more payload p h =
    let event : Event = dt1 origin way dlr more payload in
    elim p.stands as (λ b. (b && ((dlr == p.near) || (dlr == p.far))) ≡ false
    → cond b (sent_in l p.near p.far event ++ sent_in l p.far p.near event) [] ≡ []) [
      | true ↦ λ k.
          let parts = or_parts (dlr == p.near) (dlr == p.far) k in
          ap (λ (x : List Piece). x ++ sent_in l p.far p.near event)
          (deaf_sent l p.near p.far event (dlr_else l origin way dlr more payload p.far parts.1))
          ∙ deaf_sent l p.far p.near event (dlr_else l origin way dlr more payload p.near parts.0)
      | false ↦ λ k. refl
    ] h

not_itself : (b : Bool) → b ≡ not b → ⊥
not_itself true h = cc
not_itself false h = cc

apart : (l : List Section) → IsCoupling l → (d o : ℕ) (s : Section) → section_at l d ≡ Some s → s.other ≡ Some o → d ≡ o → ⊥
apart l c d o s h k e =
    let j = c.joined d s o h k in
    let at : section_at l d ≡ Some j.0 = subst (λ (n : ℕ). section_at l n ≡ Some j.0) (sym e) j.1 in
    let same : j.0 ≡ s = cc in
    not_itself s.near (sym (ap (λ (x : Section). x.near) same) ∙ j.3)

append_nothing : (xs : List Piece) → xs ++ [] ≡ xs
append_nothing [] = refl
append_nothing (x ∷ xs) = ap (λ (t : List Piece). x ∷ t) (append_nothing xs)

-- the pair of a section sends to the other one what the section passes
abbrev sides : List Section → Event → ℕ → ℕ → List Piece
sides l event near far = sent_in l near far event ++ sent_in l far near event

own_added : (l : List Section) → IsCoupling l → (origin : ℕ) (way : Way) (dlr : ℕ) (more : Bool) (payload : List ℕ) (o : ℕ) (s : Section)
    (p : Pair) → section_at l dlr ≡ Some s → s.other ≡ Some o →
    p.stands ≡ true → p.near ≡ near_of s dlr o → p.far ≡ far_of s dlr o
    → added l (dt1 origin way dlr more payload) p ≡ passed_in l dlr (dt1 origin way dlr more payload)
own_added l c origin way dlr more payload o s p at has_other stands near far =
    let event : Event = dt1 origin way dlr more payload in
    let j = c.joined dlr s o at has_other in
    let pass : sent_in l o dlr event ≡ passed_in l dlr event =
    all_passed l dlr o s j.0 origin way (messages.Dt1 dlr more payload) at has_other j.1 in
    let deaf : sent_in l dlr o event ≡ [] = deaf_sent l dlr o event
    (dlr_else l origin way dlr more payload o (ne_eqb dlr o (apart l c dlr o s at has_other))) in
    ap (λ (b : Bool). cond b (sides l event p.near p.far) []) stands
    ∙ ap (λ (n : ℕ). sides l event n p.far) near ∙ ap (λ (n : ℕ). sides l event (near_of s dlr o) n) far
    ∙ elim s.near as (λ b. sides l event (cond b dlr o) (cond b o dlr) ≡ passed_in l dlr event) [
      | true ↦ ap (λ (x : List Piece). x ++ sent_in l o dlr event) deaf ∙ pass
      | false ↦ ap (λ (x : List Piece). sent_in l o dlr event ++ x) deaf ∙ append_nothing (sent_in l o dlr event) ∙ pass
    ]

-- if a DT1 is not answered, its section passes nothing
passed_answered : (l : List Section) → (origin : ℕ) (way : Way) (dlr : ℕ) (more : Bool) (payload : List ℕ) (o : ℕ) (s t : Section)
    → section_at l dlr ≡ Some s → s.other ≡ Some o → section_at l o ≡ Some t →
    passed_in l dlr (dt1 origin way dlr more payload) ≡ answered l (dt1 origin way dlr more payload)
passed_answered l origin way dlr more payload o s t at has_other there =
    let event : Event = dt1 origin way dlr more payload in
    let piece : List Piece = record { more = more; payload = payload } ∷ [] in
    ⊎_elim
    (λ (nothing : (coupled l event).sent ≡ []).
    sym (all_passed l dlr o s t origin way (messages.Dt1 dlr more payload) at has_other there)
    ∙ ap (λ (x : List Answer). cond (knows l dlr event) (pieces_toward (section_at l o) x) []) nothing
    ∙ ap (λ (y : Option Section). cond (knows l dlr event) (pieces_toward y []) []) there
    ∙ elim (knows l dlr event) as (λ b. cond {A = List Piece} b [] [] ≡ []) [ true ↦ refl | false ↦ refl ]
    ∙ sym (ap (λ (x : List Answer). filter_map piece_in x) nothing))
    (λ (p : Passes l origin way dlr more payload).
    ap (λ (b : Bool). cond (b && is_open l (section_at l dlr)) piece []) p.known_here ∙ ap (λ (b : Bool). cond b piece []) p.open_here
    ∙ sym (ap (λ (x : List Answer). filter_map piece_in x) p.sent))
    (dt1_goes l origin way dlr more payload)

dt1_shared : (m : Moment) → IsCoupling m.sections → IsLedger m.sections m.pairs
    → (origin : ℕ) (way : Way) (dlr : ℕ) (more : Bool) (payload : List ℕ) →
    flat_map (added m.sections (dt1 origin way dlr more payload)) m.pairs ≡ answered m.sections (dt1 origin way dlr more payload)
dt1_shared m c ledger origin way dlr more payload =
    let l : List Section = m.sections in
    let event : Event = dt1 origin way dlr more payload in
    let few : flat_map (added l event) m.pairs ≡ flat_map (added l event) (filter (has dlr) m.pairs) =
    flat_map-filter (added l event) (has dlr) (else_added l origin way dlr more payload) m.pairs in
    let gone : ((s : Section) (o : ℕ) → section_at l dlr ≡ Some s → s.other ≡ Some o → ⊥)
    → flat_map (added l event) m.pairs ≡ answered l event = λ alone.
    few ∙ ap (flat_map (added l event)) ((ledger dlr).none alone)
    ∙ sym (⊎_elim
    (λ (nothing : (coupled l event).sent ≡ []). ap (λ (x : List Answer). filter_map piece_in x) nothing)
    (λ (p : Passes l origin way dlr more payload). absurd (alone p.section p.other p.at p.joined))
    (dt1_goes l origin way dlr more payload)) in
    ⊎_elim
    (λ (none : section_at l dlr ≡ None). gone (λ s o h k. let z : ⊥ = cc in z))
    (λ (some : (s : Section) × (section_at l dlr ≡ Some s)).
    ⊎_elim
    (λ (none : some.0.other ≡ None). gone (λ s o h k. let i : s ≡ some.0 = let a = some.1 in cc in none_some o s.other
    (ap (λ (y : Section). y.other) i ∙ none) k))
    (λ (o : (o : ℕ) × (some.0.other ≡ Some o)).
    let r = (ledger dlr).one some.0 o.0 some.1 o.1 in
    let j = c.joined dlr some.0 o.0 some.1 o.1 in
    few ∙ ap (flat_map (added l event)) r.1 ∙ append_nothing (added l event r.0)
    ∙ own_added l c origin way dlr more payload o.0 some.0 r.0 some.1 o.1 r.2 r.3 r.4
    ∙ passed_answered l origin way dlr more payload o.0 some.0 j.0 some.1 o.1 j.1)
    (option_cases some.0.other))
    (option_cases (section_at l dlr))

pub shared : (m : Moment) → IsCoupling m.sections → IsLedger m.sections m.pairs → (event : Event)
    → flat_map (added m.sections event) m.pairs ≡ answered m.sections event
shared m c ledger event =
    by_kind (λ n. flat_map (added m.sections (with_message event n)) m.pairs ≡ answered m.sections (with_message event n)) event.message
    (λ none. flat_map-none (added m.sections event) (λ p. silent_added m.sections event p
    (quiet m.sections event.origin event.way event.message none)) m.pairs ∙ sym (quiet_answer m.sections event none))
    (dt1_shared m c ledger event.origin event.way)
