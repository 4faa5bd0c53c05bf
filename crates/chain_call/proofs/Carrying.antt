-- What goes over an open connection, and what is left of it.
use Rattle.std.specs.Prelude.{ℕ, ◌≡◌, ◌==◌, ◌≤◌, ◌*◌, Bool, true, false, cond, ◌&&◌, ◌^◌, List, [], ◌∷◌, ◌++◌, length, Option, Some, None}
use Rattle.std.specs.Prelude.{refl}
use Rattle.std.specs.Prelude.{option_and_then, option_map}
use Rattle.std.proofs.Common.{sym, ◌∙◌, ap, subst, inr, arith}
use Rattle.std.proofs.lemmas.Bool.{eq-eqb}
use Rattle.sccp_message.specs.declared.message.Message.{Message}
use Rattle.sccp_message.specs.declared.message.Message.TheVariants as messages
use Rattle.plan_model.specs.Network as plans
use Rattle.sccp_couple.specs.declared.section.Section.{Section}
use Rattle.sccp_couple.specs.Sections.{section_at}
use Rattle.couple_chain.specs.World.{Network, World, is_node, put, offer_fault}
use Rattle.chain_world.specs.Kept.{kept, network_of}
use Rattle.chain_world.specs.Running.{sections_of}
use Rattle.chain_call.specs.Answered.{IsCall, IsAnswered}
use Rattle.chain_call.specs.Course.{Course, beginning, world_at}
use Rattle.chain_call.specs.Notes.{data_at, first_confirm, first_request, or_later}
use Rattle.chain_call.specs.Steps.{sent_by, sent_forth, sent_back, released, through, carried, carried_if, carried_on, settled, outcome}
use Rattle.chain_call.specs.declared.call.Call.{Call}
use Rattle.chain_call.specs.declared.finding.Requested.{Requested}
use Rattle.chain_call.specs.declared.note.Note.TheVariants.{Request, Confirm}
use Rattle.chain_call.specs.declared.outcome.Outcome.{Outcome}
use Rattle.chain_call.proofs.Tokens.{sections_at, Empty}
use Rattle.chain_call.proofs.Hops.{Hop, front_point, front_ref, Among}
use Rattle.chain_call.proofs.HopSteps.{Opens, opens_more}
use Rattle.chain_call.proofs.Courses.{network_at, after_offer, offer_is, world_offered, no_fault}
use Rattle.chain_call.proofs.Requests.{S}
use Rattle.chain_call.proofs.Confirms.{before, Opened}
use Rattle.chain_call.proofs.Sends.{Carried, carry}
use Rattle.chain_call.proofs.Routes.{near_stop, near_stops, far_stop, far_stops, carries_forth, carries_back}
use Rattle.chain_call.proofs.Marks.{Mark, Marked}
use Rattle.chain_call.proofs.Releases.{is_rlsd}
use Rattle.chain_call.proofs.Freed.{release_mark}
use Rattle.chain_call.proofs.Released.{Quiet, going, no_sections}
use Rattle.chain_call.proofs.Outcomes.{settled_is, Front, Answered, refused, connected, answered}

-- ---- the release

-- open relays, of which the first is `entry`, and nothing under way
record Ready (c : Course) (plan : plans.Network) (from entry end : ℕ) (g : Hop) (hops : List Hop) : Type 0 where
  pub plan_is : c.plan ≡ plan
  pub from_outer : is_node (network_at c) from ≡ false
  pub end_outer : is_node (network_at c) end ≡ false
  pub entry_is : g.node ≡ entry
  pub empty : Empty (world_at c)
  pub opens : Opens (network_at c) (S c) end from 1 (g ∷ hops)
  pub all : (p own : ℕ) (s : Section) → section_at (S c p) own ≡ Some s → Among p own (g ∷ hops)
  pub few : length hops ≤ 13
  pub offers : 2 ≤ c.offers
  pub deliveries : c.deliveries ≤ 32 * c.offers

-- it stays ready while data go
still_ready : (c then : Course) (plan : plans.Network) (from entry end to last : ℕ) (octets : List ℕ) (g : Hop) (hops : List Hop)
    → Ready c plan from entry end g hops → Carried c then to last octets → Ready then plan from entry end g hops
still_ready c then plan from entry end to last octets g hops ready done =
    let same : (p own : ℕ) (s : Section) → section_at (S c p) own ≡ Some s → section_at (S then p) own ≡ Some s =
    λ p own s at. ap (λ l. section_at l own) (done.same p) ∙ at in
    record {
      plan_is = done.plan_is ∙ ready.plan_is;
      from_outer = ap (λ k. is_node (network_of k) from) done.plan_is ∙ ready.from_outer;
      end_outer = ap (λ k. is_node (network_of k) end) done.plan_is ∙ ready.end_outer;
      entry_is = ready.entry_is;
      empty = done.empty;
      opens = subst (λ k. Opens (network_of k) (S then) end from 1 (g ∷ hops)) (sym done.plan_is)
          (opens_more (network_at c) (S c) (S then) end from 1 (g ∷ hops) same ready.opens);
      all = λ p own s at. ready.all p own s (sym (ap (λ l. section_at l own) (done.same p)) ∙ at);
      few = ready.few;
      offers = (let a = done.offers in let b = ready.offers in omega (arith, a, b));
      deliveries = done.deliveries;
    }

release_all : (c : Course) (plan : plans.Network) (call : Call) (end : ℕ) (g : Hop) (hops : List Hop)
    → Ready c plan call.from call.entry end g hops
    → (after : Course) × (settled (released call g.near c) ≡ Some after) × Quiet c after
unfolding released
release_all c plan call end g hops ready =
    let from : ℕ = call.from in
    let n : Message = messages.Rlsd g.near 1 0 [] in
    let inner : is_node (network_at c) call.entry ≡ true = ap (is_node (network_at c)) (sym ready.entry_is) ∙ ready.opens.0.inner in
    let none : offer_fault (network_at c) (world_at c) from call.entry n ≡ None =
    no_fault (network_at c) (world_at c) from call.entry n ready.from_outer inner refl refl refl in
    let then : Course = after_offer from call.entry n c in
    let e : world_at then ≡ put (world_at c) from call.entry n = world_offered from call.entry n c none in
    let mark : Mark = release_mark from end [] (g ∷ hops) in
    let keeps : (p own : ℕ) (s : Section) → section_at (S c p) own ≡ Some s → section_at (S then p) own ≡ Some s =
    λ p own s at. ap (λ v. section_at (sections_at v p) own) e ∙ at in
    let marked : Marked (world_at then) (mark ∷ []) = λ x y.
    ap (λ (v : World). v.waiting x y) e
    ∙ ap (λ (k : ℕ). cond ((x == from) && (y == k)) ((world_at c).waiting from k ++ n ∷ []) ((world_at c).waiting x y)) (sym ready.entry_is)
    ∙ ap (λ (l : List Message). cond ((x == from) && (y == g.node)) (l ++ n ∷ []) ((world_at c).waiting x y)) (ready.empty from g.node)
    ∙ ap (λ (l : List Message). cond ((x == from) && (y == g.node)) (n ∷ []) l) (ready.empty x y) in
    let few = ready.few in
    let offers = ready.offers in
    let deliveries = ready.deliveries in
    let r = going 18446744073709551615 then (mark ∷ []) from end [] (g ∷ hops) (omega arith)
    (record {
      outer = ready.from_outer;
      aimed = (is_rlsd g.near 1 refl, tt);
      one = refl;
      last = tt;
      opens = opens_more (network_at c) (S c) (S then) end from 1 (g ∷ hops) keeps ready.opens;
      crossed = tt;
      apart = tt;
      inner = tt;
      all = λ p own s at. inr (ready.all p own s (sym (ap (λ v. section_at (sections_at v p) own) e) ∙ at));
    }) marked ready.end_outer (omega (arith, few)) (omega (arith, few, offers, deliveries)) in (
      r.0,
      ap settled (offer_is from call.entry n c (record { addresses = tt; named = tt; sevens_fit = tt }) none) ∙ settled_is then ∙ r.1,
      record { plan_is = r.2.plan_is; none = r.2.none; data_stay = r.2.data_stay },
    )

-- ---- the two ends know their references

none_handed : (point reference a b c d slr own : ℕ)
    → data_at point reference (record { from = a; to = b; note = Request slr } ∷ record { from = c; to = d; note = Confirm own } ∷ []) ≡ []
none_handed point reference a b c d slr own =
    elim (b == point) as (λ k. cond {A = List ℕ} k [] [] ++ (cond (d == point) [] [] ++ []) ≡ []) [
      | true ↦ elim (d == point) as (λ k. cond {A = List ℕ} k [] [] ++ [] ≡ []) [ true ↦ refl | false ↦ refl ]
      | false ↦ elim (d == point) as (λ k. cond {A = List ℕ} k [] [] ++ [] ≡ []) [ true ↦ refl | false ↦ refl ]
    ]

confirm_there : (from a b c slr own : ℕ)
    → first_confirm from (record { from = a; to = b; note = Request slr } ∷ record { from = c; to = from; note = Confirm own } ∷ [])
    ≡ Some own
confirm_there from a b c slr own =
    elim (b == from) as (λ k. or_later (cond {A = Option ℕ} k None None) (or_later (cond (from == from) (Some own) None) None) ≡ Some own) [
      | true ↦ ap (λ (k : Bool). or_later (cond k (Some own) None) None) (eq-eqb from from refl)
      | false ↦ ap (λ (k : Bool). or_later (cond k (Some own) None) None) (eq-eqb from from refl)
    ]

-- ---- all steps

-- All octets come out at the far end and then at the other one, and no section is left. So many octets that their number has 57
-- bits would take more turns than there are.
pub all_through : (plan : plans.Network) (call : Call) (c : Course) (end : ℕ) (h : Hop) (back : List Hop)
    → is_node (network_of plan) call.from ≡ false → is_node (network_of plan) end ≡ false
    → Front call.entry (before (h ∷ back) []) (length back) → length back ≤ 13 → length call.octets ≤ 2 ^ 56
    → Opened c plan call.from end (before (h ∷ back) []) (record { from = h.node; to = end; note = Request h.far } ∷ [])
    → carried_on call end c ≡ Some (record { forth = call.octets; back = call.octets; sections = 0 })
unfolding carried_on carried sent_forth sent_back through
all_through plan call c end h back outer end_outer front few size o =
    let g : Hop = front.first in
    let hops : List Hop = front.rest in
    let from : ℕ = call.from in
    let octets : List ℕ = call.octets in
    let net : network_at c ≡ network_of plan = ap network_of o.plan_is in
    let from_outer : is_node (network_at c) from ≡ false = ap (λ (n : Network). is_node n from) net ∙ outer in
    let end_is_outer : is_node (network_at c) end ≡ false = ap (λ (n : Network). is_node n end) net ∙ end_outer in
    let opens : Opens (network_at c) (S c) end from 1 (g ∷ hops) = subst (Opens (network_at c) (S c) end from 1) front.is o.opens in
    let long = front.long in
    let offers = o.offers in
    let deliveries = o.deliveries in
    let ready : Ready c plan from call.entry end g hops = record {
      plan_is = o.plan_is;
      from_outer = from_outer;
      end_outer = end_is_outer;
      entry_is = front.node;
      empty = o.empty;
      opens = opens;
      all = λ p own s at. subst (Among p own) front.is (o.all p own s at);
      few = omega (arith, long, few);
      offers = omega (arith, offers);
      deliveries = omega (arith, offers, deliveries);
    } in
    -- what the ends know
    let handed : c.handed ≡ record { from = h.node; to = end; note = Request h.far }
    ∷ record { from = g.node; to = from; note = Confirm g.near } ∷ [] =
    o.handed ∙ ap (λ (l : List Hop). record { from = h.node; to = end; note = Request h.far }
    ∷ record { from = front_point end l; to = from; note = Confirm (front_ref l) } ∷ []) front.is in
    let own : first_confirm from c.handed ≡ Some g.near =
    ap (first_confirm from) handed ∙ confirm_there from h.node end g.node h.far g.near in
    let request : Requested = record { from = h.node; to = end; slr = h.far } in
    let asked : first_request c.handed ≡ Some request = ap first_request handed in
    -- forth
    let f = carry 18446744073709551615 octets c from end 2 (near_stop g) (near_stops hops) o.empty from_outer (omega arith) end_is_outer
    (carries_forth (network_at c) (S c) end from 1 (g ∷ hops) opens) (near_few hops (omega (arith, long, few))) (omega (arith, size))
    (omega (arith, offers, deliveries)) in
    let there : Course = f.0 in
    let come : data_at end 2 there.handed ≡ octets =
    f.2.come ∙ ap (λ (l : List ℕ). l ++ octets) (ap (data_at end 2) handed ∙ none_handed end 2 h.node end g.node from h.far g.near) in
    let ready_there = still_ready c there plan from call.entry end end 2 octets g hops ready f.2 in
    let forth_is : settled (sent_by from call.entry g.near octets c) ≡ Some there =
    ap (λ (k : ℕ). settled (sent_by from k g.near octets c)) (sym front.node) ∙ settled_is (sent_by from g.node g.near octets c) ∙ f.1 in
    -- back
    let opens_there : Opens (network_at there) (S there) end from 1 (before (h ∷ back) []) =
    subst (Opens (network_at there) (S there) end from 1) (sym front.is) ready_there.opens in
    let b = carry 18446744073709551615 octets there end from 1 (far_stop h) (far_stops back) f.2.empty ready_there.end_outer (omega arith)
    ready_there.from_outer (carries_back (network_at there) (S there) from end (h ∷ back) opens_there) (far_few back few)
    (omega (arith, size))
    f.2.deliveries in
    let again : Course = b.0 in
    let ready_again = still_ready there again plan from call.entry end from 1 octets g hops ready_there b.2 in
    let back_is : settled (sent_by end h.node h.far (data_at end 2 there.handed) there) ≡ Some again =
    ap (λ (l : List ℕ). settled (sent_by end h.node h.far l there)) come ∙ settled_is (sent_by end h.node h.far octets there) ∙ b.1 in
    -- the release
    let r = release_all again plan call end g hops ready_again in
    let last : Course = r.0 in
    let forth_last : data_at end 2 last.handed ≡ octets =
    r.2.data_stay end 2 ∙ b.2.others end 2 (λ e. absurd (omega (arith, e))) ∙ come in
    let back_last : data_at from 1 last.handed ≡ octets =
    r.2.data_stay from 1 ∙ b.2.come ∙ ap (λ (l : List ℕ). l ++ octets)
    (f.2.others from 1 (λ e. absurd (omega (arith, e))) ∙ ap (data_at from 1) handed
    ∙ none_handed from 1 h.node end g.node from h.far g.near) in
    ap (λ (x : Option ℕ). carried_if call end x (first_request c.handed) c) own
    ∙ ap (λ (x : Option Requested). carried_if call end (Some g.near) x c) asked
    ∙ ap (λ (x : Option Course). option_and_then (λ forth. option_and_then
    (λ back. option_map (through call end) (settled (released call g.near back)))
    (settled (sent_back request end forth))) x) forth_is
    ∙ ap (λ (x : Option Course). option_and_then (λ back. option_map (through call end) (settled (released call g.near back))) x) back_is
    ∙ ap (λ (x : Option Course). option_map (through call end) x) r.1
    ∙ ap (λ (l : List ℕ). Some (record {
      forth = l;
      back = data_at from 1 last.handed;
      sections = sections_of (network_of last.plan)
          (world_at last);
    })) forth_last
    ∙ ap (λ (l : List ℕ). Some (record {
      forth = octets;
      back = l;
      sections = sections_of (network_of last.plan)
          (world_at last);
    })) back_last
    ∙ ap (λ (k : ℕ). Some (record { forth = octets; back = octets; sections = k })) (no_sections (network_at last) (world_at last) r.2.none)
  where
    near_few : (hops : List Hop) → length hops ≤ 14 → length (near_stops hops) ≤ 14
    near_few hops few = let e = near_long hops in omega (arith, e, few)
      where
        near_long : (hops : List Hop) → length (near_stops hops) ≡ length hops
        near_long [] = refl
        near_long (k ∷ hops) = let e = near_long hops in omega (arith, e)

    far_few : (hops : List Hop) → length hops ≤ 13 → length (far_stops hops) ≤ 14
    far_few hops few = let e = far_long hops in omega (arith, e, few)
      where
        far_long : (hops : List Hop) → length (far_stops hops) ≡ length hops
        far_long [] = refl
        far_long (k ∷ hops) = let e = far_long hops in omega (arith, e)

-- ---- the whole outcome

answered_by : (plan : plans.Network) (call : Call) (out : Outcome) → IsCall plan call → length call.octets ≤ 2 ^ 56 → Answered plan call out
    → IsAnswered call.octets out
answered_by plan call out is size (refused cause e) = subst (IsAnswered call.octets) (sym e) tt
answered_by plan call out is size (connected end h back o) =
    subst (IsAnswered call.octets) (sym o.out_is)
    (all_through plan call o.course end h back is.from o.outer o.front o.few size o.is)

pub is_answered : (plan : plans.Network) (call : Call) → IsCall plan call → length call.octets ≤ 2 ^ 56
    → IsAnswered call.octets (outcome call (beginning (kept plan [])))
is_answered plan call is size =
    answered_by plan call (outcome call (beginning (kept plan []))) is size (answered (λ far. Unit {0}) plan call is).0
