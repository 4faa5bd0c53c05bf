-- A confirmation on its way back to the end that calls.
use Rattle.std.specs.Prelude.{ℕ, ◌≡◌, ◌≤◌, ◌+◌, false, List, [], ◌∷◌, ◌++◌, length, Some, refl, ◌⊎◌}
use Rattle.std.proofs.Common.{zero, suc, sym, ◌∙◌, ap, inl, inr, arith}
use Rattle.sccp_message.specs.declared.message.Message.{Message}
use Rattle.sccp_message.specs.declared.message.Message.TheVariants as messages
use Rattle.plan_model.specs.Network as plans
use Rattle.sccp_couple.specs.declared.section.Section.{Section}
use Rattle.sccp_couple.specs.Sections.{section_at}
use Rattle.couple_chain.specs.World.{is_node}
use Rattle.chain_call.specs.Course.{Course, world_at}
use Rattle.chain_call.specs.Steps.{settled_in}
use Rattle.chain_call.specs.declared.note.Note.TheVariants.{Confirm}
use Rattle.chain_call.specs.declared.handed.Handed.{Handed}
use Rattle.chain_call.proofs.Tokens.{Holds, Empty, at_link}
use Rattle.chain_call.proofs.Hops.{Hop, back_point, back_ref, front_point, front_ref, Among}
use Rattle.chain_call.proofs.HopSteps.{confirm_back, Opens, Accepts, accepts_on, opens_more}
use Rattle.chain_call.proofs.Courses.{network_at, after_delivery, after_note, end_delivery, next_single, next_empty, turn_on, turns_end}
use Rattle.chain_call.proofs.Requests.{S, moved, out}

-- the two ends know their relays' references, and nothing is under way
pub record Opened (c : Course) (plan : plans.Network) (from end : ℕ) (hops : List Hop) (old : List Handed) : Type 0 where
  pub plan_is : c.plan ≡ plan
  pub empty : Empty (world_at c)
  pub opens : Opens (network_at c) (S c) end from 1 hops
  pub all : (p own : ℕ) (s : Section) → section_at (S c p) own ≡ Some s → Among p own hops
  pub handed : c.handed ≡ old ++ record { from = front_point end hops; to = from; note = Confirm (front_ref hops) } ∷ []
  pub offers : c.offers ≡ 2
  pub deliveries : c.deliveries ≤ 32

-- a confirmation is on its way back over these relays
pub record Confirming (c : Course) (from end : ℕ) (back hops : List Hop) (old : List Handed) : Type 0 where
  pub outer : is_node (network_at c) from ≡ false
  pub holds : Holds (world_at c) (front_point end hops) (back_point from back) (messages.Cc (back_ref back) (front_ref hops) 2 [])
  pub accepts : Accepts (network_at c) (S c) from end back hops
  pub offers : c.offers ≡ 2
  pub deliveries : c.deliveries + length back ≤ 31
  pub handed : c.handed ≡ old

-- these relays, the last one first, before those
abbrev pub before : List Hop → List Hop → List Hop
before [] hops = hops
before (h ∷ back) hops = before back (h ∷ hops)

either_among : (p own : ℕ) (hops : List Hop) → Among p own [] ⊎ Among p own hops → Among p own hops
either_among p own hops (inl h) = absurd h
either_among p own hops (inr h) = h

pub confirm : (turns : ℕ) (c : Course) (from end : ℕ) (back hops : List Hop) (old : List Handed) → Confirming c from end back hops old
    → 128 ≤ turns + c.deliveries
    → (after : Course) × (settled_in turns c ≡ Some after) × Opened after c.plan from end (before back hops) old
confirm zero c from end back hops old r enough = let d = r.deliveries in absurd (omega (arith, d, enough))
confirm (suc turns) c from end [] hops old r enough =
    let y : ℕ = front_point end hops in
    let m : Message = messages.Cc 1 (front_ref hops) 2 [] in
    let o = out c y from m r.holds r.outer in
    let d = r.deliveries in
    let e = r.offers in
    let after : Course = after_note y from (Confirm (front_ref hops)) c in
    let keeps : (p own : ℕ) (s : Section) → section_at (S c p) own ≡ Some s → section_at (S after p) own ≡ Some s =
    λ p own s at. ap (λ l. section_at l own) (o.same p) ∙ at in (
      after,
      turn_on turns c (y, from) (next_single y from m c r.holds) (omega (arith, d, e))
          ∙ ap (settled_in turns) (end_delivery y from m [] c (at_link (world_at c) y from m r.holds) r.outer)
          ∙ turns_end turns after (next_empty after o.empty) (omega (arith, d, enough)),
      record {
        plan_is = refl;
        empty = o.empty;
        opens = opens_more (network_at c) (S c) (S after) end from 1 hops keeps r.accepts.opens;
        all = λ p own s at. either_among p own hops (r.accepts.all p own s (sym (ap (λ l. section_at l own) (o.same p)) ∙ at));
        handed = ap (λ (l : List Handed). l ++ record { from = y; to = from; note = Confirm (front_ref hops) } ∷ []) r.handed;
        offers = e;
        deliveries = omega (arith, d);
      },
    )
confirm (suc turns) c from end (h ∷ back) hops old r enough =
    let y : ℕ = front_point end hops in
    let m : Message = messages.Cc h.far (front_ref hops) 2 [] in
    let stands = r.accepts.waits.0 in
    let d = r.deliveries in
    let e = r.offers in
    let move = moved c y h.node m (back_point from back) (messages.Cc (back_ref back) h.near 2 []) _ r.holds stands.inner
    (confirm_back (network_at c) (S c) from y h back (front_ref hops) 2 [] ((network_at c).way h.node y m) stands) in
    let then : Course = after_delivery y h.node c in
    let rest = confirm turns then from end back (h ∷ hops) old (record {
      outer = r.outer;
      holds = move.holds;
      accepts = accepts_on (network_at c) (S c) (S then) from end h back hops r.accepts (record { here = move.here; there = move.there });
      offers = e;
      deliveries = omega (arith, d);
      handed = r.handed;
    }) (omega (arith, enough)) in (
      rest.0,
      turn_on turns c (y, h.node) (next_single y h.node m c r.holds) (omega (arith, d, e)) ∙ ap (settled_in turns) move.step ∙ rest.1,
      rest.2,
    )
