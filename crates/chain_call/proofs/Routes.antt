-- Open relays hand data on in both directions.
use Rattle.std.specs.Prelude.{ℕ, ◌≡◌, Bool, cond, List, [], ◌∷◌, Option, Some, None, refl, option_and_then}
use Rattle.std.proofs.Common.{sym, ◌∙◌, ap, subst}
use Rattle.std.proofs.lemmas.Bool.{eq-eqb}
use Rattle.sccp_message.specs.declared.message.Message.TheVariants as messages
use Rattle.sccp_couple.specs.declared.section.Section.{Section}
use Rattle.sccp_couple.specs.declared.way.Way.{Way}
use Rattle.sccp_couple.specs.Sections.{if_from, has_remote}
use Rattle.sccp_couple.specs.Coupling.{coupled, only_sends, to_one, on_data, toward}
use Rattle.couple_chain.specs.World.{Network}
use Rattle.chain_call.proofs.Hops.{Hop, Sections, front_point, front_ref, near_section, far_section, Apart}
use Rattle.chain_call.proofs.HopSteps.{event_with, OpenAt, Opens}
use Rattle.chain_call.proofs.Flows.{Stop, next_point, next_ref, NoStop, Carries}
use Rattle.chain_call.proofs.Confirms.{before}

abbrev pub near_stop : Hop → Stop
near_stop h = record { node = h.node; ref = h.near }

abbrev pub far_stop : Hop → Stop
far_stop h = record { node = h.node; ref = h.far }

abbrev pub near_stops : List Hop → List Stop
near_stops [] = []
near_stops (h ∷ hops) = near_stop h ∷ near_stops hops

abbrev pub far_stops : List Hop → List Stop
far_stops [] = []
far_stops (h ∷ hops) = far_stop h ∷ far_stops hops

-- ---- forth

hands_forth : (network : Network) (S : Sections) (end point remote : ℕ) (h : Hop) (hops : List Hop) (more : Bool) (payload : List ℕ)
    (way : Way)
    → OpenAt network S end point remote h hops → coupled (S h.node) (event_with point (messages.Dt1 h.near more payload) way)
    ≡ only_sends (S h.node) (to_one (front_point end hops) (messages.Dt1 (front_ref hops) more payload))
hands_forth network S end point remote h hops more payload way o =
    let l : List Section = S h.node in
    ap (on_data l more payload)
    (ap (option_and_then (if_from point)) o.near_at ∙ ap (λ (b : Bool). cond b (Some (near_section h point remote)) None)
    (eq-eqb point point refl))
    ∙ ap (λ (x : Option Section). only_sends l (cond (has_remote x) (toward x (λ far own. messages.Dt1 far more payload)) [])) o.far_at

front_is : (end : ℕ) (hops : List Hop) → next_point end (near_stops hops) ≡ front_point end hops
front_is end [] = refl
front_is end (h ∷ hops) = refl

ref_is : (hops : List Hop) → next_ref 2 (near_stops hops) ≡ front_ref hops
ref_is [] = refl
ref_is (h ∷ hops) = refl

no_near : (h : Hop) (hops : List Hop) → Apart h hops → NoStop h.node h.near (near_stops hops)
no_near h [] apart = tt
no_near h (g ∷ hops) apart = (apart.0.near_near, no_near h hops apart.1)

pub carries_forth : (network : Network) (S : Sections) (end point remote : ℕ) (hops : List Hop) → Opens network S end point remote hops
    → Carries network S point end 2 (near_stops hops)
carries_forth network S end point remote [] o = tt
carries_forth network S end point remote (h ∷ hops) o = (
  record {
    inner = o.0.inner;
    hands = λ more payload way. hands_forth network S end point remote h hops more payload way o.0
        ∙ ap (λ (n : ℕ). only_sends (S h.node) (to_one n (messages.Dt1 (front_ref hops) more payload))) (sym (front_is end hops))
        ∙ ap (λ (n : ℕ). only_sends (S h.node) (to_one (next_point end (near_stops hops)) (messages.Dt1 n more payload)))
        (sym (ref_is hops));
    other = no_near h hops o.0.apart;
  },
  carries_forth network S end h.node h.far hops o.1,
)

-- ---- back

hands_back : (network : Network) (S : Sections) (end point remote : ℕ) (h : Hop) (hops : List Hop) (more : Bool) (payload : List ℕ)
    (way : Way)
    → OpenAt network S end point remote h hops
    → coupled (S h.node) (event_with (front_point end hops) (messages.Dt1 h.far more payload) way)
    ≡ only_sends (S h.node) (to_one point (messages.Dt1 remote more payload))
hands_back network S end point remote h hops more payload way o =
    let l : List Section = S h.node in
    let y : ℕ = front_point end hops in
    ap (on_data l more payload)
    (ap (option_and_then (if_from y)) o.far_at ∙ ap (λ (b : Bool). cond b (Some (far_section h y (Some (front_ref hops)))) None)
    (eq-eqb y y refl))
    ∙ ap (λ (x : Option Section). only_sends l (cond (has_remote x) (toward x (λ far own. messages.Dt1 far more payload)) [])) o.near_at

-- these stops first, the last one first, then those
abbrev onto : List Hop → List Stop → List Stop
onto [] stops = stops
onto (h ∷ hops) stops = onto hops (far_stop h ∷ stops)

onto_before : (back hops : List Hop) → onto (before back hops) [] ≡ onto hops (far_stops back)
onto_before [] hops = refl
onto_before (h ∷ back) hops = onto_before back (h ∷ hops)

-- none of these hops is one of the stops
abbrev Clear : List Hop → List Stop → Type 0
Clear [] stops = Unit {0}
Clear (h ∷ hops) stops = NoStop h.node h.far stops × Clear hops stops

clear_on : (h : Hop) (hops : List Hop) (stops : List Stop) → Apart h hops → Clear hops stops → Clear hops (far_stop h ∷ stops)
clear_on h [] stops apart clear = tt
clear_on h (g ∷ hops) stops apart clear =
    (((λ e f. apart.0.far_far (sym e) (sym f)), clear.0), clear_on h hops stops apart.1 clear.1)

onto_carries : (network : Network) (S : Sections) (from end point remote : ℕ) (hops : List Hop) (stops : List Stop)
    → next_point from stops ≡ point
    → next_ref 1 stops ≡ remote → Clear hops stops → Opens network S end point remote hops
    → Carries network S (front_point end hops) from 1 stops → Carries network S end from 1 (onto hops stops)
onto_carries network S from end point remote [] stops p r clear o c = c
onto_carries network S from end point remote (h ∷ hops) stops p r clear o c =
    onto_carries network S from end h.node h.far hops (far_stop h ∷ stops) refl refl (clear_on h hops stops o.0.apart clear.1) o.1 (
      record {
        inner = o.0.inner;
        hands = λ more payload way. hands_back network S end point remote h hops more payload way o.0
            ∙ ap (λ (n : ℕ). only_sends (S h.node) (to_one n (messages.Dt1 remote more payload))) (sym p)
            ∙ ap (λ (n : ℕ). only_sends (S h.node) (to_one (next_point from stops) (messages.Dt1 n more payload))) (sym r);
        other = clear.0;
      },
      c,
    )

clear_nothing : (hops : List Hop) → Clear hops []
clear_nothing [] = tt
clear_nothing (h ∷ hops) = (tt, clear_nothing hops)

pub carries_back : (network : Network) (S : Sections) (from end : ℕ) (back : List Hop) → Opens network S end from 1 (before back [])
    → Carries network S end from 1 (far_stops back)
carries_back network S from end back o =
    subst (Carries network S end from 1) (onto_before back [])
    (onto_carries network S from end from 1 (before back []) [] refl refl (clear_nothing (before back [])) o tt)
