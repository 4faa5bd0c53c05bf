-- what a present pair is after a step, and which messages the step sends
use Rattle.std.specs.Prelude.{ℕ, ◌≡◌, ◌⊎◌, Bool, true, false, List, [], Some, None, refl}
use Rattle.std.proofs.Common.{sym, ◌∙◌, ap, subst, ⊎_elim}
use Rattle.std.proofs.lemmas.Bool.{cases_Bool, ne_eqb}
use Rattle.sccp_layout.specs.Parameter.{Parameter}
use Rattle.sccp_message.specs.declared.message.Message.{Message}
use Rattle.sccp_message.specs.declared.message.Message.TheVariants as messages
use Rattle.sccp_couple.specs.declared.section.Section.{Section}
use Rattle.sccp_couple.specs.Sections.{section_at, confirmed, with_pair, first_new, second_new}
use Rattle.sccp_couple.specs.Events.{Event, Answer}
use Rattle.sccp_couple.specs.Coupling.{coupled, to_one}
use Rattle.sccp_couple.specs.Runs.{Pair}
use Rattle.sccp_couple.proofs.Lookups.{changed_cases}
use Rattle.sccp_couple.proofs.Fresh.{fresh}
use Rattle.sccp_couple.proofs.Keeping.{near_new, far_new, pair_cases, some_same, true_false}
use Rattle.sccp_couple.proofs.Shares.{Passes, dt1_goes}
use Rattle.couple_chain.specs.World.{confirms, messages_to}
use Rattle.couple_chain.proofs.Counts.{number, answers}
use Rattle.couple_chain.proofs.Turns.{Plain, Passes as PassesOn, Requests, Confirms, Turn}
use Rattle.couple_chain.proofs.Sending.{to_point_none, plain_none, confirms_plain}

pub none_of_nothing : (p : Message → Bool) (to : ℕ) (sent : List Answer) → sent ≡ [] → number p (messages_to to sent) ≡ 0
none_of_nothing p to sent h = ap (λ (x : List Answer). number p (messages_to to x)) h

-- a DT1 makes a relay send only DT1
pub only_data : (p : Message → Bool) → ((dlr : ℕ) (more : Bool) (payload : List ℕ) → p (messages.Dt1 dlr more payload) ≡ false) →
    (l : List Section) (event : Event) (dlr : ℕ) (more : Bool) (payload : List ℕ) → event.message ≡ messages.Dt1 dlr more payload
    → (to : ℕ) → number p (messages_to to (coupled l event).sent) ≡ 0
only_data p h l event dlr more payload is to =
    let at : (m : Message) → Event = λ m. record { origin = event.origin; message = m; way = event.way } in
    subst (λ (m : Message). number p (messages_to to (coupled l (at m)).sent) ≡ 0) (sym is)
    (⊎_elim
    (λ (nothing : (coupled l (at (messages.Dt1 dlr more payload))).sent ≡ []). none_of_nothing p to
    (coupled l (at (messages.Dt1 dlr more payload))).sent nothing)
    (λ (q : Passes l event.origin event.way dlr more payload). ap (λ (x : List Answer). number p (messages_to to x)) q.sent
    ∙ to_point_none p q.other_section.point to (messages.Dt1 q.remote more payload) (h q.remote more payload))
    (dt1_goes l event.origin event.way dlr more payload))

-- what the sections of a present pair are after the step
pub data PairAfter (l : List Section) (event : Event) (p : Pair) (s t now : Section) : Type 0 where
  Same : now.remote ≡ t.remote → (t.remote ≡ None → (to : ℕ) → number (confirms p.near) (messages_to to (coupled l event).sent) ≡ 0)
      → (t.remote ≡ None → t.point ≡ event.origin → answers p.far event.message ≡ false) → PairAfter l event p s t now
  Gains : (slr class r : ℕ) (params : List Parameter) → event.message ≡ messages.Cc p.far slr class params → t.point ≡ event.origin
      → t.remote ≡ None → now.remote ≡ Some slr → s.remote ≡ Some r →
      (coupled l event).sent ≡ to_one s.point (messages.Cc r p.near class params) → PairAfter l event p s t now

pub record SidesAfter (l : List Section) (event : Event) (p : Pair) (s t near_now far_now : Section) : Type 0 where
  pub near_point : near_now.point ≡ s.point
  pub near_remote : near_now.remote ≡ s.remote
  pub far_point : far_now.point ≡ t.point
  pub far_remote : PairAfter l event p s t far_now

same_at : (l : List Section) (q : ℕ) (s t : Section) → section_at l q ≡ Some s → section_at l q ≡ Some t → s ≡ t
same_at l q s t h k = cc

none_at : (l : List Section) (q w : ℕ) (s : Section) → section_at l q ≡ Some s → q ≡ w → section_at l w ≡ None → ⊥
none_at l q w s h e k = let g : section_at l q ≡ None = subst (λ (n : ℕ). section_at l n ≡ None) (sym e) k in cc

-- an old section stays when two are added at the end
old_stays : (l after : List Section) (origin slr to q : ℕ) (s t : Section) → after ≡ with_pair (first_new l) (second_new l) origin slr to l
    → section_at l q ≡ Some s → section_at after q ≡ Some t → s ≡ t
old_stays l after origin slr to q s t is h k =
    ⊎_elim
    (λ (e : section_at l q ≡ Some t). same_at l q s t h e)
    (λ (e : ((q ≡ first_new l) × (t ≡ near_new (first_new l) (second_new l) origin slr))
    ⊎ ((q ≡ second_new l) × (t ≡ far_new (first_new l) (second_new l) to))).
    absurd (⊎_elim
    (λ (x : (q ≡ first_new l) × (t ≡ near_new (first_new l) (second_new l) origin slr)). none_at l q (first_new l) s h x.0
    (fresh l).near_free)
    (λ (x : (q ≡ second_new l) × (t ≡ far_new (first_new l) (second_new l) to)). none_at l q (second_new l) s h x.0 (fresh l).far_free)
    e))
    (pair_cases l (first_new l) (second_new l) origin slr to q t (sym (ap (λ (x : List Section). section_at x q) is) ∙ k))

pub sides_after : (l : List Section) (event : Event) → Turn l event → (p : Pair) (s t near_now far_now : Section) →
    section_at l p.near ≡ Some s → section_at l p.far ≡ Some t → s.other ≡ Some p.far → t.other ≡ Some p.near → s.near ≡ true
    → t.near ≡ false →
    section_at (coupled l event).sections p.near ≡ Some near_now → section_at (coupled l event).sections p.far ≡ Some far_now
    → SidesAfter l event p s t near_now far_now
sides_after l event (Plain none unheard plain loses) p s t near_now far_now s_at t_at joined t_joined s_near t_far near_at far_at =
    let a = loses p.near near_now near_at in
    let b = loses p.far far_now far_at in
    let e : a.0 ≡ s = same_at l p.near a.0 s a.1 s_at in
    let f : b.0 ≡ t = same_at l p.far b.0 t b.1 t_at in
    record {
      near_point = a.3 ∙ ap (λ (x : Section). x.point) e;
      near_remote = a.4 ∙ ap (λ (x : Section). x.remote) e;
      far_point = b.3 ∙ ap (λ (x : Section). x.point) f;
      far_remote = Same (b.4 ∙ ap (λ (x : Section). x.remote) f)
          (λ h to. plain_none (confirms p.near) (confirms_plain p.near) to (coupled l event).sent plain)
          (λ h from. ⊎_elim (λ (y : answers p.far event.message ≡ true). absurd (unheard p.far t y t_at from t_far h))
          (λ (y : answers p.far event.message ≡ false). y) (cases_Bool (answers p.far event.message)));
    }
sides_after l event (PassesOn dlr more payload is after) p s t near_now far_now s_at t_at joined t_joined s_near t_far near_at far_at =
    let e : near_now ≡ s = same_at l p.near near_now s (sym (ap (λ (x : List Section). section_at x p.near) after) ∙ near_at) s_at in
    let f : far_now ≡ t = same_at l p.far far_now t (sym (ap (λ (x : List Section). section_at x p.far) after) ∙ far_at) t_at in
    record {
      near_point = ap (λ (x : Section). x.point) e;
      near_remote = ap (λ (x : Section). x.remote) e;
      far_point = ap (λ (x : Section). x.point) f;
      far_remote = Same (ap (λ (x : Section). x.remote) f)
          (λ h to. only_data (confirms p.near) (λ d m x. refl) l event dlr more payload is to)
          (λ h from. ap (answers p.far) is);
    }
sides_after l event (Requests slr class to called params called_on params_on is after sent) p s t near_now far_now s_at t_at joined
    t_joined s_near t_far near_at far_at =
    let e : near_now ≡ s = sym (old_stays l (coupled l event).sections event.origin slr to p.near s near_now after s_at near_at) in
    let f : far_now ≡ t = sym (old_stays l (coupled l event).sections event.origin slr to p.far t far_now after t_at far_at) in
    record {
      near_point = ap (λ (x : Section). x.point) e;
      near_remote = ap (λ (x : Section). x.remote) e;
      far_point = ap (λ (x : Section). x.point) f;
      far_remote = Same (ap (λ (x : Section). x.remote) f)
          (λ h point. ap (λ (x : List Answer). number (confirms p.near) (messages_to point x)) sent
          ∙ to_point_none (confirms p.near) to point (messages.Cr (second_new l) class called_on params_on) refl)
          (λ h from. ap (answers p.far) is);
    }
sides_after l event (Confirms dlr slr class o r params u n is u_at u_from u_far u_none u_other n_at n_near n_other n_remote after sent)
    p s t near_now far_now s_at t_at joined t_joined s_near t_far near_at far_at =
    let near_stays : near_now ≡ s =
    ⊎_elim
    (λ (x : (v : Section) × (p.near ≡ dlr) × (section_at l dlr ≡ Some v) × (near_now ≡ confirmed slr v)).
    let at : section_at l dlr ≡ Some s = subst (λ (k : ℕ). section_at l k ≡ Some s) x.1 s_at in
    true_false (sym s_near ∙ ap (λ (y : Section). y.near) (same_at l dlr s u at u_at) ∙ u_far))
    (λ (x : (p.near ≡ dlr → ⊥) × (section_at l p.near ≡ Some near_now)). same_at l p.near near_now s x.1 s_at)
    (changed_cases (confirmed slr) (λ x. refl) l dlr p.near near_now (sym (ap (λ (x : List Section). section_at x p.near) after)
    ∙ near_at)) in
    ⊎_elim
    (λ (x : (v : Section) × (p.far ≡ dlr) × (section_at l dlr ≡ Some v) × (far_now ≡ confirmed slr v)).
    let at : section_at l dlr ≡ Some t = subst (λ (k : ℕ). section_at l k ≡ Some t) x.1 t_at in
    let v_is : x.0 ≡ t = same_at l dlr x.0 t x.2 at in
    let u_is : u ≡ t = same_at l dlr u t u_at at in
    let now : far_now ≡ confirmed slr t = x.3 ∙ ap (confirmed slr) v_is in
    let back : n.other ≡ Some p.far = n_other ∙ ap (λ (k : ℕ). Some k) (sym x.1) in
    record {
      near_point = ap (λ (x : Section). x.point) near_stays;
      near_remote = ap (λ (x : Section). x.remote) near_stays;
      far_point = ap (λ (x : Section). x.point) now;
      far_remote = gains l event p s t far_now dlr slr class o r params u n is u_from u_none n_at n_near n_other n_remote sent s_at
          t_joined x.1 u_is now u_other;
    })
    (λ (x : (p.far ≡ dlr → ⊥) × (section_at l p.far ≡ Some far_now)).
    let f : far_now ≡ t = same_at l p.far far_now t x.1 t_at in
    record {
      near_point = ap (λ (x : Section). x.point) near_stays;
      near_remote = ap (λ (x : Section). x.remote) near_stays;
      far_point = ap (λ (x : Section). x.point) f;
      far_remote = Same (ap (λ (x : Section). x.remote) f)
          (λ h point. ap (λ (x : List Answer). number (confirms p.near) (messages_to point x)) sent
          ∙ to_point_none (confirms p.near) n.point point (messages.Cc r o class params)
          (ne_eqb o p.near (λ e.
          let at : section_at l o ≡ Some s = subst (λ (k : ℕ). section_at l k ≡ Some s) (sym e) s_at in
          let same : n ≡ s = same_at l o n s n_at at in
          x.0 (some_same p.far dlr s.other joined (ap (λ (y : Section). y.other) (sym same) ∙ n_other)))))
          (λ h from. ap (answers p.far) is ∙ ne_eqb dlr p.far (λ e. x.0 (sym e)));
    })
    (changed_cases (confirmed slr) (λ x. refl) l dlr p.far far_now (sym (ap (λ (x : List Section). section_at x p.far) after) ∙ far_at))
  where
    gains : (l : List Section) (event : Event) (p : Pair) (s t far_now : Section) (dlr slr class o r : ℕ) (params : List Parameter)
        (u n : Section) → event.message ≡ messages.Cc dlr slr class params → u.point ≡ event.origin → u.remote ≡ None →
        section_at l o ≡ Some n → n.near ≡ true → n.other ≡ Some dlr → n.remote ≡ Some r
        → (coupled l event).sent ≡ to_one n.point (messages.Cc r o class params) →
        section_at l p.near ≡ Some s → t.other ≡ Some p.near → p.far ≡ dlr → u ≡ t → far_now ≡ confirmed slr t → u.other ≡ Some o
        → PairAfter l event p s t far_now
    gains l event p s t far_now dlr slr class o r params u n is from none n_at n_near n_other n_remote sent s_at t_joined e u_is now
        u_other =
        let o_is : o ≡ p.near = some_same o p.near t.other (ap (λ (y : Section). y.other) (sym u_is) ∙ u_other) t_joined in
        let n_is : n ≡ s = same_at l p.near n s (subst (λ (k : ℕ). section_at l k ≡ Some n) o_is n_at) s_at in
        Gains slr class r params
        (is ∙ ap (λ (k : ℕ). messages.Cc k slr class params) (sym e))
        (ap (λ (x : Section). x.point) (sym u_is) ∙ from)
        (ap (λ (x : Section). x.remote) (sym u_is) ∙ none)
        (ap (λ (x : Section). x.remote) now)
        (ap (λ (x : Section). x.remote) (sym n_is) ∙ n_remote)
        (sent ∙ ap (λ (x : Section). to_one x.point (messages.Cc r o class params)) n_is
        ∙ ap (λ (k : ℕ). to_one s.point (messages.Cc r k class params)) o_is)
