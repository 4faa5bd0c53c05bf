-- the section that a DT1 goes to, at a node whose remotes differ
use Rattle.std.specs.Prelude.{ℕ, ◌≡◌, ◌<◌, Bool, true, false, cond, ◌&&◌, List, [], ◌∷◌, length, filter, Option, Some, None, Contains}
use Rattle.std.specs.Prelude.{slice_index_or}
use Rattle.std.proofs.Common.{zero, suc, sym, ◌∙◌, ap, subst, inl, inr, ⊎_elim, arith}
use Rattle.sccp_message.specs.declared.message.Message.TheVariants as messages
use Rattle.sccp_couple.specs.declared.section.Section.{Section}
use Rattle.sccp_couple.specs.Sections.{section_at}
use Rattle.sccp_couple.specs.declared.way.Way.{Way}
use Rattle.sccp_couple.specs.Events.{Event, Answer, Piece, Data, data_of}
use Rattle.sccp_couple.specs.Coupling.{coupled}
use Rattle.sccp_couple.specs.Runs.{Pair, Moment, is_open, sent_in}
use Rattle.sccp_couple.specs.Laws.{AreApart, AddsAt, IsAddressed}
use Rattle.sccp_couple.proofs.Answers.{NoData, quiet, all_passed}
use Rattle.sccp_couple.proofs.Ledger.{has, IsKept}
use Rattle.sccp_couple.proofs.Shares.{Passes, dt1, dt1_goes, by_kind, with_message}

no_data_at : (xs : List Answer) (x : Answer) (k : ℕ) → NoData xs → k < length xs → slice_index_or xs k x ≡ x → data_of x.message ≡ None
no_data_at [] x k h lt e = absurd (omega arith)
no_data_at (y ∷ ys) x zero h lt e = ap (λ (s : Answer). data_of s.message) (sym e) ∙ h.0
no_data_at (y ∷ ys) x (suc k) h lt e = no_data_at ys x k h.1 (omega arith) e

only_one : (y x : Answer) (k : ℕ) → k < length (y ∷ []) → slice_index_or (y ∷ []) k x ≡ x → y ≡ x
only_one y x zero lt e = e
only_one y x (suc k) lt e = absurd (let z : k < 0 = omega arith in omega arith)

filter_contains : (q : Pair → Bool) (xs : List Pair) (x : Pair) (ys : List Pair) → filter q xs ≡ x ∷ ys → Contains xs x
filter_contains q [] x ys h = absurd (cc)
filter_contains q (z ∷ zs) x ys h =
    elim (q z) as (λ b. cond b (z ∷ filter q zs) (filter q zs) ≡ x ∷ ys → Contains (z ∷ zs) x) [
      | true ↦ λ k. let e : z ≡ x = cc in (0, omega arith, e)
      | false ↦ λ k. let r = filter_contains q zs x ys k in (suc r.0, omega (arith, r.1), r.2)
    ] h

dt1_addressed : (m : Moment) → IsKept m → AreApart m.sections
    → (origin : ℕ) (way : Way) (dlr : ℕ) (more : Bool) (payload : List ℕ) (sent : Answer) (d : Data) →
    Contains (coupled m.sections (dt1 origin way dlr more payload)).sent sent → data_of sent.message ≡ Some d
    → IsAddressed m (dt1 origin way dlr more payload) sent d
dt1_addressed m kept away origin way dlr more payload sent d here is =
    let l : List Section = m.sections in
    let event : Event = dt1 origin way dlr more payload in
    ⊎_elim
    (λ (nothing : (coupled l event).sent ≡ []).
    let c : Contains [] sent = subst (λ (xs : List Answer). Contains xs sent) nothing here in absurd (let lt = c.1 in omega arith))
    (λ (p : Passes l origin way dlr more payload).
    let piece : Piece = record { more = more; payload = payload } in
    let y : Answer = record { to = p.other_section.point; message = messages.Dt1 p.remote more payload } in
    let c : Contains (y ∷ []) sent = subst (λ (xs : List Answer). Contains xs sent) p.sent here in
    let same : y ≡ sent = only_one y sent c.0 c.1 c.2 in
    let to_is : p.other_section.point ≡ sent.to = ap (λ (s : Answer). s.to) same in
    let data_is : Some (record { dlr = p.remote; piece = piece }) ≡ Some d = ap (λ (s : Answer). data_of s.message) same ∙ is in
    let x : Data = record { dlr = p.remote; piece = piece } in
    let carried_is : x ≡ d = cc in
    let remote_is : p.other_section.remote ≡ Some d.dlr = p.has_it ∙ ap (λ (e : Data). Some e.dlr) carried_is in
    let piece_is : piece ≡ d.piece = ap (λ (e : Data). e.piece) carried_is in
    let r = (kept.ledger dlr).one p.section p.other p.at p.joined in
    let passed : sent_in l p.other dlr event ≡ d.piece ∷ [] =
    all_passed l dlr p.other p.section p.other_section origin way (messages.Dt1 dlr more payload) p.at p.joined p.there
    ∙ ap (λ (b : Bool). cond (b && is_open l (section_at l dlr)) (piece ∷ []) []) p.known_here
    ∙ ap (λ (b : Bool). cond b (piece ∷ []) []) p.open_here
    ∙ ap (λ (q : Piece). q ∷ []) piece_is in
    record {
      own = p.other;
      goes = record {
        section = p.other_section;
        at = p.there;
        point = to_is;
        remote = remote_is;
        alone = λ o s at point remote. away o p.other d.dlr s p.other_section at p.there remote remote_is (point ∙ sym to_is);
      };
      pair = r.0;
      among = filter_contains (has dlr) m.pairs r.0 [] r.1;
      stands = r.2;
      adds = elim p.section.near as (λ b. r.0.near ≡ cond b dlr p.other → r.0.far ≡ cond b p.other dlr
          → AddsAt l event r.0 p.other d.piece) [
            | true ↦ λ e f. inr (sym f, ap (λ (n : ℕ). sent_in l n r.0.near event) f ∙ ap (λ (n : ℕ). sent_in l p.other n event) e ∙ passed)
            | false ↦ λ e f. inl (sym e, ap (λ (n : ℕ). sent_in l n r.0.far event) e ∙ ap (λ (n : ℕ). sent_in l p.other n event) f ∙ passed)
          ] r.3 r.4;
    })
    (dt1_goes l origin way dlr more payload)

pub addressed : (m : Moment) → IsKept m → (event : Event) → AreApart m.sections → (sent : Answer) (d : Data)
    → Contains (coupled m.sections event).sent sent → data_of sent.message ≡ Some d → IsAddressed m event sent d
addressed m kept event away =
    by_kind (λ n. (sent : Answer) (d : Data) → Contains (coupled m.sections (with_message event n)).sent sent
    → data_of sent.message ≡ Some d → IsAddressed m (with_message event n) sent d) event.message
    (λ none sent d here is. absurd (let f = no_data_at (coupled m.sections event).sent sent here.0
    (quiet m.sections event.origin event.way event.message none) here.1 here.2 in none_is (data_of sent.message) d f is))
    (dt1_addressed m kept away event.origin event.way)
  where
    none_is : (o : Option Data) (d : Data) → o ≡ None → o ≡ Some d → ⊥
    none_is o d h k = cc
