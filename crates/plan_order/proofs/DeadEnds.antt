-- the set is a dead end if no relay that is left can be next
use Rattle.std.specs.Prelude.{ℕ, ◌≡◌, ◌⊎◌, true, false, List, [], ◌∷◌, ◌++◌, refl}
use Rattle.std.specs.List.{All}
use Rattle.std.proofs.Common.{sym, ◌∙◌, subst, inl, inr, ⊎_elim}
use Rattle.std.proofs.lemmas.Bool.{false≢true, cases_Bool}
use Rattle.sccp_base.proofs.Among.{Among}
use Rattle.plan_model.specs.Network.{Network}
use Rattle.plan_model.specs.SameNodes.{SameNodes}
use Rattle.plan_order.specs.Sets.{is_in, Differs}
use Rattle.plan_order.specs.Steps.{IsSafeStep}
use Rattle.plan_order.specs.Orders.{GoesOn, IsDeadEnd}
use Rattle.plan_order.specs.Searching.{IsSplit, IsClosed}
use Rattle.plan_order.proofs.Members.{in-left, in-right, out-both, in-first, out-one, in-All, among-in, in-among}
use Rattle.plan_order.proofs.Relays.{differs_told}
use Rattle.plan_order.proofs.Parts.{safe_part, SameOfDiffering, goes_on_same}

-- a relay of the step whose rows differ and that is not done
record IsNew (old new : Network) (done step : List ℕ) : Type 0 where
  node : ℕ
  differs : Differs old new node
  inside : is_in step node ≡ true
  out : is_in done node ≡ false

first_new : (old new : Network) (done step : List ℕ) → SameNodes old new
    → IsNew old new done step ⊎ ((n : ℕ) → Differs old new n → is_in step n ≡ true → is_in done n ≡ true)
first_new old new done [] nodes = inr (λ n differs h. absurd (false≢true h))
first_new old new done (m ∷ step) nodes = by (first_new old new done step nodes)
  where
    here : (m : ℕ) (step : List ℕ) → ((n : ℕ) → Differs old new n → is_in step n ≡ true → is_in done n ≡ true)
        → (Differs old new m → is_in done m ≡ true)
        → (n : ℕ) → Differs old new n → is_in (m ∷ step) n ≡ true → is_in done n ≡ true
    here m step rest first n differs h =
        ⊎_elim (λ (e : m ≡ n). subst (λ (k : ℕ). is_in done k ≡ true) e (first (subst (Differs old new) (sym e) differs)))
        (λ (later : Among n step). rest n differs (in-among step n later)) (among-in (m ∷ step) n h)

    by : IsNew old new done step ⊎ ((n : ℕ) → Differs old new n → is_in step n ≡ true → is_in done n ≡ true)
        → IsNew old new done (m ∷ step) ⊎ ((n : ℕ) → Differs old new n → is_in (m ∷ step) n ≡ true → is_in done n ≡ true)
    by (inl found) = inl (record {
      node = found.node;
      differs = found.differs;
      inside = in-among (m ∷ step) found.node (inr (among-in step found.node found.inside));
      out = found.out;
    })
    by (inr none) =
        ⊎_elim
        (λ (differs : Differs old new m). ⊎_elim (λ (h : is_in done m ≡ true). inr (here m step none (λ d. h)))
        (λ (h : is_in done m ≡ false). inl (record {
          node = m;
          differs = differs;
          inside = in-among (m ∷ step) m (inl refl);
          out = h;
        })) (cases_Bool (is_in done m)))
        (λ alike. inr (here m step none (λ d. absurd (alike.0 d))))
        (differs_told old new nodes m)

-- Wherever the steps of an order give a new relay the new plan, that relay can be given it first.
dead_from : (old new : Network) (done left : List ℕ) (m : ℕ) → SameNodes old new → IsSplit old new done left
    → All (IsClosed old new done) left → is_in left m ≡ true
    → (d : List ℕ) → SameOfDiffering old new d done → (steps : List (List ℕ)) → GoesOn old new d steps → ⊥
dead_from old new done left m nodes split closed some d same [] on =
    let differs = in-All (Differs old new) left m split.after some in
    false≢true (sym (split.apart m some) ∙ sym (same m differs) ∙ on m differs)
dead_from old new done left m nodes split closed some d same (step ∷ steps) on =
    by (λ also. dead_from old new done left m nodes split closed some (d ++ step) also steps on.1) (first_new old new done step nodes)
  where
    by : (SameOfDiffering old new (d ++ step) done → ⊥)
        → IsNew old new done step ⊎ ((n : ℕ) → Differs old new n → is_in step n ≡ true → is_in done n ≡ true) → ⊥
    by later (inr none) = later also
      where
        also : SameOfDiffering old new (d ++ step) done
        also n differs =
            ⊎_elim (λ (h : is_in done n ≡ true). in-left d step n (same n differs ∙ h) ∙ sym h)
            (λ (h : is_in done n ≡ false). out-both d step n (same n differs ∙ h)
            (⊎_elim (λ (k : is_in step n ≡ true). absurd (false≢true (sym h ∙ none n differs k))) (λ k. k) (cases_Bool (is_in step n)))
            ∙ sym h) (cases_Bool (is_in done n))
    by later (inl found) =
        ⊎_elim
        (λ (refused : IsSafeStep old new done (new_one ∷ []) → ⊥).
        refused (safe_part old new d step done (new_one ∷ []) nodes (record {
          more = λ n differs h. sym (same n differs) ∙ h;
          fewer = λ n differs h k. (sym (same n differs) ∙ h, other n k);
        }) on.0))
        (λ (dead : IsDeadEnd old new (done ++ new_one ∷ [])).
        dead (step ∷ steps) (
          safe_part old new d step (done ++ new_one ∷ []) step nodes (record {
            more = λ n differs h. in-left done (new_one ∷ []) n (sym (same n differs) ∙ h);
            fewer = λ n differs h k. (out-both done (new_one ∷ []) n (sym (same n differs) ∙ h) (other n k), k);
          }) on.0,
          goes_on_same old new (d ++ step) ((done ++ new_one ∷ []) ++ step) nodes also steps on.1,
        ))
        (in-All (IsClosed old new done) left new_one closed (split.whole new_one found.differs found.out))
      where
        new_one : ℕ
        new_one = found.node

        -- another relay than the new one is not of the step of the new one only
        other : (n : ℕ) → is_in step n ≡ false → is_in (new_one ∷ []) n ≡ false
        other n k =
            out-one new_one n (λ e. false≢true (sym k ∙ subst (λ (x : ℕ). is_in step x ≡ true) e found.inside))

        also : SameOfDiffering old new (d ++ step) ((done ++ new_one ∷ []) ++ step)
        also n differs =
            ⊎_elim (λ (k : is_in step n ≡ true). in-right d step n k ∙ sym (in-right (done ++ new_one ∷ []) step n k))
            (λ (k : is_in step n ≡ false). in-first d step n k ∙ same n differs
            ∙ sym (in-first (done ++ new_one ∷ []) step n k ∙ in-first done (new_one ∷ []) n (other n k)))
            (cases_Bool (is_in step n))

-- If each relay that is left is refused by itself, or leads to a dead end, the set is one.
pub dead_end : (old new : Network) (done left : List ℕ) (m : ℕ) → SameNodes old new → IsSplit old new done left
    → All (IsClosed old new done) left → is_in left m ≡ true → IsDeadEnd old new done
dead_end old new done left m nodes split closed some steps on =
    dead_from old new done left m nodes split closed some done (λ n differs. refl) steps on
