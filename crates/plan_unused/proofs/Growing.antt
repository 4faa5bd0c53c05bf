-- classes that are put at a hop
use Rattle.std.specs.Prelude.{ℕ, ◌≡◌, ◌+◌, ◌<◌, ◌⊎◌, true, false, List, length, take, get_or, Option, Some, None}
use Rattle.std.specs.Prelude.{is_some, if◌then◌else◌, refl}
use Rattle.std.specs.List.{All}
use Rattle.std.specs.Ordering.{is_eq}
use Rattle.std.proofs.Common.{sym, ◌∙◌, ap, subst, inl, inr, ⊎_elim, arith}
use Rattle.std.proofs.lemmas.List.Elements.{All-weaker, All-more}
use Rattle.plan_model.specs.Network.{Network}
use Rattle.plan_classes.specs.Titles.{Titles, parts_of}
use Rattle.plan_classes.specs.Classes.{Decided}
use Rattle.plan_classes.proofs.Ordered.{same_class}
use Rattle.plan_check.specs.Ranking.{rank_in, class_cmp}
use Rattle.plan_check.proofs.Orders.{Puts, puts_own, puts_case}
use Rattle.plan_unused.specs.Meets.{Meets}
use Rattle.plan_unused.specs.Walks.{IsRankedBy, AreRanks, IsPut, KeepsPlaces, Grows}
use Rattle.plan_unused.proofs.Places.{same_places, more_places}

-- an old rank stays, unless it is that of the class, which then has the new one
puts_kept : (before after : List (Titles × ℕ)) (c d : Titles) (depth r : ℕ) → Puts before after c depth
    → ((s : ℕ) → rank_in before c ≡ Some s → s ≡ depth) → rank_in before d ≡ Some r → rank_in after d ≡ Some r
puts_kept before after c d depth r puts own e =
    puts d ∙ elim (is_eq (class_cmp c d)) as (λ b. is_eq (class_cmp c d) ≡ b → (if b then Some depth else rank_in before d) ≡ Some r) [
      | true ↦ λ same. ap Some (sym (own r (ap (rank_in before) (same_class c d same) ∙ e)))
      | false ↦ λ other. e
    ] refl

pub ranked_more : (before after : List (Titles × ℕ)) (c : Titles) (depth : ℕ)
    → ((d : Titles) (r : ℕ) → rank_in before d ≡ Some r → rank_in after d ≡ Some r) → IsRankedBy before c depth → IsRankedBy after c depth
ranked_more before after c depth kept h = (h.0, kept c h.0 h.1, h.2)

put_more : (plan : Network) (depth : ℕ) (before after : List (Titles × ℕ)) (c : Titles)
    → ((d : Titles) (r : ℕ) → rank_in before d ≡ Some r → rank_in after d ≡ Some r) → IsPut plan depth before c → IsPut plan depth after c
put_more plan depth before after c kept (inl h) = inl h
put_more plan depth before after c kept (inr h) =
    inr (
      h.0,
      All-weaker (λ part. IsRankedBy before part depth) (λ part. IsRankedBy after part depth)
          (λ part p. ranked_more before after part depth kept p) (parts_of c) h.1,
    )

pub grows_none : (plan : Network) (depth : ℕ) (met : List (Titles × ℕ)) → Grows plan depth met met
grows_none plan depth met = record { kept = λ c r e. e; places = same_places met; added = λ c r e. inl e }

pub grows_on : (plan : Network) (depth : ℕ) (a b c : List (Titles × ℕ)) → Grows plan depth a b → Grows plan depth b c → Grows plan depth a c
grows_on plan depth a b c g h =
    record {
      kept = λ d r e. h.kept d r (g.kept d r e);
      places = more_places a b c g.places h.places;
      added = λ d r e. ⊎_elim
          (λ (was : rank_in b d ≡ Some r). ⊎_elim
          (λ (old : rank_in a d ≡ Some r). inl old)
          (λ (new : (r ≡ depth) × Meets plan depth d × IsPut plan depth b d).
          inr (new.0, new.1, put_more plan depth b c d h.kept new.2))
          (g.added d r was))
          (λ (new : (r ≡ depth) × Meets plan depth d × IsPut plan depth c d). inr new)
          (h.added d r e);
    }

-- the ranks of the larger table are met as they say
pub ranks_grown : (plan : Network) (depth : ℕ) (a b : List (Titles × ℕ)) → Grows plan depth a b → AreRanks plan depth a
    → AreRanks plan depth b
ranks_grown plan depth a b g ranks c r e =
    ⊎_elim
    (λ (old : rank_in a c ≡ Some r). ranks c r old)
    (λ (new : (r ≡ depth) × Meets plan depth c × IsPut plan depth b c).
    (omega (arith, new.0), subst (λ n. Meets plan n c) (sym new.0) new.1))
    (g.added c r e)

-- a class that had a rank has one up to this depth
pub was_ranked : (plan : Network) (depth : ℕ) (met : List (Titles × ℕ)) (c : Titles) (o : Option ℕ) → AreRanks plan depth met
    → o ≡ rank_in met c → true ≡ is_some o → IsRankedBy met c depth
was_ranked plan depth met c None ranks e some = absurd (cc)
was_ranked plan depth met c (Some r) ranks e some = (r, sym e, (ranks c r (sym e)).0)

absent : (met : List (Titles × ℕ)) (c : Titles) (r : ℕ) → rank_in met c ≡ None → rank_in met c ≡ Some r → ⊥
absent met c r none e = let clash : None ≡ Some r = sym none ∙ e in absurd (cc)

-- a decided class was put
pub whole_grows : (plan : Network) (depth : ℕ) (a b : List (Titles × ℕ)) (c : Titles) → rank_in a c ≡ None → Decided plan c
    → Meets plan depth c → Puts a b c depth → KeepsPlaces a b → Grows plan depth a b
whole_grows plan depth a b c fresh decided meets puts places =
    record {
      kept = λ d r e. puts_kept a b c d depth r puts (λ s h. absurd (absent a c s fresh h)) e;
      places = places;
      added = λ d r e. ⊎_elim
          (λ (new : (c ≡ d) × (depth ≡ r)).
          inr (sym new.1, subst (Meets plan depth) new.0 meets, subst (IsPut plan depth b) new.0 (inl decided)))
          (λ (old : rank_in a d ≡ Some r). inl old)
          (puts_case a b c d depth r puts e);
    }

-- the parts of an undecided class were put, and then the class has its rank
pub parts_grow : (plan : Network) (depth : ℕ) (a b e : List (Titles × ℕ)) (c : Titles) → rank_in a c ≡ None
    → (Decided plan c → ⊥) → Meets plan depth c → Grows plan depth a b → All (λ part. IsRankedBy b part depth) (parts_of c)
    → Puts b e c depth → KeepsPlaces b e → Grows plan depth a e
parts_grow plan depth a b e c fresh undecided meets g parts puts places =
    record {
      kept = λ d r h. stays d r (g.kept d r h);
      places = more_places a b e g.places places;
      added = λ d r h. ⊎_elim
          (λ (new : (c ≡ d) × (depth ≡ r)).
          inr (sym new.1, subst (Meets plan depth) new.0 meets, subst (IsPut plan depth e) new.0 (inr (undecided, ranked))))
          (λ (was : rank_in b d ≡ Some r). ⊎_elim
          (λ (old : rank_in a d ≡ Some r). inl old)
          (λ (put : (r ≡ depth) × Meets plan depth d × IsPut plan depth b d).
          inr (put.0, put.1, put_more plan depth b e d stays put.2))
          (g.added d r was))
          (puts_case b e c d depth r puts h);
    }
  where
    own : (s : ℕ) → rank_in b c ≡ Some s → s ≡ depth
    own s h = ⊎_elim
        (λ (old : rank_in a c ≡ Some s). absurd (absent a c s fresh old))
        (λ (new : (s ≡ depth) × Meets plan depth c × IsPut plan depth b c). new.0)
        (g.added c s h)

    stays : (d : Titles) (r : ℕ) → rank_in b d ≡ Some r → rank_in e d ≡ Some r
    stays d r h = puts_kept b e c d depth r puts own h

    ranked : All (λ part. IsRankedBy e part depth) (parts_of c)
    ranked = All-weaker (λ part. IsRankedBy b part depth) (λ part. IsRankedBy e part depth)
        (λ part p. ranked_more b e part depth stays p) (parts_of c) parts

pub put_ranked : (before after : List (Titles × ℕ)) (c : Titles) (depth : ℕ) → Puts before after c depth → IsRankedBy after c depth
put_ranked before after c depth puts = (depth, puts_own before after c depth puts, omega arith)

-- one more part has a rank
pub parts_ranked : (before after : List (Titles × ℕ)) (ps : List Titles) (i : ℕ) (p : Titles) (depth : ℕ) → i < length ps
    → p ≡ get_or ps i p
    → ((d : Titles) (r : ℕ) → rank_in before d ≡ Some r → rank_in after d ≡ Some r) → IsRankedBy after p depth
    → All (λ part. IsRankedBy before part depth) (take i ps) → All (λ part. IsRankedBy after part depth) (take (i + 1) ps)
parts_ranked before after ps i p depth lt at kept here so_far =
    All-more (λ part. IsRankedBy after part depth) ps i p lt
    (All-weaker (λ part. IsRankedBy before part depth) (λ part. IsRankedBy after part depth)
    (λ part h. ranked_more before after part depth kept h) (take i ps) so_far)
    (subst (λ part. IsRankedBy after part depth) at here)
