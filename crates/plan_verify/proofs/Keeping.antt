-- a table of ranks after one more class
use Rattle.std.specs.Prelude.{ℕ, ◌≡◌, ◌-◌, ◌≤◌, ◌<◌, true, false, if◌then◌else◌, List, Option, Some, None, IsSomeAnd, refl}
use Rattle.std.specs.Ordering.{is_eq}
use Rattle.std.proofs.Common.{sym, ◌∙◌, subst, inl, inr, ⊎_elim}
use Rattle.std.proofs.lemmas.List.Elements.{All-weaker}
use Rattle.plan_model.specs.Network.{Network}
use Rattle.plan_classes.specs.declared.leads.Image.{Image}
use Rattle.plan_classes.specs.declared.leads.Image.TheVariants.{Next, Ends, NotEquipped, TooLong}
use Rattle.plan_classes.specs.Titles.{Titles, parts_of}
use Rattle.plan_classes.specs.Classes.{Reachable}
use Rattle.plan_check.specs.Ranking.{rank_in, class_cmp}
use Rattle.plan_check.specs.Ranked.{RanksUpTo, LeadsWell, IsRankedDecided, IsRankedOpen, IsRankedClass}
use Rattle.plan_classes.proofs.Ordered.{same_class}
use Rattle.plan_check.proofs.Orders.{Puts, puts_case}
use Rattle.plan_verify.specs.Attained.{LeadsHigh, IsAttainedOpen, IsAttainedDecided, IsAttainedClass}
use Rattle.plan_verify.specs.Searching.{Keeps, IsSound, IsBorneOut}

pub some_kept : (old new : List (Titles × ℕ)) (P : ℕ → Type 0) (c : Titles) → Keeps old new → IsSomeAnd (rank_in old c) P
    → IsSomeAnd (rank_in new c) P
some_kept old new P c keeps h =
    elim (rank_in old c) as (λ o. rank_in old c ≡ o → IsSomeAnd o P → IsSomeAnd (rank_in new c) P) [
      | None ↦ λ e n. absurd n
      | Some r ↦ λ e p. subst (λ (o : Option ℕ). IsSomeAnd o P) (sym (keeps.kept c r e)) p
    ] refl h

pub leads_kept : (plan : Network) (old new : List (Titles × ℕ)) (cover bound : ℕ) (i : Image) → Keeps old new
    → LeadsWell plan (rank_in old) cover bound i → LeadsWell plan (rank_in new) cover bound i
leads_kept plan old new cover bound (Next next) keeps h = some_kept old new (λ r. r < bound) next keeps h
leads_kept plan old new cover bound (Ends pc ssn) keeps h = h
leads_kept plan old new cover bound NotEquipped keeps h = h
leads_kept plan old new cover bound TooLong keeps h = h

-- more ranks take nothing away
pub ranked_kept : (plan : Network) (old new : List (Titles × ℕ)) (c : Titles) (r : ℕ) → Keeps old new → IsRankedClass plan (rank_in old) c r
    → IsRankedClass plan (rank_in new) c r
ranked_kept plan old new c r keeps h =
    record {
      low = h.low;
      high = h.high;
      class = h.class;
      node = h.node;
      cover = h.cover;
      follows = ⊎_elim
          (λ (by : IsRankedOpen plan (rank_in old) c r). inl
          (record {
            undecided = by.undecided;
            more = by.more;
            parts = All-weaker (RanksUpTo (rank_in old) r) (RanksUpTo (rank_in new) r)
                (λ p q. some_kept old new (λ s. s ≤ r) p keeps q) (parts_of c) by.parts;
          }))
          (λ (by : IsRankedDecided plan (rank_in old) c r). inr
          (record {
            decided = by.decided;
            row = by.row;
            leads = λ place image reached has. leads_kept plan old new c.cover r image keeps
                (by.leads place image reached has);
          }))
          h.follows;
    }

pub high_kept : (plan : Network) (old new : List (Titles × ℕ)) (c : Titles) (least : ℕ) → Keeps old new
    → LeadsHigh plan (rank_in old) c least → LeadsHigh plan (rank_in new) c least
high_kept plan old new c least keeps h = record {
  place = h.place;
  next = h.next;
  leads = h.leads;
  high = some_kept old new
      (λ r. least ≤ r) h.next keeps h.high;
}

attained_kept : (plan : Network) (old new : List (Titles × ℕ)) (c : Titles) (r : ℕ) → Keeps old new → IsAttainedClass plan (rank_in old) c r
    → IsAttainedClass plan (rank_in new) c r
attained_kept plan old new c r keeps h =
    ⊎_elim
    (λ (by : IsAttainedOpen plan (rank_in old) c r). inl
    (record {
      undecided = by.undecided;
      part = (
        by.part.0,
        by.part.1,
        by.part.2,
        by.part.3,
        some_kept old new
            (λ s. r ≤ s) by.part.1 keeps by.part.4,
      );
    }))
    (λ (by : IsAttainedDecided plan (rank_in old) c r). inr
    (record { decided = by.decided; next = high_kept plan old new c (r - 1) keeps by.next }))
    h

pub keeps_more : (a b c : List (Titles × ℕ)) → Keeps a b → Keeps b c → Keeps a c
keeps_more a b c h k = record { kept = λ q r e. k.kept q r (h.kept q r e) }

pub keeps_put : (old new : List (Titles × ℕ)) (class : Titles) (rank : ℕ) → rank_in old class ≡ None → Puts old new class rank
    → Keeps old new
keeps_put old new class rank absent puts =
    record {
      kept = λ c r e.
          elim (is_eq (class_cmp class c)) as (λ b. is_eq (class_cmp class c) ≡ b → rank_in new c ≡ (if b then Some rank else rank_in old c)
          → rank_in new c ≡ Some r) [
            | true ↦ λ same n. absurd (let there : rank_in old c ≡ None = subst (λ (q : Titles). rank_in old q ≡ None)
                (same_class class c same) absent in cc)
            | false ↦ λ other n. n ∙ e
          ] refl (puts c);
    }

pub sound_put : (plan : Network) (old new : List (Titles × ℕ)) (class : Titles) (rank depth : ℕ) → IsSound plan old
    → rank_in old class ≡ None → Puts old new class rank → IsBorneOut plan (rank_in old) class rank → Reachable plan depth class
    → IsSound plan new
sound_put plan old new class rank depth sound absent puts here reached =
    record {
      ranked = λ c r e. ⊎_elim
          (λ (own : (class ≡ c) × (rank ≡ r)). subst (λ (q : Titles). IsRankedClass plan (rank_in new) q r) own.0
          (subst (λ (n : ℕ). IsRankedClass plan (rank_in new) class n) own.1 (ranked_kept plan old new class rank keeps here.ranked)))
          (λ (was : rank_in old c ≡ Some r). ranked_kept plan old new c r keeps (sound.ranked c r was))
          (puts_case old new class c rank r puts e);
      attained = λ c r e two. ⊎_elim
          (λ (own : (class ≡ c) × (rank ≡ r)). subst (λ (q : Titles). IsAttainedClass plan (rank_in new) q r) own.0
          (subst (λ (n : ℕ). IsAttainedClass plan (rank_in new) class n) own.1
          (attained_kept plan old new class rank keeps (here.attained (subst (λ (n : ℕ). 2 ≤ n) (sym own.1) two)))))
          (λ (was : rank_in old c ≡ Some r). attained_kept plan old new c r keeps (sound.attained c r was two))
          (puts_case old new class c rank r puts e);
      reached = λ c r e. ⊎_elim
          (λ (own : (class ≡ c) × (rank ≡ r)). (depth, subst (λ (q : Titles). Reachable plan depth q) own.0 reached))
          (λ (was : rank_in old c ≡ Some r). sound.reached c r was)
          (puts_case old new class c rank r puts e);
    }
  where
    keeps : Keeps old new
    keeps = keeps_put old new class rank absent puts
