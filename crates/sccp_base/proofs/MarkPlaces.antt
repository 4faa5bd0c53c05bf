-- Places of marks among ascending marks, and what an edit leaves there.
use Rattle.std.specs.Prelude.{◌≡◌, ℕ, ◌+◌, ◌<◌, ◌≤◌, Bool, true, false, not, ◌&&◌, ◌||◌, List, ◌∷◌, length, refl, Result, Ok, Err, take}
use Rattle.std.specs.Prelude.{drop}
use Rattle.std.specs.List.{All, insert, remove}
use Rattle.std.specs.List.Sorted.{IsBinarySearchResult, IsNonDecreasingBy, IsSearchInRange}
use Rattle.std.specs.Ordering.{ordering_index, ordering_reverse, is_eq}
use Rattle.std.specs.Result.{is_ok}
use Rattle.std.specs.Cmp.{tied_itself}
use Rattle.std.specs.declared.cmp.Ordering.{Ordering}
use Rattle.std.specs.declared.cmp.Ordering.TheVariants.{Less, Equal, Greater}
use Rattle.std.proofs.Common.{suc, sym, ◌∙◌, ap, subst, arith, get_or, ⊎_elim, length-append, drop-cons}
use Rattle.std.proofs.lemmas.Bool.{cases_lt, false≢true, eqb-true, and_parts}
use Rattle.std.proofs.lemmas.List.{take-append-drop, length-take, length-drop}
use Rattle.std.proofs.lemmas.List.Elements.{All-append, All-cons, All-drop, All-take}
use Rattle.std.proofs.lemmas.List.Edits.{get_or-remove_below, get_or-remove_above}
use Rattle.std.proofs.lemmas.List.Folds.{list_any-append, list_any_none, list_any-from_Any}
use Rattle.sccp_base.proofs.Inserted.{pairs_insert, related}
use Rattle.sccp_base.specs.declared.mark.Mark.{Mark}
use Rattle.sccp_base.specs.declared.mark.Mark.TheVariants.{PointCode, Sccp, Subsystem}
use Rattle.sccp_base.specs.Marks.{mark_cmp, same_mark, holds, IsAscending, IsMark, IsMarking, IsAt, BelongsAt, IsPlaceOf}
use Rattle.sccp_base.specs.MarkOrder.{mark_cmp_total, same_mark_agrees}

-- Marks that are the same, and marks that are apart.

pub same_mark_is : (a b : Mark) → same_mark a b ≡ true → a ≡ b
same_mark_is (PointCode a) (PointCode b) h = ap PointCode (eqb-true a b h)
same_mark_is (Sccp a) (Sccp b) h = ap Sccp (eqb-true a b h)
same_mark_is (Subsystem a s) (Subsystem b t) h =
    let points : a ≡ b = eqb-true a b (and_parts _ _ h).0 in
    let ssns : s ≡ t = eqb-true s t (and_parts _ _ h).1 in
    λ i. Subsystem (points i) (ssns i)
same_mark_is (PointCode a) (Sccp b) h = absurd (false≢true h)
same_mark_is (PointCode a) (Subsystem b t) h = absurd (false≢true h)
same_mark_is (Sccp a) (PointCode b) h = absurd (false≢true h)
same_mark_is (Sccp a) (Subsystem b t) h = absurd (false≢true h)
same_mark_is (Subsystem a s) (PointCode b) h = absurd (false≢true h)
same_mark_is (Subsystem a s) (Sccp b) h = absurd (false≢true h)

tied_are : (a b : Mark) → mark_cmp a b ≡ Equal → a ≡ b
tied_are a b e = same_mark_is a b (same_mark_agrees a b ∙ ap is_eq e)

apart_below : (a b : Mark) → mark_cmp a b ≡ Less → same_mark a b ≡ false
apart_below a b e = same_mark_agrees a b ∙ ap is_eq e

apart_above : (a b : Mark) → mark_cmp a b ≡ Greater → same_mark a b ≡ false
apart_above a b e = same_mark_agrees a b ∙ ap is_eq e

pub turned : (a b : Mark) → mark_cmp a b ≡ Greater → mark_cmp b a ≡ Less
turned a b e = mark_cmp_total.antisymm b a ∙ ap ordering_reverse e

pub turned_back : (a b : Mark) → mark_cmp a b ≡ Less → mark_cmp b a ≡ Greater
turned_back a b e = mark_cmp_total.antisymm b a ∙ ap ordering_reverse e

-- The search.

index_falls : (x y mark : Mark) (r : Ordering) → mark_cmp x y ≡ Less → mark_cmp y mark ≡ r
    → ordering_index (mark_cmp x mark) ≤ ordering_index r
index_falls x y mark Less below e = rw (mark_cmp_total.trans x y mark below e) (omega arith)
index_falls x y mark Equal below e =
    let equal : mark_cmp mark y ≡ Equal = mark_cmp_total.antisymm mark y ∙ ap ordering_reverse e in
    let same : mark ≡ y = tied_are mark y equal in
    rw (ap (mark_cmp x) same ∙ below) (omega arith)
index_falls x y mark Greater below e = most (mark_cmp x mark)
  where
    most : (r : Ordering) → ordering_index r ≤ ordering_index Greater
    most Less = omega arith
    most Equal = omega arith
    most Greater = omega arith

never_falls : (marks : List Mark) (mark : Mark) → IsAscending marks → IsNonDecreasingBy (λ y. ordering_index (mark_cmp y mark)) marks
never_falls marks mark ascending i j d le lt =
    ⊎_elim
    (λ (below : i < j). index_falls (get_or marks i d) (get_or marks j d) mark (mark_cmp (get_or marks j d) mark)
    (ascending i j d below lt) refl)
    (λ (above : j ≤ i). let e : i ≡ j = omega arith in let P : ℕ
    → Type 0 = λ k. ordering_index (mark_cmp (get_or marks i d) mark) ≤ ordering_index (mark_cmp (get_or marks k d) mark) in subst P e
    (omega arith))
    (cases_lt i j)

pub is_place : (marks : List Mark) (mark : Mark) (r : Result ℕ ℕ) → IsAscending marks → IsSearchInRange r (length marks)
    → IsBinarySearchResult (λ y. mark_cmp y mark) marks r → IsPlaceOf marks mark r
is_place marks mark (Ok place) ascending inside found = record
    { inside = inside; same = λ d. tied_are (get_or marks place d) mark (found d) }
is_place marks mark (Err place) ascending inside found =
    let parted = found (never_falls marks mark ascending) in
    record { inside = inside; below = parted.0; above = parted.1 }

-- A mark more.

pub ascending_insert : (marks : List Mark) (mark : Mark) (place : ℕ) → IsAscending marks → BelongsAt marks mark place
    → IsAscending (insert marks place mark)
ascending_insert marks mark place ascending at =
    pairs_insert (λ a b. mark_cmp a b ≡ Less) marks mark place ascending at.inside at.below
    (λ k d le lt. turned (get_or marks k d) mark (at.above k d le lt))

pub marking_insert : (marks : List Mark) (mark : Mark) (place : ℕ) → IsMark mark → IsMarking marks → BelongsAt marks mark place
    → IsMarking (insert marks place mark)
marking_insert marks mark place real before at =
    record {
      ascending = ascending_insert marks mark place before.ascending at;
      real = All-append IsMark (take place marks) (mark ∷ drop place marks)
          (All-take IsMark place marks before.real)
          (All-cons IsMark mark (drop place marks) real (All-drop IsMark place marks before.real));
    }

turn_or : (a b c : Bool) → (a || (b || c)) ≡ (b || (a || c))
turn_or true true c = refl
turn_or true false c = refl
turn_or false b c = refl

pub holds-insert : (marks : List Mark) (mark other : Mark) (place : ℕ)
    → holds (insert marks place mark) other ≡ (same_mark mark other || holds marks other)
holds-insert marks mark other place =
    list_any-append (λ held. same_mark held other) (take place marks) (mark ∷ drop place marks)
    ∙ turn_or (holds (take place marks) other) (same_mark mark other) (holds (drop place marks) other)
    ∙ ap (λ (b : Bool). same_mark mark other || b) (sym (list_any-append (λ held. same_mark held other) (take place marks)
    (drop place marks)) ∙ ap (λ (ms : List Mark). holds ms other) (take-append-drop place marks))

-- A mark less.

pub ascending_remove : (marks : List Mark) (place : ℕ) → place < length marks → IsAscending marks → IsAscending (remove marks place)
ascending_remove marks place inside ascending i j d lt bound =
    let size : length (remove marks place) + 1 ≡ length marks =
    omega (
      arith,
      length-append (take place marks) (drop (suc place) marks),
      length-take place marks,
      length-drop
          (suc place) marks,
      inside,
    ) in
    ⊎_elim
    (λ (i_below : i < place). ⊎_elim
    (λ (j_below : j < place). related (λ a b. mark_cmp a b ≡ Less) _ _ _ _ (get_or-remove_below marks place d i i_below inside)
    (get_or-remove_below marks place d j j_below inside) (ascending i j d lt (omega arith)))
    (λ (j_above : place ≤ j). related (λ a b. mark_cmp a b ≡ Less) _ _ _ _ (get_or-remove_below marks place d i i_below inside)
    (get_or-remove_above marks place d j j_above inside) (ascending i (j + 1) d (omega arith) (omega arith)))
    (cases_lt j place))
    (λ (i_above : place ≤ i). related (λ a b. mark_cmp a b ≡ Less) _ _ _ _ (get_or-remove_above marks place d i i_above inside)
    (get_or-remove_above marks place d j (omega arith) inside) (ascending (i + 1) (j + 1) d (omega arith) (omega arith)))
    (cases_lt i place)

pub marking_remove : (marks : List Mark) (place : ℕ) → place < length marks → IsMarking marks → IsMarking (remove marks place)
marking_remove marks place inside before =
    record {
      ascending = ascending_remove marks place inside before.ascending;
      real = All-append IsMark (take place marks) (drop (suc place) marks)
          (All-take IsMark place marks before.real) (All-drop IsMark (suc place) marks before.real);
    }

-- none of the other marks is this one
others_apart : (marks : List Mark) (mark : Mark) (place : ℕ) → IsAscending marks → IsAt marks mark place
    → All (λ held. same_mark held mark ≡ false) (remove marks place)
others_apart marks mark place ascending at k d lt =
    let size : length (remove marks place) + 1 ≡ length marks =
    omega (
      arith,
      length-append (take place marks) (drop (suc place) marks),
      length-take place marks,
      length-drop
          (suc place) marks,
      at.inside,
    ) in
    ⊎_elim
    (λ (below : k < place).
    ap (λ (m : Mark). same_mark m mark) (get_or-remove_below marks place d k below at.inside)
    ∙ apart_below (get_or marks k d) mark (ap (mark_cmp (get_or marks k d)) (sym (at.same d)) ∙ ascending k place d below at.inside))
    (λ (above : place ≤ k).
    ap (λ (m : Mark). same_mark m mark) (get_or-remove_above marks place d k above at.inside)
    ∙ apart_above (get_or marks (k + 1) d) mark (turned_back mark (get_or marks (k + 1) d)
    (ap (λ (m : Mark). mark_cmp m (get_or marks (k + 1) d)) (sym (at.same d)) ∙ ascending place (k + 1) d (omega arith) (omega arith))))
    (cases_lt k place)

-- taking one mark out of those that are held
without : (a b p : Bool) → p ≡ false → (a || b) ≡ (a || (p || b))
without true b p e = refl
without false b p e = ap (λ (q : Bool). q || b) (sym e)

parted : (marks : List Mark) (mark other : Mark) (place : ℕ) → IsAt marks mark place
    → holds marks other ≡ (holds (take place marks) other || (same_mark mark other || holds (drop (suc place) marks) other))
parted marks mark other place at =
    ap (λ (ms : List Mark). holds ms other) (sym (take-append-drop place marks))
    ∙ list_any-append (λ held. same_mark held other) (take place marks) (drop place marks)
    ∙ ap (λ (ms : List Mark). holds (take place marks) other || holds ms other) (drop-cons marks place mark at.inside
    ∙ ap (λ (m : Mark). m ∷ drop (suc place) marks) (at.same mark))

pub holds-remove : (marks : List Mark) (mark other : Mark) (place : ℕ) → IsAscending marks → IsAt marks mark place
    → holds (remove marks place) other ≡ (not (same_mark mark other) && holds marks other)
holds-remove marks mark other place ascending at =
    elim (same_mark mark other) as (λ b. same_mark mark other ≡ b → holds (remove marks place) other ≡ (not b && holds marks other)) [
      | true ↦ λ e.
          let same : mark ≡ other = same_mark_is mark other e in
          ap (holds (remove marks place)) (sym same) ∙ list_any_none (λ held. same_mark held mark) (remove marks place)
          (others_apart marks mark place ascending at)
      | false ↦ λ e.
          list_any-append (λ held. same_mark held other) (take place marks) (drop (suc place) marks)
          ∙ without (holds (take place marks) other) (holds (drop (suc place) marks) other) (same_mark mark other) e
          ∙ sym (parted marks mark other place at)
    ] refl

-- What the search says about a mark.

pub holds-at : (marks : List Mark) (mark : Mark) (place : ℕ) → IsAt marks mark place → holds marks mark ≡ true
holds-at marks mark place at =
    list_any-from_Any (λ held. same_mark held mark) marks (
      place,
      mark,
      at.inside,
      at.same mark,
      same_mark_agrees mark mark
          ∙ ap is_eq (tied_itself mark_cmp_total mark),
    )

pub holds-none : (marks : List Mark) (mark : Mark) (place : ℕ) → BelongsAt marks mark place → holds marks mark ≡ false
holds-none marks mark place at =
    list_any_none (λ held. same_mark held mark) marks (λ k d lt. ⊎_elim
    (λ (below : k < place). apart_below (get_or marks k d) mark (at.below k d (omega arith) below))
    (λ (above : place ≤ k). apart_above (get_or marks k d) mark (at.above k d above lt))
    (cases_lt k place))

-- a mark that is held already
pub held_more : (marks : List Mark) (mark other : Mark) → holds marks mark ≡ true
    → holds marks other ≡ (same_mark mark other || holds marks other)
held_more marks mark other h =
    elim (same_mark mark other) as (λ b. same_mark mark other ≡ b → holds marks other ≡ (b || holds marks other)) [
      | true ↦ λ e. ap (holds marks) (sym (same_mark_is mark other e)) ∙ h
      | false ↦ λ e. refl
    ] refl

-- a mark that is not held
pub held_less : (marks : List Mark) (mark other : Mark) → holds marks mark ≡ false
    → holds marks other ≡ (not (same_mark mark other) && holds marks other)
held_less marks mark other h =
    elim (same_mark mark other) as (λ b. same_mark mark other ≡ b → holds marks other ≡ (not b && holds marks other)) [
      | true ↦ λ e. ap (holds marks) (sym (same_mark_is mark other e)) ∙ h
      | false ↦ λ e. refl
    ] refl

-- whether the search found the mark
pub found_is : (marks : List Mark) (mark : Mark) (r : Result ℕ ℕ) → IsPlaceOf marks mark r → is_ok r ≡ holds marks mark
found_is marks mark (Ok place) at = sym (holds-at marks mark place at)
found_is marks mark (Err place) at = sym (holds-none marks mark place at)
