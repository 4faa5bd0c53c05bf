-- The places of rows under their keys, and the order of the rows that they give.
use Rattle.std.specs.Prelude.{ℕ, ◌≡◌, ◌+◌, ◌<◌, ◌≤◌, Bool, true, false, cond, List, [], ◌∷◌, length, take, Some, None, refl, slice_get}
use Rattle.std.specs.List.{All, Contains}
use Rattle.std.specs.Option.{option_map}
use Rattle.std.specs.Ordering.{is_eq}
use Rattle.std.specs.declared.cmp.Ordering.{Ordering}
use Rattle.std.specs.declared.cmp.Ordering.TheVariants.{Less, Equal, Greater}
use Rattle.std.specs.Map.{lookup, keys_of, values_of}
use Rattle.std.specs.BTreeMap.{BTreeMap, btree_map_len, IsOrdered, Updates, values}
use Rattle.std.proofs.Common.{suc, sym, ◌∙◌, ap, arith, get_or, length-take-le, ⊎_elim}
use Rattle.std.proofs.lemmas.Bool.{cases_lt, false≢true, false_from_ne_true}
use Rattle.std.proofs.lemmas.List.{get_or-map, get_or-take}
use Rattle.std.proofs.lemmas.List.Elements.{All-map}
use Rattle.std.proofs.lemmas.Map.Entries.{length-keys_of, length-values_of}
use Rattle.std.proofs.lemmas.Map.Keys.{Less-from_sorted}
use Rattle.std.proofs.lemmas.Option.{slice_get-get_or, slice_get_cases, get_or_from_slice_get}
use Rattle.plan_rules.specs.declared.row_key.RowKey.{RowKey}
use Rattle.plan_rules.specs.Rule.{Rule}
use Rattle.plan_rules.specs.Tables.{same_titles, repeat_at}
use Rattle.plan_rules.specs.Order.{titles_at, up_to, IsOrder}
use Rattle.plan_rules.specs.Keys.{key_of, key_cmp, key_titles, place_under, HasPlaces}
use Rattle.plan_rules.proofs.Places.{position_here, position_nowhere}
use Rattle.plan_rules.proofs.TitleParts.{titles_own}
use Rattle.plan_rules.proofs.RowOrder.{at_place}
use Rattle.plan_rules.proofs.Repeats.{same_titles-own, titles_equal}
use Rattle.plan_rules.proofs.KeyOrder.{key_below, key_same, same_key}

is_equal : (o : Ordering) → is_eq o ≡ true → o ≡ Equal
is_equal Less e = absurd (false≢true e)
is_equal Equal e = refl
is_equal Greater e = absurd (false≢true e)

none_is : (i : ℕ) → None ≡ Some i → ⊥
none_is i e = absurd (cc)

some_is : (i j : ℕ) → Some i ≡ Some j → i ≡ j
some_is i j e = cc

pub has_none : (table : List Rule) (places : BTreeMap RowKey ℕ) → places.entries ≡ [] → HasPlaces table 0 places
has_none table places empty =
    record {
      size = ap length empty;
      found = λ key place h. absurd (none_is place (sym (ap (λ (es : List (RowKey × ℕ)). lookup (λ k. is_eq (key_cmp key k)) es) empty)
          ∙ h));
      whole = λ key place lt e. absurd (omega arith);
    }

-- one more row, with a key of its own
pub has_more : (table : List Rule) (count : ℕ) (before after : BTreeMap RowKey ℕ) (key : RowKey) → titles_at table count ≡ key_titles key
    → HasPlaces table count before → place_under before key ≡ None
    → Updates key_cmp before after key (Some count)
    → btree_map_len after ≡ btree_map_len before + 1 → HasPlaces table (count + 1) after
has_more table count before after key is h new updates size =
    record {
      size = size ∙ ap (λ (n : ℕ). n + 1) h.size;
      found = λ q place at. found_more q place (sym (updates.0 q) ∙ at);
      whole = λ q place lt e. updates.0 q ∙ whole_more q place lt e;
    }
  where
    found_more : (q : RowKey) (place : ℕ) → cond (is_eq (key_cmp key q)) (Some count) (place_under before q) ≡ Some place
        → (place < count + 1) × (titles_at table place ≡ key_titles q)
    found_more q place =
        elim (is_eq (key_cmp key q)) as (λ b. is_eq (key_cmp key q) ≡ b → cond b (Some count) (place_under before q) ≡ Some place
        → (place < count + 1) × (titles_at table place ≡ key_titles q)) [
          | true ↦ λ same e.
              let here : count ≡ place = some_is count place e in (
                omega arith,
                ap (titles_at table) (sym here) ∙ is ∙ same_key key q (is_equal (key_cmp key q) same),
              )
          | false ↦ λ other e. let old = h.found q place e in (omega (arith, old.0), old.1)
        ] refl

    whole_more : (q : RowKey) (place : ℕ) → place < count + 1 → titles_at table place ≡ key_titles q
        → cond (is_eq (key_cmp key q)) (Some count) (place_under before q) ≡ Some place
    whole_more q place lt e =
        elim (is_eq (key_cmp key q)) as (λ b. is_eq (key_cmp key q) ≡ b → cond b (Some count) (place_under before q) ≡ Some place) [
          | true ↦ λ same. ⊎_elim
              (λ (low : place < count). absurd (none_is place (sym new ∙ h.whole key place low
              (e ∙ sym (same_key key q (is_equal (key_cmp key q) same))))))
              (λ (high : count ≤ place). let here : count ≡ place = omega arith in ap Some here)
              (cases_lt place count)
          | false ↦ λ other. ⊎_elim
              (λ (low : place < count). h.whole q place low e)
              (λ (high : count ≤ place).
              let here : place ≡ count = omega arith in
              absurd (false≢true (sym other ∙ ap is_eq (key_same key q (sym is ∙ ap (titles_at table) (sym here) ∙ e)))))
              (cases_lt place count)
        ] refl

-- what a look-up finds is among the values
among_values : (test : RowKey → Bool) (es : List (RowKey × ℕ)) (place : ℕ) → lookup test es ≡ Some place → Contains (values_of es) place
among_values test [] place e = absurd (none_is place e)
among_values test (x ∷ es) place e =
    elim (test x.0) as (λ b. cond b (Some x.1) (lookup test es) ≡ Some place → Contains (values_of (x ∷ es)) place) [
      | true ↦ λ is. (0, omega arith, some_is x.1 place is)
      | false ↦ λ is. let later = among_values test es place is in (suc later.0, omega (arith, later.1), later.2)
    ] e

-- some entry, to read a list past its end
some_entry : RowKey × ℕ
some_entry = (record { selector = record { kind = 0; translation = 0; plan = 0; nature = 0 }; ssn = None; prefix = [] }, 0)

-- the places in the order of their keys are those of the rows in order
pub order_from : (table : List Rule) (places : BTreeMap RowKey ℕ) → IsOrdered key_cmp places
    → All (λ e. place_under places e.0 ≡ Some e.1) places.entries → HasPlaces table (length table) places → IsOrder table (values places)
order_from table places ordered found h =
    record {
      size = length-values_of es ∙ h.size;
      within = All-map (λ place. place < length table) (λ (e : RowKey × ℕ). e.1) es (λ k d lt. (there k d lt).0);
      whole = whole_of;
      ascending = λ i j d lt inside. rising i j d lt (omega (arith, inside, length-values_of es));
    }
  where
    es : List (RowKey × ℕ)
    es = places.entries

    there : (k : ℕ) (d : RowKey × ℕ) → k < length es
        → ((get_or es k d).1 < length table) × (titles_at table (get_or es k d).1 ≡ key_titles (get_or es k d).0)
    there k d lt = h.found (get_or es k d).0 (get_or es k d).1 (found k d lt)

    whole_of : (place : ℕ) → place < length table → Contains (values places) place
    whole_of place lt = ⊎_elim
        (λ (p : (r : Rule) × (place < length table) × (slice_get table place ≡ Some r) × (get_or table place r ≡ r)).
        among_values (λ k. is_eq (key_cmp (key_of p.0) k)) es place
        (h.whole (key_of p.0) place lt (at_place table place p.0 p.2)))
        (λ (p : (length table ≤ place) × (slice_get table place ≡ None)). absurd (omega (arith, p.0, lt)))
        (slice_get_cases table place).1

    titles_there : (k d : ℕ) → k < length es → titles_at table (get_or (values places) k d) ≡ key_titles (get_or es k some_entry).0
    titles_there k d lt = ap (titles_at table) (get_or-map (λ (e : RowKey × ℕ). e.1) es k some_entry d lt) ∙ (there k some_entry lt).1

    key_there : (k : ℕ) → k < length es → get_or (keys_of es) k some_entry.0 ≡ (get_or es k some_entry).0
    key_there k lt = get_or-map (λ (e : RowKey × ℕ). e.0) es k some_entry some_entry.0 lt

    rising : (i j d : ℕ) → i < j → j < length es
        → up_to (titles_at table (get_or (values places) j d)) (titles_at table (get_or (values places) i d)) ≡ false
    rising i j d lt inside =
        let first = key_there i (omega arith) in
        let second = key_there j inside in
        let less : key_cmp (get_or (keys_of es) i some_entry.0) (get_or (keys_of es) j some_entry.0) ≡ Less =
        Less-from_sorted key_cmp (keys_of es) i j some_entry.0 ordered lt (omega (arith, inside, length-keys_of es)) in
        let low = titles_there i d (omega arith) in
        let high = titles_there j d inside in
        (λ k. up_to (high k) (low k)) ∙ key_below (get_or es i some_entry).0 (get_or es j some_entry).0
        (sym (λ k. key_cmp (first k) (second k)) ∙ less)

-- a row whose key is new repeats none
pub new_key : (table : List Rule) (place : ℕ) (places : BTreeMap RowKey ℕ) (r : Rule) → place < length table → HasPlaces table place places
    → place_under places (key_of r) ≡ None → repeat_at table place r ≡ None
new_key table place places r inside h new =
    ap (option_map (λ i. (i, place))) (position_nowhere (λ earlier. same_titles earlier r) (take place table) (λ i d lt.
    let short : i < place = omega (arith, lt, length-take-le place table (omega arith)) in
    false_from_ne_true (same_titles (get_or (take place table) i d) r) (λ same.
    let q : Rule = get_or table i d in
    let is : get_or (take place table) i d ≡ q = get_or-take place table i d short in
    let equal : titles_at table i ≡ key_titles (key_of r) = at_place table i q (slice_get-get_or table i d (omega arith))
    ∙ titles_equal q r (ap (λ (x : Rule). same_titles x r) (sym is) ∙ same) in
    none_is i (sym new ∙ h.whole (key_of r) i short equal))))

-- a row whose key was there repeats the row at the place under it, and none before that one
pub known_key : (table : List Rule) (place first : ℕ) (places : BTreeMap RowKey ℕ) (r : Rule) → place < length table
    → HasPlaces table place places → place_under places (key_of r) ≡ Some first → repeat_at table place r ≡ Some (first, place)
known_key table place first places r inside h known =
    ap (option_map (λ i. (i, place)))
    (position_here (λ earlier. same_titles earlier r) (take place table) first q (omega (arith, before, size))
    (get_or-take place table first q before ∙ own) same (λ i d le low.
    let short : i < place = omega (arith, low, before) in
    false_from_ne_true (same_titles (get_or (take place table) i d) r) (λ other.
    let p : Rule = get_or table i d in
    let is : get_or (take place table) i d ≡ p = get_or-take place table i d short in
    let equal : titles_at table i ≡ key_titles (key_of r) = at_place table i p (slice_get-get_or table i d (omega arith))
    ∙ titles_equal p r (ap (λ (x : Rule). same_titles x r) (sym is) ∙ other) in
    let e : i ≡ first = some_is i first (sym (h.whole (key_of r) i short equal) ∙ known) in
    omega arith)))
  where
    before : first < place
    before = (h.found (key_of r) first known).0

    q : Rule
    q = get_or table first r

    here : slice_get table first ≡ Some q
    here = slice_get-get_or table first r (let lt = before in omega arith)

    own : get_or table first q ≡ q
    own = get_or_from_slice_get table first q q here

    same : same_titles q r ≡ true
    same = same_titles-own q r (titles_own q r (sym (at_place table first q here) ∙ (h.found (key_of r) first known).1))

    size : length (take place table) ≡ place
    size = length-take-le place table (omega arith)
