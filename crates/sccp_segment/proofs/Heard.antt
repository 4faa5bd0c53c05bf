-- What a pool answers, by the segments of one key that it has heard.
use Rattle.std.specs.Prelude.{◌≡◌, ◌↔◌, ◌⊎◌, ℕ, ◌+◌, ◌≤◌, ◌==◌, nat_le, Bool, true, false, cond, not, ◌&&◌, ◌||◌, if◌then◌else◌, is_err}
use Rattle.std.specs.Prelude.{List, [], ◌∷◌, ◌++◌, length, Option, Some, None, Result, Ok, Err, OnOk, OnErr, refl}
use Rattle.std.specs.List.{list_any}
use Rattle.std.specs.Option.{option_or}
use Rattle.std.proofs.Common.{inl, inr, ⊎_elim, sym, ◌∙◌, ap, subst, arith, append_assoc}
use Rattle.std.proofs.lemmas.Bool.{false≢true, cond-true, cond-false}
use Rattle.std.proofs.lemmas.Bool.Decides.{Decides-eqb}
use Rattle.std.proofs.lemmas.List.{append-nil}
use Rattle.std.proofs.lemmas.List.Concat.{flat_map-append}
use Rattle.std.proofs.lemmas.List.Folds.{list_any-append}
use Rattle.sccp_base.proofs.Among.{same_bool}
use Rattle.sccp_segment.specs.declared.key.Key.{Key}
use Rattle.sccp_segment.specs.declared.segment.Segment.{Segment}
use Rattle.sccp_segment.specs.declared.run.Run.{Run}
use Rattle.sccp_segment.specs.declared.arrival.Arrival.{Arrival}
use Rattle.sccp_segment.specs.declared.taken.Taken.{Taken}
use Rattle.sccp_segment.specs.declared.taken.Taken.TheVariants.{More, Whole, Dropped}
use Rattle.sccp_segment.specs.declared.taken.Why.TheVariants.{NotFirst, OutOfStep, Restarted}
use Rattle.sccp_segment.specs.declared.pool_fault.PoolFault.{PoolFault}
use Rattle.sccp_segment.specs.declared.pool_fault.PoolFault.TheVariants as faults
use Rattle.sccp_segment.specs.Keys.{same_key}
use Rattle.sccp_segment.specs.Pooling.{under_way, others, run, Outcome, answering, started, first_taken, appended, next_taken, took}
use Rattle.sccp_segment.specs.Reassembly.{is_first, last_message, falls_to_zero, data_of, whole, answer_to, runs_after, pooled, is_refused}
use Rattle.sccp_segment.specs.Reassembly.{heard_from, heard}
use Rattle.sccp_segment.proofs.Keys.{key_is, key_itself}
use Rattle.sccp_segment.proofs.Runs.{found_none, found_other, found_behind, others_none}

-- ---- one segment more

abbrev grown : List Segment → Segment → List Segment
grown [] s = []
grown (x ∷ xs) s = x ∷ (xs ++ s ∷ [])

last_of_first : (l : List Segment) (s : Segment) → s.first ≡ true → last_message (l ++ s ∷ []) ≡ s ∷ []
last_of_first [] s e = cond-true (s.first && true) (s ∷ []) [] (ap (λ b. b && true) e)
last_of_first (x ∷ l) s e =
    cond-false (x.first && not (list_any is_first (l ++ s ∷ []))) (x ∷ (l ++ s ∷ [])) (last_message (l ++ s ∷ []))
    (not_last x.first (list_any is_first (l ++ s ∷ [])) among) ∙ last_of_first l s e
  where
    or-last : (b : Bool) → (b || (true || false)) ≡ true
    or-last true = refl
    or-last false = refl

    among : list_any is_first (l ++ s ∷ []) ≡ true
    among = list_any-append is_first l (s ∷ []) ∙ ap (λ b. list_any is_first l || (b || false)) e ∙ or-last (list_any is_first l)

    not_last : (a b : Bool) → b ≡ true → (a && not b) ≡ false
    not_last true b h = ap not h
    not_last false b h = refl

last_of_other : (l : List Segment) (s : Segment) → s.first ≡ false → last_message (l ++ s ∷ []) ≡ grown (last_message l) s
last_of_other [] s e = cond-false (s.first && true) (s ∷ []) [] (ap (λ b. b && true) e)
last_of_other (x ∷ l) s e =
    (λ i. cond (x.first && not (same i)) (x ∷ (l ++ s ∷ [])) (last_of_other l s e i)) ∙ by_test (x.first && not (list_any is_first l))
  where
    or-false : (b : Bool) → (b || (false || false)) ≡ b
    or-false true = refl
    or-false false = refl

    same : list_any is_first (l ++ s ∷ []) ≡ list_any is_first l
    same = list_any-append is_first l (s ∷ []) ∙ ap (λ b. list_any is_first l || (b || false)) e ∙ or-false (list_any is_first l)

    by_test : (b : Bool) → cond b (x ∷ (l ++ s ∷ [])) (grown (last_message l) s) ≡ grown (cond b (x ∷ l) (last_message l)) s
    by_test true = refl
    by_test false = refl

-- the remaining number of the last segment, if the numbers fall by one at each
abbrev pub falling : List Segment → Option ℕ
falling [] = None
falling (s ∷ []) = Some s.remaining
falling (s ∷ t ∷ later) = if t.remaining + 1 == s.remaining then falling (t ∷ later) else None

abbrev next_number : Segment → Option ℕ → Option ℕ
next_number s None = None
next_number s (Some n) = if s.remaining + 1 == n then Some s.remaining else None

falling_more : (x : Segment) (xs : List Segment) (s : Segment) → falling (x ∷ (xs ++ s ∷ [])) ≡ next_number s (falling (x ∷ xs))
falling_more x [] s = refl
falling_more x (y ∷ ys) s =
    elim (y.remaining + 1 == x.remaining) as (λ b. cond b (falling (y ∷ (ys ++ s ∷ []))) None
    ≡ next_number s (cond b (falling (y ∷ ys)) None)) [
      | true ↦ falling_more y ys s
      | false ↦ refl
    ]

falling_grown : (l : List Segment) (s : Segment) → falling (grown l s) ≡ next_number s (falling l)
falling_grown [] s = refl
falling_grown (x ∷ xs) s = falling_more x xs s

data_grown : (l : List Segment) (s : Segment) (n : ℕ) → falling l ≡ Some n → data_of (grown l s) ≡ data_of l ++ s.payload
data_grown [] s n e = absurd (cc)
data_grown (x ∷ xs) s n e = flat_map-append (λ t. t.payload) (x ∷ xs) (s ∷ [])
    ∙ ap (λ (o : List ℕ). data_of (x ∷ xs) ++ o) (append-nil s.payload)

-- the whole message, by the remaining number that its segments have reached
abbrev whole_at : Option ℕ → List ℕ → Option (List ℕ)
whole_at None octets = None
whole_at (Some n) octets = if n == 0 then Some octets else None

abbrev is_zero : Option ℕ → Bool
is_zero None = false
is_zero (Some n) = n == 0

falls_is : (l : List Segment) → falls_to_zero l ≡ is_zero (falling l)
falls_is [] = refl
falls_is (s ∷ []) = refl
falls_is (s ∷ t ∷ later) =
    elim (t.remaining + 1 == s.remaining) as (λ b. (b && falls_to_zero (t ∷ later)) ≡ is_zero (cond b (falling (t ∷ later)) None)) [
      | true ↦ falls_is (t ∷ later)
      | false ↦ refl
    ]

whole_is : (l : List Segment) → whole l ≡ whole_at (falling (last_message l)) (data_of (last_message l))
whole_is l = ap (λ b. cond b (Some (data_of (last_message l))) None) (falls_is (last_message l)) ∙ by_number (falling (last_message l))
  where
    by_number : (o : Option ℕ) → cond (is_zero o) (Some (data_of (last_message l))) None ≡ whole_at o (data_of (last_message l))
    by_number None = refl
    by_number (Some n) = refl

-- ---- how a key's run agrees with what was heard of it

-- nothing is under way: no further segment is in step; or the run has what arrived of the last message
abbrev pub InStep : Option Run → List Segment → Type 0
InStep None l = (falling (last_message l) ≡ None) ⊎ (falling (last_message l) ≡ Some 0)
InStep (Some r) l = (falling (last_message l) ≡ Some r.remaining) × (1 ≤ r.remaining) × (r.payload ≡ data_of (last_message l))

-- what one step of a pool does for its key
pub record IsStep (key : Key) (l : List Segment) (o : Outcome) : Type 0 where
  pub stands : InStep (under_way o.runs key) l
  pub tells : (x : List ℕ) → (o.answer ≡ Ok (Whole x)) ↔ (whole l ≡ Some x)

abbrev is_answer : List ℕ → Result Taken PoolFault
is_answer octets = Ok (Whole octets)

never : (a : Result Taken PoolFault) (w : Option (List ℕ)) → ((x : List ℕ) → a ≡ is_answer x → ⊥) → w ≡ None → (x : List ℕ)
    → (a ≡ is_answer x) ↔ (w ≡ Some x)
never a w other e x = (λ h. absurd (other x h), λ h. absurd (nothing (sym e ∙ h)))
  where
    nothing : None ≡ Some x → ⊥
    nothing h = cc

always : (d : List ℕ) (w : Option (List ℕ)) → w ≡ Some d → (x : List ℕ) → (is_answer d ≡ is_answer x) ↔ (w ≡ Some x)
always d w e x = (λ h. e ∙ ap Some (same_answer h), λ h. ap is_answer (same_octets (sym e ∙ h)))
  where
    same_answer : is_answer d ≡ is_answer x → d ≡ x
    same_answer h = cc

    same_octets : Some d ≡ Some x → d ≡ x
    same_octets h = cc

no_more : (x : List ℕ) → Ok More ≡ is_answer x → ⊥
no_more x h = cc

no_dropped_first : (x : List ℕ) → Ok (Dropped NotFirst) ≡ is_answer x → ⊥
no_dropped_first x h = cc

no_dropped_step : (x : List ℕ) → Ok (Dropped OutOfStep) ≡ is_answer x → ⊥
no_dropped_step x h = cc

no_dropped_old : (x : List ℕ) → Ok (Dropped Restarted) ≡ is_answer x → ⊥
no_dropped_old x h = cc

-- ---- the runs of the key afterwards

gone : (runs : List Run) (key : Key) → under_way (others runs key) key ≡ None
gone runs key = found_none (others runs key) key (others_none runs key)

put_there : (runs : List Run) (key : Key) (remaining : ℕ) (payload : List ℕ)
    → under_way (others runs key ++ run key remaining payload ∷ []) key ≡ Some (run key remaining payload)
put_there runs key remaining payload =
    found_behind (others runs key) (run key remaining payload) key
    ∙ (λ i. option_or (gone runs key i) (cond (key_itself key i) (Some (run key remaining payload)) None))

-- ---- the cases of a step

not_zero : (n : ℕ) → (n == 0) ≡ false → 1 ≤ n
not_zero n e = grind (arith, (Decides-eqb n 0).1, false≢true, e)

-- a first segment
begins : (runs : List Run) (key : Key) (l : List Segment) (s : Segment) → s.first ≡ true
    → falling (last_message (l ++ s ∷ [])) ≡ Some s.remaining
begins runs key l s f = ap falling (last_of_first l s f)

data_begins : (l : List Segment) (s : Segment) → s.first ≡ true → data_of (last_message (l ++ s ∷ [])) ≡ s.payload
data_begins l s f = ap data_of (last_of_first l s f) ∙ append-nil s.payload

whole_begins : (l : List Segment) (s : Segment) (b : Bool) → s.first ≡ true → (s.remaining == 0) ≡ b
    → whole (l ++ s ∷ []) ≡ (if b then Some s.payload else None)
whole_begins l s b f e =
    whole_is (l ++ s ∷ []) ∙ (λ i. whole_at (ap falling (last_of_first l s f) i) (data_begins l s f i))
    ∙ ap (λ t. cond t (Some s.payload) None) e

alone : (runs : List Run) (key : Key) (l : List Segment) (s : Segment) → s.first ≡ true → (s.remaining == 0) ≡ true
    → IsStep key (l ++ s ∷ []) (answering (others runs key) (Ok (Whole s.payload)))
alone runs key l s f e = record {
  stands = subst (λ o. InStep o (l ++ s ∷ [])) (sym (gone runs key))
      (inr (ap falling (last_of_first l s f) ∙ ap Some ((Decides-eqb s.remaining 0).0 e)));
  tells = always s.payload (whole (l ++ s ∷ [])) (whole_begins l s true f e);
}

starts : (runs : List Run) (key : Key) (l : List Segment) (s : Segment) (a : Result Taken PoolFault) → s.first ≡ true
    → (s.remaining == 0) ≡ false → ((x : List ℕ) → a ≡ is_answer x → ⊥)
    → IsStep key (l ++ s ∷ []) (answering (others runs key ++ run key s.remaining s.payload ∷ []) a)
starts runs key l s a f e other = record {
  stands = subst (λ o. InStep o (l ++ s ∷ [])) (sym (put_there runs key s.remaining s.payload))
      (ap falling (last_of_first l s f), not_zero s.remaining e, sym (data_begins l s f));
  tells = never a (whole (l ++ s ∷ [])) other (whole_begins l s false f e);
}

-- another segment, if nothing is under way
goes_nowhere : (l : List Segment) (s : Segment) → s.first ≡ false → InStep None l → falling (last_message (l ++ s ∷ [])) ≡ None
goes_nowhere l s f stands =
    ap falling (last_of_other l s f) ∙ falling_grown (last_message l) s
    ∙ ⊎_elim
    (λ (e : falling (last_message l) ≡ None). ap (next_number s) e)
    (λ (e : falling (last_message l) ≡ Some 0). ap (next_number s) e
    ∙ cond-false (s.remaining + 1 == 0) (Some s.remaining) None (later_not_none s.remaining))
    stands
  where
    later_not_none : (n : ℕ) → (n + 1 == 0) ≡ false
    later_not_none n = same_bool (n + 1 == 0) false (λ e. absurd (omega (arith, (Decides-eqb (n + 1) 0).0 e))) (λ e. absurd (false≢true e))

whole_none : (l : List Segment) → falling (last_message l) ≡ None → whole l ≡ None
whole_none l e = whole_is l ∙ ap (λ o. whole_at o (data_of (last_message l))) e

dropped : (runs : List Run) (key : Key) (l : List Segment) (s : Segment) → s.first ≡ false → under_way runs key ≡ None → InStep None l
    → IsStep key (l ++ s ∷ []) (answering runs (Ok (Dropped NotFirst)))
dropped runs key l s f none stands = record {
  stands = subst (λ o. InStep o (l ++ s ∷ [])) (sym none) (inl (goes_nowhere l s f stands));
  tells = never (Ok (Dropped NotFirst)) (whole (l ++ s ∷ [])) no_dropped_first (whole_none (l ++ s ∷ []) (goes_nowhere l s f stands));
}

-- another segment, if a run is under way
goes : (l : List Segment) (s : Segment) (old : Run) (b : Bool) → s.first ≡ false → InStep (Some old) l
    → (s.remaining + 1 == old.remaining) ≡ b → falling (last_message (l ++ s ∷ [])) ≡ (if b then Some s.remaining else None)
goes l s old b f stands e =
    ap falling (last_of_other l s f) ∙ falling_grown (last_message l) s ∙ ap (next_number s) stands.0
    ∙ ap (λ t. cond t (Some s.remaining) None) e

data_goes : (l : List Segment) (s : Segment) (old : Run) → s.first ≡ false → InStep (Some old) l
    → data_of (last_message (l ++ s ∷ [])) ≡ old.payload ++ s.payload
data_goes l s old f stands =
    ap data_of (last_of_other l s f) ∙ data_grown (last_message l) s old.remaining stands.0
    ∙ ap (λ (o : List ℕ). o ++ s.payload) (sym stands.2)

whole_goes : (l : List Segment) (s : Segment) (old : Run) (b : Bool) → s.first ≡ false → InStep (Some old) l
    → (s.remaining + 1 == old.remaining) ≡ true → (s.remaining == 0) ≡ b
    → whole (l ++ s ∷ []) ≡ (if b then Some (old.payload ++ s.payload) else None)
whole_goes l s old b f stands e z =
    whole_is (l ++ s ∷ []) ∙ (λ i. whole_at (goes l s old true f stands e i) (data_goes l s old f stands i))
    ∙ ap (λ t. cond t (Some (old.payload ++ s.payload)) None) z

out_of_step : (runs : List Run) (key : Key) (l : List Segment) (s : Segment) (old : Run) → s.first ≡ false → InStep (Some old) l
    → (s.remaining + 1 == old.remaining) ≡ false → IsStep key (l ++ s ∷ []) (answering (others runs key) (Ok (Dropped OutOfStep)))
out_of_step runs key l s old f stands e = record {
  stands = subst (λ o. InStep o (l ++ s ∷ [])) (sym (gone runs key)) (inl (goes l s old false f stands e));
  tells = never (Ok (Dropped OutOfStep)) (whole (l ++ s ∷ [])) no_dropped_step (whole_none (l ++ s ∷ []) (goes l s old false f stands e));
}

in_step : (runs : List Run) (key : Key) (l : List Segment) (s : Segment) (old : Run) → s.first ≡ false → InStep (Some old) l
    → (s.remaining + 1 == old.remaining) ≡ true → IsStep key (l ++ s ∷ []) (appended runs key s old)
in_step runs key l s old f stands e =
    elim (s.remaining == 0) as (λ b. (s.remaining == 0) ≡ b
    → IsStep key (l ++ s ∷ []) (cond b (answering (others runs key) (Ok (Whole (old.payload ++ s.payload))))
    (answering (others runs key ++ run key s.remaining (old.payload ++ s.payload) ∷ []) (Ok More)))) [
      | true ↦ λ z. record {
        stands = subst (λ o. InStep o (l ++ s ∷ [])) (sym (gone runs key))
            (inr (goes l s old true f stands e ∙ ap Some ((Decides-eqb s.remaining 0).0 z)));
        tells = always (old.payload ++ s.payload) (whole (l ++ s ∷ [])) (whole_goes l s old true f stands e z);
      }
      | false ↦ λ z. record {
        stands = subst (λ o. InStep o (l ++ s ∷ [])) (sym (put_there runs key s.remaining (old.payload ++ s.payload)))
            (goes l s old true f stands e, not_zero s.remaining z, sym (data_goes l s old f stands));
        tells = never (Ok More) (whole (l ++ s ∷ [])) no_more (whole_goes l s old false f stands e z);
      }
    ] refl

-- ---- a step

first_step : (runs : List Run) (key : Key) (l : List Segment) (s : Segment) (o : Option Run) → s.first ≡ true → (s.remaining == 0) ≡ false
    → is_err (started runs key s o).answer ≡ false → IsStep key (l ++ s ∷ []) (started runs key s o)
first_step runs key l s (Some old) f e accepted = starts runs key l s (Ok (Dropped Restarted)) f e no_dropped_old
first_step runs key l s None f e accepted =
    elim (nat_le 64 (length runs)) as (λ b. is_err (cond b (answering runs (Err faults.Full))
    (answering (others runs key ++ run key s.remaining s.payload ∷ []) (Ok More))).answer ≡ false
    → IsStep key (l ++ s ∷ []) (cond b (answering runs (Err faults.Full))
    (answering (others runs key ++ run key s.remaining s.payload ∷ []) (Ok More)))) [
      | true ↦ λ r. absurd (false≢true (sym r))
      | false ↦ λ r. starts runs key l s (Ok More) f e no_more
    ] accepted

next_step : (runs : List Run) (key : Key) (l : List Segment) (s : Segment) (o : Option Run) → s.first ≡ false → under_way runs key ≡ o
    → InStep o l → IsStep key (l ++ s ∷ []) (next_taken runs key s o)
next_step runs key l s None f u stands = dropped runs key l s f u stands
next_step runs key l s (Some old) f u stands =
    elim (s.remaining + 1 == old.remaining) as (λ b. (s.remaining + 1 == old.remaining) ≡ b
    → IsStep key (l ++ s ∷ []) (cond b (appended runs key s old) (answering (others runs key) (Ok (Dropped OutOfStep))))) [
      | true ↦ λ e. in_step runs key l s old f stands e
      | false ↦ λ e. out_of_step runs key l s old f stands e
    ] refl

-- a segment that is not refused
pub is_step : (runs : List Run) (key : Key) (l : List Segment) (s : Segment) → InStep (under_way runs key) l
    → is_err (took runs key s).answer ≡ false → IsStep key (l ++ s ∷ []) (took runs key s)
is_step runs key l s stands accepted =
    elim s.first as (λ f. s.first ≡ f → is_err (cond f (first_taken runs key s) (next_taken runs key s (under_way runs key))).answer ≡ false
    → IsStep key (l ++ s ∷ []) (cond f (first_taken runs key s) (next_taken runs key s (under_way runs key)))) [
      | true ↦ λ f r.
          elim (s.remaining == 0) as (λ b. (s.remaining == 0) ≡ b
          → is_err (cond b (answering (others runs key) (Ok (Whole s.payload))) (started runs key s (under_way runs key))).answer
          ≡ false → IsStep key (l ++ s ∷ []) (cond b (answering (others runs key) (Ok (Whole s.payload)))
          (started runs key s (under_way runs key)))) [
            | true ↦ λ e q. alone runs key l s f e
            | false ↦ λ e q. first_step runs key l s (under_way runs key) f e q
          ] refl r
      | false ↦ λ f r. next_step runs key l s (under_way runs key) f refl stands
    ] refl accepted

-- ---- the other keys

choose : (P : Outcome → Type 0) (b : Bool) (o p : Outcome) → (b ≡ true → P o) → (b ≡ false → P p) → P (cond b o p)
choose P true o p f g = f refl
choose P false o p f g = g refl

other_put : (runs : List Run) (key other : Key) (remaining : ℕ) (payload : List ℕ) → same_key key other ≡ false
    → under_way (others runs key ++ run key remaining payload ∷ []) other ≡ under_way runs other
other_put runs key other remaining payload apart =
    found_behind (others runs key) (run key remaining payload) other
    ∙ (λ i. option_or (found_other runs key other apart i) (cond (apart i) (Some (run key remaining payload)) None))
    ∙ or_none (under_way runs other)
  where
    or_none : (o : Option Run) → option_or o None ≡ o
    or_none None = refl
    or_none (Some r) = refl

-- a segment changes nothing for another key
pub others_stay : (runs : List Run) (key other : Key) (s : Segment) → same_key key other ≡ false
    → under_way (took runs key s).runs other ≡ under_way runs other
others_stay runs key other s apart =
    let P : Outcome → Type 0 = λ o. under_way o.runs other ≡ under_way runs other in
    choose P s.first (first_taken runs key s) (next_taken runs key s (under_way runs key))
    (λ f. choose P (s.remaining == 0) _ _ (λ e. found_other runs key other apart) (λ e. by_run (under_way runs key)))
    (λ f. next_by (under_way runs key))
  where
    by_run : (o : Option Run) → under_way (started runs key s o).runs other ≡ under_way runs other
    by_run None = choose (λ o. under_way o.runs other ≡ under_way runs other) (nat_le 64 (length runs)) (answering runs (Err faults.Full))
        (answering (others runs key ++ run key s.remaining s.payload ∷ []) (Ok More)) (λ e. refl)
        (λ e. other_put runs key other s.remaining s.payload apart)
    by_run (Some old) = other_put runs key other s.remaining s.payload apart

    next_by : (o : Option Run) → under_way (next_taken runs key s o).runs other ≡ under_way runs other
    next_by None = refl
    next_by (Some old) =
        choose (λ o. under_way o.runs other ≡ under_way runs other) (s.remaining + 1 == old.remaining) (appended runs key s old)
        (answering (others runs key) (Ok (Dropped OutOfStep)))
        (λ e. choose (λ o. under_way o.runs other ≡ under_way runs other) (s.remaining == 0)
        (answering (others runs key) (Ok (Whole (old.payload ++ s.payload))))
        (answering (others runs key ++ run key s.remaining (old.payload ++ s.payload) ∷ []) (Ok More))
        (λ z. found_other runs key other apart) (λ z. other_put runs key other s.remaining (old.payload ++ s.payload) apart))
        (λ e. found_other runs key other apart)

pub others_stay_by : {A E : Type 0} (r : Result A E) (old new : List Run) (key other : Key) (s : Segment)
    → OnOk r (new ≡ (took old key s).runs) → OnErr r (new ≡ old) → same_key key other ≡ false → under_way new other ≡ under_way old other
others_stay_by (Ok x) old new key other s e f apart = ap (λ rs. under_way rs other) e ∙ others_stay old key other s apart
others_stay_by (Err x) old new key other s e f apart = ap (λ rs. under_way rs other) f

-- a refusal leaves the runs
pub refusal_leaves : (runs : List Run) (key : Key) (s : Segment) → is_err (took runs key s).answer ≡ true → (took runs key s).runs ≡ runs
refusal_leaves runs key s refused =
    let P : Outcome → Type 0 = λ o. is_err o.answer ≡ true → o.runs ≡ runs in
    choose P s.first (first_taken runs key s) (next_taken runs key s (under_way runs key))
    (λ f. choose P (s.remaining == 0) _ _ (λ e r. absurd (false≢true r)) (λ e. by_run (under_way runs key)))
    (λ f. next_by (under_way runs key))
    refused
  where
    by_run : (o : Option Run) → is_err (started runs key s o).answer ≡ true → (started runs key s o).runs ≡ runs
    by_run None = choose (λ o. is_err o.answer ≡ true → o.runs ≡ runs) (nat_le 64 (length runs)) (answering runs (Err faults.Full))
        (answering (others runs key ++ run key s.remaining s.payload ∷ []) (Ok More)) (λ e r. refl) (λ e r. absurd (false≢true r))
    by_run (Some old) = λ r. absurd (false≢true r)

    next_by : (o : Option Run) → is_err (next_taken runs key s o).answer ≡ true → (next_taken runs key s o).runs ≡ runs
    next_by None = λ r. refl
    next_by (Some old) =
        choose (λ o. is_err o.answer ≡ true → o.runs ≡ runs) (s.remaining + 1 == old.remaining) (appended runs key s old)
        (answering (others runs key) (Ok (Dropped OutOfStep)))
        (λ e. choose (λ o. is_err o.answer ≡ true → o.runs ≡ runs) (s.remaining == 0)
        (answering (others runs key) (Ok (Whole (old.payload ++ s.payload))))
        (answering (others runs key ++ run key s.remaining (old.payload ++ s.payload) ∷ []) (Ok More)) (λ z r. absurd (false≢true r))
        (λ z r. absurd (false≢true r)))
        (λ e r. absurd (false≢true r))

-- ---- every list of arrivals

-- what one arrival adds to what is heard of a key
abbrev pub heard_of : Key → List Run → Arrival → List Segment
heard_of key runs a = if same_key a.key key && not (is_refused runs a) then a.segment ∷ [] else []

one_more : (runs : List Run) (key : Key) (l : List Segment) (a : Arrival) → InStep (under_way runs key) l
    → InStep (under_way (runs_after runs a) key) (l ++ heard_of key runs a)
one_more runs key l a stands =
    elim (same_key a.key key) as (λ b. same_key a.key key ≡ b
    → InStep (under_way (runs_after runs a) key) (l ++ cond (b && not (is_refused runs a)) (a.segment ∷ []) [])) [
      | true ↦ λ e.
          let is : a.key ≡ key = key_is a.key key e in
          let same : InStep (under_way runs a.key) l = subst (λ k. InStep (under_way runs k) l) (sym is) stands in
          elim (is_refused runs a) as (λ b. is_refused runs a ≡ b
          → InStep (under_way (runs_after runs a) key) (l ++ cond (not b) (a.segment ∷ []) [])) [
            | true ↦ λ r. subst (λ rs. InStep (under_way rs key) (l ++ [])) (sym (refusal_leaves runs a.key a.segment r))
                (subst (λ t. InStep (under_way runs key) t) (sym (append-nil l)) stands)
            | false ↦ λ r. subst (λ k. InStep (under_way (runs_after runs a) k) (l ++ a.segment ∷ [])) is
                (is_step runs a.key l a.segment same r).stands
          ] refl
      | false ↦ λ e.
          subst (λ o. InStep o (l ++ [])) (sym (others_stay runs a.key key a.segment e))
          (subst (λ t. InStep (under_way runs key) t) (sym (append-nil l)) stands)
    ] refl

pub all_in_step : (runs : List Run) (key : Key) (l : List Segment) (arrivals : List Arrival) → InStep (under_way runs key) l
    → InStep (under_way (pooled runs arrivals) key) (l ++ heard_from runs key arrivals)
all_in_step runs key l [] stands = subst (λ t. InStep (under_way runs key) t) (sym (append-nil l)) stands
all_in_step runs key l (a ∷ rest) stands =
    let next : InStep (under_way (pooled (runs_after runs a) rest) key) ((l ++ heard_of key runs a)
    ++ heard_from (runs_after runs a) key rest) = all_in_step (runs_after runs a) key (l ++ heard_of key runs a) rest
    (one_more runs key l a stands) in
    subst (λ t. InStep (under_way (pooled (runs_after runs a) rest) key) t)
    (append_assoc l (heard_of key runs a) (heard_from (runs_after runs a) key rest)) next

-- what is heard of one arrival more
heard_last : (runs : List Run) (key : Key) (arrivals : List Arrival) (a : Arrival)
    → heard_from runs key (arrivals ++ a ∷ []) ≡ heard_from runs key arrivals ++ heard_of key (pooled runs arrivals) a
heard_last runs key [] a = append-nil (heard_of key runs a)
heard_last runs key (b ∷ rest) a = ap (λ (t : List Segment). heard_of key runs b ++ t) (heard_last (runs_after runs b) key rest a)
    ∙ sym (append_assoc (heard_of key runs b) (heard_from (runs_after runs b) key rest) (heard_of key (pooled (runs_after runs b) rest) a))

pub tells_whole : (arrivals : List Arrival) (a : Arrival) (x : List ℕ) → is_refused (pooled [] arrivals) a ≡ false
    → (answer_to (pooled [] arrivals) a ≡ Ok (Whole x)) ↔ (whole (heard a.key (arrivals ++ a ∷ [])) ≡ Some x)
tells_whole arrivals a x accepted =
    let runs : List Run = pooled [] arrivals in
    let stands : InStep (under_way runs a.key) (heard a.key arrivals) = all_in_step [] a.key [] arrivals (inl refl) in
    let it : heard_of a.key runs a ≡ a.segment ∷ [] = λ i. cond (key_itself a.key i && not (accepted i)) (a.segment ∷ []) [] in
    let is : heard a.key (arrivals ++ a ∷ []) ≡ heard a.key arrivals ++ a.segment ∷ [] = heard_last [] a.key arrivals a
    ∙ ap (λ (t : List Segment). heard a.key arrivals ++ t) it in
    subst (λ t. (answer_to runs a ≡ Ok (Whole x)) ↔ (whole t ≡ Some x)) (sym is)
    ((is_step runs a.key (heard a.key arrivals) a.segment stands accepted).tells x)
