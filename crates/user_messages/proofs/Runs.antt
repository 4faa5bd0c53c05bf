-- The chunks that are put together are a whole user message.
use Rattle.std.specs.Prelude.{◌≡◌, ◌⊎◌, ℕ, ◌+◌, true, false, cond, not, List, [], ◌∷◌, ◌++◌, length, find, drop}
use Rattle.std.specs.Prelude.{Option, Some, None, refl, option_map, Contains}
use Rattle.std.proofs.Common.{zero, suc, inl, inr, ⊎_elim, sym, ap, subst, ◌∙◌, append_assoc}
use Rattle.std.proofs.lemmas.List.{append-nil}
use Rattle.sccp_base.proofs.Among.{Among, Among-unfilter, find-Some}
use Rattle.user_messages.specs.declared.given.Given.TheVariants.{Whole}
use Rattle.user_messages.specs.Chunks.{goes_on}
use Rattle.user_messages.specs.UserMessages.{IsInStep, Begins, Ends, IsUserMessage, message_of}
use Rattle.user_messages.specs.Gathering.{Received, Gathered, chunks_of, has_key, nothing, follow, up_to, after, both_parts, run_of}
use Rattle.user_messages.specs.Gathering.{first_copy, took}
use Rattle.user_messages.specs.Captures.{kept_after, last_given, IsMadeOf}
use Rattle.user_messages.proofs.Lists.{Among-left, Among-right, Among-parts, All-from_among, contained}
use Rattle.user_messages.proofs.Repeats.{took_cases, first_cases, waits_cases, along}

-- ---- chunks in step

pub in_step-joined : (front : List Received) (c : Received) (back : List Received) → IsInStep (chunks_of (front ++ c ∷ []))
    → IsInStep (chunks_of (c ∷ back)) → IsInStep (chunks_of (front ++ c ∷ back))
in_step-joined [] c back h k = k
in_step-joined (a ∷ []) c back h k = (h.0, k)
in_step-joined (a ∷ b ∷ r) c back h k = (h.0, in_step-joined (b ∷ r) c back h.1 k)

pub begins-before : (front : List Received) (c : Received) (back : List Received) → Begins (chunks_of (front ++ c ∷ []))
    → Begins (chunks_of (front ++ c ∷ back))
begins-before [] c back h = h
begins-before (a ∷ r) c back h = h

pub ends-after : (front : List Received) (c : Received) (back : List Received) → Ends (chunks_of (c ∷ back))
    → Ends (chunks_of (front ++ c ∷ back))
ends-after [] c back h = h
ends-after (a ∷ []) c back h = h
ends-after (a ∷ b ∷ r) c back h = ends-after (b ∷ r) c back h

-- ---- what the two searches give

followed : (f : List Received → List Received) (next : Received → Option (List Received)) (o : Option Received) (run : List Received)
    → option_map f (follow next o) ≡ Some run → (d : Received) × (r : List Received) × (o ≡ Some d) × (next d ≡ Some r) × (f r ≡ run)
followed f next None run h = absurd (cc)
followed f next (Some d) run h = by_rest (next d) refl h
  where
    by_rest : (o : Option (List Received)) → next d ≡ o → option_map f o ≡ Some run
        → (e : Received) × (r : List Received) × (Some d ≡ Some e) × (next e ≡ Some r) × (f r ≡ run)
    by_rest None e k = absurd (cc)
    by_rest (Some r) e k = let same : f r ≡ run = cc in (d, r, refl, e, same)

followed_on : (next : Received → Option (List Received)) (o : Option Received) (run : List Received)
    → follow (λ d. option_map (λ r. d ∷ r) (next d)) o ≡ Some run
    → (d : Received) × (r : List Received) × (o ≡ Some d) × (next d ≡ Some r) × (d ∷ r ≡ run)
followed_on next None run h = absurd (cc)
followed_on next (Some d) run h = by_rest (next d) refl h
  where
    by_rest : (o : Option (List Received)) → next d ≡ o → option_map (λ r. d ∷ r) o ≡ Some run
        → (e : Received) × (r : List Received) × (Some d ≡ Some e) × (next e ≡ Some r) × (e ∷ r ≡ run)
    by_rest None e k = absurd (cc)
    by_rest (Some r) e k = let same : d ∷ r ≡ run = cc in (d, r, refl, e, same)

-- the chunks up to c
record UpTo (waiting : List Received) (c : Received) (run : List Received) : Type 0 where
  before : List Received
  parts : run ≡ before ++ c ∷ []
  waited : (d : Received) → Among d before → Among d waiting
  begins : Begins (chunks_of (before ++ c ∷ []))
  in_step : IsInStep (chunks_of (before ++ c ∷ []))

up_to_is : (most : ℕ) (waiting : List Received) (c : Received) (run : List Received) → up_to most waiting c ≡ Some run → UpTo waiting c run
unfolding up_to
up_to_is zero waiting c run h = absurd (cc)
up_to_is (suc most) waiting c run h =
    elim (c.chunk.begins) as (λ b. c.chunk.begins ≡ b
    → cond b (Some (c ∷ [])) (option_map (λ r. r ++ c ∷ []) (follow (up_to most waiting) (find (λ d. goes_on d.chunk c.chunk) waiting)))
    ≡ Some run
    → UpTo waiting c run) [
      | true ↦ λ e k. let same : run ≡ c ∷ [] = cc in
          record { before = []; parts = same; waited = λ d m. absurd m; begins = e; in_step = tt }
      | false ↦ λ e k.
          let t = followed (λ r. r ++ c ∷ []) (up_to most waiting) (find (λ d. goes_on d.chunk c.chunk) waiting) run k in
          let found = find-Some (λ d. goes_on d.chunk c.chunk) t.0 waiting t.2 in
          more t.0 t.1 found.0 found.1 (up_to_is most waiting t.0 t.1 t.3) t.4
    ] refl h
  where
    more : (d : Received) (r : List Received) → Among d waiting → goes_on d.chunk c.chunk ≡ true → UpTo waiting d r → r ++ c ∷ [] ≡ run
        → UpTo waiting c run
    more d r m g u e = record {
      before = u.before ++ d ∷ [];
      parts = sym e ∙ ap (λ (l : List Received). l ++ c ∷ []) u.parts;
      waited = λ x n. ⊎_elim (λ a. u.waited x a) (λ b. ⊎_elim (λ (q : d ≡ x). subst (λ y. Among y waiting) q m) (λ z. absurd z) b)
          (Among-parts x u.before (d ∷ []) n);
      begins = subst (λ l. Begins (chunks_of l)) (sym (append_assoc u.before (d ∷ []) (c ∷ [])))
          (begins-before u.before d (c ∷ []) u.begins);
      in_step = subst (λ l. IsInStep (chunks_of l)) (sym (append_assoc u.before (d ∷ []) (c ∷ [])))
          (in_step-joined u.before d (c ∷ []) u.in_step (g, tt));
    }

-- the chunks after c
record OnFrom (waiting : List Received) (c : Received) (back : List Received) : Type 0 where
  waited : (d : Received) → Among d back → Among d waiting
  ends : Ends (chunks_of (c ∷ back))
  in_step : IsInStep (chunks_of (c ∷ back))

after_is : (most : ℕ) (waiting : List Received) (c : Received) (back : List Received) → after most waiting c ≡ Some back
    → OnFrom waiting c back
unfolding after
after_is zero waiting c back h = absurd (cc)
after_is (suc most) waiting c back h =
    elim (c.chunk.ends) as (λ b. c.chunk.ends ≡ b
    → cond b (Some []) (follow (λ d. option_map (λ r. d ∷ r) (after most waiting d)) (find (λ d. goes_on c.chunk d.chunk) waiting))
    ≡ Some back
    → OnFrom waiting c back) [
      | true ↦ λ e k. let same : [] ≡ back = cc in
          subst (OnFrom waiting c) same (record { waited = λ d m. absurd m; ends = e; in_step = tt })
      | false ↦ λ e k.
          let t = followed_on (after most waiting) (find (λ d. goes_on c.chunk d.chunk) waiting) back k in
          let found = find-Some (λ d. goes_on c.chunk d.chunk) t.0 waiting t.2 in
          subst (OnFrom waiting c) t.4 (more t.0 t.1 found.0 found.1 (after_is most waiting t.0 t.1 t.3))
    ] refl h
  where
    more : (d : Received) (r : List Received) → Among d waiting → goes_on c.chunk d.chunk ≡ true → OnFrom waiting d r
        → OnFrom waiting c (d ∷ r)
    more d r m g u = record {
      waited = λ x n. ⊎_elim (λ (q : d ≡ x). subst (λ y. Among y waiting) q m) (λ a. u.waited x a) n;
      ends = u.ends;
      in_step = (g, u.in_step);
    }

-- a run that was found
pub record IsRun (waiting : List Received) (c : Received) (run : List Received) : Type 0 where
  pub waited : (d : Received) → Among d run → Among d waiting ⊎ (c ≡ d)
  pub last_in : Among c run
  pub whole : IsUserMessage (chunks_of run)

both_are : (o p : Option (List Received)) (run : List Received) → both_parts o p ≡ Some run
    → (front : List Received) × (back : List Received) × (o ≡ Some front) × (p ≡ Some back) × (front ++ back ≡ run)
both_are None p run h = absurd (cc)
both_are (Some front) None run h = absurd (cc)
both_are (Some front) (Some back) run h = let same : front ++ back ≡ run = cc in (front, back, refl, refl, same)

pub run_is : (waiting : List Received) (c : Received) (run : List Received) → run_of waiting c ≡ Some run → IsRun waiting c run
unfolding run_of
run_is waiting c run h =
    let t = both_are (up_to (length waiting + 1) waiting c) (after (length waiting + 1) waiting c) run h in
    let u = up_to_is (length waiting + 1) waiting c t.0 t.2 in
    let v = after_is (length waiting + 1) waiting c t.1 t.3 in
    subst (IsRun waiting c) (sym (append_assoc u.before (c ∷ []) t.1) ∙ ap (λ (l : List Received). l ++ t.1) (sym u.parts) ∙ t.4)
    (record {
      waited = λ d m. ⊎_elim (λ a. inl (u.waited d a)) (λ b. ⊎_elim (λ (q : c ≡ d). inr q) (λ n. inl (v.waited d n)) b)
          (Among-parts d u.before (c ∷ t.1) m);
      last_in = Among-right c u.before (c ∷ t.1) (inl refl);
      whole = record {
        begins = begins-before u.before c t.1 u.begins;
        ends = ends-after u.before c t.1 v.ends;
        in_step = in_step-joined u.before c t.1 u.in_step v.in_step;
      };
    })

-- ---- what waits has arrived

pub Among-drop : (d : Received) (xs : List Received) → Among d (drop 1 xs) → Among d xs
Among-drop d [] m = absurd m
Among-drop d (x ∷ xs) m = inr m

pub still_waits : (waiting : List Received) (c d : Received) → Among d (first_copy waiting c).waiting → Among d waiting ⊎ (c ≡ d)
still_waits waiting c d =
    first_cases (λ o. Among d o.waiting → Among d waiting ⊎ (c ≡ d)) waiting c (λ _ _. λ m. inl m)
    (λ run _. λ m. inl (Among-unfilter (λ x. not (has_key run x)) d waiting m).0)
    (λ _. waits_cases (λ o. Among d o.waiting → Among d waiting ⊎ (c ≡ d)) waiting c (λ m. last_of waiting (λ x. x) m)
    (λ _. λ m. last_of (drop 1 waiting) (Among-drop d waiting) m))
  where
    last_of : (front : List Received) → (Among d front → Among d waiting) → Among d (front ++ c ∷ []) → Among d waiting ⊎ (c ≡ d)
    last_of front f m = ⊎_elim (λ a. inl (f a)) (λ b. ⊎_elim (λ (q : c ≡ d). inr q) (λ z. absurd z) b) (Among-parts d front (c ∷ []) m)

abbrev pub WaitingPast : List Received → Gathered → Type 0
WaitingPast past g = (d : Received) → Among d g.waiting → Among d past

pub waiting_past : (past : List Received) (g : Gathered) (c : Received) → WaitingPast past g → WaitingPast (past ++ c ∷ []) (took g c).0
waiting_past past g c h =
    took_cases (λ o. WaitingPast (past ++ c ∷ []) o.0) g c (λ _. λ d m. later d m) (λ _ _. λ d m. Among-left d past (c ∷ []) (h d m))
    (λ _ _. λ d m. later d m)
  where
    later : (d : Received) → Among d (first_copy g.waiting c).waiting → Among d (past ++ c ∷ [])
    later d m =
        ⊎_elim (λ a. Among-left d past (c ∷ []) (h d a)) (λ (q : c ≡ d). Among-right d past (c ∷ []) (inl q)) (still_waits g.waiting c d m)

pub waiting_along : (cs : List Received) → WaitingPast cs (kept_after nothing cs)
waiting_along cs = along WaitingPast waiting_past cs [] nothing (λ d m. absurd m)

-- ---- what is given is a whole user message

pub is_whole : (cs : List Received) (c : Received) (octets : List ℕ) → last_given cs c ≡ Whole octets → IsMadeOf cs c octets
is_whole cs c octets =
    took_cases (λ o. o.1 ≡ Whole octets → IsMadeOf cs c octets) (kept_after nothing cs) c (λ _. made) (λ _ _. λ e. absurd (cc))
    (λ _ _. made)
  where
    single : c.chunk.begins ≡ true → c.chunk.ends ≡ true → c.chunk.payload ≡ octets → IsMadeOf cs c octets
    single b e q = record {
      run = c ∷ [];
      arrived = All-from_among (λ d. Contains (cs ++ c ∷ []) d) (c ∷ [])
          (λ d m. contained d (cs ++ c ∷ []) (Among-right d cs (c ∷ []) m));
      last_in = contained c (c ∷ []) (inl refl);
      whole = record { begins = b; ends = e; in_step = tt };
      octets_are = sym q ∙ sym (append-nil c.chunk.payload);
    }

    several : (run : List Received) → IsRun (kept_after nothing cs).waiting c run → message_of (chunks_of run) ≡ octets
        → IsMadeOf cs c octets
    several run r q = record {
      run = run;
      arrived = All-from_among (λ d. Contains (cs ++ c ∷ []) d) run
          (λ d m. contained d (cs ++ c ∷ []) (⊎_elim (λ a. Among-left d cs (c ∷ []) (waiting_along cs d a))
          (λ (s : c ≡ d). Among-right d cs (c ∷ []) (inl s)) (r.waited d m)));
      last_in = contained c run r.last_in;
      whole = r.whole;
      octets_are = sym q;
    }

    made : (first_copy (kept_after nothing cs).waiting c).given ≡ Whole octets → IsMadeOf cs c octets
    made =
        first_cases (λ o. o.given ≡ Whole octets → IsMadeOf cs c octets) (kept_after nothing cs).waiting c
        (λ b e. λ k. let q : c.chunk.payload ≡ octets = cc in single b e q)
        (λ run e. λ k. let q : message_of (chunks_of run) ≡ octets = cc in several run (run_is (kept_after nothing cs).waiting c run e) q)
        (λ _. waits_cases (λ o. o.given ≡ Whole octets → IsMadeOf cs c octets) (kept_after nothing cs).waiting c (λ e. absurd (cc))
        (λ _. λ e. absurd (cc)))
