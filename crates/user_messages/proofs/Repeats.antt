-- Which chunks repeat others, over the chunks of a capture.
use Rattle.std.specs.Prelude.{◌≡◌, ◌≢◌, ℕ, ◌+◌, ◌<◌, ◌≤◌, ◌==◌, ◌&&◌, true, false, cond, not, List, [], ◌∷◌, ◌++◌, length, take}
use Rattle.std.specs.Prelude.{drop, filter, nat_lt}
use Rattle.std.specs.Prelude.{Option, Some, None, refl, slice_get, option_map}
use Rattle.std.specs.List.{list_any}
use Rattle.std.proofs.Common.{suc, inl, inr, ⊎_elim, sym, ap, subst, ◌∙◌, arith, append_assoc}
use Rattle.std.proofs.lemmas.Bool.{false≢true, cond_both, cases_Bool, ne_eqb, and_parts, ltb-false}
use Rattle.std.proofs.lemmas.List.{append-nil}
use Rattle.sccp_base.proofs.Among.{Among, Among-unfilter}
use Rattle.user_messages.specs.declared.key.Key.{Key}
use Rattle.user_messages.specs.declared.given.Given.{Given}
use Rattle.user_messages.specs.declared.given.Given.TheVariants.{Whole, Repeated, Waits}
use Rattle.user_messages.specs.Chunks.{key_of, same_key, same_chunk}
use Rattle.user_messages.specs.UserMessages.{message_of}
use Rattle.user_messages.specs.Gathering.{Received, Gathered, Outcome, chunks_of, has_key, nothing, remembered, run_of, giving, waits}
use Rattle.user_messages.specs.Gathering.{joins, first_copy}
use Rattle.user_messages.specs.Gathering.{keeping, took}
use Rattle.user_messages.specs.Captures.{kept_after, last_given}
use Rattle.user_messages.proofs.Keys.{key_is, key_itself}
use Rattle.user_messages.proofs.Lists.{Among-left, Among-right, any_among, among_any, Among-take, Among-take_more, Among-take_take}
use Rattle.user_messages.proofs.Lists.{Among-take_filter}

-- ---- the cases of a chunk

pub took_cases : (P : Gathered × Given → Type 0) (g : Gathered) (c : Received)
    → ((c.chunk.flow.tag == 0) ≡ true → P (keeping g.seen (first_copy g.waiting c)))
    → ((c.chunk.flow.tag == 0) ≡ false → list_any (same_key (key_of c.chunk)) g.seen ≡ true
    → P (keeping (remembered (key_of c.chunk) g.seen) (giving g.waiting Repeated)))
    → ((c.chunk.flow.tag == 0) ≡ false → list_any (same_key (key_of c.chunk)) g.seen ≡ false
    → P (keeping (remembered (key_of c.chunk) g.seen) (first_copy g.waiting c)))
    → P (took g c)
unfolding took
took_cases P g c of_none repeats is_new =
    elim (c.chunk.flow.tag == 0) as (λ b. (c.chunk.flow.tag == 0) ≡ b
    → P (keeping (cond b g.seen (remembered (key_of c.chunk) g.seen))
    (cond (not b && list_any (same_key (key_of c.chunk)) g.seen) (giving g.waiting Repeated) (first_copy g.waiting c)))) [
      | true ↦ of_none
      | false ↦ λ n. cond_both (list_any (same_key (key_of c.chunk)) g.seen) (giving g.waiting Repeated) (first_copy g.waiting c)
          (λ o. P (keeping (remembered (key_of c.chunk) g.seen) o)) (repeats n) (is_new n)
    ] refl

pub waits_cases : (P : Outcome → Type 0) (waiting : List Received) (c : Received)
    → P (giving (waiting ++ c ∷ []) (Waits None))
    → (256 ≤ length waiting → P (giving (drop 1 waiting ++ c ∷ []) (Waits (option_map (λ d. d.place) (slice_get waiting 0)))))
    → P (waits waiting c)
waits_cases P waiting c room full =
    cond_both (nat_lt (length waiting) 256) (giving (waiting ++ c ∷ []) (Waits None))
    (giving (drop 1 waiting ++ c ∷ []) (Waits (option_map (λ d. d.place) (slice_get waiting 0)))) P (λ _. room)
    (λ e. full (ltb-false (length waiting) 256 e))

pub first_cases : (P : Outcome → Type 0) (waiting : List Received) (c : Received)
    → (c.chunk.begins ≡ true → c.chunk.ends ≡ true → P (giving waiting (Whole c.chunk.payload)))
    → ((run : List Received) → run_of waiting c ≡ Some run
    → P (giving (filter (λ d. not (has_key run d)) waiting) (Whole (message_of (chunks_of run)))))
    → (run_of waiting c ≡ None → P (waits waiting c))
    → P (first_copy waiting c)
unfolding first_copy
first_cases P waiting c single whole part =
    cond_both (c.chunk.begins && c.chunk.ends) (giving waiting (Whole c.chunk.payload)) (joins waiting c (run_of waiting c)) P
    (λ e. let k = parts e in single k.0 k.1) (λ _. by_run (run_of waiting c) refl)
  where
    parts : (c.chunk.begins && c.chunk.ends) ≡ true → (c.chunk.begins ≡ true) × (c.chunk.ends ≡ true)
    parts e = and_parts c.chunk.begins c.chunk.ends e

    by_run : (o : Option (List Received)) → run_of waiting c ≡ o → P (joins waiting c o)
    by_run None e = part e
    by_run (Some run) e = whole run e

-- ---- what holds along a capture

pub along : (P : List Received → Gathered → Type 0)
    → ((past : List Received) (g : Gathered) (c : Received) → P past g → P (past ++ c ∷ []) (took g c).0)
    → (cs past : List Received) (g : Gathered) → P past g → P (past ++ cs) (kept_after g cs)
unfolding kept_after
along P step [] past g h = subst (λ l. P l g) (sym (append-nil past)) h
along P step (c ∷ cs) past g h =
    subst (λ l. P l (kept_after (took g c).0 cs)) (append_assoc past (c ∷ []) cs)
    (along P step cs (past ++ c ∷ []) (took g c).0 (step past g c h))

pub kept-append : (g : Gathered) (xs ys : List Received) → kept_after g (xs ++ ys) ≡ kept_after (kept_after g xs) ys
unfolding kept_after
kept-append g [] ys = refl
kept-append g (x ∷ xs) ys = kept-append (took g x).0 xs ys

-- ---- a chunk that repeats another was there before

-- each key that is kept is that of a chunk that arrived
abbrev pub SeenPast : List Received → Gathered → Type 0
SeenPast past g = (k : Key) → Among k g.seen → (d : Received) × Among d past × (key_of d.chunk ≡ k)

pub seen_past : (past : List Received) (g : Gathered) (c : Received) → SeenPast past g → SeenPast (past ++ c ∷ []) (took g c).0
seen_past past g c h =
    took_cases (λ o. SeenPast (past ++ c ∷ []) o.0) g c (λ _. λ k m. earlier k m) (λ _ _. λ k m. either_one k m)
    (λ _ _. λ k m. either_one k m)
  where
    Arrived : Key → Type 0
    Arrived k = (d : Received) × Among d (past ++ c ∷ []) × (key_of d.chunk ≡ k)

    earlier : (k : Key) → Among k g.seen → (d : Received) × Among d (past ++ c ∷ []) × (key_of d.chunk ≡ k)
    earlier k m = let t = h k m in (t.0, Among-left t.0 past (c ∷ []) t.1, t.2)

    either_one : (k : Key) → Among k (remembered (key_of c.chunk) g.seen) → (d : Received) × Among d (past ++ c ∷ []) × (key_of d.chunk ≡ k)
    either_one k m =
        ⊎_elim (λ (e : key_of c.chunk ≡ k). (c, Among-right c past (c ∷ []) (inl refl), e))
        (λ n. earlier k (Among-unfilter (λ j. not (same_key (key_of c.chunk) j)) k g.seen n).0)
        (Among-take k 65536 (key_of c.chunk ∷ filter (λ j. not (same_key (key_of c.chunk) j)) g.seen) m)

pub seen_along : (cs : List Received) → SeenPast cs (kept_after nothing cs)
seen_along cs = along SeenPast seen_past cs [] nothing (λ k m. absurd m)

pub never_repeated : (waiting : List Received) (c : Received) → (first_copy waiting c).given ≡ Repeated → ⊥
never_repeated waiting c =
    first_cases (λ o. o.given ≡ Repeated → ⊥) waiting c (λ _ _. λ e. absurd (cc)) (λ run _. λ e. absurd (cc))
    (λ _. waits_cases (λ o. o.given ≡ Repeated → ⊥) waiting c (λ e. absurd (cc)) (λ _. λ e. absurd (cc)))

pub is_hidden : (cs : List Received) (c : Received) → last_given cs c ≡ Repeated → has_key cs c ≡ true
is_hidden cs c =
    took_cases (λ o. o.1 ≡ Repeated → has_key cs c ≡ true) (kept_after nothing cs) c
    (λ _. λ e. absurd (never_repeated (kept_after nothing cs).waiting c e))
    (λ _ h. λ e. found h)
    (λ _ _. λ e. absurd (never_repeated (kept_after nothing cs).waiting c e))
  where
    found : list_any (same_key (key_of c.chunk)) (kept_after nothing cs).seen ≡ true → has_key cs c ≡ true
    found h =
        let k = any_among (same_key (key_of c.chunk)) (kept_after nothing cs).seen h in
        let d = seen_along cs k.0 k.1 in
        among_any (λ d. same_chunk c.chunk d.chunk) d.0 cs d.1 (ap (same_key (key_of c.chunk)) d.2 ∙ k.2)

-- ---- a chunk that was there before is found again

-- the place of a key falls by one at most with each chunk
moved : (k key : Key) (n : ℕ) (seen : List Key) → suc n ≤ 65536 → Among k (take n seen) → Among k (take (suc n) (remembered key seen))
moved k key n seen h m =
    Among-take_take k (suc n) 65536 (key ∷ filter (λ j. not (same_key key j)) seen) h
    (⊎_elim (λ (e : same_key key k ≡ true). inl (key_is key k e))
    (λ (e : same_key key k ≡ false). inr (Among-take_filter (λ j. not (same_key key j)) k n seen (ap not e) m))
    (cases_Bool (same_key key k)))

abbrev near : Key → ℕ → Gathered → Type 0
near k n g = Among k (take n g.seen)

still_near : (k : Key) (n : ℕ) (g : Gathered) (c : Received) → suc n ≤ 65536 → near k n g → near k (suc n) (took g c).0
still_near k n g c h m =
    took_cases (λ o. near k (suc n) o.0) g c (λ _. Among-take_more k n g.seen m) (λ _ _. moved k (key_of c.chunk) n g.seen h m)
    (λ _ _. moved k (key_of c.chunk) n g.seen h m)

stays : (k : Key) (cs : List Received) (n : ℕ) (g : Gathered) → n + length cs ≤ 65536 → near k n g → Among k (kept_after g cs).seen
unfolding kept_after
stays k [] n g h m = Among-take k n g.seen m
stays k (c ∷ cs) n g h m = stays k cs (suc n) (took g c).0 (omega arith) (still_near k n g c (omega arith) m)

begins_near : (g : Gathered) (d : Received) → (d.chunk.flow.tag == 0) ≡ false → near (key_of d.chunk) 1 (took g d).0
begins_near g d tagged =
    took_cases (λ o. near (key_of d.chunk) 1 o.0) g d (λ e. absurd (false≢true (sym tagged ∙ e))) (λ _ _. inl refl) (λ _ _. inl refl)

repeats : (g : Gathered) (c : Received) → (c.chunk.flow.tag == 0) ≡ false → Among (key_of c.chunk) g.seen → (took g c).1 ≡ Repeated
repeats g c tagged m =
    let found : list_any (same_key (key_of c.chunk)) g.seen ≡ true =
    among_any (same_key (key_of c.chunk)) (key_of c.chunk) g.seen m (key_itself (key_of c.chunk)) in
    took_cases (λ o. o.1 ≡ Repeated) g c (λ e. absurd (false≢true (sym tagged ∙ e))) (λ _ _. refl)
    (λ _ e. absurd (false≢true (sym e ∙ found)))

pub comes_again : (before : List Received) (d : Received) (between : List Received) (c : Received) → length between < 65536
    → c.chunk.flow.tag ≢ 0 → same_chunk c.chunk d.chunk ≡ true → last_given (before ++ d ∷ between) c ≡ Repeated
unfolding kept_after
comes_again before d between c few tagged same =
    let key : key_of c.chunk ≡ key_of d.chunk = key_is (key_of c.chunk) (key_of d.chunk) same in
    let c_tagged : (c.chunk.flow.tag == 0) ≡ false = ne_eqb c.chunk.flow.tag 0 tagged in
    let d_tagged : (d.chunk.flow.tag == 0) ≡ false = ap (λ (k : Key). k.tag == 0) (sym key) ∙ c_tagged in
    repeats (kept_after nothing (before ++ d ∷ between)) c c_tagged
    (subst (λ g. Among (key_of c.chunk) g.seen) (sym (kept-append nothing before (d ∷ between)))
    (subst (λ k. Among k (kept_after (took (kept_after nothing before) d).0 between).seen) (sym key)
    (stays (key_of d.chunk) between 1 (took (kept_after nothing before) d).0 (omega arith)
    (begins_near (kept_after nothing before) d d_tagged))))
