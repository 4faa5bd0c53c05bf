-- What becomes of the chunks that wait, step by step as the code does it.
use Rattle.std.specs.Prelude.{◌≡◌, ℕ, ◌+◌, ◌<◌, ◌≤◌, ◌&&◌, ◌||◌, Bool, true, false, cond, not, List, [], ◌∷◌, ◌++◌, length, map}
use Rattle.std.specs.Prelude.{drop, filter, nat_lt, nat_le, slice_get, slice_index_or, Option, Some, None, refl, option_map, Result, Ok}
use Rattle.std.specs.Prelude.{Err, IfOk, OnErr, OnOk}
use Rattle.std.specs.List.{list_any}
use Rattle.std.proofs.Common.{⊎_elim, sym, ap, subst, ◌∙◌, arith, length-append}
use Rattle.std.proofs.lemmas.Bool.{cond-true, cond-false, cases_lt, lt-ltb, le-ltb, le-leb, lt-leb}
use Rattle.std.proofs.lemmas.List.Elements.{filter_agree}
use Rattle.std.proofs.lemmas.List.Filters.{length-filter_both}
use Rattle.user_messages.specs.declared.key.Key.{Key}
use Rattle.user_messages.specs.declared.run.Run.{Run}
use Rattle.user_messages.specs.declared.place.Place.{Place}
use Rattle.user_messages.specs.declared.given.Given.{Given}
use Rattle.user_messages.specs.declared.given.Given.TheVariants.{Whole, Repeated, Waits}
use Rattle.user_messages.specs.Chunks.{key_of, same_key}
use Rattle.user_messages.specs.UserMessages.{message_of}
use Rattle.user_messages.specs.Gathering.{Received, Gathered, Outcome, nothing, chunks_of, has_key, is_repeat, noted, run_of, giving, waits}
use Rattle.user_messages.specs.Gathering.{joins}
use Rattle.user_messages.specs.Gathering.{first_copy, keeping, took}
use Rattle.user_messages.specs.Runs.{keys_of, put_together}
use Rattle.user_messages.specs.Waiting.{without_keys, given_up, shortened}
use Rattle.user_messages.specs.Captures.{kept_after, last_given}
use Rattle.user_messages.proofs.Repeats.{took_cases, first_cases, kept-append}

-- ---- one more waits

pub first_given_up : (waiting : List Received) (first : Received) → 256 < length waiting → first ≡ slice_index_or waiting 0 first
    → Some first.place ≡ given_up waiting
unfolding given_up
first_given_up [] first h e = absurd (omega (arith, h))
first_given_up (d ∷ ds) first h e =
    ap (λ (x : Received). Some x.place) e
    ∙ sym (cond-false (nat_le (length (d ∷ ds)) 256) None (Some d.place) (lt-leb (length (d ∷ ds)) 256 h))

-- with one more, of whom the first is given up if there are too many
abbrev one_more : Bool → List Received → Outcome
one_more few waiting = giving (cond few waiting (drop 1 waiting)) (Waits (cond few None (option_map (λ d. d.place) (slice_get waiting 0))))

full_waits : (waiting : List Received) (c : Received) → 256 ≤ length waiting
    → one_more false (waiting ++ c ∷ []) ≡ giving (drop 1 waiting ++ c ∷ []) (Waits (option_map (λ d. d.place) (slice_get waiting 0)))
full_waits [] c h = absurd (omega (arith, h))
full_waits (d ∷ ds) c h = refl

pub waits_is : (waiting : List Received) (c : Received)
    → giving (shortened (waiting ++ c ∷ [])) (Waits (given_up (waiting ++ c ∷ []))) ≡ waits waiting c
unfolding given_up shortened
waits_is waiting c =
    let more : length (waiting ++ c ∷ []) ≡ length waiting + 1 = length-append waiting (c ∷ []) in
    let room = giving (waiting ++ c ∷ []) (Waits None) in
    let full = giving (drop 1 waiting ++ c ∷ []) (Waits (option_map (λ d. d.place) (slice_get waiting 0))) in
    ⊎_elim (λ (h : length waiting < 256).
    ap (λ few. one_more few (waiting ++ c ∷ [])) (le-leb (length (waiting ++ c ∷ [])) 256 (omega (arith, h, more)))
    ∙ sym (cond-true (nat_lt (length waiting) 256) room full (lt-ltb (length waiting) 256 h)))
    (λ (h : 256 ≤ length waiting).
    ap (λ few. one_more few (waiting ++ c ∷ [])) (lt-leb (length (waiting ++ c ∷ [])) 256 (omega (arith, h, more)))
    ∙ full_waits waiting c h ∙ sym (cond-false (nat_lt (length waiting) 256) room full (le-ltb (length waiting) 256 h)))
    (cases_lt (length waiting) 256)

-- one more waits, step by step
pub waited : (old now new : List Received) (c : Received) (place : Option Place) → now ≡ old ++ c ∷ [] → place ≡ given_up now
    → new ≡ shortened now → giving new (Waits place) ≡ waits old c
waited old now new c place pushed given rest =
    ap (λ (o : Option Place). giving new (Waits o)) given
    ∙ ap (λ (w : List Received). giving w (Waits (given_up now))) rest
    ∙ ap (λ (w : List Received). giving (shortened w) (Waits (given_up w))) pushed
    ∙ waits_is old c

-- ---- a message is whole

any_of_map : {X Y : Type 0} (p : Y → Bool) (f : X → Y) (xs : List X) → list_any p (map f xs) ≡ list_any (λ x. p (f x)) xs
any_of_map p f [] = refl
any_of_map p f (x ∷ xs) = ap (λ b. p (f x) || b) (any_of_map p f xs)

without_run : (run waiting : List Received)
    → without_keys (keys_of (chunks_of run)) waiting ≡ filter (λ d. not (has_key run d)) waiting
without_run run waiting =
    filter_agree (λ d. not (list_any (same_key (key_of d.chunk)) (keys_of (chunks_of run)))) (λ d. not (has_key run d))
    (λ d. ap not (any_of_map (same_key (key_of d.chunk)) key_of (chunks_of run)
    ∙ any_of_map (λ e. same_key (key_of d.chunk) (key_of e)) (λ (e : Received). e.chunk) run))
    waiting

pub joins_run : (waiting : List Received) (c : Received) (run : Run) → Some run ≡ option_map put_together (run_of waiting c)
    → giving (without_keys run.keys waiting) (Whole run.octets) ≡ joins waiting c (run_of waiting c)
unfolding put_together
joins_run waiting c run = by_run (run_of waiting c)
  where
    by_run : (o : Option (List Received)) → Some run ≡ option_map put_together o
        → giving (without_keys run.keys waiting) (Whole run.octets) ≡ joins waiting c o
    by_run None h = absurd (cc)
    by_run (Some chunks) h =
        let same : run ≡ put_together chunks = cc in
        ap (λ (r : Run). giving (without_keys r.keys waiting) (Whole r.octets)) same
        ∙ ap (λ w. giving w (Whole (message_of (chunks_of chunks)))) (without_run chunks waiting)

pub joins_none : (waiting : List Received) (c : Received) → None ≡ option_map put_together (run_of waiting c)
    → waits waiting c ≡ joins waiting c (run_of waiting c)
joins_none waiting c = by_run (run_of waiting c)
  where
    by_run : (o : Option (List Received)) → None ≡ option_map put_together o → waits waiting c ≡ joins waiting c o
    by_run None h = refl
    by_run (Some chunks) h = absurd (cc)

-- ---- a chunk

pub first_single : (waiting : List Received) (c : Received) → (c.chunk.begins && c.chunk.ends) ≡ true
    → giving waiting (Whole c.chunk.payload) ≡ first_copy waiting c
unfolding first_copy
first_single waiting c e =
    sym (cond-true (c.chunk.begins && c.chunk.ends) (giving waiting (Whole c.chunk.payload)) (joins waiting c (run_of waiting c)) e)

pub first_part : (waiting : List Received) (c : Received) → (c.chunk.begins && c.chunk.ends) ≡ false
    → joins waiting c (run_of waiting c) ≡ first_copy waiting c
unfolding first_copy
first_part waiting c e =
    sym (cond-false (c.chunk.begins && c.chunk.ends) (giving waiting (Whole c.chunk.payload)) (joins waiting c (run_of waiting c)) e)

pub took_repeat : (g : Gathered) (c : Received) → is_repeat g.seen (key_of c.chunk) ≡ true
    → keeping (noted (key_of c.chunk) g.seen) (giving g.waiting Repeated) ≡ took g c
unfolding took
took_repeat g c e =
    ap (keeping (noted (key_of c.chunk) g.seen))
    (sym (cond-true (is_repeat g.seen (key_of c.chunk)) (giving g.waiting Repeated) (first_copy g.waiting c) e))

pub took_first : (g : Gathered) (c : Received) → is_repeat g.seen (key_of c.chunk) ≡ false
    → keeping (noted (key_of c.chunk) g.seen) (first_copy g.waiting c) ≡ took g c
unfolding took
took_first g c e =
    ap (keeping (noted (key_of c.chunk) g.seen))
    (sym (cond-false (is_repeat g.seen (key_of c.chunk)) (giving g.waiting Repeated) (first_copy g.waiting c) e))

-- what each step gives, if memory does not run out
pub single_given : {E : Type 0} (r : Result Given E) (waiting : List Received) (c : Received) → (c.chunk.begins && c.chunk.ends) ≡ true
    → IfOk r (λ given. given ≡ Whole c.chunk.payload) → IfOk r (λ given. giving waiting given ≡ first_copy waiting c)
single_given (Ok given) waiting c single e = ap (giving waiting) e ∙ first_single waiting c single
single_given (Err fault) waiting c single e = tt

pub joined : {E : Type 0} (r : Result Given E) (waiting new : List Received) (c : Received) (run : Run)
    → (c.chunk.begins && c.chunk.ends) ≡ false → Some run ≡ option_map put_together (run_of waiting c)
    → IfOk r (λ given. giving new given ≡ giving (without_keys run.keys waiting) (Whole run.octets))
    → IfOk r (λ given. giving new given ≡ first_copy waiting c)
joined (Ok given) waiting new c run part whole e = e ∙ joins_run waiting c run whole ∙ first_part waiting c part
joined (Err fault) waiting new c run part whole e = tt

pub not_joined : {E : Type 0} (r : Result Given E) (waiting new : List Received) (c fragment : Received)
    → (c.chunk.begins && c.chunk.ends) ≡ false → None ≡ option_map put_together (run_of waiting c) → fragment ≡ c
    → IfOk r (λ given. giving new given ≡ waits waiting fragment) → IfOk r (λ given. giving new given ≡ first_copy waiting c)
not_joined (Ok given) waiting new c fragment part none same e =
    e ∙ ap (waits waiting) same ∙ joins_none waiting c none ∙ first_part waiting c part
not_joined (Err fault) waiting new c fragment part none same e = tt

pub first_taken : {E : Type 0} (r : Result Given E) (g : Gathered) (c : Received) (seen : List Key) (waiting : List Received)
    → is_repeat g.seen (key_of c.chunk) ≡ false → OnOk r (seen ≡ noted (key_of c.chunk) g.seen)
    → IfOk r (λ given. giving waiting given ≡ first_copy g.waiting c)
    → IfOk r (λ given. keeping seen (giving waiting given) ≡ took g c)
first_taken (Ok given) g c seen waiting is_new same e =
    ap (λ (s : List Key). keeping s (giving waiting given)) same ∙ ap (keeping (noted (key_of c.chunk) g.seen)) e ∙ took_first g c is_new
first_taken (Err fault) g c seen waiting is_new same e = tt

-- ---- never more than 256 wait

abbrev Few : Outcome → Type 0
Few o = length o.waiting ≤ 256

few_wait : (waiting : List Received) (c : Received) → length waiting ≤ 256 → Few (waits waiting c)
few_wait waiting c few =
    ⊎_elim (λ (h : length waiting < 256).
    omega (
      arith,
      h,
      length-append waiting (c ∷ []),
      ap (λ (o : Outcome). length o.waiting)
          (cond-true (nat_lt (length waiting) 256) room full (lt-ltb (length waiting) 256 h)),
    ))
    (λ (h : 256 ≤ length waiting).
    omega (
      arith,
      h,
      few,
      shorter waiting h,
      ap (λ (o : Outcome). length o.waiting)
          (cond-false (nat_lt (length waiting) 256) room full (le-ltb (length waiting) 256 h)),
    ))
    (cases_lt (length waiting) 256)
  where
    room : Outcome
    room = giving (waiting ++ c ∷ []) (Waits None)

    full : Outcome
    full = giving (drop 1 waiting ++ c ∷ []) (Waits (option_map (λ d. d.place) (slice_get waiting 0)))

    shorter : (w : List Received) → 256 ≤ length w → length (drop 1 w ++ c ∷ []) ≡ length w
    shorter [] h = absurd (omega (arith, h))
    shorter (d ∷ ds) h = omega (arith, length-append ds (c ∷ []))

few_first : (waiting : List Received) (c : Received) → length waiting ≤ 256 → Few (first_copy waiting c)
few_first waiting c few =
    first_cases Few waiting c (λ _ _. few)
    (λ run _. omega (
      arith,
      few,
      length-filter_both (λ (d : Received). not (has_key run d)) (λ d. not (not (has_key run d)))
          (λ _. refl) waiting,
    ))
    (λ _. few_wait waiting c few)

pub few_took : (g : Gathered) (c : Received) → length g.waiting ≤ 256 → length (took g c).0.waiting ≤ 256
few_took g c few =
    took_cases (λ o. length o.0.waiting ≤ 256) g c (λ _. few_first g.waiting c few) (λ _ _. few) (λ _ _. few_first g.waiting c few)

abbrev pub kept : List Key → List Received → Gathered
kept seen waiting = record { seen = seen; waiting = waiting }

-- whether memory ran out or not
pub still_few : {E : Type 0} (r : Result Given E) (g : Gathered) (c : Received) (seen : List Key) (waiting : List Received)
    → length g.waiting ≤ 256 → IfOk r (λ given. keeping seen (giving waiting given) ≡ took g c) → OnErr r (waiting ≡ g.waiting)
    → length waiting ≤ 256
still_few (Ok given) g c seen waiting few is same =
    subst (λ (n : ℕ). n ≤ 256) (sym (ap (λ (p : Gathered × Given). length p.0.waiting) is)) (few_took g c few)
still_few (Err e) g c seen waiting few is same = subst (λ (w : List Received). length w ≤ 256) (sym same) few

-- ---- over a capture

-- what is kept of chunks, and one more
pub one_taken : {E : Type 0} (r : Result Given E) (cs : List Received) (c : Received) (g : Gathered) (seen : List Key)
    (waiting : List Received) → g ≡ kept_after nothing cs → IfOk r (λ given. keeping seen (giving waiting given) ≡ took g c)
    → IfOk r (λ given. (kept seen waiting ≡ kept_after nothing (cs ++ c ∷ [])) × (given ≡ last_given cs c))
unfolding kept_after
one_taken (Ok given) cs c g seen waiting same is = (
  ap (λ (p : Gathered × Given). p.0) is ∙ ap (λ (h : Gathered). (took h c).0) same ∙ sym (kept-append nothing cs (c ∷ [])),
  ap (λ (p : Gathered × Given). p.1) is ∙ ap (λ (h : Gathered). (took h c).1) same,
)
one_taken (Err fault) cs c g seen waiting same is = tt
