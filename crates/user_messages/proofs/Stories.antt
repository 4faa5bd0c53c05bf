-- What was given of a capture that has none twice: messages of which no two have a chunk in common, and no chunk that waits.
use Rattle.std.specs.Prelude.{◌≡◌, ◌⊎◌, ℕ, ◌≤◌, true, false, not, List, [], ◌∷◌, ◌++◌, length, map, drop, filter, flat_map}
use Rattle.std.specs.Prelude.{slice_get, Option, Some, None, refl}
use Rattle.std.specs.Prelude.{option_map, Contains}
use Rattle.std.specs.List.{list_any}
use Rattle.std.proofs.Common.{inl, inr, ⊎_elim, sym, ap, subst, ◌∙◌, arith, append_assoc}
use Rattle.std.proofs.lemmas.Bool.{false≢true, cases_Bool, not-true}
use Rattle.std.proofs.lemmas.List.{append-nil, map-append}
use Rattle.std.proofs.lemmas.List.Concat.{flat_map-append}
use Rattle.sccp_base.proofs.Among.{Among, Among-filter, Among-unfilter}
use Rattle.user_messages.specs.declared.key.Key.{Key}
use Rattle.user_messages.specs.declared.place.Place.{Place}
use Rattle.user_messages.specs.declared.given.Given.{Given}
use Rattle.user_messages.specs.declared.given.Given.TheVariants.{Whole, Waits}
use Rattle.user_messages.specs.Chunks.{key_of, same_key, same_chunk}
use Rattle.user_messages.specs.UserMessages.{IsUserMessage, message_of}
use Rattle.user_messages.specs.Gathering.{Received, Gathered, chunks_of, has_key, nothing, giving, first_copy}
use Rattle.user_messages.specs.Gathering.{keeping, took, remembered}
use Rattle.user_messages.specs.Captures.{kept_after, all_given, message_in, NoneTwice, AreApart}
use Rattle.user_messages.proofs.Keys.{key_is}
use Rattle.user_messages.proofs.Lists.{Among-left, Among-right, Among-parts, any_among, among_any, All-from_among, contained}
use Rattle.user_messages.proofs.Repeats.{SeenPast, seen_past, took_cases, first_cases, waits_cases}
use Rattle.user_messages.proofs.Runs.{IsRun, run_is, Among-drop}
use Rattle.user_messages.proofs.Apart.{has_key-found, same_one, none_twice-front, none_twice-append, parts_apart, same_from}
use Rattle.user_messages.proofs.Chains.{no_repeat}

abbrev pub joined : List (List Received) → List Received
joined runs = flat_map (λ run. run) runs

pub joined-more : (runs : List (List Received)) (run : List Received) → joined (runs ++ run ∷ []) ≡ joined runs ++ run
joined-more runs run = flat_map-append (λ (r : List Received). r) runs (run ∷ [])
    ∙ ap (λ (l : List Received). joined runs ++ l) (append-nil run)

-- what is kept and what was given, after the chunks of a list
pub record Story (past : List Received) (g : Gathered) (runs : List (List Received)) : Type 0 where
  pub seen : SeenPast past g
  pub waited : (d : Received) → Among d g.waiting → Among d past
  pub told : (d : Received) → Among d (joined runs) → Among d past
  pub whole : (run : List Received) → Among run runs → IsUserMessage (chunks_of run)
  pub apart : (d : Received) → Among d g.waiting → Among d (joined runs) → ⊥
  pub once : NoneTwice (joined runs)

-- each chunk waits, or its message was given
abbrev pub Held : List Received → Gathered → List (List Received) → Type 0
Held past g runs = (d : Received) → Among d past → Among d g.waiting ⊎ Among d (joined runs)

abbrev pub data_of : List (List Received) → List (List ℕ)
data_of runs = map (λ run. message_of (chunks_of run)) runs

pub record Turn (past : List Received) (g : Gathered) (c : Received) (runs : List (List Received)) (o : Gathered × Given) : Type 0 where
  pub more : List (List Received)
  pub story : Story (past ++ c ∷ []) o.0 (runs ++ more)
  pub given : message_in o.1 ≡ data_of more
  pub held : ((place : Place) → o.1 ≡ Waits (Some place) → ⊥) → Held past g runs → Held (past ++ c ∷ []) o.0 (runs ++ more)

module _ (past : List Received) (g : Gathered) (c : Received) (runs : List (List Received)) (story : Story past g runs)
    (differ : NoneTwice (past ++ c ∷ [])) where
  new : (d : Received) → Among d past → key_of d.chunk ≡ key_of c.chunk → ⊥
  new d m e = parts_apart past (c ∷ []) d c differ m (inl refl) e

  not_c : (d : Received) → Among d past → c ≡ d → ⊥
  not_c d m e = new d m (ap (λ (x : Received). key_of x.chunk) (sym e))

  is_last : Among c (past ++ c ∷ [])
  is_last = Among-right c past (c ∷ []) (inl refl)

  arrived : (d : Received) → Among d g.waiting ⊎ (c ≡ d) → Among d (past ++ c ∷ [])
  arrived d m = ⊎_elim (λ a. Among-left d past (c ∷ []) (story.waited d a)) (λ (e : c ≡ d). Among-right d past (c ∷ []) (inl e)) m

  in_joined : (d : Received) (run : List Received) → Among d (joined (runs ++ run ∷ [])) → Among d (joined runs) ⊎ Among d run
  in_joined d run m = Among-parts d (joined runs) run (subst (λ l. Among d l) (joined-more runs run) m)

  -- a message becomes whole
  whole_turn : (seen : List Key) (waiting run : List Received) (given : Given)
      → SeenPast (past ++ c ∷ []) (record { seen = seen; waiting = waiting })
      → IsUserMessage (chunks_of run) → ((d : Received) → Among d run → Among d g.waiting ⊎ (c ≡ d)) → Among c run
      → ((d : Received) → Among d waiting → Among d g.waiting) → ((d : Received) → Among d waiting → Among d run → ⊥)
      → ((d : Received) → Among d g.waiting → Among d waiting ⊎ Among d run)
      → message_in given ≡ message_of (chunks_of run) ∷ []
      → Turn past g c runs (record { seen = seen; waiting = waiting }, given)
  whole_turn seen waiting run given sp whole members c_in fewer out splits says = record {
    more = run ∷ [];
    story = record {
      seen = sp;
      waited = λ d m. Among-left d past (c ∷ []) (story.waited d (fewer d m));
      told = λ d m. ⊎_elim (λ a. Among-left d past (c ∷ []) (story.told d a)) (λ b. arrived d (members d b)) (in_joined d run m);
      whole = λ r m. ⊎_elim (λ a. story.whole r a)
          (λ b. ⊎_elim (λ (e : run ≡ r). subst (λ l. IsUserMessage (chunks_of l)) e whole) (λ z. absurd z) b)
          (Among-parts r runs (run ∷ []) m);
      apart = λ d m n. ⊎_elim (λ a. story.apart d (fewer d m) a) (λ b. out d m b) (in_joined d run n);
      once = subst NoneTwice (sym (joined-more runs run)) (none_twice-append (joined runs) run story.once
          (no_repeat (past ++ c ∷ []) differ run (λ d m. arrived d (members d m)) whole.in_step whole.ends)
          (λ x y m n e. ⊎_elim
          (λ (a : Among y g.waiting). story.apart y a (subst (λ z. Among z (joined runs))
          (same_one past x y (none_twice-front past (c ∷ []) differ) (story.told x m) (story.waited y a) e) m))
          (λ (q : c ≡ y). new x (story.told x m) (e ∙ ap (λ (z : Received). key_of z.chunk) (sym q))) (members y n)));
    };
    given = says;
    held = λ _ h d m. ⊎_elim
        (λ (a : Among d past). ⊎_elim
        (λ (w : Among d g.waiting). ⊎_elim (λ s. inl s) (λ r. inr
        (subst (λ l. Among d l) (sym (joined-more runs run)) (Among-right d (joined runs) run r))) (splits d w))
        (λ j. inr (subst (λ l. Among d l) (sym (joined-more runs run)) (Among-left d (joined runs) run j))) (h d a))
        (λ b. ⊎_elim (λ (q : c ≡ d). inr (subst (λ l. Among d l) (sym (joined-more runs run))
        (Among-right d (joined runs) run (subst (λ z. Among z run) q c_in))))
        (λ z. absurd z) b)
        (Among-parts d past (c ∷ []) m);
  }

  -- a chunk waits
  waits_turn : (seen : List Key) (front : List Received) (place : Option Place)
      → SeenPast (past ++ c ∷ []) (record { seen = seen; waiting = front ++ c ∷ [] })
      → ((d : Received) → Among d front → Among d g.waiting)
      → (((p : Place) → Waits place ≡ Waits (Some p) → ⊥) → (d : Received) → Among d g.waiting → Among d front)
      → Turn past g c runs (record { seen = seen; waiting = front ++ c ∷ [] }, Waits place)
  waits_turn seen front place sp fewer stay =
      let same : runs ++ [] ≡ runs = append-nil runs in
      record {
        more = [];
        story = subst (λ l. Story (past ++ c ∷ []) (record { seen = seen; waiting = front ++ c ∷ [] }) l) (sym same) (record {
          seen = sp;
          waited = λ d m. ⊎_elim (λ a. Among-left d past (c ∷ []) (story.waited d (fewer d a))) (λ b. Among-right d past (c ∷ []) b)
              (Among-parts d front (c ∷ []) m);
          told = λ d m. Among-left d past (c ∷ []) (story.told d m);
          whole = story.whole;
          apart = λ d m n. ⊎_elim (λ a. story.apart d (fewer d a) n)
              (λ b. ⊎_elim (λ (q : c ≡ d). not_c d (story.told d n) q) (λ z. absurd z) b) (Among-parts d front (c ∷ []) m);
          once = story.once;
        });
        given = refl;
        held = λ kept h d m. ⊎_elim
            (λ (a : Among d past). ⊎_elim (λ w. inl (Among-left d front (c ∷ []) (stay kept d w)))
            (λ j. inr (subst (λ l. Among d (joined l)) (sym same) j)) (h d a))
            (λ b. inl (Among-right d front (c ∷ []) b)) (Among-parts d past (c ∷ []) m);
      }

  first_turn : (seen : List Key) → ((waiting : List Received) → SeenPast (past ++ c ∷ []) (record { seen = seen; waiting = waiting }))
      → Turn past g c runs (keeping seen (first_copy g.waiting c))
  first_turn seen sp =
      first_cases (λ o. Turn past g c runs (keeping seen o)) g.waiting c
      (λ b e. whole_turn seen g.waiting (c ∷ []) (Whole c.chunk.payload) (sp g.waiting) (record { begins = b; ends = e; in_step = tt })
      (λ d m. ⊎_elim (λ q. inr q) (λ z. absurd z) m) (inl refl) (λ d m. m)
      (λ d m n. ⊎_elim (λ (q : c ≡ d). not_c d (story.waited d m) q) (λ z. absurd z) n) (λ d m. inl m)
      (ap (λ (l : List ℕ). l ∷ []) (sym (append-nil c.chunk.payload))))
      (λ run e. by_run run (run_is g.waiting c run e))
      (λ _. waits_cases (λ o. Turn past g c runs (keeping seen o)) g.waiting c
      (waits_turn seen g.waiting None (sp (g.waiting ++ c ∷ [])) (λ d m. m) (λ _ d m. m))
      (λ many. waits_turn seen (drop 1 g.waiting) (option_map (λ d. d.place) (slice_get g.waiting 0)) (sp (drop 1 g.waiting ++ c ∷ []))
      (λ d m. Among-drop d g.waiting m) (λ kept. absurd (given_up g.waiting many kept))))
    where
      given_up : (waiting : List Received) → 256 ≤ length waiting
          → ((p : Place) → Waits (option_map (λ d. d.place) (slice_get waiting 0)) ≡ Waits (Some p) → ⊥) → ⊥
      given_up [] many kept = absurd (omega arith)
      given_up (d ∷ waiting) many kept = kept d.place refl

      by_run : (run : List Received) → IsRun g.waiting c run
          → Turn past g c runs (keeping seen (giving (filter (λ d. not (has_key run d)) g.waiting) (Whole (message_of (chunks_of run)))))
      by_run run r =
          whole_turn seen (filter (λ d. not (has_key run d)) g.waiting) run (Whole (message_of (chunks_of run)))
          (sp (filter (λ d. not (has_key run d)) g.waiting)) r.whole r.waited r.last_in
          (λ d m. (Among-unfilter (λ x. not (has_key run x)) d g.waiting m).0)
          (λ d m n. out d (Among-unfilter (λ x. not (has_key run x)) d g.waiting m).1 n)
          (λ d m. ⊎_elim
          (λ (e : has_key run d ≡ true). let k = has_key-found run d e in
          inr (subst (λ z. Among z run) (sym (same_one (past ++ c ∷ []) d k.0 differ (arrived d (inl m))
          (arrived k.0 (r.waited k.0 k.1)) k.2)) k.1))
          (λ (e : has_key run d ≡ false). inl (Among-filter (λ x. not (has_key run x)) d g.waiting (ap not e) m))
          (cases_Bool (has_key run d)))
          refl
        where
          out : (d : Received) → not (has_key run d) ≡ true → Among d run → ⊥
          out d e n = false≢true (sym (not-true (has_key run d) e)
              ∙ among_any (λ x. same_chunk d.chunk x.chunk) d run n (same_from d d refl))

  pub turn : Turn past g c runs (took g c)
  turn =
      took_cases (λ o. SeenPast (past ++ c ∷ []) o.0 → Turn past g c runs o) g c
      (λ _. λ sp. first_turn g.seen (λ w. sp))
      (λ _ found. λ sp. absurd (there found))
      (λ _ _. λ sp. first_turn (remembered (key_of c.chunk) g.seen) (λ w. sp))
      (seen_past past g c story.seen)
    where
      there : list_any (same_key (key_of c.chunk)) g.seen ≡ true → ⊥
      there found =
          let k = any_among (same_key (key_of c.chunk)) g.seen found in
          let d = story.seen k.0 k.1 in
          new d.0 d.1 (d.2 ∙ sym (key_is (key_of c.chunk) k.0 k.2))

-- ---- over a list

pub record Along (past : List Received) (g : Gathered) (cs : List Received) (runs : List (List Received)) : Type 0 where
  pub more : List (List Received)
  pub story : Story (past ++ cs) (kept_after g cs) (runs ++ more)
  pub given : flat_map message_in (all_given g cs) ≡ data_of more
  pub held : ((place : Place) → Among (Waits (Some place)) (all_given g cs) → ⊥) → Held past g runs
      → Held (past ++ cs) (kept_after g cs) (runs ++ more)

pub story_along : (cs past : List Received) (g : Gathered) (runs : List (List Received)) → Story past g runs → NoneTwice (past ++ cs)
    → Along past g cs runs
unfolding kept_after all_given
story_along [] past g runs story differ = record {
  more = [];
  story = subst (λ l. Story l g (runs ++ [])) (sym (append-nil past)) (subst (λ l. Story past g l) (sym (append-nil runs)) story);
  given = refl;
  held = λ _ h. subst (λ l. Held l g (runs ++ [])) (sym (append-nil past)) (subst (λ l. Held past g l) (sym (append-nil runs)) h);
}
story_along (c ∷ cs) past g runs story differ =
    let apart : NoneTwice ((past ++ c ∷ []) ++ cs) = subst NoneTwice (sym (append_assoc past (c ∷ []) cs)) differ in
    let t : Turn past g c runs (took g c) = turn past g c runs story (none_twice-front (past ++ c ∷ []) cs apart) in
    let a : Along (past ++ c ∷ []) (took g c).0 cs (runs ++ t.more) = story_along cs (past ++ c ∷ []) (took g c).0
    (runs ++ t.more) t.story apart in
    record {
      more = t.more ++ a.more;
      story = subst (λ l. Story l (kept_after (took g c).0 cs) (runs ++ (t.more ++ a.more))) (append_assoc past (c ∷ []) cs)
          (subst (λ l. Story ((past ++ c ∷ []) ++ cs) (kept_after (took g c).0 cs) l) (append_assoc runs t.more a.more) a.story);
      given = ap (λ (l : List (List ℕ)). l ++ flat_map message_in (all_given (took g c).0 cs)) t.given
          ∙ ap (λ (l : List (List ℕ)). data_of t.more ++ l) a.given
          ∙ sym (map-append (λ (run : List Received). message_of (chunks_of run)) t.more a.more);
      held = λ kept h. subst (λ l. Held l (kept_after (took g c).0 cs) (runs ++ (t.more ++ a.more))) (append_assoc past (c ∷ []) cs)
          (subst (λ l. Held ((past ++ c ∷ []) ++ cs) (kept_after (took g c).0 cs) l) (append_assoc runs t.more a.more)
          (a.held (λ place m. kept place (inr m)) (t.held (λ place e. kept place (inl e)) h)));
    }

pub whole_story : (cs : List Received) → NoneTwice cs → Along [] nothing cs []
whole_story cs differ = story_along cs [] nothing [] begin differ
  where
    begin : Story [] nothing []
    begin = record {
      seen = λ k m. absurd m;
      waited = λ d m. absurd m;
      told = λ d m. absurd m;
      whole = λ r m. absurd m;
      apart = λ d m n. absurd m;
      once = tt;
    }

pub are_apart : (cs : List Received) → NoneTwice cs → AreApart cs
are_apart cs differ =
    let a = whole_story cs differ in
    record {
      runs = a.more;
      given = a.given;
      whole = All-from_among (λ run. IsUserMessage (chunks_of run)) a.more a.story.whole;
      arrived = All-from_among (λ d. Contains cs d) (joined a.more) (λ d m. contained d cs (a.story.told d m));
      once = a.story.once;
    }
