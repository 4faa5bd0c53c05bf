-- A user message of which all chunks arrived, and none was given up, is given at its last chunk.
use Rattle.std.specs.Prelude.{◌≡◌, ◌⊎◌, ◌<◌, ◌^◌, true, List, [], ◌∷◌, ◌++◌, All, Contains}
use Rattle.std.specs.Prelude.{Some, None, refl}
use Rattle.std.specs.List.{list_any}
use Rattle.std.proofs.Common.{inl, inr, ⊎_elim, sym, ap, subst, ◌∙◌, append_assoc}
use Rattle.std.proofs.lemmas.Bool.{false≢true}
use Rattle.std.proofs.lemmas.List.{append-nil}
use Rattle.sccp_base.proofs.Among.{Among, All-among}
use Rattle.user_messages.specs.declared.given.Given.TheVariants.{Whole, Waits}
use Rattle.user_messages.specs.Chunks.{key_of, same_key, goes_on}
use Rattle.user_messages.specs.UserMessages.{IsInStep, Begins, Ends, IsUserMessage, message_of}
use Rattle.user_messages.specs.Gathering.{Received, chunks_of, nothing, run_of, first_copy}
use Rattle.user_messages.specs.Captures.{kept_after, all_given, last_given, NoneTwice, NoneGivenUp, HaveNumbers}
use Rattle.user_messages.proofs.Keys.{goes_on_has, next_key, key_before, key_is}
use Rattle.user_messages.proofs.Lists.{Among-left, Among-right, Among-parts, Among-split, among, contained, any_among}
use Rattle.user_messages.proofs.Repeats.{took_cases, first_cases}
use Rattle.user_messages.proofs.Apart.{same_one, none_twice-front, parts_apart}
use Rattle.user_messages.proofs.Chains.{in_step-back, in_step-front, last_split, no_repeat, run_found}
use Rattle.user_messages.proofs.Stories.{joined, Along, whole_story}

-- ---- chunks of one message go together

-- in a message each chunk is the last one or goes on, and is the first one or goes on with another
onward_in : (run : List Received) (a : Received) → IsInStep (chunks_of run) → Ends (chunks_of run) → Among a run
    → (a.chunk.ends ≡ true) ⊎ ((b : Received) × Among b run × (goes_on a.chunk b.chunk ≡ true))
onward_in [] a i e m = absurd m
onward_in (c ∷ []) a i e m = ⊎_elim (λ (q : c ≡ a). inl (subst (λ z. z.chunk.ends ≡ true) q e)) (λ z. absurd z) m
onward_in (c ∷ d ∷ r) a i e m =
    ⊎_elim (λ (q : c ≡ a). inr (d, inr (inl refl), subst (λ z. goes_on z.chunk d.chunk ≡ true) q i.0))
    (λ n. ⊎_elim (λ f. inl f) (λ (k : (b : Received) × Among b (d ∷ r) × (goes_on a.chunk b.chunk ≡ true)). inr (k.0, inr k.1, k.2))
    (onward_in (d ∷ r) a i.1 e n)) m

-- of a list that begins with a chunk in step
backward_from : (c : Received) (r : List Received) (b : Received) → IsInStep (chunks_of (c ∷ r)) → Among b r
    → (a : Received) × Among a (c ∷ r) × (goes_on a.chunk b.chunk ≡ true)
backward_from c [] b i m = absurd m
backward_from c (d ∷ r) b i m =
    ⊎_elim (λ (q : d ≡ b). (c, inl refl, subst (λ z. goes_on c.chunk z.chunk ≡ true) q i.0))
    (λ n. let k = backward_from d r b i.1 n in (k.0, inr k.1, k.2)) m

backward_in : (run : List Received) (b : Received) → IsInStep (chunks_of run) → Begins (chunks_of run) → Among b run
    → (b.chunk.begins ≡ true) ⊎ ((a : Received) × Among a run × (goes_on a.chunk b.chunk ≡ true))
backward_in [] b i e m = absurd m
backward_in (c ∷ r) b i e m =
    ⊎_elim (λ (q : c ≡ b). inl (subst (λ z. z.chunk.begins ≡ true) q e)) (λ n. inr (backward_from c r b i n)) m

-- the message of a chunk that was given
Among-joined : (d : Received) (runs : List (List Received)) → Among d (joined runs) → (run : List Received) × Among run runs × Among d run
Among-joined d [] m = absurd m
Among-joined d (r ∷ rs) m =
    ⊎_elim (λ a. (r, inl refl, a)) (λ b. let k = Among-joined d rs b in (k.0, inr k.1, k.2)) (Among-parts d r (joined rs) m)

in_joined : (d : Received) (run : List Received) (runs : List (List Received)) → Among run runs → Among d run → Among d (joined runs)
in_joined d run [] m n = absurd m
in_joined d run (r ∷ rs) m n =
    ⊎_elim (λ (q : r ≡ run). Among-left d r (joined rs) (subst (λ l. Among d l) (sym q) n))
    (λ k. Among-right d r (joined rs) (in_joined d run rs k n)) m

module _ (all : List Received) (differ : NoneTwice all) (numbers : (d : Received) → Among d all → d.chunk.tsn < 2 ^ 32)
    (runs : List (List Received)) (whole : (run : List Received) → Among run runs → IsUserMessage (chunks_of run))
    (told : (d : Received) → Among d (joined runs) → Among d all) where
  -- if a chunk was given, so was the one that goes on with it, and the one with which it goes on
  next_told : (a b : Received) → Among b all → goes_on a.chunk b.chunk ≡ true → Among a (joined runs) → Among b (joined runs)
  next_told a b mb g m =
      let k = Among-joined a runs m in
      let w = whole k.0 k.1 in
      ⊎_elim (λ e. absurd (false≢true (sym (goes_on_has a.chunk b.chunk g).not_last ∙ e)))
      (λ (t : (x : Received) × Among x k.0 × (goes_on a.chunk x.chunk ≡ true)). next k.0 k.1 t.0 t.1 t.2)
      (onward_in k.0 a w.in_step w.ends k.2)
    where
      next : (run : List Received) → Among run runs → (x : Received) → Among x run → goes_on a.chunk x.chunk ≡ true → Among b (joined runs)
      next run r x n h =
          let x_told : Among x (joined runs) = in_joined x run runs r n in
          subst (λ z. Among z (joined runs)) (same_one all x b differ (told x x_told) mb (next_key a.chunk x.chunk b.chunk h g)) x_told

  back_told : (a b : Received) → Among a all → goes_on a.chunk b.chunk ≡ true → Among b (joined runs) → Among a (joined runs)
  back_told a b ma g m =
      let k = Among-joined b runs m in
      let w = whole k.0 k.1 in
      ⊎_elim (λ e. absurd (false≢true (sym (goes_on_has a.chunk b.chunk g).not_first ∙ e)))
      (λ (t : (x : Received) × Among x k.0 × (goes_on x.chunk b.chunk ≡ true)). back k.0 k.1 t.0 t.1 t.2)
      (backward_in k.0 b w.in_step w.begins k.2)
    where
      back : (run : List Received) → Among run runs → (x : Received) → Among x run → goes_on x.chunk b.chunk ≡ true → Among a (joined runs)
      back run r x n h =
          let x_told : Among x (joined runs) = in_joined x run runs r n in
          subst (λ z. Among z (joined runs)) (same_one all x a differ (told x x_told) ma
          (key_before x.chunk a.chunk b.chunk (numbers x (told x x_told)) (numbers a ma) h g)) x_told

  all_onward : (a : Received) (r : List Received) → ((d : Received) → Among d r → Among d all) → IsInStep (chunks_of (a ∷ r))
      → Among a (joined runs) → (d : Received) → Among d r → Among d (joined runs)
  all_onward a [] ms i m d n = absurd n
  all_onward a (b ∷ r) ms i m d n =
      let b_told : Among b (joined runs) = next_told a b (ms b (inl refl)) i.0 m in
      ⊎_elim (λ (q : b ≡ d). subst (λ z. Among z (joined runs)) q b_told)
      (λ k. all_onward b r (λ x y. ms x (inr y)) i.1 b_told d k) n

  first_told : (a : Received) (r : List Received) (x : Received) → ((d : Received) → Among d (a ∷ r) → Among d all)
      → IsInStep (chunks_of ((a ∷ r) ++ x ∷ [])) → Among x (joined runs) → Among a (joined runs)
  first_told a [] x ms i m = back_told a x (ms a (inl refl)) i.0 m
  first_told a (b ∷ r) x ms i m =
      back_told a b (ms a (inl refl)) i.0 (first_told b r x (λ d n. ms d (inr n)) i.1 m)

-- ---- the last chunk of a message

module _ (cs : List Received) (c : Received) (front back : List Received) (differ : NoneTwice (cs ++ c ∷ []))
    (numbers : (d : Received) → Among d (cs ++ c ∷ []) → d.chunk.tsn < 2 ^ 32)
    (arrived : (d : Received) → Among d (front ++ c ∷ back) → Among d (cs ++ c ∷ []))
    (whole : IsUserMessage (chunks_of (front ++ c ∷ back)))
    (given_up : NoneGivenUp cs) where
  story : Along [] nothing cs []
  story = whole_story cs (none_twice-front cs (c ∷ []) differ)

  told_past : (d : Received) → Among d (joined story.more) → Among d (cs ++ c ∷ [])
  unfolding story
  told_past d m = Among-left d cs (c ∷ []) (story.story.told d m)

  -- c itself was not given before
  c_not_told : Among c (joined story.more) → ⊥
  unfolding story
  c_not_told m = parts_apart cs (c ∷ []) c c differ (story.story.told c m) (inl refl) refl

  apart : NoneTwice (front ++ c ∷ back)
  apart = no_repeat (cs ++ c ∷ []) differ (front ++ c ∷ back) arrived whole.in_step whole.ends

  held : (d : Received) → Among d cs → Among d (kept_after nothing cs).waiting ⊎ Among d (joined story.more)
  unfolding story
  held d m = story.held (λ place n. given_up place (contained (Waits (Some place)) (all_given nothing cs) n)) (λ x n. absurd n) d m

  in_past : (d : Received) → Among d (front ++ c ∷ back) → (c ≡ d → ⊥) → Among d cs
  in_past d m other =
      ⊎_elim (λ a. a) (λ b. ⊎_elim (λ (q : c ≡ d). absurd (other q)) (λ z. absurd z) b) (Among-parts d cs (c ∷ []) (arrived d m))

  front_waits : (d : Received) → Among d front → Among d (kept_after nothing cs).waiting
  unfolding story
  front_waits d m =
      ⊎_elim (λ w. w) (λ j. absurd (c_not_told (reached j)))
      (held d (in_past d (Among-left d front (c ∷ back) m)
      (λ e. parts_apart front (c ∷ back) d c apart m (inl refl) (ap (λ (x : Received). key_of x.chunk) (sym e)))))
    where
      go : (before between : List Received) → front ≡ before ++ d ∷ between → Among d (joined story.more) → Among c (joined story.more)
      go before between e j =
          let parts : front ++ c ∷ back ≡ before ++ d ∷ (between ++ c ∷ back) =
          ap (λ (l : List Received). l ++ c ∷ back) e ∙ append_assoc before (d ∷ between) (c ∷ back) in
          all_onward (cs ++ c ∷ []) differ numbers story.more story.story.whole told_past d (between ++ c ∷ back)
          (λ x n. arrived x (subst (λ l. Among x l) (sym parts) (Among-right x before (d ∷ (between ++ c ∷ back)) (inr n))))
          (in_step-back before d (between ++ c ∷ back) (subst (λ (l : List Received). IsInStep (chunks_of l)) parts whole.in_step)) j c
          (Among-right c between (c ∷ back) (inl refl))

      reached : Among d (joined story.more) → Among c (joined story.more)
      reached j = let k = Among-split d front m in go k.0 k.1 k.2 j

  back_waits : (d : Received) → Among d back → Among d (kept_after nothing cs).waiting
  unfolding story
  back_waits d m =
      ⊎_elim (λ w. w) (λ j. absurd (c_not_told (reached j)))
      (held d (in_past d (Among-right d front (c ∷ back) (inr m)) (λ e. c_again e)))
    where
      after_apart : (xs ys : List Received) → NoneTwice (xs ++ ys) → NoneTwice ys
      after_apart [] ys h = h
      after_apart (x ∷ xs) ys h = after_apart xs ys h.1

      c_again : c ≡ d → ⊥
      c_again e = parts_apart (c ∷ []) back c d (after_apart front (c ∷ back) apart) (inl refl) m (ap (λ (x : Received). key_of x.chunk) e)

      go : (before between : List Received) → back ≡ before ++ d ∷ between → Among d (joined story.more) → Among c (joined story.more)
      go before between e j =
          let i : IsInStep (chunks_of ((c ∷ before) ++ d ∷ between)) =
          subst (λ (l : List Received). IsInStep (chunks_of (c ∷ l))) e (in_step-back front c back whole.in_step) in
          first_told (cs ++ c ∷ []) differ numbers story.more story.story.whole told_past c before d
          (λ x n. arrived x (Among-right x front (c ∷ back) (⊎_elim (λ q. inl q)
          (λ b. inr (subst (λ l. Among x l) (sym e) (Among-left x before (d ∷ between) b))) n)))
          (in_step-front (c ∷ before) d between i) j

      reached : Among d (joined story.more) → Among c (joined story.more)
      reached j = let k = Among-split d back m in go k.0 k.1 k.2 j

  found : run_of (kept_after nothing cs).waiting c ≡ Some (front ++ c ∷ back)
  unfolding story
  found =
      run_found (cs ++ c ∷ []) differ (kept_after nothing cs).waiting
      (λ d m. Among-left d cs (c ∷ []) (story.story.waited d m)) numbers c front back apart front_waits back_waits whole

  -- a message of one chunk
  single : c.chunk.begins ≡ true → c.chunk.ends ≡ true → front ++ c ∷ back ≡ c ∷ []
  single b e =
      ⊎_elim
      (λ (q : front ≡ []). ap (λ (l : List Received). l ++ c ∷ back) q ∙ ends_here back (in_step-back front c back whole.in_step))
      (λ (k : (before : List Received) × (d : Received) × (front ≡ before ++ d ∷ [])). absurd (begins_here k.0 k.1 k.2))
      (last_split front)
    where
      ends_here : (l : List Received) → IsInStep (chunks_of (c ∷ l)) → c ∷ l ≡ c ∷ []
      ends_here [] i = refl
      ends_here (d ∷ l) i = absurd (false≢true (sym (goes_on_has c.chunk d.chunk i.0).not_last ∙ e))

      begins_here : (before : List Received) (d : Received) → front ≡ before ++ d ∷ [] → ⊥
      begins_here before d q =
          let parts : front ++ c ∷ back ≡ before ++ d ∷ c ∷ back =
          ap (λ (l : List Received). l ++ c ∷ back) q ∙ append_assoc before (d ∷ []) (c ∷ back) in
          let g : goes_on d.chunk c.chunk ≡ true =
          (in_step-back before d (c ∷ back) (subst (λ (l : List Received). IsInStep (chunks_of l)) parts whole.in_step)).0 in
          false≢true (sym (goes_on_has d.chunk c.chunk g).not_first ∙ b)

  pub comes : last_given cs c ≡ Whole (message_of (chunks_of (front ++ c ∷ back)))
  unfolding story
  comes =
      took_cases (λ o. o.1 ≡ Whole (message_of (chunks_of (front ++ c ∷ back)))) (kept_after nothing cs) c (λ _. first)
      (λ _ f. absurd (there f)) (λ _ _. first)
    where
      some_is : (x y : List Received) → Some x ≡ Some y → x ≡ y
      some_is x y e = cc

      none : None ≡ Some (front ++ c ∷ back) → ⊥
      none e = cc

      there : list_any (same_key (key_of c.chunk)) (kept_after nothing cs).seen ≡ true → ⊥
      there f =
          let k = any_among (same_key (key_of c.chunk)) (kept_after nothing cs).seen f in
          let d = story.story.seen k.0 k.1 in
          parts_apart cs (c ∷ []) d.0 c differ d.1 (inl refl) (d.2 ∙ sym (key_is (key_of c.chunk) k.0 k.2))

      first : (first_copy (kept_after nothing cs).waiting c).given ≡ Whole (message_of (chunks_of (front ++ c ∷ back)))
      first =
          first_cases (λ o. o.given ≡ Whole (message_of (chunks_of (front ++ c ∷ back)))) (kept_after nothing cs).waiting c
          (λ b e. ap Whole (sym (append-nil c.chunk.payload) ∙ ap (λ (l : List Received). message_of (chunks_of l)) (sym (single b e))))
          (λ run e. ap (λ (l : List Received). Whole (message_of (chunks_of l))) (some_is run (front ++ c ∷ back) (sym e ∙ found)))
          (λ e. absurd (none (sym e ∙ found)))

pub is_given : (cs : List Received) (c : Received) (run : List Received) → NoneTwice (cs ++ c ∷ []) → HaveNumbers (cs ++ c ∷ [])
    → NoneGivenUp cs → IsUserMessage (chunks_of run) → All (Contains (cs ++ c ∷ [])) run → Contains run c
    → last_given cs c ≡ Whole (message_of (chunks_of run))
is_given cs c run differ numbers given_up whole arrived has =
    let k = Among-split c run (among c run has) in
    subst (λ l. last_given cs c ≡ Whole (message_of (chunks_of l))) (sym k.2)
    (comes cs c k.0 k.1 differ (λ d m. All-among (λ x. x.chunk.tsn < 2 ^ 32) d (cs ++ c ∷ []) numbers m)
    (λ d m. among d (cs ++ c ∷ []) (All-among (λ x. Contains (cs ++ c ∷ []) x) d run arrived (subst (λ l. Among d l) (sym k.2) m)))
    (subst (λ l. IsUserMessage (chunks_of l)) k.2 whole) given_up)
