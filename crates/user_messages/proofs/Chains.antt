-- Chunks in step, of a capture that has none twice: one chain leads from a chunk to the end of its message, and one from its
-- beginning, and the two searches find them.
use Rattle.std.specs.Prelude.{◌≡◌, ◌⊎◌, ℕ, ◌+◌, ◌<◌, ◌^◌, true, cond, List, [], ◌∷◌, ◌++◌, length, find, Some}
use Rattle.std.specs.Prelude.{refl, option_map}
use Rattle.std.proofs.Common.{zero, suc, inl, inr, ⊎_elim, sym, ap, subst, ◌∙◌, arith, append_assoc}
use Rattle.std.proofs.lemmas.Bool.{false≢true, cond-true, cond-false}
use Rattle.std.proofs.lemmas.List.{length-append}
use Rattle.sccp_base.proofs.Among.{Among, find_one}
use Rattle.user_messages.specs.Chunks.{goes_on}
use Rattle.user_messages.specs.UserMessages.{IsInStep, Begins, Ends, IsUserMessage}
use Rattle.user_messages.specs.Gathering.{Received, chunks_of, follow, up_to, after, both_parts, run_of}
use Rattle.user_messages.specs.Captures.{NoneTwice}
use Rattle.user_messages.proofs.Keys.{goes_on_has, next_key, key_before}
use Rattle.user_messages.proofs.Lists.{Among-left, Among-right, Among-split}
use Rattle.user_messages.proofs.Apart.{has_key-false, same_one, none_twice-front, no_more}

-- ---- parts of a chain

pub in_step-front : (front : List Received) (c : Received) (back : List Received) → IsInStep (chunks_of (front ++ c ∷ back))
    → IsInStep (chunks_of (front ++ c ∷ []))
in_step-front [] c back h = tt
in_step-front (a ∷ []) c back h = (h.0, tt)
in_step-front (a ∷ b ∷ r) c back h = (h.0, in_step-front (b ∷ r) c back h.1)

pub in_step-back : (front : List Received) (c : Received) (back : List Received) → IsInStep (chunks_of (front ++ c ∷ back))
    → IsInStep (chunks_of (c ∷ back))
in_step-back [] c back h = h
in_step-back (a ∷ []) c back h = h.1
in_step-back (a ∷ b ∷ r) c back h = in_step-back (b ∷ r) c back h.1

pub ends-back : (front : List Received) (c : Received) (back : List Received) → Ends (chunks_of (front ++ c ∷ back))
    → Ends (chunks_of (c ∷ back))
ends-back [] c back h = h
ends-back (a ∷ []) c back h = h
ends-back (a ∷ b ∷ r) c back h = ends-back (b ∷ r) c back h

pub begins-front : (front : List Received) (c : Received) (back : List Received) → Begins (chunks_of (front ++ c ∷ back))
    → Begins (chunks_of (front ++ c ∷ []))
begins-front [] c back h = h
begins-front (a ∷ r) c back h = h

-- a list is empty, or has a last element
pub last_split : (xs : List Received) → (xs ≡ []) ⊎ ((front : List Received) × (d : Received) × (xs ≡ front ++ d ∷ []))
last_split [] = inl refl
last_split (x ∷ xs) =
    ⊎_elim (λ (e : xs ≡ []). inr ([], x, ap (λ l. x ∷ l) e))
    (λ (k : (front : List Received) × (d : Received) × (xs ≡ front ++ d ∷ [])). inr (x ∷ k.0, k.1, ap (λ l. x ∷ l) k.2)) (last_split xs)

module _ (all : List Received) (differ : NoneTwice all) where
  Arrived : List Received → Type 0
  Arrived xs = (d : Received) → Among d xs → Among d all

  -- one chain leads on from a chunk
  pub one_chain : (c : Received) (s t : List Received) → ((d : Received) → Among d s → Among d all)
      → ((d : Received) → Among d t → Among d all)
      → IsInStep (chunks_of (c ∷ s)) → Ends (chunks_of (c ∷ s)) → IsInStep (chunks_of (c ∷ t)) → Ends (chunks_of (c ∷ t)) → s ≡ t
  one_chain c [] [] ms mt i e j f = refl
  one_chain c [] (y ∷ t) ms mt i e j f = absurd (false≢true (sym (goes_on_has c.chunk y.chunk j.0).not_last ∙ e))
  one_chain c (x ∷ s) [] ms mt i e j f = absurd (false≢true (sym (goes_on_has c.chunk x.chunk i.0).not_last ∙ f))
  one_chain c (x ∷ s) (y ∷ t) ms mt i e j f =
      let q : y ≡ x = same_one all y x differ (mt y (inl refl)) (ms x (inl refl)) (next_key c.chunk y.chunk x.chunk j.0 i.0) in
      let rest : s ≡ t = one_chain x s t (λ d m. ms d (inr m)) (λ d m. mt d (inr m)) i.1 e
      (subst (λ (z : Received). IsInStep (chunks_of (z ∷ t))) q j.1) (subst (λ (z : Received). Ends (chunks_of (z ∷ t))) q f) in
      λ k. sym q k ∷ rest k

  -- so no chunk is in it twice
  pub no_repeat : (run : List Received) → ((d : Received) → Among d run → Among d all) → IsInStep (chunks_of run) → Ends (chunks_of run)
      → NoneTwice run
  no_repeat [] ms i e = tt
  no_repeat (c ∷ []) ms i e = (refl, tt)
  no_repeat (c ∷ x ∷ r) ms i e = (
    has_key-false (x ∷ r) c (λ d m k. again d m (same_one all c d differ (ms c (inl refl)) (ms d (inr m)) k)),
    no_repeat (x ∷ r) (λ d m. ms d (inr m)) i.1 e,
  )
    where
      shorter : (front back : List Received) → x ∷ r ≡ front ++ c ∷ back → ⊥
      shorter front back p =
          let i' : IsInStep (chunks_of (c ∷ (front ++ c ∷ back))) = subst (λ (l : List Received). IsInStep (chunks_of (c ∷ l))) p i in
          let e' : Ends (chunks_of (c ∷ (front ++ c ∷ back))) = subst (λ (l : List Received). Ends (chunks_of (c ∷ l))) p e in
          let same : x ∷ r ≡ back = one_chain c (x ∷ r) back (λ d m. ms d (inr m))
          (λ d m. ms d (inr (subst (λ l. Among d l) (sym p) (Among-right d front (c ∷ back) (inr m)))))
          i e (in_step-back (c ∷ front) c back i') (ends-back (c ∷ front) c back e') in
          let one : length (x ∷ r) ≡ length (front ++ c ∷ back) = ap length p in
          let two : length (front ++ c ∷ back) ≡ length front + length (c ∷ back) = length-append front (c ∷ back) in
          let three : length (x ∷ r) ≡ length back = ap length same in
          omega arith

      again : (d : Received) → Among d (x ∷ r) → c ≡ d → ⊥
      again d m q = let k = Among-split c (x ∷ r) (subst (λ z. Among z (x ∷ r)) (sym q) m) in shorter k.0 k.1 k.2

  -- ---- the searches find the chains

  module _ (waiting : List Received) (arrived : (d : Received) → Among d waiting → Among d all)
      (numbers : (d : Received) → Among d all → d.chunk.tsn < 2 ^ 32) where
    pub after_finds : (most : ℕ) (c : Received) (back : List Received) → length back < most
        → ((d : Received) → Among d back → Among d waiting)
        → IsInStep (chunks_of (c ∷ back)) → Ends (chunks_of (c ∷ back)) → after most waiting c ≡ Some back
    unfolding after
    after_finds zero c back lt m i e = absurd (omega arith)
    after_finds (suc most) c [] lt m i e =
        cond-true c.chunk.ends (Some []) (follow (λ d. option_map (λ run. d ∷ run) (after most waiting d))
        (find (λ d. goes_on c.chunk d.chunk) waiting)) e
    after_finds (suc most) c (x ∷ r) lt m i e =
        let g = goes_on_has c.chunk x.chunk i.0 in
        let found : find (λ d. goes_on c.chunk d.chunk) waiting ≡ Some x =
        find_one (λ d. goes_on c.chunk d.chunk) x waiting (m x (inl refl)) i.0
        (λ y n k. same_one all y x differ (arrived y n) (arrived x (m x (inl refl))) (next_key c.chunk y.chunk x.chunk k i.0)) in
        cond-false c.chunk.ends (Some []) (follow (λ d. option_map (λ run. d ∷ run) (after most waiting d))
        (find (λ d. goes_on c.chunk d.chunk) waiting)) g.not_last
        ∙ ap (follow (λ d. option_map (λ run. d ∷ run) (after most waiting d))) found
        ∙ ap (option_map (λ run. x ∷ run)) (after_finds most x r (omega arith) (λ d n. m d (inr n)) i.1 e)

    pub up_to_finds : (most : ℕ) (c : Received) (front : List Received) → length front < most
        → ((d : Received) → Among d front → Among d waiting)
        → Begins (chunks_of (front ++ c ∷ [])) → IsInStep (chunks_of (front ++ c ∷ [])) → up_to most waiting c ≡ Some (front ++ c ∷ [])
    unfolding up_to
    up_to_finds zero c front lt m b i = absurd (omega arith)
    up_to_finds (suc most) c front lt m b i =
        ⊎_elim
        (λ (e : front ≡ []). none e)
        (λ (k : (before : List Received) × (d : Received) × (front ≡ before ++ d ∷ [])).
        several k.0 k.1 k.2 (up_to_finds most k.1 k.0)) (last_split front)
      where
        none : front ≡ [] → cond c.chunk.begins (Some (c ∷ []))
            (option_map (λ run. run ++ c ∷ []) (follow (up_to most waiting) (find (λ d. goes_on d.chunk c.chunk) waiting)))
            ≡ Some (front ++ c ∷ [])
        none e =
            cond-true c.chunk.begins (Some (c ∷ [])) (option_map (λ run. run ++ c ∷ [])
            (follow (up_to most waiting) (find (λ d. goes_on d.chunk c.chunk) waiting)))
            (subst (λ (l : List Received). Begins (chunks_of (l ++ c ∷ []))) e b) ∙ ap (λ (l : List Received). Some (l ++ c ∷ [])) (sym e)

        several : (before : List Received) (d : Received) → front ≡ before ++ d ∷ []
            → (length before < most → ((x : Received) → Among x before → Among x waiting) → Begins (chunks_of (before ++ d ∷ []))
            → IsInStep (chunks_of (before ++ d ∷ [])) → up_to most waiting d ≡ Some (before ++ d ∷ []))
            → cond c.chunk.begins (Some (c ∷ [])) (option_map (λ run. run ++ c ∷ [])
            (follow (up_to most waiting) (find (λ d. goes_on d.chunk c.chunk) waiting)))
            ≡ Some (front ++ c ∷ [])
        several before d e rec =
            let parts : front ++ c ∷ [] ≡ before ++ d ∷ c ∷ [] = ap (λ (l : List Received). l ++ c ∷ []) e
            ∙ append_assoc before (d ∷ []) (c ∷ []) in
            let i' : IsInStep (chunks_of (before ++ d ∷ c ∷ [])) = subst (λ (l : List Received). IsInStep (chunks_of l)) parts i in
            let b' : Begins (chunks_of (before ++ d ∷ c ∷ [])) = subst (λ (l : List Received). Begins (chunks_of l)) parts b in
            let step : goes_on d.chunk c.chunk ≡ true = (in_step-back before d (c ∷ []) i').0 in
            let d_in : Among d front = subst (λ l. Among d l) (sym e) (Among-right d before (d ∷ []) (inl refl)) in
            let size : length front ≡ length before + 1 = ap length e ∙ length-append before (d ∷ []) in
            let found : find (λ x. goes_on x.chunk c.chunk) waiting ≡ Some d =
            find_one (λ x. goes_on x.chunk c.chunk) d waiting (m d d_in) step
            (λ y n k. same_one all y d differ (arrived y n) (arrived d (m d d_in))
            (key_before y.chunk d.chunk c.chunk (numbers y (arrived y n)) (numbers d (arrived d (m d d_in))) k step)) in
            let rest : up_to most waiting d ≡ Some (before ++ d ∷ []) =
            rec (omega arith) (λ x n. m x (subst (λ l. Among x l) (sym e) (Among-left x before (d ∷ []) n)))
            (begins-front before d (c ∷ []) b') (in_step-front before d (c ∷ []) i') in
            cond-false c.chunk.begins (Some (c ∷ [])) (option_map (λ run. run ++ c ∷ [])
            (follow (up_to most waiting) (find (λ x. goes_on x.chunk c.chunk) waiting)))
            (goes_on_has d.chunk c.chunk step).not_first
            ∙ ap (λ o. option_map (λ run. run ++ c ∷ []) (follow (up_to most waiting) o)) found
            ∙ ap (option_map (λ run. run ++ c ∷ [])) rest ∙ ap (λ (l : List Received). Some (l ++ c ∷ [])) (sym e)

    -- a whole message of chunks that wait, and c
    pub run_found : (c : Received) (front back : List Received) → NoneTwice (front ++ c ∷ back)
        → ((d : Received) → Among d front → Among d waiting) → ((d : Received) → Among d back → Among d waiting)
        → IsUserMessage (chunks_of (front ++ c ∷ back)) → run_of waiting c ≡ Some (front ++ c ∷ back)
    unfolding run_of
    run_found c front back apart mf mb whole =
        let few = no_more front waiting (none_twice-front front (c ∷ back) apart) mf in
        let rest = no_more back waiting (back_apart front (c ∷ back) apart).1 mb in
        ap (λ o. both_parts o (after (length waiting + 1) waiting c))
        (up_to_finds (length waiting + 1) c front (omega arith) mf (begins-front front c back whole.begins)
        (in_step-front front c back whole.in_step))
        ∙ ap (both_parts (Some (front ++ c ∷ [])))
        (after_finds (length waiting + 1) c back (omega arith) mb (in_step-back front c back whole.in_step)
        (ends-back front c back whole.ends))
        ∙ ap Some (append_assoc front (c ∷ []) back)
      where
        back_apart : (xs ys : List Received) → NoneTwice (xs ++ ys) → NoneTwice ys
        back_apart [] ys h = h
        back_apart (x ∷ xs) ys h = back_apart xs ys h.1
