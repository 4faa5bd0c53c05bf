-- The steps in which the code puts a message together.
use Rattle.std.specs.Prelude.{◌≡◌, ℕ, ◌+◌, ◌-◌, ◌<◌, true, false, List, [], ◌∷◌, ◌++◌, length, find, IfOk, Option, Some}
use Rattle.std.specs.Prelude.{None, Result, refl, option_map}
use Rattle.std.proofs.Common.{zero, suc, sym, ap, subst, ◌∙◌, arith, append_assoc}
use Rattle.std.proofs.lemmas.Bool.{cond-true, cond-false}
use Rattle.std.proofs.lemmas.List.{append-nil, map-append}
use Rattle.std.proofs.lemmas.List.Concat.{flat_map-append}
use Rattle.packet_layers.specs.Values.{DataChunk}
use Rattle.sccp_base.specs.declared.out_of_memory.OutOfMemory.{OutOfMemory}
use Rattle.user_messages.specs.declared.key.Key.{Key}
use Rattle.user_messages.specs.declared.run.Run.{Run}
use Rattle.user_messages.specs.Chunks.{key_of, goes_on}
use Rattle.user_messages.specs.UserMessages.{message_of}
use Rattle.user_messages.specs.Gathering.{Received, chunks_of, follow, up_to, after, both_parts, run_of}
use Rattle.user_messages.specs.Runs.{keys_of, put_together, longer, longer_by}

-- ---- runs

abbrev a_run : List Key → List ℕ → Run
a_run keys octets = record { keys = keys; octets = octets }

chunks-append : (xs ys : List Received) → chunks_of (xs ++ ys) ≡ chunks_of xs ++ chunks_of ys
chunks-append xs ys = map-append (λ (c : Received). c.chunk) xs ys

keys-append : (xs ys : List Received) → keys_of (chunks_of (xs ++ ys)) ≡ keys_of (chunks_of xs) ++ keys_of (chunks_of ys)
keys-append xs ys = ap keys_of (chunks-append xs ys) ∙ map-append key_of (chunks_of xs) (chunks_of ys)

octets-append : (xs ys : List Received) → message_of (chunks_of (xs ++ ys)) ≡ message_of (chunks_of xs) ++ message_of (chunks_of ys)
octets-append xs ys = ap message_of (chunks-append xs ys) ∙ flat_map-append (λ (c : DataChunk). c.payload) (chunks_of xs) (chunks_of ys)

by_parts : (front back : List Received) → longer_by (put_together front) back ≡ put_together (front ++ back)
unfolding put_together longer_by
by_parts front back = λ i. a_run (sym (keys-append front back) i) (sym (octets-append front back) i)

one_more : (front : List Received) (c : Received) → longer (put_together front) c.chunk ≡ put_together (front ++ c ∷ [])
unfolding put_together longer
one_more front c =
    let keys : keys_of (chunks_of front) ++ key_of c.chunk ∷ [] ≡ keys_of (chunks_of (front ++ c ∷ [])) =
    sym (keys-append front (c ∷ [])) in
    let octets : message_of (chunks_of front) ++ c.chunk.payload ≡ message_of (chunks_of (front ++ c ∷ [])) =
    ap (λ (o : List ℕ). message_of (chunks_of front) ++ o) (sym (append-nil c.chunk.payload)) ∙ sym (octets-append front (c ∷ [])) in
    λ i. a_run (keys i) (octets i)

none_more : (run : Run) → longer_by run [] ≡ run
unfolding longer_by
none_more run = λ i. a_run (append-nil run.keys i) (append-nil run.octets i)

first_more : (run : Run) (d : Received) (more : List Received) → longer_by (longer run d.chunk) more ≡ longer_by run (d ∷ more)
unfolding longer longer_by
first_more run d more =
    λ i. a_run (append_assoc run.keys (key_of d.chunk ∷ []) (keys_of (chunks_of more)) i)
    (append_assoc run.octets d.chunk.payload (message_of (chunks_of more)) i)

-- ---- up to a chunk

module _ (most : ℕ) (waiting : List Received) (c : Received) where
  pub up_to-none : most ≡ 0 → None ≡ option_map put_together (up_to most waiting c)
  unfolding up_to
  up_to-none e = ap (λ n. option_map put_together (up_to n waiting c)) (sym e)

pub up_to-first : (most : ℕ) (waiting : List Received) (c : Received) → 0 < most → c.chunk.begins ≡ true
    → Some (longer (put_together []) c.chunk) ≡ option_map put_together (up_to most waiting c)
unfolding up_to
up_to-first zero waiting c h b = absurd (omega arith)
up_to-first (suc most) waiting c h b =
    ap Some (one_more [] c)
    ∙ ap (option_map put_together) (sym (cond-true c.chunk.begins (Some (c ∷ []))
    (option_map (λ run. run ++ c ∷ []) (follow (up_to most waiting) (find (λ d. goes_on d.chunk c.chunk) waiting))) b))

up_to-on : (most : ℕ) (waiting : List Received) (c : Received) (o : Option Received) → 0 < most → c.chunk.begins ≡ false
    → find (λ d. goes_on d.chunk c.chunk) waiting ≡ o
    → up_to most waiting c ≡ option_map (λ run. run ++ c ∷ []) (follow (up_to (most - 1) waiting) o)
unfolding up_to
up_to-on zero waiting c o h b f = absurd (omega arith)
up_to-on (suc most) waiting c o h b f =
    let less : suc most - 1 ≡ most = omega arith in
    cond-false c.chunk.begins (Some (c ∷ []))
    (option_map (λ run. run ++ c ∷ []) (follow (up_to most waiting) (find (λ d. goes_on d.chunk c.chunk) waiting))) b
    ∙ ap (λ p. option_map (λ run. run ++ c ∷ []) (follow (up_to most waiting) p)) f
    ∙ ap (λ n. option_map (λ run. run ++ c ∷ []) (follow (up_to n waiting) o)) (sym less)

pub up_to-lost : (most : ℕ) (waiting : List Received) (c : Received) → 0 < most → c.chunk.begins ≡ false
    → find (λ d. goes_on d.chunk c.chunk) waiting ≡ None → None ≡ option_map put_together (up_to most waiting c)
up_to-lost most waiting c h b f = ap (option_map put_together) (sym (up_to-on most waiting c None h b f))

pub up_to-far : (most : ℕ) (waiting : List Received) (c d : Received) → 0 < most → c.chunk.begins ≡ false
    → find (λ d. goes_on d.chunk c.chunk) waiting ≡ Some d → None ≡ option_map put_together (up_to (most - 1) waiting d)
    → None ≡ option_map put_together (up_to most waiting c)
up_to-far most waiting c d h b f e =
    by_rest (up_to (most - 1) waiting d) e ∙ ap (option_map put_together) (sym (up_to-on most waiting c (Some d) h b f))
  where
    by_rest : (o : Option (List Received)) → None ≡ option_map put_together o
        → None ≡ option_map put_together (option_map (λ run. run ++ c ∷ []) o)
    by_rest None k = refl
    by_rest (Some front) k = absurd (cc)

pub up_to-more : (most : ℕ) (waiting : List Received) (c d : Received) (run : Run) → 0 < most → c.chunk.begins ≡ false
    → find (λ d. goes_on d.chunk c.chunk) waiting ≡ Some d → Some run ≡ option_map put_together (up_to (most - 1) waiting d)
    → Some (longer run c.chunk) ≡ option_map put_together (up_to most waiting c)
up_to-more most waiting c d run h b f e =
    by_rest (up_to (most - 1) waiting d) e ∙ ap (option_map put_together) (sym (up_to-on most waiting c (Some d) h b f))
  where
    by_rest : (o : Option (List Received)) → Some run ≡ option_map put_together o
        → Some (longer run c.chunk) ≡ option_map put_together (option_map (λ r. r ++ c ∷ []) o)
    by_rest None k = absurd (cc)
    by_rest (Some front) k =
        let same : run ≡ put_together front = cc in
        ap (λ r. Some (longer r c.chunk)) same ∙ ap Some (one_more front c)

-- ---- after a chunk

pub after-none : (most : ℕ) (waiting : List Received) (c : Received) (run : Run) → most ≡ 0
    → None ≡ option_map (longer_by run) (after most waiting c)
unfolding after
after-none most waiting c run e = ap (λ n. option_map (longer_by run) (after n waiting c)) (sym e)

pub after-last : (most : ℕ) (waiting : List Received) (c : Received) (run : Run) → 0 < most → c.chunk.ends ≡ true
    → Some run ≡ option_map (longer_by run) (after most waiting c)
unfolding after
after-last zero waiting c run h e = absurd (omega arith)
after-last (suc most) waiting c run h e =
    ap Some (sym (none_more run))
    ∙ ap (option_map (longer_by run)) (sym (cond-true c.chunk.ends (Some [])
    (follow (λ d. option_map (λ r. d ∷ r) (after most waiting d)) (find (λ d. goes_on c.chunk d.chunk) waiting)) e))

after-on : (most : ℕ) (waiting : List Received) (c : Received) (o : Option Received) → 0 < most → c.chunk.ends ≡ false
    → find (λ d. goes_on c.chunk d.chunk) waiting ≡ o
    → after most waiting c ≡ follow (λ d. option_map (λ r. d ∷ r) (after (most - 1) waiting d)) o
unfolding after
after-on zero waiting c o h b f = absurd (omega arith)
after-on (suc most) waiting c o h b f =
    let less : suc most - 1 ≡ most = omega arith in
    cond-false c.chunk.ends (Some []) (follow (λ d. option_map (λ r. d ∷ r) (after most waiting d))
    (find (λ d. goes_on c.chunk d.chunk) waiting)) b
    ∙ ap (follow (λ d. option_map (λ r. d ∷ r) (after most waiting d))) f
    ∙ ap (λ n. follow (λ d. option_map (λ r. d ∷ r) (after n waiting d)) o) (sym less)

pub after-lost : (most : ℕ) (waiting : List Received) (c : Received) (run : Run) → 0 < most → c.chunk.ends ≡ false
    → find (λ d. goes_on c.chunk d.chunk) waiting ≡ None → None ≡ option_map (longer_by run) (after most waiting c)
after-lost most waiting c run h b f = ap (option_map (longer_by run)) (sym (after-on most waiting c None h b f))

pub after-more : (most : ℕ) (waiting : List Received) (c d : Received) (run : Run) (r : Result (Option Run) OutOfMemory) → 0 < most
    → c.chunk.ends ≡ false → find (λ d. goes_on c.chunk d.chunk) waiting ≡ Some d
    → IfOk r (λ more. more ≡ option_map (longer_by (longer run d.chunk)) (after (most - 1) waiting d))
    → IfOk r (λ more. more ≡ option_map (longer_by run) (after most waiting c))
after-more most waiting c d run r h b f e =
    subst (λ o. IfOk r (λ more. more ≡ o))
    (by_rest (after (most - 1) waiting d) ∙ ap (option_map (longer_by run)) (sym (after-on most waiting c (Some d) h b f))) e
  where
    by_rest : (o : Option (List Received)) → option_map (longer_by (longer run d.chunk)) o
        ≡ option_map (longer_by run) (option_map (λ r. d ∷ r) o)
    by_rest None = refl
    by_rest (Some more) = ap Some (first_more run d more)

-- ---- the whole run

pub run_of-none : (waiting : List Received) (c : Received) → None ≡ option_map put_together (up_to (length waiting + 1) waiting c)
    → None ≡ option_map put_together (run_of waiting c)
unfolding run_of
run_of-none waiting c e = by_front (up_to (length waiting + 1) waiting c) e
  where
    by_front : (o : Option (List Received)) → None ≡ option_map put_together o
        → None ≡ option_map put_together (both_parts o (after (length waiting + 1) waiting c))
    by_front None k = refl
    by_front (Some front) k = absurd (cc)

pub run_of-more : (waiting : List Received) (c : Received) (run : Run) (r : Result (Option Run) OutOfMemory)
    → Some run ≡ option_map put_together (up_to (length waiting + 1) waiting c)
    → IfOk r (λ more. more ≡ option_map (longer_by run) (after (length waiting + 1) waiting c))
    → IfOk r (λ more. more ≡ option_map put_together (run_of waiting c))
unfolding run_of
run_of-more waiting c run r e h =
    subst (λ o. IfOk r (λ more. more ≡ o)) (by_parts_of (up_to (length waiting + 1) waiting c) (after (length waiting + 1) waiting c) e) h
  where
    by_parts_of : (o p : Option (List Received)) → Some run ≡ option_map put_together o
        → option_map (longer_by run) p ≡ option_map put_together (both_parts o p)
    by_parts_of None p k = absurd (cc)
    by_parts_of (Some front) None k = refl
    by_parts_of (Some front) (Some back) k =
        let same : run ≡ put_together front = cc in
        ap (λ x. Some (longer_by x back)) same ∙ ap Some (by_parts front back)
