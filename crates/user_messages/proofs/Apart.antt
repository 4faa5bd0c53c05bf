-- Chunks of which no two have one association and one number.
use Rattle.std.specs.Prelude.{◌≡◌, ◌+◌, ◌≤◌, true, false, List, [], ◌∷◌, ◌++◌, length, refl}
use Rattle.std.proofs.Common.{inl, inr, ⊎_elim, sym, ap, subst, ◌∙◌, arith}
use Rattle.std.proofs.lemmas.Bool.{false≢true, false_from_ne_true}
use Rattle.std.proofs.lemmas.List.{length-append}
use Rattle.sccp_base.proofs.Among.{Among, list_any-none}
use Rattle.user_messages.specs.Chunks.{key_of, same_key, same_chunk}
use Rattle.user_messages.specs.Gathering.{Received, has_key}
use Rattle.user_messages.specs.Captures.{NoneTwice}
use Rattle.user_messages.proofs.Keys.{key_is, key_itself}
use Rattle.user_messages.proofs.Lists.{Among-left, Among-right, Among-parts, Among-split, any_among}

pub same_from : (c d : Received) → key_of c.chunk ≡ key_of d.chunk → same_chunk c.chunk d.chunk ≡ true
same_from c d e = ap (same_key (key_of c.chunk)) (sym e) ∙ key_itself (key_of c.chunk)

pub has_key-not : (cs : List Received) (c d : Received) → has_key cs c ≡ false → Among d cs → key_of c.chunk ≡ key_of d.chunk → ⊥
has_key-not cs c d h m e =
    false≢true (sym (list_any-none (λ x. same_chunk c.chunk x.chunk) d cs h m) ∙ same_from c d e)

pub has_key-found : (cs : List Received) (c : Received) → has_key cs c ≡ true
    → (d : Received) × Among d cs × (key_of c.chunk ≡ key_of d.chunk)
has_key-found cs c h =
    let k = any_among (λ x. same_chunk c.chunk x.chunk) cs h in
    (k.0, k.1, key_is (key_of c.chunk) (key_of k.0.chunk) k.2)

pub has_key-false : (cs : List Received) (c : Received) → ((d : Received) → Among d cs → key_of c.chunk ≡ key_of d.chunk → ⊥)
    → has_key cs c ≡ false
has_key-false cs c h = false_from_ne_true (has_key cs c) (λ e. let k = has_key-found cs c e in h k.0 k.1 k.2)

-- two of them with one key are one
pub same_one : (cs : List Received) (x y : Received) → NoneTwice cs → Among x cs → Among y cs → key_of x.chunk ≡ key_of y.chunk → x ≡ y
same_one [] x y differ m n e = absurd m
same_one (c ∷ cs) x y differ m n e =
    ⊎_elim
    (λ (p : c ≡ x). ⊎_elim (λ (q : c ≡ y). sym p ∙ q)
    (λ (k : Among y cs). absurd (has_key-not cs c y differ.0 k (ap (λ (d : Received). key_of d.chunk) p ∙ e))) n)
    (λ (l : Among x cs). ⊎_elim
    (λ (q : c ≡ y). absurd (has_key-not cs c x differ.0 l (ap (λ (d : Received). key_of d.chunk) q ∙ sym e)))
    (λ (k : Among y cs). same_one cs x y differ.1 l k e) n) m

pub none_twice-front : (xs ys : List Received) → NoneTwice (xs ++ ys) → NoneTwice xs
none_twice-front [] ys h = tt
none_twice-front (x ∷ xs) ys h =
    (has_key-false xs x (λ d m e. has_key-not (xs ++ ys) x d h.0 (Among-left d xs ys m) e), none_twice-front xs ys h.1)

pub parts_apart : (xs ys : List Received) (x y : Received) → NoneTwice (xs ++ ys) → Among x xs → Among y ys
    → key_of x.chunk ≡ key_of y.chunk → ⊥
parts_apart [] ys x y h m n e = absurd m
parts_apart (c ∷ xs) ys x y h m n e =
    ⊎_elim
    (λ (p : c ≡ x). has_key-not (xs ++ ys) c y h.0 (Among-right y xs ys n) (ap (λ (d : Received). key_of d.chunk) p ∙ e))
    (λ (k : Among x xs). parts_apart xs ys x y h.1 k n e) m

pub none_twice-append : (xs ys : List Received) → NoneTwice xs → NoneTwice ys
    → ((x y : Received) → Among x xs → Among y ys → key_of x.chunk ≡ key_of y.chunk → ⊥) → NoneTwice (xs ++ ys)
none_twice-append [] ys h k apart = k
none_twice-append (x ∷ xs) ys h k apart = (
  has_key-false (xs ++ ys) x (λ d m e. ⊎_elim (λ a. has_key-not xs x d h.0 a e) (λ b. apart x d (inl refl) b e)
      (Among-parts d xs ys m)),
  none_twice-append xs ys h.1 k (λ a b m n e. apart a b (inr m) n e),
)

-- they are no more than the chunks of a list that has them all
pub no_more : (xs ys : List Received) → NoneTwice xs → ((x : Received) → Among x xs → Among x ys) → length xs ≤ length ys
no_more [] ys h all = omega arith
no_more (x ∷ xs) ys h all =
    let k = Among-split x ys (all x (inl refl)) in
    let rest = no_more xs (k.0 ++ k.1) h.1 (λ z m. others k.0 k.1 z m (subst (λ l. Among z l) k.2 (all z (inr m)))) in
    let one : length (k.0 ++ k.1) ≡ length k.0 + length k.1 = length-append k.0 k.1 in
    let two : length (k.0 ++ x ∷ k.1) ≡ length k.0 + length (x ∷ k.1) = length-append k.0 (x ∷ k.1) in
    let three : length ys ≡ length (k.0 ++ x ∷ k.1) = ap length k.2 in
    omega arith
  where
    others : (front back : List Received) (z : Received) → Among z xs → Among z (front ++ x ∷ back) → Among z (front ++ back)
    others front back z m n =
        ⊎_elim (λ a. Among-left z front back a)
        (λ b. ⊎_elim (λ (q : x ≡ z). absurd (has_key-not xs x z h.0 m (ap (λ (d : Received). key_of d.chunk) q)))
        (λ r. Among-right z front back r) b) (Among-parts z front (x ∷ back) n)
