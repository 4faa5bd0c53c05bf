-- A list of links as a function of two points.
use Rattle.std.specs.Prelude.{ℕ, ◌≡◌, ◌+◌, ◌<◌, ◌≤◌, ◌==◌, nat_lt, Bool, true, false, not, cond, ◌&&◌, List, [], ◌∷◌, ◌++◌, length}
use Rattle.std.specs.Prelude.{position, Some, None, refl}
use Rattle.std.specs.List.{prefix_len, position_or_len}
use Rattle.std.proofs.Common.{zero, suc, sym, ◌∙◌, ap, ⊎_elim, arith, get_or, set}
use Rattle.std.proofs.lemmas.Bool.{cases_Bool, and_parts, and_from, eq-eqb, eqb-true, ltb-false}
use Rattle.std.proofs.lemmas.List.Quantifiers.{position-Some}
use Rattle.chain_world.specs.declared.link.Link.{Link}
use Rattle.chain_world.specs.Links.{is_link, of_link, with_at, octets_on, gone_from}

-- a test whether two numbers are the same may be made either way round
pub same_way : (m n : ℕ) → (m == n) ≡ (n == m)
same_way m n = grind arith

-- the link is that of two points if these are its points
is_it : (from to : ℕ) (l : Link) → is_link from to l ≡ true → (a b : ℕ) → is_link a b l ≡ ((a == from) && (b == to))
is_it from to l h a b =
    let parts = and_parts (l.from == from) (l.to == to) h in
    let e : l.from ≡ from = eqb-true l.from from parts.0 in
    let f : l.to ≡ to = eqb-true l.to to parts.1 in
    ap (λ (n : ℕ). (n == a) && (l.to == b)) e ∙ ap (λ (n : ℕ). (from == a) && (n == b)) f
    ∙ ap (λ (x : Bool). x && (to == b)) (same_way from a) ∙ ap (λ (x : Bool). (a == from) && x) (same_way to b)

there : (from to a b : ℕ) (l : Link) → ((a == from) && (b == to)) ≡ true → is_link a b l ≡ is_link from to l
there from to a b l h =
    let parts = and_parts (a == from) (b == to) h in
    ap (λ (n : ℕ). is_link n b l) (eqb-true a from parts.0) ∙ ap (λ (n : ℕ). is_link from n l) (eqb-true b to parts.1)

-- the value at two points, if these are the same as two others
pub at_points : {A : Type 0} (g : ℕ → ℕ → A) (from to a b : ℕ) → ((a == from) && (b == to)) ≡ true → g from to ≡ g a b
at_points g from to a b e =
    let parts = and_parts (a == from) (b == to) e in
    ap (λ (n : ℕ). g n to) (sym (eqb-true a from parts.0)) ∙ ap (g a) (sym (eqb-true b to parts.1))

-- a link that gets the value that it has leaves all as it is
pub with_same : {A : Type 0} (g : ℕ → ℕ → A) (from to : ℕ) (x : A) → x ≡ g from to → (a b : ℕ) → with_at from to x g a b ≡ g a b
with_same {A} g from to x e a b =
    elim ((a == from) && (b == to)) as (λ c. ((a == from) && (b == to)) ≡ c → cond c x (g a b) ≡ g a b) [
      | true ↦ λ h. e ∙ at_points g from to a b h
      | false ↦ λ h. refl
    ] refl

-- a link has the value that it got
pub with_here : {A : Type 0} (g : ℕ → ℕ → A) (from to : ℕ) (x : A) → with_at from to x g from to ≡ x
with_here g from to x = ap (λ (c : Bool). cond c x (g from to))
    (and_from (from == from) (to == to) (eq-eqb from from refl) (eq-eqb to to refl))

set_at : {A : Type 0} (f : Link → A) (none : A) (links : List Link) (i : ℕ) (d l : Link) (from to : ℕ) (x : A) → i < length links
    → is_link from to (get_or links i d) ≡ true →
    ((k : ℕ) → k < i → is_link from to (get_or links k d) ≡ false) → is_link from to l ≡ true → f l ≡ x → (a b : ℕ)
    → of_link f none (set links i l) a b ≡ with_at from to x (of_link f none links) a b
set_at f none [] i d l from to x lt here before it is a b = absurd (omega arith)
set_at f none (y ∷ ys) zero d l from to x lt here before it is a b =
    ap (λ (c : Bool). cond c (f l) (of_link f none ys a b)) (is_it from to l it a b)
    ∙ ap (λ m. cond ((a == from) && (b == to)) m (of_link f none ys a b)) is
    ∙ elim ((a == from) && (b == to)) as (λ c. cond c x (of_link f none ys a b) ≡ cond c x (cond c (f y) (of_link f none ys a b)))
    [ true ↦ refl | false ↦ refl ]
    ∙ ap (λ (c : Bool). cond ((a == from) && (b == to)) x (cond c (f y) (of_link f none ys a b))) (sym (is_it from to y here a b))
set_at f none (y ∷ ys) (suc i) d l from to x lt here before it is a b =
    ap (λ m. cond (is_link a b y) (f y) m) (set_at f none ys i d l from to x (omega arith) here
    (λ k j. before (suc k) (omega arith)) it is a b)
    ∙ elim ((a == from) && (b == to)) as (λ c. ((a == from) && (b == to)) ≡ c
    → cond (is_link a b y) (f y) (cond c x (of_link f none ys a b)) ≡ cond c x (cond (is_link a b y) (f y) (of_link f none ys a b))) [
      | true ↦ λ e. ap (λ (c : Bool). cond c (f y) x) (there from to a b y e ∙ before 0 (omega arith))
      | false ↦ λ e. refl
    ] refl

-- if a record replaces that of a link, this link has its own value, and the others keep theirs
pub set_link : {A : Type 0} (f : Link → A) (none : A) (links : List Link) (i : ℕ) (l : Link) (from to : ℕ) (x : A)
    → position (is_link from to) links ≡ Some i → is_link from to l ≡ true → f l ≡ x →
    (a b : ℕ) → of_link f none (set links i l) a b ≡ with_at from to x (of_link f none links) a b
set_link f none links i l from to x at it is a b =
    let p = position-Some (is_link from to) links i l at in
    set_at f none links i l l from to x p.0 p.1 p.2 it is a b

found_at : {A : Type 0} (f : Link → A) (none : A) (links : List Link) (i : ℕ) (d : Link) (from to : ℕ) → i < length links
    → is_link from to (get_or links i d) ≡ true →
    ((k : ℕ) → k < i → is_link from to (get_or links k d) ≡ false) → of_link f none links from to ≡ f (get_or links i d)
found_at f none [] i d from to lt here before = absurd (omega arith)
found_at f none (y ∷ ys) zero d from to lt here before = ap (λ (c : Bool). cond c (f y) (of_link f none ys from to)) here
found_at f none (y ∷ ys) (suc i) d from to lt here before =
    ap (λ (c : Bool). cond c (f y) (of_link f none ys from to)) (before 0 (omega arith))
    ∙ found_at f none ys i d from to (omega arith) here (λ k j. before (suc k) (omega arith))

-- the value of the link that was found
pub found_link : {A : Type 0} (f : Link → A) (none : A) (links : List Link) (i : ℕ) (d : Link) (from to : ℕ)
    → position (is_link from to) links ≡ Some i → of_link f none links from to ≡ f (get_or links i d)
found_link f none links i d from to at =
    let p = position-Some (is_link from to) links i d at in
    found_at f none links i d from to p.0 p.1 p.2

-- the record is that of these points, and so is one with the same points in its place
pub is_found : (links : List Link) (i : ℕ) (d l : Link) (from to : ℕ) → position (is_link from to) links ≡ Some i
    → l.from ≡ (get_or links i d).from → l.to ≡ (get_or links i d).to → is_link from to l ≡ true
is_found links i d l from to at e f =
    ap (λ (n : ℕ). (n == from) && (l.to == to)) e ∙ ap (λ (n : ℕ). ((get_or links i d).from == from) && (n == to)) f
    ∙ (position-Some (is_link from to) links i d at).1

-- no link is that of these points
at_or_behind : (p : Link → Bool) (x : Link) (xs : List Link) (d : Link) → p x ≡ false
    → ((k : ℕ) → k < length xs → p (get_or xs k d) ≡ false) → (k : ℕ) → k < length (x ∷ xs) → p (get_or (x ∷ xs) k d) ≡ false
at_or_behind p x xs d e h zero lt = e
at_or_behind p x xs d e h (suc k) lt = h k (omega arith)

none_within : (p : Link → Bool) (links : List Link) → length links ≤ prefix_len (λ x. not (p x)) links → (d : Link) (k : ℕ)
    → k < length links → p (get_or links k d) ≡ false
none_within p [] h d k lt = absurd (omega arith)
none_within p (x ∷ xs) h d k lt =
    elim (p x) as (λ b. p x ≡ b → length (x ∷ xs) ≤ cond (not b) (1 + prefix_len (λ x. not (p x)) xs) 0 → p (get_or (x ∷ xs) k d) ≡ false) [
      | true ↦ λ e g. absurd (omega arith)
      | false ↦ λ e g. at_or_behind p x xs d e (none_within p xs (omega arith) d) k lt
    ] refl h

none_is : (links : List Link) (from to : ℕ) → position (is_link from to) links ≡ None → (k : ℕ) (d : Link) → k < length links
    → is_link from to (get_or links k d) ≡ false
none_is links from to h k d =
    none_within (is_link from to) links
    (⊎_elim
    (λ (e : nat_lt (position_or_len (is_link from to) links) (length links) ≡ true). absurd
    (some_none (position_or_len (is_link from to) links)
    (sym (ap (λ (b : Bool). cond b (Some (position_or_len (is_link from to) links)) None) e) ∙ h)))
    (λ (e : nat_lt (position_or_len (is_link from to) links) (length links) ≡ false). ltb-false (position_or_len (is_link from to) links)
    (length links) e)
    (cases_Bool (nat_lt (position_or_len (is_link from to) links) (length links))))
    d k
  where
    some_none : (n : ℕ) → Some n ≡ None → ⊥
    some_none n h = cc

none_found : {A : Type 0} (f : Link → A) (none : A) (links : List Link) (from to : ℕ)
    → ((k : ℕ) (d : Link) → k < length links → is_link from to (get_or links k d) ≡ false) → of_link f none links from to ≡ none
none_found f none [] from to h = refl
none_found f none (x ∷ xs) from to h = ap (λ (c : Bool). cond c (f x) (of_link f none xs from to)) (h 0 x (omega arith))
    ∙ none_found f none xs from to (λ k d j. h (suc k) d (omega arith))

-- without a record, a link has the value of one that never held a message
pub nothing_found : {A : Type 0} (f : Link → A) (none : A) (links : List Link) (from to : ℕ) → position (is_link from to) links ≡ None
    → of_link f none links from to ≡ none
nothing_found f none links from to h = none_found f none links from to (none_is links from to h)

-- if no link is that of these points, a record is added at the end
behind : {A : Type 0} (f : Link → A) (none : A) (links : List Link) (l : Link) (from to : ℕ) (x : A)
    → ((k : ℕ) (d : Link) → k < length links → is_link from to (get_or links k d) ≡ false) → is_link from to l ≡ true → f l ≡ x →
    (a b : ℕ) → of_link f none (links ++ l ∷ []) a b ≡ with_at from to x (of_link f none links) a b
behind f none [] l from to x before it is a b = ap (λ (c : Bool). cond c (f l) none) (is_it from to l it a b)
    ∙ ap (λ m. cond ((a == from) && (b == to)) m none) is
behind f none (y ∷ ys) l from to x before it is a b =
    ap (λ m. cond (is_link a b y) (f y) m) (behind f none ys l from to x (λ k d j. before (suc k) d (omega arith)) it is a b)
    ∙ elim ((a == from) && (b == to)) as (λ c. ((a == from) && (b == to)) ≡ c
    → cond (is_link a b y) (f y) (cond c x (of_link f none ys a b)) ≡ cond c x (cond (is_link a b y) (f y) (of_link f none ys a b))) [
      | true ↦ λ e. ap (λ (c : Bool). cond c (f y) x) (there from to a b y e ∙ before 0 y (omega arith))
      | false ↦ λ e. refl
    ] refl

its_points : (from to : ℕ) (l : Link) → l.from ≡ from → l.to ≡ to → is_link from to l ≡ true
its_points from to l e f = and_from (l.from == from) (l.to == to) (eq-eqb l.from from e) (eq-eqb l.to to f)

-- a record that is added at the end, for a link that had none, has one message on it
pub begun_octets : (links : List Link) (l : Link) (from to : ℕ) (message : List ℕ) → position (is_link from to) links ≡ None → l.from ≡ from
    → l.to ≡ to → l.octets.items ≡ message ∷ [] →
    (a b : ℕ) → octets_on (links ++ l ∷ []) a b ≡ with_at from to (octets_on links from to ++ message ∷ []) (octets_on links) a b
begun_octets links l from to message none e f is =
    behind (λ (l : Link). l.octets.items) [] links l from to (octets_on links from to ++ message ∷ []) (none_is links from to none)
    (its_points from to l e f)
    (is ∙ ap (λ (m : List (List ℕ)). m ++ message ∷ []) (sym (nothing_found (λ (l : Link). l.octets.items) [] links from to none)))

-- it has delivered nothing, as before
pub begun_gone : (links : List Link) (l : Link) (from to : ℕ) → position (is_link from to) links ≡ None → l.from ≡ from → l.to ≡ to
    → l.gone ≡ 0 → (a b : ℕ) → gone_from (links ++ l ∷ []) a b ≡ gone_from links a b
begun_gone links l from to none e f is a b =
    behind (λ (l : Link). l.gone) 0 links l from to 0 (none_is links from to none) (its_points from to l e f) is a b
    ∙ with_same (gone_from links) from to 0 (sym (nothing_found (λ (l : Link). l.gone) 0 links from to none)) a b

-- a link in the place of the one between these points, which has the same as before
pub unset : {A : Type 0} (f : Link → A) (none : A) (links : List Link) (i : ℕ) (l : Link) (from to : ℕ)
    → position (is_link from to) links ≡ Some i → is_link from to l ≡ true → f l ≡ of_link f none links from to →
    (a b : ℕ) → of_link f none (set links i l) a b ≡ of_link f none links a b
unset f none links i l from to at it is a b =
    set_link f none links i l from to (of_link f none links from to) at it is a b
    ∙ with_same (of_link f none links) from to (of_link f none links from to) refl a b

-- a list with a last message is not empty
pub no_message : {A : Type 0} (ms : List A) (m : A) → [] ≡ ms ++ m ∷ [] → ⊥
no_message [] m h = cc
no_message (x ∷ xs) m h = cc

-- a message that was put on a link and is taken back leaves the links as they were
pub put_back : (from to : ℕ) (old mid new : ℕ → ℕ → List (List ℕ)) (m : List ℕ)
    → ((a b : ℕ) → mid a b ≡ with_at from to (old from to ++ m ∷ []) old a b) →
    ((ms : List (List ℕ)) (x : List ℕ) → mid from to ≡ ms ++ x ∷ [] → (a b : ℕ) → new a b ≡ with_at from to ms mid a b) → (a b : ℕ)
    → new a b ≡ old a b
put_back from to old mid new m added back a b =
    back (old from to) m (added from to ∙ with_here old from to (old from to ++ m ∷ [])) a b
    ∙ ap (λ (x : List (List ℕ)). cond ((a == from) && (b == to)) (old from to) x) (added a b)
    ∙ elim ((a == from) && (b == to)) as (λ c. ((a == from) && (b == to)) ≡ c
    → cond c (old from to) (cond c (old from to ++ m ∷ []) (old a b)) ≡ old a b) [
      | true ↦ λ e. at_points old from to a b e
      | false ↦ λ e. refl
    ] refl
