-- The messages of all links as one list, in the order in which they were put there.
use Rattle.std.specs.Prelude.{ℕ, ◌≡◌, ◌==◌, ◌+◌, Bool, true, false, cond, ◌&&◌, ◌||◌, List, [], ◌∷◌, ◌++◌, length, filter, refl}
use Rattle.std.specs.List.{list_any}
use Rattle.std.proofs.Common.{sym, ◌∙◌, ap, arith, append-nil}
use Rattle.std.proofs.lemmas.Bool.{eqb-true, and_parts}
use Rattle.sccp_message.specs.declared.message.Message.{Message}
use Rattle.couple_chain.specs.World.{World, messages_to}
use Rattle.sccp_couple.specs.Coupling.{to_one}
use Rattle.couple_chain.proofs.Sending.{to_point}
use Rattle.chain_call.proofs.Tokens.{eq_sym}
use Rattle.chain_call.proofs.Flows.{Every}

-- a message on the link between two points
pub record Mark : Type 0 where
  pub from : ℕ
  pub to : ℕ
  pub message : Message

abbrev pub is_at : ℕ → ℕ → Mark → Bool
is_at a b t = (a == t.from) && (b == t.to)

-- the messages of one link
abbrev pub on_link : ℕ → ℕ → List Mark → List Message
on_link a b [] = []
on_link a b (t ∷ ts) = cond (is_at a b t) (t.message ∷ on_link a b ts) (on_link a b ts)

-- the links hold these
abbrev pub Marked : World → List Mark → Type 0
Marked w ts = (x y : ℕ) → w.waiting x y ≡ on_link x y ts

-- the oldest of a link, and those before and after it
pub record Taken (a b : ℕ) (m : Message) (rest : List Message) (ts : List Mark) : Type 0 where
  pub front : List Mark
  pub back : List Mark
  pub is : ts ≡ front ++ record { from = a; to = b; message = m } ∷ back
  pub left : (x y : ℕ) → on_link x y (front ++ back) ≡ cond ((x == a) && (y == b)) rest (on_link x y ts)

same_link : (a b : ℕ) (t : Mark) → is_at a b t ≡ true → (t.from ≡ a) × (t.to ≡ b)
same_link a b t e = let p = and_parts (a == t.from) (b == t.to) e in (sym (eqb-true a t.from p.0), sym (eqb-true b t.to p.1))

pub taken : (a b : ℕ) (m : Message) (rest : List Message) (ts : List Mark) → on_link a b ts ≡ m ∷ rest → Taken a b m rest ts
taken a b m rest [] h = absurd (let z : [] ≡ m ∷ rest = h in cc)
taken a b m rest (t ∷ ts) h =
    elim (is_at a b t) as (λ k. is_at a b t ≡ k → cond k (t.message ∷ on_link a b ts) (on_link a b ts) ≡ m ∷ rest
    → Taken a b m rest (t ∷ ts)) [
      | true ↦ λ e f.
          let p = same_link a b t e in
          let same : t.message ≡ m = cc in
          let others : on_link a b ts ≡ rest = cc in
          let whole : t ≡ record { from = a; to = b; message = m } =
          ap (λ (n : ℕ). record { from = n; to = t.to; message = t.message }) p.0
          ∙ ap (λ (n : ℕ). record { from = a; to = n; message = t.message }) p.1
          ∙ ap (λ (n : Message). record { from = a; to = b; message = n }) same in
          record {
            front = [];
            back = ts;
            is = ap (λ (u : Mark). u ∷ ts) whole;
            left = λ x y. elim ((x == a) && (y == b)) as (λ k. ((x == a) && (y == b)) ≡ k
                → on_link x y ts ≡ cond k rest (cond (is_at x y t) (t.message ∷ on_link x y ts) (on_link x y ts))) [
                  | true ↦ λ g.
                      let q = and_parts (x == a) (y == b) g in
                      ap (λ (n : ℕ). on_link n y ts) (eqb-true x a q.0) ∙ ap (λ (n : ℕ). on_link a n ts) (eqb-true y b q.1) ∙ others
                  | false ↦ λ g.
                      let none : is_at x y t ≡ false =
                      ap (λ (n : ℕ). (x == n) && (y == t.to)) p.0 ∙ ap (λ (n : ℕ). (x == a) && (y == n)) p.1 ∙ g in
                      sym (ap (λ (k : Bool). cond k (t.message ∷ on_link x y ts) (on_link x y ts)) none)
                ] refl;
          }
      | false ↦ λ e f.
          let r = taken a b m rest ts f in
          record {
            front = t ∷ r.front;
            back = r.back;
            is = ap (λ (l : List Mark). t ∷ l) r.is;
            left = λ x y. elim ((x == a) && (y == b)) as (λ k. ((x == a) && (y == b)) ≡ k
                → cond (is_at x y t) (t.message ∷ on_link x y (r.front ++ r.back)) (on_link x y (r.front ++ r.back))
                ≡ cond k rest (cond (is_at x y t) (t.message ∷ on_link x y ts) (on_link x y ts))) [
                  | true ↦ λ g.
                      let q = and_parts (x == a) (y == b) g in
                      let none : is_at x y t ≡ false =
                      ap (λ (n : ℕ). (n == t.from) && (y == t.to)) (eqb-true x a q.0)
                      ∙ ap (λ (n : ℕ). (a == t.from) && (n == t.to)) (eqb-true y b q.1) ∙ e in
                      ap (λ (k : Bool). cond k (t.message ∷ on_link x y (r.front ++ r.back)) (on_link x y (r.front ++ r.back))) none
                      ∙ r.left x y ∙ ap (λ (k : Bool). cond k rest (on_link x y ts)) g
                  | false ↦ λ g.
                      ap (λ (l : List Message). cond (is_at x y t) (t.message ∷ l) l) (r.left x y
                      ∙ ap (λ (k : Bool). cond k rest (on_link x y ts)) g)
                ] refl;
          }
    ] refl h

-- one more
pub added : (x y : ℕ) (ts : List Mark) (t : Mark) → on_link x y (ts ++ t ∷ []) ≡ on_link x y ts ++ cond (is_at x y t) (t.message ∷ []) []
added x y [] t = refl
added x y (u ∷ ts) t =
    elim (is_at x y u) as (λ k. cond k (u.message ∷ on_link x y (ts ++ t ∷ [])) (on_link x y (ts ++ t ∷ []))
    ≡ cond k (u.message ∷ on_link x y ts) (on_link x y ts) ++ cond (is_at x y t) (t.message ∷ []) []) [
      | true ↦ ap (λ (l : List Message). u.message ∷ l) (added x y ts t)
      | false ↦ added x y ts t
    ]

pub sent_added : (x y b z : ℕ) (n : Message) (ts : List Mark)
    → cond (x == b) (on_link x y ts ++ messages_to y (to_one z n)) (on_link x y ts)
    ≡ on_link x y (ts ++ record { from = b; to = z; message = n } ∷ [])
sent_added x y b z n ts =
    elim (x == b) as (λ k. cond k (on_link x y ts ++ messages_to y (to_one z n)) (on_link x y ts)
    ≡ on_link x y ts ++ cond (k && (y == z)) (n ∷ []) []) [
      | true ↦ ap (λ (l : List Message). on_link x y ts ++ l) (to_point z y n ∙ ap (λ (k : Bool). cond k (n ∷ []) []) (eq_sym z y))
      | false ↦ sym (append-nil (on_link x y ts))
    ]
    ∙ sym (added x y ts (record { from = b; to = z; message = n }))

-- ---- one item of a list taken out

pub every_out : (P : Mark → Type 0) (front back : List Mark) (t : Mark) → Every P (front ++ t ∷ back) → P t × Every P (front ++ back)
every_out P [] back t h = h
every_out P (u ∷ front) back t h = let r = every_out P front back t h.1 in (r.0, (h.0, r.1))

pub every_in : (P : Mark → Type 0) (ts : List Mark) (t : Mark) → Every P ts → P t → Every P (ts ++ t ∷ [])
every_in P [] t h k = (k, tt)
every_in P (u ∷ ts) t h k = (h.0, every_in P ts t h.1 k)

pub filter_out : (p : Mark → Bool) (front back : List Mark) (t : Mark) → p t ≡ false
    → filter p (front ++ t ∷ back) ≡ filter p (front ++ back)
filter_out p [] back t none = ap (λ (k : Bool). cond k (t ∷ filter p back) (filter p back)) none
filter_out p (u ∷ front) back t none = ap (λ (l : List Mark). cond (p u) (u ∷ l) l) (filter_out p front back t none)

pub filter_one : (p : Mark → Bool) (front back : List Mark) (t u : Mark) → p t ≡ true → filter p (front ++ t ∷ back) ≡ u ∷ []
    → (t ≡ u) × (filter p (front ++ back) ≡ [])
filter_one p [] back t u is h =
    let k : t ∷ filter p back ≡ u ∷ [] = sym (ap (λ (k : Bool). cond k (t ∷ filter p back) (filter p back)) is) ∙ h in
    let a : t ≡ u = cc in
    let b : filter p back ≡ [] = cc in
    (a, b)
filter_one p (x ∷ front) back t u is h =
    elim (p x) as (λ k. cond k (x ∷ filter p (front ++ t ∷ back)) (filter p (front ++ t ∷ back)) ≡ u ∷ []
    → (t ≡ u) × (cond k (x ∷ filter p (front ++ back)) (filter p (front ++ back)) ≡ [])) [
      | true ↦ λ g.
          let none : filter p (front ++ t ∷ back) ≡ [] = cc in
          absurd (some_there p front back t is none)
      | false ↦ λ g. filter_one p front back t u is g
    ] h
  where
    some_there : (p : Mark → Bool) (front back : List Mark) (t : Mark) → p t ≡ true → filter p (front ++ t ∷ back) ≡ [] → ⊥
    some_there p [] back t is h =
        let k : t ∷ filter p back ≡ [] = sym (ap (λ (k : Bool). cond k (t ∷ filter p back) (filter p back)) is) ∙ h in cc
    some_there p (x ∷ front) back t is h =
        elim (p x) as (λ k. cond k (x ∷ filter p (front ++ t ∷ back)) (filter p (front ++ t ∷ back)) ≡ [] → ⊥) [
          | true ↦ λ g. let z : x ∷ filter p (front ++ t ∷ back) ≡ [] = g in cc
          | false ↦ λ g. some_there p front back t is g
        ] h

pub filter_in : (p : Mark → Bool) (ts : List Mark) (t : Mark) → filter p (ts ++ t ∷ []) ≡ filter p ts ++ cond (p t) (t ∷ []) []
filter_in p [] t = refl
filter_in p (u ∷ ts) t =
    elim (p u) as (λ k. cond k (u ∷ filter p (ts ++ t ∷ [])) (filter p (ts ++ t ∷ [])) ≡ cond k (u ∷ filter p ts) (filter p ts)
    ++ cond (p t) (t ∷ []) [])
    [ true ↦ ap (λ (l : List Mark). u ∷ l) (filter_in p ts t) | false ↦ filter_in p ts t ]

pub any_out : (p : Mark → Bool) (front back : List Mark) (t : Mark) → p t ≡ false → list_any p (front ++ t ∷ back) ≡ true
    → list_any p (front ++ back) ≡ true
any_out p [] back t none h = sym (ap (λ (k : Bool). k || list_any p back) none) ∙ h
any_out p (u ∷ front) back t none h =
    elim (p u) as (λ k. (k || list_any p (front ++ t ∷ back)) ≡ true → (k || list_any p (front ++ back)) ≡ true)
    [ true ↦ λ g. refl | false ↦ λ g. any_out p front back t none g ] h

pub any_in : (p : Mark → Bool) (ts : List Mark) (t : Mark) → list_any p ts ≡ true → list_any p (ts ++ t ∷ []) ≡ true
any_in p [] t h = absurd (let z : false ≡ true = h in cc)
any_in p (u ∷ ts) t h =
    elim (p u) as (λ k. (k || list_any p ts) ≡ true → (k || list_any p (ts ++ t ∷ [])) ≡ true)
    [ true ↦ λ g. refl | false ↦ λ g. any_in p ts t g ] h

pub any_last : (p : Mark → Bool) (ts : List Mark) (t : Mark) → p t ≡ true → list_any p (ts ++ t ∷ []) ≡ true
any_last p [] t h = ap (λ (k : Bool). k || false) h
any_last p (u ∷ ts) t h =
    ap (λ (k : Bool). p u || k) (any_last p ts t h) ∙ elim (p u) as (λ k. (k || true) ≡ true) [ true ↦ refl | false ↦ refl ]

pub length_out : (front back : List Mark) (t : Mark) → length (front ++ t ∷ back) ≡ length (front ++ back) + 1
length_out [] back t = omega arith
length_out (u ∷ front) back t = let e = length_out front back t in omega (arith, e)

pub length_in : (ts : List Mark) (t : Mark) → length (ts ++ t ∷ []) ≡ length ts + 1
length_in [] t = omega arith
length_in (u ∷ ts) t = let e = length_in ts t in omega (arith, e)
