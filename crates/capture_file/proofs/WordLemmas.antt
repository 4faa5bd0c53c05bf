-- Numbers and the octets that spell them, in either order.
use Rattle.std.proofs.Common.{◌≡◌, ℕ, zero, suc, ◌+◌, ◌^◌, ◌<◌, ◌≤◌, List, [], ◌∷◌, ◌++◌, length, drop, get_or, refl, sym, ◌∙◌, ap}
use Rattle.std.proofs.Common.{take, subst, ⊎_elim}
use Rattle.std.proofs.Common.{arith}
use Rattle.std.proofs.lemmas.Bool.{cases_lt}
use Rattle.std.proofs.lemmas.List.{drop_more, get_or-drop, get_or-take, get_or-append-add, get_or_past, length-take}
use Rattle.std.proofs.lemmas.Nat.{be_bytes_2, be_bytes_4, le_bytes_2, le_bytes_4, from_be_bytes-to_be_bytes_4}
use Rattle.std.proofs.lemmas.Nat.{from_le_bytes-to_le_bytes_4, from_be_bytes-to_be_bytes_2, from_le_bytes-to_le_bytes_2}
use Rattle.capture_file.specs.Numbers.{number_2, number_4}
use Rattle.capture_file.specs.Spelled.{octets_2, octets_4, AreOctets}
use Rattle.capture_file.specs.declared.order.Order.{Order}
use Rattle.capture_file.specs.declared.order.Order.TheVariants.{Big, Little}

pub AreOctets-drop : (n : ℕ) (b : List ℕ) → AreOctets b → AreOctets (drop n b)
AreOctets-drop n b each = λ i. subst (λ (x : ℕ). x < 256) (sym (get_or-drop n b i 0)) (each (n + i))

pub length-octets_2 : (o : Order) (n : ℕ) → length (octets_2 o n) ≡ 2
length-octets_2 Big n = refl
length-octets_2 Little n = refl

pub length-octets_4 : (o : Order) (n : ℕ) → length (octets_4 o n) ≡ 4
length-octets_4 Big n = refl
length-octets_4 Little n = refl

-- ---- a number that was written is read

pub number_4-written : (o : Order) (n : ℕ) (more : List ℕ) → n < 2 ^ 32 → number_4 o (octets_4 o n ++ more) 0 ≡ n
number_4-written Big n more small = from_be_bytes-to_be_bytes_4 n small
number_4-written Little n more small = from_le_bytes-to_le_bytes_4 n small

pub number_4-after : (o : Order) (front back : List ℕ) (n : ℕ) → length front ≡ n → number_4 o (front ++ back) n ≡ number_4 o back 0
number_4-after o front back n e = by o where
  at : (k : ℕ) → get_or (front ++ back) (n + k) 0 ≡ get_or back k 0
  at k = subst (λ (m : ℕ). get_or (front ++ back) (m + k) 0 ≡ get_or back k 0) e (get_or-append-add front back k 0)

  first : get_or (front ++ back) n 0 ≡ get_or back 0 0
  first = ap (λ (m : ℕ). get_or (front ++ back) m 0) (let same : n ≡ n + 0 = omega arith in same) ∙ at 0

  by : (order : Order) → number_4 order (front ++ back) n ≡ number_4 order back 0
  by Big = rw (first, at 1, at 2, at 3) refl
  by Little = rw (first, at 1, at 2, at 3) refl

pub number_2-written : (o : Order) (n : ℕ) (more : List ℕ) → n < 2 ^ 16 → number_2 o (octets_2 o n ++ more) 0 ≡ n
number_2-written Big n more small = from_be_bytes-to_be_bytes_2 n small
number_2-written Little n more small = from_le_bytes-to_le_bytes_2 n small

-- numbers at a place after these octets
get_or-past : (front back : List ℕ) (n k i : ℕ) → length front ≡ n → get_or (front ++ back) (n + k + i) 0 ≡ get_or back (k + i) 0
get_or-past front back n k i e =
    ap (λ (m : ℕ). get_or (front ++ back) m 0) (let same : n + k + i ≡ length front + (k + i) = omega (arith, e) in same)
    ∙ get_or-append-add front back (k + i) 0

get_or-first : (front back : List ℕ) (n k : ℕ) → length front ≡ n → get_or (front ++ back) (n + k) 0 ≡ get_or back k 0
get_or-first front back n k e =
    ap (λ (m : ℕ). get_or (front ++ back) m 0) (let same : n + k ≡ length front + k = omega (arith, e) in same)
    ∙ get_or-append-add front back k 0

pub number_4-past : (o : Order) (front back : List ℕ) (n k : ℕ) → length front ≡ n
    → number_4 o (front ++ back) (n + k) ≡ number_4 o back k
number_4-past Big front back n k e =
    rw (get_or-first front back n k e, get_or-past front back n k 1 e, get_or-past front back n k 2 e, get_or-past front back n k 3 e) refl
number_4-past Little front back n k e =
    rw (get_or-first front back n k e, get_or-past front back n k 1 e, get_or-past front back n k 2 e, get_or-past front back n k 3 e) refl

pub number_2-past : (o : Order) (front back : List ℕ) (n k : ℕ) → length front ≡ n
    → number_2 o (front ++ back) (n + k) ≡ number_2 o back k
number_2-past Big front back n k e = rw (get_or-first front back n k e, get_or-past front back n k 1 e) refl
number_2-past Little front back n k e = rw (get_or-first front back n k e, get_or-past front back n k 1 e) refl

-- ---- a number that was read spells its octets

two_octets : (a b : ℕ) → a < 256 → b < 256 → AreOctets (a ∷ b ∷ [])
two_octets a b p q zero = p
two_octets a b p q (suc zero) = q
two_octets a b p q (suc (suc i)) = omega arith

four_octets : (a b c d : ℕ) → a < 256 → b < 256 → c < 256 → d < 256 → AreOctets (a ∷ b ∷ c ∷ d ∷ [])
four_octets a b c d p q r s zero = p
four_octets a b c d p q r s (suc zero) = q
four_octets a b c d p q r s (suc (suc zero)) = r
four_octets a b c d p q r s (suc (suc (suc zero))) = s
four_octets a b c d p q r s (suc (suc (suc (suc i)))) = omega arith

-- the octets of a number
pub AreOctets-4 : (o : Order) (n : ℕ) → AreOctets (octets_4 o n)
AreOctets-4 Big n = four_octets _ _ _ _ (omega arith) (omega arith) (omega arith) (omega arith)
AreOctets-4 Little n = four_octets _ _ _ _ (omega arith) (omega arith) (omega arith) (omega arith)

next_two : (b : List ℕ) (n : ℕ) → n + 2 ≤ length b → drop n b ≡ get_or b n 0 ∷ get_or b (n + 1) 0 ∷ drop (n + 2) b
next_two b n le =
    let one : drop n b ≡ get_or b n 0 ∷ drop (n + 1) b = drop_more b n 0 (omega arith) in
    let two : drop (n + 1) b ≡ get_or b (n + 1) 0 ∷ drop (n + 1 + 1) b = drop_more b (n + 1) 0 (omega arith) in
    let same : n + 1 + 1 ≡ n + 2 = omega arith in
    one ∙ ap (λ (l : List ℕ). get_or b n 0 ∷ l) (two ∙ ap (λ (k : ℕ). get_or b (n + 1) 0 ∷ drop k b) same)

next_four : (b : List ℕ) (n : ℕ) → n + 4 ≤ length b
    → drop n b ≡ get_or b n 0 ∷ get_or b (n + 1) 0 ∷ get_or b (n + 2) 0 ∷ get_or b (n + 3) 0 ∷ drop (n + 4) b
next_four b n le =
    let same : n + 2 + 1 ≡ n + 3 = omega arith in
    let all : n + 2 + 2 ≡ n + 4 = omega arith in
    next_two b n (omega arith)
    ∙ ap (λ (l : List ℕ). get_or b n 0 ∷ get_or b (n + 1) 0 ∷ l) (next_two b (n + 2) (omega arith)
    ∙ ap (λ (k : ℕ). get_or b (n + 2) 0 ∷ get_or b k 0 ∷ drop (n + 2 + 2) b) same
    ∙ ap (λ (k : ℕ). get_or b (n + 2) 0 ∷ get_or b (n + 3) 0 ∷ drop k b) all)

pub spelled_2 : (o : Order) (b : List ℕ) (n : ℕ) → AreOctets b → n + 2 ≤ length b → octets_2 o (number_2 o b n) ++ drop (n + 2) b ≡ drop n b
spelled_2 o b n each le = ap (λ (l : List ℕ). l ++ drop (n + 2) b) (by o) ∙ sym (next_two b n le) where
  two : List ℕ
  two = get_or b n 0 ∷ get_or b (n + 1) 0 ∷ []

  by : (order : Order) → octets_2 order (number_2 order b n) ≡ two
  by Big = be_bytes_2 two (number_2 Big b n) refl (two_octets _ _ (each n) (each (n + 1))) refl
  by Little = le_bytes_2 two (number_2 Little b n) refl (two_octets _ _ (each n) (each (n + 1))) refl

pub spelled_4 : (o : Order) (b : List ℕ) (n : ℕ) → AreOctets b → n + 4 ≤ length b → octets_4 o (number_4 o b n) ++ drop (n + 4) b ≡ drop n b
spelled_4 o b n each le = ap (λ (l : List ℕ). l ++ drop (n + 4) b) (by o) ∙ sym (next_four b n le) where
  four : List ℕ
  four = get_or b n 0 ∷ get_or b (n + 1) 0 ∷ get_or b (n + 2) 0 ∷ get_or b (n + 3) 0 ∷ []

  are : AreOctets four
  are = four_octets _ _ _ _ (each n) (each (n + 1)) (each (n + 2)) (each (n + 3))

  by : (order : Order) → octets_4 order (number_4 order b n) ≡ four
  by Big = be_bytes_4 four (number_4 Big b n) refl are refl
  by Little = le_bytes_4 four (number_4 Little b n) refl are refl

pub number_4-small : (o : Order) (b : List ℕ) (n : ℕ) → AreOctets b → number_4 o b n < 2 ^ 32
number_4-small Big b n each = omega (arith, each n, each (n + 1), each (n + 2), each (n + 3))
number_4-small Little b n each = omega (arith, each n, each (n + 1), each (n + 2), each (n + 3))

pub number_2-small : (o : Order) (b : List ℕ) (n : ℕ) → AreOctets b → number_2 o b n < 2 ^ 16
number_2-small Big b n each = omega (arith, each n, each (n + 1))
number_2-small Little b n each = omega (arith, each n, each (n + 1))

-- ---- octets of a part

pub AreOctets-take : (n : ℕ) (b : List ℕ) → AreOctets b → AreOctets (take n b)
AreOctets-take n b each i =
    ⊎_elim (λ (inside : i < n). subst (λ (x : ℕ). x < 256) (sym (get_or-take n b i 0 inside)) (each i))
    (λ (past : n ≤ i). subst (λ (x : ℕ). x < 256) (sym (get_or_past (take n b) i 0 (omega (arith, past, length-take n b)))) (omega arith))
    (cases_lt i n)

get_or-part : (b : List ℕ) (start n k i : ℕ) → k + i < n → get_or (take n (drop start b)) (k + i) 0 ≡ get_or b (start + k + i) 0
get_or-part b start n k i inside =
    get_or-take n (drop start b) (k + i) 0 inside ∙ get_or-drop start b (k + i) 0
    ∙ ap (λ (m : ℕ). get_or b m 0) (let same : start + (k + i) ≡ start + k + i = omega arith in same)

get_or-part_first : (b : List ℕ) (start n k : ℕ) → k < n → get_or (take n (drop start b)) k 0 ≡ get_or b (start + k) 0
get_or-part_first b start n k inside = get_or-take n (drop start b) k 0 inside ∙ get_or-drop start b k 0

pub number_4-part : (o : Order) (b : List ℕ) (start n k : ℕ) → k + 4 ≤ n
    → number_4 o (take n (drop start b)) k ≡ number_4 o b (start + k)
number_4-part Big b start n k le =
    rw (
      get_or-part_first b start n k (omega (arith, le)),
      get_or-part b start n k 1 (omega (arith, le)),
      get_or-part b start n k 2 (omega (arith, le)),
      get_or-part b start n k 3 (omega (arith, le)),
    ) refl
number_4-part Little b start n k le =
    rw (
      get_or-part_first b start n k (omega (arith, le)),
      get_or-part b start n k 1 (omega (arith, le)),
      get_or-part b start n k 2 (omega (arith, le)),
      get_or-part b start n k 3 (omega (arith, le)),
    ) refl

pub number_2-part : (o : Order) (b : List ℕ) (start n k : ℕ) → k + 2 ≤ n
    → number_2 o (take n (drop start b)) k ≡ number_2 o b (start + k)
number_2-part Big b start n k le =
    rw (get_or-part_first b start n k (omega (arith, le)), get_or-part b start n k 1 (omega (arith, le))) refl
number_2-part Little b start n k le =
    rw (get_or-part_first b start n k (omega (arith, le)), get_or-part b start n k 1 (omega (arith, le))) refl
