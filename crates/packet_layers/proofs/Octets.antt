-- Numbers and the octets that spell them.
use Rattle.std.proofs.Common.{◌≡◌, ℕ, zero, suc, ◌+◌, ◌<◌, ◌≤◌, List, [], ◌∷◌, ◌++◌, length, take, drop, get_or}
use Rattle.std.proofs.Common.{refl, sym, ◌∙◌, ap, subst, arith}
use Rattle.std.specs.Int.{w16, w32, to_be_bytes, to_le_bytes}
use Rattle.std.proofs.lemmas.List.{drop_more, get_or-drop}
use Rattle.std.proofs.lemmas.Nat.{be_bytes_2, be_bytes_4, le_bytes_4}
use Rattle.packet_layers.specs.Numbers.{number_2, number_4, little_4}

-- every element is an octet
abbrev pub AreOctets : List ℕ → Type 0
AreOctets xs = (i : ℕ) → get_or xs i 0 < 256

pub AreOctets-drop : (n : ℕ) (xs : List ℕ) → AreOctets xs → AreOctets (drop n xs)
AreOctets-drop n xs each = λ i. subst (λ (x : ℕ). x < 256) (sym (get_or-drop n xs i 0)) (each (n + i))

pub AreOctets-take : (n : ℕ) (xs : List ℕ) → AreOctets xs → AreOctets (take n xs)
AreOctets-take zero xs each i = omega arith
AreOctets-take (suc n) [] each i = omega arith
AreOctets-take (suc n) (x ∷ xs) each zero = each 0
AreOctets-take (suc n) (x ∷ xs) each (suc i) = AreOctets-take n xs (λ j. each (suc j)) i

two_octets : (a b : ℕ) → a < 256 → b < 256 → AreOctets (a ∷ b ∷ [])
two_octets a b p q zero = p
two_octets a b p q (suc zero) = q
two_octets a b p q (suc (suc i)) = omega arith

four_octets : (a b c d : ℕ) → a < 256 → b < 256 → c < 256 → d < 256 → AreOctets (a ∷ b ∷ c ∷ d ∷ [])
four_octets a b c d p q r s zero = p
four_octets a b c d p q r s (suc zero) = q
four_octets a b c d p q r s (suc (suc zero)) = r
four_octets a b c d p q r s (suc (suc (suc zero))) = s
four_octets a b c d p q r s (suc (suc (suc (suc i)))) = omega arith

pub next_two : (b : List ℕ) (n : ℕ) → n + 2 ≤ length b → drop n b ≡ get_or b n 0 ∷ get_or b (n + 1) 0 ∷ drop (n + 2) b
next_two b n le =
    let one : drop n b ≡ get_or b n 0 ∷ drop (n + 1) b = drop_more b n 0 (omega arith) in
    let two : drop (n + 1) b ≡ get_or b (n + 1) 0 ∷ drop (n + 1 + 1) b = drop_more b (n + 1) 0 (omega arith) in
    let same : n + 1 + 1 ≡ n + 2 = omega arith in
    one ∙ ap (λ (l : List ℕ). get_or b n 0 ∷ l) (two ∙ ap (λ (k : ℕ). get_or b (n + 1) 0 ∷ drop k b) same)

next_four : (b : List ℕ) (n : ℕ) → n + 4 ≤ length b
    → drop n b ≡ get_or b n 0 ∷ get_or b (n + 1) 0 ∷ get_or b (n + 2) 0 ∷ get_or b (n + 3) 0 ∷ drop (n + 4) b
next_four b n le =
    let same : n + 2 + 1 ≡ n + 3 = omega arith in
    let all : n + 2 + 2 ≡ n + 4 = omega arith in
    next_two b n (omega arith)
    ∙ ap (λ (l : List ℕ). get_or b n 0 ∷ get_or b (n + 1) 0 ∷ l) (next_two b (n + 2) (omega arith)
    ∙ ap (λ (k : ℕ). get_or b (n + 2) 0 ∷ get_or b k 0 ∷ drop (n + 2 + 2) b) same
    ∙ ap (λ (k : ℕ). get_or b (n + 2) 0 ∷ get_or b (n + 3) 0 ∷ drop k b) all)

-- a number before the octets after it
pub spelled_2 : (b : List ℕ) (n : ℕ) → AreOctets b → n + 2 ≤ length b → to_be_bytes w16 (number_2 b n) ++ drop (n + 2) b ≡ drop n b
spelled_2 b n each le =
    let two : List ℕ = get_or b n 0 ∷ get_or b (n + 1) 0 ∷ [] in
    ap (λ (l : List ℕ). l ++ drop (n + 2) b) (be_bytes_2 two (number_2 b n) refl (two_octets _ _ (each n) (each (n + 1))) refl)
    ∙ sym (next_two b n le)

pub spelled_4 : (b : List ℕ) (n : ℕ) → AreOctets b → n + 4 ≤ length b → to_be_bytes w32 (number_4 b n) ++ drop (n + 4) b ≡ drop n b
spelled_4 b n each le =
    let four : List ℕ = get_or b n 0 ∷ get_or b (n + 1) 0 ∷ get_or b (n + 2) 0 ∷ get_or b (n + 3) 0 ∷ [] in
    ap (λ (l : List ℕ). l ++ drop (n + 4) b)
    (be_bytes_4 four (number_4 b n) refl (four_octets _ _ _ _ (each n) (each (n + 1)) (each (n + 2)) (each (n + 3))) refl)
    ∙ sym (next_four b n le)

pub spelled_little : (b : List ℕ) (n k : ℕ) → AreOctets b → n + 4 ≤ length b → k ≡ little_4 b n
    → to_le_bytes w32 k ++ drop (n + 4) b ≡ drop n b
spelled_little b n k each le same =
    let four : List ℕ = get_or b n 0 ∷ get_or b (n + 1) 0 ∷ get_or b (n + 2) 0 ∷ get_or b (n + 3) 0 ∷ [] in
    ap (λ (l : List ℕ). l ++ drop (n + 4) b)
    (le_bytes_4 four k refl (four_octets _ _ _ _ (each n) (each (n + 1)) (each (n + 2)) (each (n + 3))) same)
    ∙ sym (next_four b n le)
