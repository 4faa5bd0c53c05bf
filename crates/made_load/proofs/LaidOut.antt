-- The octets of a made message, one by one.
use Rattle.std.proofs.Common.{◌≡◌, ℕ, ◌/◌, ◌%◌, List, [], ◌∷◌, refl, ◌∙◌, ap}
use Rattle.made_load.specs.Draws.{after, pair}
use Rattle.made_load.specs.Messages.{made_octets}

-- the octets in their order, with the five octets of digits
abbrev pub laid : ℕ → ℕ → ℕ → ℕ → ℕ → ℕ → List ℕ
laid place a b c d e =
    9 ∷ 128 ∷ 3 ∷ 13 ∷ 17 ∷ 10 ∷ 18 ∷ 6 ∷ 0 ∷ 18 ∷ 4 ∷ a ∷ b ∷ c ∷ d ∷ e ∷ 4 ∷ 67 ∷ 1 ∷ 24 ∷ 8 ∷ 4
    ∷ place / 16777216 ∷ place / 65536 % 256 ∷ place / 256 % 256 ∷ place % 256 ∷ []

abbrev pub two_on : ℕ → ℕ
two_on x = after (after x)

pub drawn_out : (place x : ℕ) → laid place (pair x) (pair (two_on x)) (pair (two_on (two_on x))) (pair (two_on (two_on (two_on x))))
    (pair (two_on (two_on (two_on (two_on x))))) ≡ made_octets place x
unfolding made_octets
drawn_out place x = refl

-- these are the octets of the message at the place, if each two digits are drawn after the last ones
pub laid_out : (place x x1 x2 x3 x4 a b c d e : ℕ) → x1 ≡ two_on x → x2 ≡ two_on x1 → x3 ≡ two_on x2 → x4 ≡ two_on x3
    → a ≡ pair x → b ≡ pair x1 → c ≡ pair x2 → d ≡ pair x3 → e ≡ pair x4 → laid place a b c d e ≡ made_octets place x
laid_out place x x1 x2 x3 x4 a b c d e h1 h2 h3 h4 ha hb hc hd he =
    let e2 : x2 ≡ two_on (two_on x) = h2 ∙ ap two_on h1 in
    let e3 : x3 ≡ two_on (two_on (two_on x)) = h3 ∙ ap two_on e2 in
    let e4 : x4 ≡ two_on (two_on (two_on (two_on x))) = h4 ∙ ap two_on e3 in
    ap (λ z. laid place z b c d e) ha ∙ ap (λ z. laid place (pair x) z c d e) (hb ∙ ap pair h1)
    ∙ ap (λ z. laid place (pair x) (pair (two_on x)) z d e) (hc ∙ ap pair e2)
    ∙ ap (λ z. laid place (pair x) (pair (two_on x)) (pair (two_on (two_on x))) z e) (hd ∙ ap pair e3)
    ∙ ap (λ z. laid place (pair x) (pair (two_on x)) (pair (two_on (two_on x))) (pair (two_on (two_on (two_on x)))) z) (he ∙ ap pair e4)
    ∙ drawn_out place x
