-- How a running world keeps its links: one record for each link that has held a message.
use Rattle.std.specs.Prelude.{ℕ, ◌==◌, Bool, ◌&&◌, if◌then◌else◌, List, [], ◌∷◌}
use Rattle.chain_world.specs.declared.link.Link.{Link}

-- the record is that of the link between these two points
abbrev pub is_link : ℕ → ℕ → Link → Bool
is_link from to l = (l.from == from) && (l.to == to)

-- a value of the record of the link between two points; without a record, since the link never held a message, another value
abbrev pub of_link : {A : Type 0} → (Link → A) → A → List Link → ℕ → ℕ → A
of_link f none [] from to = none
of_link f none (l ∷ links) from to = if is_link from to l then f l else of_link f none links from to

-- all that was put on a link, as octets
abbrev pub octets_on : List Link → ℕ → ℕ → List (List ℕ)
octets_on links = of_link (λ l. l.octets.items) [] links

-- how many of them it has delivered
abbrev pub gone_from : List Link → ℕ → ℕ → ℕ
gone_from links = of_link (λ l. l.gone) 0 links

-- the link between two points has another value, and every other link keeps its own
abbrev pub with_at : {A : Type 0} → ℕ → ℕ → A → (ℕ → ℕ → A) → ℕ → ℕ → A
with_at from to x f = λ a b. if (a == from) && (b == to) then x else f a b
