-- The titles that a cover of each of two plans has.
use Rattle.std.specs.Prelude.{ℕ, ◌≡◌, ◌+◌, ◌-◌, ◌*◌, ◌/◌, ◌%◌, ◌≤◌, ◌⊎◌, IsTrue, nat_eq, nat_lt, if◌then◌else◌, max, min, List, length}
use Rattle.std.specs.List.{starts_with}
use Rattle.plan_model.specs.declared.cover.Cover.{Cover}
use Rattle.plan_classes.specs.Titles.{Titles, titles}

-- the longer of two prefixes
abbrev pub longer : List ℕ → List ℕ → List ℕ
longer p q = if nat_lt (length p) (length q) then q else p

-- the least number of digits that both covers take, no fewer than the longer prefix has, and the greatest
abbrev pub least_of_both : Cover → Cover → ℕ
least_of_both a b = max (max a.least b.least) (length (longer a.prefix b.prefix))

abbrev pub most_of_both : Cover → Cover → ℕ
most_of_both a b = min a.most b.most

-- Some title has both covers: they have one node, selector and SSN. One prefix begins the other, and some number of digits suits
-- both.
pub record Meet (a b : Cover) : Type 0 where
  pub node : a.node ≡ b.node
  pub selector : a.selector ≡ b.selector
  pub ssn : a.ssn ≡ b.ssn
  pub begins : IsTrue (starts_with nat_eq a.prefix b.prefix) ⊎ IsTrue (starts_with nat_eq b.prefix a.prefix)
  pub fits : least_of_both a b ≤ most_of_both a b

-- how many places two octets can name: a plan has fewer covers
abbrev pub place_range : ℕ
place_range = 65536

-- the number of a pair of covers, one of each plan, which are given by their places
abbrev pub pair : ℕ → ℕ → ℕ
pair old new = old * place_range + new

-- the places of a pair's covers
abbrev pub old_of : ℕ → ℕ
old_of number = number / place_range

abbrev pub new_of : ℕ → ℕ
new_of number = number % place_range

-- the titles that both covers have, under a number: the longer prefix, and as many further digits as suit both
abbrev pub shared : ℕ → Cover → Cover → Titles
shared number a b =
    titles number a.node a.selector a.ssn (longer a.prefix b.prefix) (least_of_both a b - length (longer a.prefix b.prefix))
    (most_of_both a b - length (longer a.prefix b.prefix))
