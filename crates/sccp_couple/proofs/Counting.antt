-- The parameters of a request that goes on, and how much room it needs.
use Rattle.std.specs.Prelude.{◌≡◌, ℕ, ◌+◌, ◌<◌, ◌≤◌, Bool, true, false, not, cond, ◌&&◌, ◌==◌, nat_le, List, [], ◌∷◌, ◌++◌, length, drop}
use Rattle.std.specs.Prelude.{Option, Some, None, refl, get_or}
use Rattle.std.specs.Option.{option_map_or}
use Rattle.std.proofs.Common.{add-one, suc, sym, ◌∙◌, ap, subst, append_assoc}
use Rattle.std.proofs.Math.Seq.{drop-cons}
use Rattle.std.proofs.lemmas.Bool.{and_parts, and_from}
use Rattle.sccp_address.specs.declared.address.Address.{Address}
use Rattle.sccp_address.specs.declared.address.Title.{Title}
use Rattle.sccp_address.specs.declared.address.Title.TheVariants.{Absent, Global, Raw}
use Rattle.sccp_address.specs.Written.{written}
use Rattle.sccp_layout.specs.Joining.{are_short}
use Rattle.sccp_layout.specs.Parameter.{Parameter, parameter}
use Rattle.sccp_layout.specs.Table as names
use Rattle.plan_model.specs.declared.spot.Spot.{Spot}
use Rattle.sccp_scrc.specs.Rewriting.{to_relay, to_place, spot_of, title_spot, ssn_after}
use Rattle.sccp_scrc.proofs.Addresses.{few_octets}
use Rattle.sccp_couple.specs.Ways.{counted, count_first}

-- what is still to be copied; its first hop counter becomes one less, if none was copied before
abbrev pub ahead : Bool → List Parameter → List Parameter
ahead is_first params = cond is_first (count_first params) params

abbrev pub next_of : Bool → Parameter → Parameter
next_of is_first p = cond (is_first && (p.name == names.hops)) (parameter p.name (counted p.octets)) p

one_more : (is_first : Bool) (p : Parameter) (rest : List Parameter)
    → ahead is_first (p ∷ rest) ≡ next_of is_first p ∷ ahead (is_first && not (p.name == names.hops)) rest
one_more false p rest = refl
one_more true p rest = elim (p.name == names.hops) as (λ b. cond b (parameter p.name (counted p.octets) ∷ rest) (p ∷ count_first rest)
    ≡ cond b (parameter p.name (counted p.octets)) p ∷ cond (not b) (count_first rest) rest) [ true ↦ refl | false ↦ refl ]

pub counts_on : (xs copy whole : List Parameter) (i : ℕ) (is_first : Bool) (p : Parameter) → i < length xs → get_or xs i p ≡ p
    → copy ++ ahead is_first (drop i xs) ≡ whole
    → (copy ++ next_of is_first p ∷ []) ++ ahead (is_first && not (p.name == names.hops)) (drop (i + 1) xs) ≡ whole
counts_on xs copy whole i is_first p lt at e =
    let after : drop i xs ≡ p ∷ drop (suc i) xs = drop-cons xs i p lt ∙ ap (λ (x : Parameter). x ∷ drop (suc i) xs) at in
    let cut : drop i xs ≡ p ∷ drop (i + 1) xs = rw add-one after in
    append_assoc copy (next_of is_first p ∷ []) (ahead (is_first && not (p.name == names.hops)) (drop (i + 1) xs))
    ∙ ap (λ (l : List Parameter). copy ++ l) (sym (one_more is_first p (drop (i + 1) xs)) ∙ ap (ahead is_first) (sym cut)) ∙ e

-- a hop counter has one octet, so parameters that were short stay short
pub count_short : (params : List Parameter) → are_short params ≡ true → are_short (count_first params) ≡ true
count_short [] short = refl
count_short (p ∷ params) short =
    let parts = and_parts (nat_le (length p.octets) 255) (are_short params) short in
    elim (p.name == names.hops) as (λ b.
    are_short (cond b (parameter p.name (counted p.octets) ∷ params) (p ∷ count_first params)) ≡ true) [
      | true ↦ parts.1
      | false ↦ and_from (nat_le (length p.octets) 255) (are_short (count_first params)) parts.0 (count_short params parts.1)
    ]

-- the called address that a request goes on with is short
pub relay_room : (a : Address) (next : Spot) → length next.digits ≤ 32 → length (written (to_relay a next)) ≤ 21
relay_room a next few = few_octets a.national false (ssn_after a.ssn next.ssn) next.selector next.digits few

pub place_room : (a : Address) (node ssn : ℕ) (spot : Spot) → spot_of node a ≡ Some spot → length spot.digits ≤ 32
    → length (written (to_place a ssn)) ≤ 21
place_room a node ssn spot e few = by_title a.title e
  where
    by_title : (title : Title) → title_spot node a.ssn title ≡ Some spot
        → length (written (record { national = a.national; by_ssn = true; pc = None; ssn = Some ssn; title = title })) ≤ 21
    by_title Absent h = absurd cc
    by_title (Raw kind octets) h = absurd cc
    by_title (Global selector digits) h =
        let same : digits ≡ spot.digits = ap (λ (o : Option Spot). option_map_or (λ s. s.digits) o []) h in
        few_octets a.national true (Some ssn) selector digits (subst (λ (ds : List ℕ). length ds ≤ 32) (sym same) few)
