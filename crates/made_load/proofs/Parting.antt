-- The counts of parts that are put together.
use Rattle.std.proofs.Common.{◌≡◌, ◌≤◌, ◌<◌, ℕ, ◌+◌, ◌*◌, ◌/◌, ◌^◌, refl, sym, ◌∙◌, ap, subst, arith}
use Rattle.std.proofs.Math.Nat.{le_trans, mul-le-mul_left, mul-div_cancel, div-mul-le_self, zero-div}
use Rattle.std.proofs.lemmas.Nat.{le-div}
use Rattle.made_load.specs.Loads.{no_counts, all_sent, begun, load_counts, plus, beginning, counts_of_part, IsRoomy}
use Rattle.made_load.specs.Relays.{load_plan}
use Rattle.made_load.specs.declared.counts.Counts.{Counts}
use Rattle.made_load.proofs.Passing.{one_part}
use Rattle.made_load.proofs.Sending.{roomy, stands_after}

-- ---- the places at which the parts begin

div_grows : (a b p : ℕ) → 0 < p → a ≤ b → a / p ≤ b / p
div_grows a b p some le = le-div (a / p) b p some (le_trans (div-mul-le_self a p) le)

begins_later : (size parts part : ℕ) → 0 < parts → beginning size parts part ≤ beginning size parts (part + 1)
begins_later size parts part some = div_grows (size * part) (size * (part + 1)) parts some (mul-le-mul_left size (omega arith))

begins_behind : (size parts : ℕ) → 0 < parts → beginning size parts parts ≡ size
begins_behind size parts some = mul-div_cancel size some

begins_within : (size parts part : ℕ) → 0 < parts → part ≤ parts → beginning size parts part ≤ size
begins_within size parts part some le =
    subst (λ n. beginning size parts part ≤ n) (begins_behind size parts some)
    (div_grows (size * part) (size * parts) parts some (mul-le-mul_left size le))

begins_first : (size parts : ℕ) → beginning size parts 0 ≡ 0
begins_first size parts = let none : size * 0 ≡ 0 = omega arith in ap (λ n. n / parts) none ∙ zero-div parts

-- ---- what was counted before a part

abbrev pub counts_before : ℕ → ℕ → Counts
counts_before number place = (all_sent (load_plan number) place 0 (begun number (load_plan number))).counts

-- the counts of the parts so far are those of all messages before the next
pub record JoinsTo (number size parts part : ℕ) (counts : Counts) : Type 0 where
  pub within : part ≤ parts
  pub same : counts ≡ counts_before number (beginning size parts part)

joined : (number size parts part : ℕ) (counts more : Counts) → 0 < parts → JoinsTo number size parts part counts
    → more ≡ counts_of_part number size parts part → plus counts more ≡ counts_before number (beginning size parts (part + 1))
joined number size parts part counts more some so_far is =
    ap (λ c. plus c more) so_far.same ∙ ap (λ c. plus (counts_before number (beginning size parts part)) c) is
    ∙ sym (one_part number (beginning size parts part) (beginning size parts (part + 1)) (begins_later size parts part some))

pub starts : (number size parts : ℕ) (counts : Counts) → counts ≡ no_counts → JoinsTo number size parts 0 counts
starts number size parts counts none = record {
  within = omega arith;
  same = none
      ∙ ap (λ n. counts_before number n) (sym (begins_first size parts));
}

pub has_room : (number size parts part : ℕ) (counts more : Counts) → part < parts → size < 2 ^ 32 → JoinsTo number size parts part counts
    → more ≡ counts_of_part number size parts part → IsRoomy (plus counts more)
has_room number size parts part counts more lt few so_far is =
    let some : 0 < parts = omega (arith, lt) in
    let next = beginning size parts (part + 1) in
    let inside : next < 2 ^ 32 = omega (arith, few, begins_within size parts (part + 1) some (omega (arith, lt))) in
    subst IsRoomy (sym (joined number size parts part counts more some so_far is))
    (roomy next (all_sent (load_plan number) next 0 (begun number (load_plan number))) inside
    (stands_after (load_plan number) number next refl))

pub goes_on : (number size parts part : ℕ) (counts more now : Counts) → part < parts → now ≡ plus counts more
    → JoinsTo number size parts part counts → more ≡ counts_of_part number size parts part → JoinsTo number size parts (part + 1) now
goes_on number size parts part counts more now lt adds so_far is = record {
  within = omega (arith, lt);
  same = adds ∙ joined number size parts part counts more (omega (arith, lt)) so_far is;
}

pub ends : (number size parts part : ℕ) (counts : Counts) → 0 < parts → parts ≤ part → JoinsTo number size parts part counts
    → counts ≡ load_counts number size
unfolding load_counts
ends number size parts part counts some le so_far =
    let last : part ≡ parts = omega (arith, le, so_far.within) in
    so_far.same ∙ ap (λ k. counts_before number (beginning size parts k)) last
    ∙ ap (λ n. counts_before number n) (begins_behind size parts some)
