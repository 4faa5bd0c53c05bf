-- Messages that are not sent leave the same as those that are, but for the counts.
use Rattle.std.proofs.Common.{◌≡◌, ◌≤◌, ◌<◌, ℕ, zero, suc, ◌+◌, ◌-◌, ◌%◌, Bool, true, false, cond, List, length, refl, sym, ◌∙◌, ap, subst}
use Rattle.std.proofs.Common.{arith}
use Rattle.std.specs.Prelude.{◌==◌}
use Rattle.plan_model.specs.Network.{Network}
use Rattle.relay_net.specs.Journeys.{journey}
use Rattle.relay_net.specs.States.{State, markings_of}
use Rattle.relay_net.specs.declared.travelled.Journey.{Journey}
use Rattle.made_load.specs.Draws.{after, after_digits, drawn}
use Rattle.made_load.specs.Fates.{fate_of}
use Rattle.made_load.specs.Loads.{Load, no_counts, with_fate, counted, turned, before_message, sent, all_sent, passed, all_passed}
use Rattle.made_load.specs.Loads.{part_counts, plus, begun, IsAfter}
use Rattle.made_load.specs.Messages.{made_octets, origin}
use Rattle.made_load.specs.Relays.{load_plan}
use Rattle.made_load.specs.declared.counts.Counts.{Counts}
use Rattle.made_load.specs.declared.fate.Fate.{Fate}
use Rattle.made_load.specs.declared.fate.Fate.TheVariants as fates
use Rattle.made_load.proofs.Sending.{prepared_states, stands_after}

-- ---- counts that are put together

abbrev four : ℕ → ℕ → ℕ → ℕ → Counts
four m e r t = record { messages = m; ended = e; returned = r; translations = t }

counts_by : (m e r t m' e' r' t' : ℕ) → m ≡ m' → e ≡ e' → r ≡ r' → t ≡ t' → four m e r t ≡ four m' e' r' t'
counts_by m e r t m' e' r' t' a b c d = ap (λ x. four x e r t) a ∙ ap (λ x. four m' x r t) b ∙ ap (λ x. four m' e' x t) c
    ∙ ap (λ x. four m' e' r' x) d

ended_by : (fate : Fate) (c d : Counts) → with_fate fate (plus c d) ≡ plus c (with_fate fate d)
ended_by fates.Ended c d =
    let m = c.messages + d.messages in let r = c.returned + d.returned in let t = c.translations + d.translations in
    let one : c.ended + d.ended + 1 ≡ c.ended + (d.ended + 1) = omega arith in ap (λ x. four m x r t) one
ended_by fates.Returned c d =
    let m = c.messages + d.messages in let e = c.ended + d.ended in let t = c.translations + d.translations in
    let one : c.returned + d.returned + 1 ≡ c.returned + (d.returned + 1) = omega arith in ap (λ x. four m e x t) one
ended_by fates.Other c d = refl

counted_by : (j : Journey) (c d : Counts) → counted j (plus c d) ≡ plus c (counted j d)
counted_by j c d =
    let n = length j.path in
    ap (λ x. with_fate (fate_of j.end) x) (counts_by (c.messages + d.messages + 1) (c.ended + d.ended) (c.returned + d.returned)
    (c.translations + d.translations + n)
    (c.messages + (d.messages + 1)) (c.ended + d.ended) (c.returned + d.returned) (c.translations + (d.translations + n))
    (omega arith) refl refl (omega arith))
    ∙ ended_by (fate_of j.end) c (record d { messages = d.messages + 1; translations = d.translations + n })

none_more : (c : Counts) → plus c no_counts ≡ c
none_more c = counts_by (c.messages + 0) (c.ended + 0) (c.returned + 0) (c.translations + 0) c.messages c.ended c.returned c.translations
    (omega arith) (omega arith) (omega arith) (omega arith)

-- ---- what is counted changes nothing else

-- with these counts before its own
abbrev ahead : Counts → Load → Load
ahead c l = record l { counts = plus c l.counts }

abbrev pub standing : ℕ → List State → Counts → Load
standing at states counts = record { at = at; states = states; counts = counts }

abbrev bare : Load → Load
bare l = record l { counts = no_counts }

before_ahead : (plan : Network) (i : ℕ) (c : Counts) (l : Load) → before_message plan i (ahead c l) ≡ ahead c (before_message plan i l)
before_ahead plan i c l = by (i % 64 == 63) where
  by : (due : Bool) → cond due (record (ahead c l) { at = after l.at; states = turned plan l.states (drawn l.at) }) (ahead c l)
      ≡ ahead c (cond due (record l { at = after l.at; states = turned plan l.states (drawn l.at) }) l)
  by true = refl
  by false = refl

before_bare : (plan : Network) (i : ℕ) (l : Load) → before_message plan i (bare l) ≡ bare (before_message plan i l)
before_bare plan i l = by (i % 64 == 63) where
  by : (due : Bool) → cond due (record (bare l) { at = after l.at; states = turned plan l.states (drawn l.at) }) (bare l)
      ≡ bare (cond due (record l { at = after l.at; states = turned plan l.states (drawn l.at) }) l)
  by true = refl
  by false = refl

sent_ahead : (plan : Network) (i : ℕ) (c : Counts) (l : Load) → sent plan i (ahead c l) ≡ ahead c (sent plan i l)
sent_ahead plan i c l =
    ap (λ k. standing (after_digits 10 l.at) l.states k)
    (counted_by (journey plan (markings_of l.states) 0 origin (made_octets i l.at)) c l.counts)

all_ahead : (plan : Network) (n i : ℕ) (c : Counts) (l : Load) → all_sent plan n i (ahead c l) ≡ ahead c (all_sent plan n i l)
all_ahead plan zero i c l = refl
all_ahead plan (suc n) i c l =
    ap (λ k. all_sent plan n (i + 1) (sent plan i k)) (before_ahead plan i c l)
    ∙ ap (λ k. all_sent plan n (i + 1) k) (sent_ahead plan i c (before_message plan i l))
    ∙ all_ahead plan n (i + 1) c (sent plan i (before_message plan i l))

all_bare : (plan : Network) (n i : ℕ) (l : Load) → all_passed plan n i (bare l) ≡ bare (all_sent plan n i l)
all_bare plan zero i l = refl
all_bare plan (suc n) i l =
    ap (λ k. all_passed plan n (i + 1) (passed k)) (before_bare plan i l) ∙ all_bare plan n (i + 1) (sent plan i (before_message plan i l))

-- ---- one part after another

splits : (plan : Network) (n m i : ℕ) (l : Load) → all_sent plan (n + m) i l ≡ all_sent plan m (i + n) (all_sent plan n i l)
splits plan zero m i l =
    let same : 0 + m ≡ m = omega arith in
    let here : i ≡ i + 0 = omega arith in
    ap (λ k. all_sent plan k i l) same ∙ ap (λ k. all_sent plan m k l) here
splits plan (suc n) m i l =
    let one : suc n + m ≡ suc (n + m) = omega arith in
    let there : i + 1 + n ≡ i + suc n = omega arith in
    let now = sent plan i (before_message plan i l) in
    ap (λ k. all_sent plan k i l) one ∙ splits plan n m (i + 1) now ∙ ap (λ k. all_sent plan m k (all_sent plan n (i + 1) now)) there

-- the counts up to a place, and those of the part from it on
pub one_part : (number from upto : ℕ) → from ≤ upto →
    (all_sent (load_plan number) upto 0 (begun number (load_plan number))).counts
    ≡ plus (all_sent (load_plan number) from 0 (begun number (load_plan number))).counts (part_counts number from (upto - from))
one_part number from upto le =
    let plan = load_plan number in
    let first = begun number plan in
    let there : Load = all_sent plan from 0 first in
    let whole : upto ≡ from + (upto - from) = omega (arith, le) in
    let start : 0 + from ≡ from = omega arith in
    let as_ahead : there ≡ ahead there.counts (bare there) = ap (λ k. standing there.at there.states k) (sym (none_more there.counts)) in
    let same : all_sent plan upto 0 first ≡ ahead there.counts (all_sent plan (upto - from) from (all_passed plan from 0 first)) =
    ap (λ n. all_sent plan n 0 first) whole ∙ splits plan from (upto - from) 0 first ∙ ap (λ n. all_sent plan (upto - from) n there) start
    ∙ ap (λ k. all_sent plan (upto - from) from k) as_ahead ∙ all_ahead plan (upto - from) from there.counts (bare there)
    ∙ ap (λ k. ahead there.counts (all_sent plan (upto - from) from k)) (sym (all_bare plan from 0 first)) in
    ap (λ (k : Load). k.counts) same

-- ---- messages that are not sent

-- those that are left up to a place leave what all of them leave
pub record StillPasses (plan : Network) (upto place : ℕ) (first l : Load) : Type 0 where
  pub whole : all_passed plan (upto - place) place l ≡ all_passed plan upto 0 first
  pub states : length l.states ≡ 8

pub begins : (plan : Network) (upto : ℕ) (first : Load) → length first.states ≡ 8 → StillPasses plan upto 0 first first
begins plan upto first many = record {
  whole = let none : upto - 0
      ≡ upto = omega arith in ap (λ n. all_passed plan n 0 first) none;
  states = many;
}

pub goes_by : (plan : Network) (upto place : ℕ) (first l ready now : Load) → place < upto → ready ≡ before_message plan place l
    → now ≡ passed ready → StillPasses plan upto place first l → StillPasses plan upto (place + 1) first now
goes_by plan upto place first l ready now lt prepares passes so_far =
    let next : now ≡ passed (before_message plan place l) = passes ∙ ap (λ k. passed k) prepares in
    let one : upto - place ≡ suc (upto - (place + 1)) = omega (arith, lt) in
    record {
      whole = ap (λ k. all_passed plan (upto - (place + 1)) (place + 1) k) next ∙ sym (ap (λ n. all_passed plan n place l) one)
          ∙ so_far.whole;
      states = ap (λ (k : Load). length k.states) next ∙ prepared_states plan place l ∙ so_far.states;
    }

pub done_by : (plan : Network) (upto place : ℕ) (first l : Load) → upto ≤ place → StillPasses plan upto place first l
    → l ≡ all_passed plan upto 0 first
done_by plan upto place first l le so_far =
    let none : upto - place ≡ 0 = omega (arith, le) in
    sym (ap (λ n. all_passed plan n place l) none) ∙ so_far.whole

-- nothing was counted
pub passed_after : (number place : ℕ) → IsAfter place (all_passed (load_plan number) place 0 (begun number (load_plan number)))
passed_after number place =
    let plan = load_plan number in
    let there : Load = all_sent plan place 0 (begun number plan) in
    let is : IsAfter place there = stands_after plan number place refl in
    let none : IsAfter place (bare there) =
    record { states = is.states; messages = omega arith; ended = omega arith; returned = omega arith; translations = omega arith } in
    subst (IsAfter place) (sym (all_bare plan place 0 (begun number plan))) none
