-- What a relay notes of its messages is what the ledger of its pairs says.
use Rattle.std.specs.Prelude.{ℕ, ◌≡◌, List, [], ◌∷◌, ◌++◌, map, All, flat_map, refl}
use Rattle.std.proofs.Common.{sym, ◌∙◌, ap, subst}
use Rattle.sccp_couple.specs.declared.section.Section.{Section}
use Rattle.sccp_couple.specs.Events.{Event}
use Rattle.sccp_couple.specs.Coupling.{coupled}
use Rattle.sccp_couple.specs.Runs.{Pair, Moment, happens, run, start, carried, made}
use Rattle.sccp_couple.proofs.Fairness.{IsFair, fair_happens, fair_after}
use Rattle.couple_chain.specs.declared.passed.Passed.{Passed}
use Rattle.couple_chain.specs.Line.{both_of, given}
use Rattle.couple_chain.specs.Logged.{IsLogged, log_after}
use Rattle.couple_chain.specs.Relays.{Relaying, first_relay, relay_after, relay_run}
use Rattle.sccp_couple.proofs.Ledger.{carried_near, carried_far}
use Rattle.couple_chain.proofs.Logs.{logged_after}

-- what a relay notes is that of a moment
pub record IsNoted (m : Moment) (r : Relaying) : Type 0 where
  pub sections : r.sections ≡ m.sections
  pub passed : IsLogged m.pairs r.passed
  pub given_is : r.given ≡ given m

both_carried : (l : List Section) (event : Event) (ps : List Pair) → flat_map both_of (map (carried l event) ps) ≡ flat_map both_of ps
both_carried l event [] = refl
both_carried l event (p ∷ ps) =
    ap (λ (ns : List ℕ). (carried l event p).near ∷ (carried l event p).far ∷ ns) (both_carried l event ps)
    ∙ ap (λ (n : ℕ). n ∷ (carried l event p).far ∷ flat_map both_of ps) (carried_near l event p)
    ∙ ap (λ (n : ℕ). p.near ∷ n ∷ flat_map both_of ps) (carried_far l event p)

both_append : (ps qs : List Pair) → flat_map both_of (ps ++ qs) ≡ flat_map both_of ps ++ flat_map both_of qs
both_append [] qs = refl
both_append (p ∷ ps) qs = ap (λ (ns : List ℕ). p.near ∷ p.far ∷ ns) (both_append ps qs)

pub given_happens : (m : Moment) (event : Event) → given (happens m event) ≡ given m ++ flat_map both_of (made m.sections event)
given_happens m event =
    both_append (map (carried m.sections event) m.pairs) (made m.sections event)
    ∙ ap (λ (ns : List ℕ). ns ++ flat_map both_of (made m.sections event)) (both_carried m.sections event m.pairs)

with_sections : (l : List Section) (event : Event) (r : Relaying) → r.sections ≡ l
    → relay_after r event ≡ relay_after (record { node = r.node; sections = l; passed = r.passed; given = r.given }) event
with_sections l event r e = ap (λ (s : List Section). relay_after
    (record { node = r.node; sections = s; passed = r.passed; given = r.given }) event) e

pub noted_happens : (m : Moment) (r : Relaying) (event : Event) → All (IsFair m.sections) m.pairs → IsNoted m r
    → IsNoted (happens m event) (relay_after r event)
noted_happens m r event fair is =
    subst (λ (x : Relaying). IsNoted (happens m event) x) (sym (with_sections m.sections event r is.sections))
    (record {
      sections = refl;
      passed = logged_after m event r.passed fair is.passed;
      given_is = ap (λ (ns : List ℕ). ns ++ flat_map both_of (made m.sections event)) is.given_is ∙ sym (given_happens m event);
    })

noted_run : (m : Moment) (r : Relaying) (events : List Event) → All (IsFair m.sections) m.pairs → IsNoted m r
    → IsNoted (run m events) (relay_run r events)
noted_run m r [] fair is = is
noted_run m r (event ∷ events) fair is = noted_run (happens m event) (relay_after r event) events (fair_happens m event fair)
    (noted_happens m r event fair is)

pub noted : (node : ℕ) (events : List Event) → IsNoted (run start events) (relay_run (first_relay node) events)
noted node events = noted_run start (first_relay node) events (fair_after []) (record { sections = refl; passed = tt; given_is = refl })

-- a relay's notes, part by part
pub stepped : (r : Relaying) (node : ℕ) (sections : List Section) (passed : List Passed) (gave : List ℕ) (event : Event) → node ≡ r.node
    → sections ≡ (coupled r.sections event).sections → passed ≡ log_after r.sections event r.passed →
    gave ≡ r.given ++ flat_map both_of (made r.sections event)
    → record { node = node; sections = sections; passed = passed; given = gave } ≡ relay_after r event
stepped r node sections passed gave event a b c d =
    let kept : ℕ → List Section → List Passed → List ℕ → Relaying = λ n s p g. record { node = n; sections = s; passed = p; given = g } in
    ap (λ (n : ℕ). kept n sections passed gave) a
    ∙ ap (λ (s : List Section). kept r.node s passed gave) b
    ∙ ap (λ (p : List Passed). kept r.node (coupled r.sections event).sections p gave) c
    ∙ ap (λ (g : List ℕ). kept r.node (coupled r.sections event).sections (log_after r.sections event r.passed) g) d
