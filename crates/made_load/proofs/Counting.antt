-- What is counted of each message: it ends or is returned, after one to six translations.
use Rattle.std.proofs.Common.{◌≡◌, ◌⊎◌, ◌<◌, ◌≤◌, ℕ, zero, suc, ◌+◌, ◌%◌, ◌^◌, ◌==◌, Bool, true, false, cond, List, [], ◌∷◌, length}
use Rattle.std.proofs.Common.{Ok, refl, sym, ap, subst, arith, inl, inr}
use Rattle.std.specs.List.{All, AllByRecursion, Contains}
use Rattle.std.proofs.lemmas.List.Elements.{All-nil, All-cons}
use Rattle.sccp_address.proofs.Kept.{AreOctets}
use Rattle.sccp_address.specs.Written.{IsAddress, written}
use Rattle.sccp_base.specs.declared.mark.Mark.{Mark}
use Rattle.sccp_message.proofs.Octets.{written_again}
use Rattle.sccp_message.specs.Reading.{reading}
use Rattle.sccp_message.specs.Written.{IsMessage}
use Rattle.sccp_message.specs.declared.message.Message.{Message}
use Rattle.sccp_message.specs.declared.message.Message.TheVariants.{Udt}
use Rattle.sccp_scrc.proofs.Fits.{short_fits}
use Rattle.sccp_scrc.specs.Arriving.{point_of}
use Rattle.sccp_scrc.specs.Unitdata.{Room}
use Rattle.plan_model.specs.Covered.{Covered, Covers, IsAllowed}
use Rattle.plan_model.specs.Network.{Network}
use Rattle.plan_model.specs.declared.spot.Spot.{Spot}
use Rattle.relay_net.proofs.Going.{goes_well}
use Rattle.relay_net.specs.Headline.{Follows, GoesWell, IsCoveredMessage, IsGoodEnd}
use Rattle.relay_net.specs.Journeys.{held_at, journey}
use Rattle.relay_net.specs.States.{markings_of}
use Rattle.relay_net.specs.declared.end.End.{End}
use Rattle.relay_net.specs.declared.end.End.TheVariants as ends
use Rattle.relay_net.specs.declared.travelled.Journey.{Journey}
use Rattle.made_load.proofs.LaidOut.{drawn_out, laid, two_on}
use Rattle.made_load.proofs.Planned.{is_plan, is_selector}
use Rattle.made_load.proofs.Safe.{safe}
use Rattle.made_load.specs.Draws.{after, digits, drawn, pair}
use Rattle.made_load.specs.Fates.{fate_of}
use Rattle.made_load.specs.Loads.{AddUp, Load, all_sent, before_message, begun, load_counts, sent, turned, with_fate}
use Rattle.made_load.specs.Messages.{called, calling, made_octets, origin, place_octets}
use Rattle.made_load.specs.Relays.{cover, load_plan, selector}
use Rattle.made_load.specs.declared.counts.Counts.{Counts}
use Rattle.made_load.specs.declared.fate.Fate.{Fate}
use Rattle.made_load.specs.declared.fate.Fate.TheVariants as fates

-- ---- the message

digits_fit : (n x : ℕ) → AllByRecursion (λ d. d < 16) (digits n x)
digits_fit zero x = tt
digits_fit (suc n) x = (omega arith, digits_fit n (after x))

digits_decimal : (n x : ℕ) → All (λ d. d < 10) (digits n x)
digits_decimal zero x = All-nil (λ d. d < 10)
digits_decimal (suc n) x = All-cons (λ d. d < 10) (drawn x % 10) (digits n (after x)) (omega arith) (digits_decimal n (after x))

count_digits : (n x : ℕ) → length (digits n x) ≡ n
count_digits zero x = refl
count_digits (suc n) x = ap suc (count_digits n (after x))

abbrev message : ℕ → ℕ → Message
message i x = Udt 0x80 (called (digits 10 x)) calling (place_octets i)

called_fits : (x : ℕ) → IsAddress (called (digits 10 x))
called_fits x = record {
  pc = tt;
  ssn = omega arith;
  title = (is_selector, omega (arith, count_digits 10 x), digits_fit 10 x, λ e. absurd (omega (arith, e)));
}

calling_fits : IsAddress calling
calling_fits = record { pc = omega arith; ssn = omega arith; title = tt }

is_message : (i x : ℕ) → IsMessage (message i x)
is_message i x = record { addresses = (called_fits x, (calling_fits, tt)); named = tt; sevens_fit = tt }

made_reads : (i x : ℕ) → reading (made_octets i x) ≡ Ok (message i x)
unfolding made_octets
made_reads i x = written_again (message i x) (is_message i x) refl

pair_fits : (x : ℕ) → pair x < 256
pair_fits x = omega arith

laid_fit : (i a b c d e : ℕ) → i < 2 ^ 32 → a < 256 → b < 256 → c < 256 → d < 256 → e < 256 → AreOctets (laid i a b c d e)
laid_fit i a b c d e place fa fb fc fd fe = (
  omega arith,
  (
    omega arith,
    (
      omega arith,
      (
        omega arith,
        (
          omega arith,
          (
            omega arith,
            (
              omega arith,
              (
                omega arith,
                (
                  omega arith,
                  (
                    omega arith,
                    (
                      omega arith,
                      (
                        fa,
                        (
                          fb,
                          (
                            fc,
                            (
                              fd,
                              (
                                fe,
                                (
                                  omega arith,
                                  (
                                    omega arith,
                                    (
                                      omega arith,
                                      (
                                        omega arith,
                                        (
                                          omega arith,
                                          (omega arith, (omega (arith, place), (omega arith, (omega arith, (omega arith, tt))))),
                                        ),
                                      ),
                                    ),
                                  ),
                                ),
                              ),
                            ),
                          ),
                        ),
                      ),
                    ),
                  ),
                ),
              ),
            ),
          ),
        ),
      ),
    ),
  ),
)

made_fit : (i x : ℕ) → i < 2 ^ 32 → AreOctets (made_octets i x)
made_fit i x place = subst AreOctets (drawn_out i x) (laid_fit i (pair x) (pair (two_on x)) (pair (two_on (two_on x)))
    (pair (two_on (two_on (two_on x)))) (pair (two_on (two_on (two_on (two_on x))))) place (pair_fits x) (pair_fits (two_on x))
    (pair_fits (two_on (two_on x))) (pair_fits (two_on (two_on (two_on x)))) (pair_fits (two_on (two_on (two_on (two_on x))))))

has_room : (i x : ℕ) → Room (message i x)
has_room i x = λ a few.
    short_fits (message i x) a calling (place_octets i) (place_octets i) 21 4 (λ hops. hops)
    (record { addresses = omega arith; payload_fits = omega arith }) (λ le. few) (λ le. calling_length) refl
    (inl (0x80, called (digits 10 x), refl))
  where
    calling_length : length (written calling) ≤ 4
    calling_length = omega arith

-- ---- it is covered

abbrev spot : ℕ → Spot
spot x = record { node = 0; selector = selector; ssn = 6; digits = digits 10 x }

covers : (x : ℕ) → Covers cover (spot x)
covers x = record {
  node = refl;
  selector = refl;
  ssn = refl;
  decimal = digits_decimal 10 x;
  begins = refl;
  least = omega (arith, count_digits 10 x);
  most = omega (arith, count_digits 10 x);
}

is_covered : (number x : ℕ) → Covered (load_plan number) (spot x)
unfolding load_plan
is_covered number x = (0, cover, omega arith, refl, covers x)

covered_message : (number i x : ℕ) → IsCoveredMessage (load_plan number) 6 0 (made_octets i x) (message i x) (spot x)
covered_message number i x = record {
  reads = made_reads i x;
  called = called (digits 10 x);
  connectionless = refl;
  by_title = refl;
  at = refl;
  covered = is_covered number x;
  room = has_room i x;
  hops = tt;
}

-- ---- it ends at a destination or is returned

-- the points of relays are below those of destinations
low_point : (number node : ℕ) → point_of (load_plan number) node < 4096
unfolding load_plan
low_point number zero = omega arith
low_point number (suc zero) = omega arith
low_point number (suc (suc zero)) = omega arith
low_point number (suc (suc (suc zero))) = omega arith
low_point number (suc (suc (suc (suc zero)))) = omega arith
low_point number (suc (suc (suc (suc (suc zero))))) = omega arith
low_point number (suc (suc (suc (suc (suc (suc zero)))))) = omega arith
low_point number (suc (suc (suc (suc (suc (suc (suc zero))))))) = omega arith
low_point number (suc (suc (suc (suc (suc (suc (suc (suc n)))))))) = omega arith

allowed_is : (number x pc ssn : ℕ) → IsAllowed (load_plan number) (spot x) pc ssn → 4096 ≤ pc
unfolding load_plan
allowed_is number x pc ssn allowed = by (allowed 0 cover (omega arith) (covers x)) where
  first : (a b : ℕ × ℕ) → a ≡ b → a.0 ≡ b.0
  first a b e = ap (λ p. p.0) e

  by : Contains cover.allowed (pc, ssn) → 4096 ≤ pc
  by (zero, lt, e) = omega (arith, first _ _ e)
  by (suc zero, lt, e) = omega (arith, first _ _ e)
  by (suc (suc zero), lt, e) = omega (arith, first _ _ e)
  by (suc (suc (suc zero)), lt, e) = omega (arith, first _ _ e)
  by (suc (suc (suc (suc zero))), lt, e) = omega (arith, first _ _ e)
  by (suc (suc (suc (suc (suc zero)))), lt, e) = omega (arith, first _ _ e)
  by (suc (suc (suc (suc (suc (suc zero))))), lt, e) = omega (arith, first _ _ e)
  by (suc (suc (suc (suc (suc (suc (suc zero)))))), lt, e) = omega (arith, first _ _ e)
  by (suc (suc (suc (suc (suc (suc (suc (suc zero))))))), lt, e) = omega (arith, first _ _ e)
  by (suc (suc (suc (suc (suc (suc (suc (suc (suc zero)))))))), lt, e) = omega (arith, first _ _ e)
  by (suc (suc (suc (suc (suc (suc (suc (suc (suc (suc n))))))))), lt, e) = absurd (omega (arith, lt))

-- it ends at a destination, or is returned
abbrev IsKnown : Fate → Type 0
IsKnown fate = (fate ≡ fates.Ended) ⊎ (fate ≡ fates.Returned)

known_fate : (number i x : ℕ) (z : Spot) (marking : List Mark) (end : End)
    → IsGoodEnd (load_plan number) (IsAllowed (load_plan number) (spot x)) (message i x) z marking end → IsKnown (fate_of end)
known_fate number i x z marking (ends.Ended pc ssn octets) good = inl refl
known_fate number i x z marking (ends.Local ssn new) good =
    absurd (omega (arith, low_point number z.node, allowed_is number x (point_of (load_plan number) z.node) ssn good.0))
known_fate number i x z marking (ends.Returned cause marks) good = inr refl
known_fate number i x z marking (ends.Connection new) good = absurd good
known_fate number i x z marking (ends.Management new) good = absurd good
known_fate number i x z marking (ends.Undecodable fault) good = absurd good
known_fate number i x z marking ends.Cut good = absurd good

some_node : (plan : Network) (states : List (List Mark)) (s z : Spot) (path : List ℕ) → Follows plan states s path z → 1 ≤ length path
some_node plan states s z [] way = absurd way
some_node plan states s z (node ∷ path) way = omega arith

-- ---- one more message

one_more : (fate : Fate) (nodes size : ℕ) (c : Counts) → IsKnown fate → 1 ≤ nodes → nodes ≤ 6 → AddUp size c
    → AddUp (size + 1) (with_fate fate (record c { messages = c.messages + 1; translations = c.translations + nodes }))
one_more fates.Ended nodes size c known some few so_far = record {
  messages = omega (arith, so_far.messages);
  ends = omega (arith, so_far.ends);
  least = omega (arith, so_far.least, some);
  most = omega (arith, so_far.most, few);
}
one_more fates.Returned nodes size c known some few so_far = record {
  messages = omega (arith, so_far.messages);
  ends = omega (arith, so_far.ends);
  least = omega (arith, so_far.least, some);
  most = omega (arith, so_far.most, few);
}
one_more fates.Other nodes size c (inl e) some few so_far = absurd cc
one_more fates.Other nodes size c (inr e) some few so_far = absurd cc

one_sent : (number i size : ℕ) (l : Load) → i < 2 ^ 32 → AddUp size l.counts → AddUp (size + 1) (sent (load_plan number) i l).counts
one_sent number i size l lt so_far =
    let plan : Network = load_plan number in
    let states : List (List Mark) = markings_of l.states in
    let b : List ℕ = made_octets i l.at in
    let j : Journey = journey plan states 0 origin b in
    let goes : GoesWell plan states 6 (message i l.at) (spot l.at) j.path j.end =
    goes_well plan 6 states 0 origin b (message i l.at) (spot l.at) (is_plan number) (omega arith) (safe number) (made_fit i l.at lt)
    (covered_message number i l.at) in
    one_more (fate_of j.end) (length j.path) size l.counts
    (known_fate number i l.at goes.stop (held_at states goes.stop.node) j.end goes.good)
    (some_node plan states (spot l.at) goes.stop j.path goes.way) goes.few so_far

same_counts : (plan : Network) (i : ℕ) (l : Load) → (before_message plan i l).counts ≡ l.counts
same_counts plan i l = by (i % 64 == 63) where
  by : (due : Bool) → (cond due (record l { at = after l.at; states = turned plan l.states (drawn l.at) }) l).counts ≡ l.counts
  by true = refl
  by false = refl

all_add_up : (number left i : ℕ) (l : Load) → i + left ≤ 2 ^ 32 → AddUp i l.counts
    → AddUp (i + left) (all_sent (load_plan number) left i l).counts
all_add_up number zero i l le so_far = subst (λ n. AddUp n l.counts) (omega arith) so_far
all_add_up number (suc left) i l le so_far =
    let ready : Load = before_message (load_plan number) i l in
    let there : AddUp i ready.counts = subst (AddUp i) (sym (same_counts (load_plan number) i l)) so_far in
    subst (λ n. AddUp n (all_sent (load_plan number) left (i + 1) (sent (load_plan number) i ready)).counts) (omega arith)
    (all_add_up number left (i + 1) (sent (load_plan number) i ready) (omega (arith, le))
    (one_sent number i i ready (omega (arith, le)) there))

pub add_up : (number size : ℕ) → size ≤ 2 ^ 32 → AddUp size (load_counts number size)
unfolding load_counts
add_up number size le =
    subst (λ n. AddUp n (all_sent (load_plan number) size 0 (begun number (load_plan number))).counts) (omega arith)
    (all_add_up number size 0 (begun number (load_plan number)) (omega (arith, le))
    (record { messages = refl; ends = refl; least = omega arith; most = omega arith }))
