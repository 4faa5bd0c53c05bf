-- What is printed of a batch, line by line.
use Rattle.std.proofs.Common.{◌≡◌, ◌≤◌, ℕ, List, [], ◌∷◌, ◌++◌, length, Option, refl, sym, ◌∙◌, ap, subst}
use Rattle.std.proofs.Common.{arith, inl, inr}
use Rattle.std.specs.List.{AllByRecursion, flat_map, filter_map, cons_option}
use Rattle.sccp_address.proofs.Kept.{AreOctets}
use Rattle.sccp_base.specs.declared.mark.Mark.{Mark}
use Rattle.sccp_message.specs.declared.message.Message.{Message}
use Rattle.plan_model.specs.declared.spot.Spot.{Spot}
use Rattle.plan_model.specs.Network.{Network, IsPlan}
use Rattle.plan_model.specs.Verdicts.{Safe}
use Rattle.relay_net.specs.Batches.{Incoming, applied_after}
use Rattle.relay_net.specs.Headline.{IsCoveredMessage, GoesWell}
use Rattle.relay_net.specs.Journeys.{journey}
use Rattle.relay_net.specs.States.{State}
use Rattle.relay_net.specs.declared.outcome.Outcome.{Outcome}
use Rattle.sccp_report.specs.Roles.{routed, role_of}
use Rattle.sccp_report.specs.Served.{served_text}
use Rattle.trace_text.specs.declared.line.Numbered.{Numbered}
use Rattle.sccp_replay.specs.Account.{Piece, Published, lines_of}
use Rattle.sccp_work.specs.Numbers.{AreNumbers}
use Rattle.sccp_replay.specs.Replay.{Standing, Settled, prints, routes, accepted, accepted_before, batch_of, journey_by, tell}
use Rattle.sccp_replay.proofs.Parts.{no_parts, same_head, same_tail}
use Rattle.sccp_replay.proofs.Settling.{Entry, entry_lines, settled_of, plans_in}

-- ---- the numbers suffice, and are those that the workers may take

-- a number for a message: in a range, and by one worker that of the plans accepted before its line
pub record IsTaken (least most workers before n : ℕ) : Type 0 where
  pub low : least ≤ n
  pub high : n ≤ most
  pub own : workers ≡ 1 → n ≡ before

abbrev pub HasNumber : ℕ → ℕ → ℕ → Settled → List ℕ → Type 0
HasNumber least most workers (prints text) ns = Unit {0}
HasNumber least most workers (routes line x before) [] = ⊥
HasNumber least most workers (routes line x before) (n ∷ ns) = IsTaken least most workers before n

abbrev pub left_after : Settled → List ℕ → List ℕ
left_after (prints text) ns = ns
left_after (routes line x before) [] = []
left_after (routes line x before) (n ∷ ns) = ns

abbrev pub HaveNumbers : ℕ → ℕ → ℕ → List Settled → List ℕ → Type 0
HaveNumbers least most workers [] ns = Unit {0}
HaveNumbers least most workers (s ∷ ss) ns = HasNumber least most workers s ns × HaveNumbers least most workers ss (left_after s ns)

abbrev pub InRange : ℕ → ℕ → Settled → Type 0
InRange least most (prints text) = Unit {0}
InRange least most (routes n x before) = (least ≤ before) × (before ≤ most)

own_numbers : (least most workers : ℕ) (ss : List Settled) → AllByRecursion (InRange least most) ss
    → HaveNumbers least most workers ss (filter_map accepted_before ss)
own_numbers least most workers [] h = tt
own_numbers least most workers (prints text ∷ ss) h = (tt, own_numbers least most workers ss h.1)
own_numbers least most workers (routes line x before ∷ ss) h =
    (record { low = h.0.0; high = h.0.1; own = λ one. refl }, own_numbers least most workers ss h.1)

many_numbers : (least most workers : ℕ) (ss : List Settled) (ns : List ℕ) → (workers ≡ 1 → ⊥)
    → length ns ≡ length (filter_map accepted_before ss) → AllByRecursion (λ n. (least ≤ n) × (n ≤ most)) ns
    → HaveNumbers least most workers ss ns
many_numbers least most workers [] ns many e h = tt
many_numbers least most workers (prints text ∷ ss) ns many e h = (tt, many_numbers least most workers ss ns many e h)
many_numbers least most workers (routes line x before ∷ ss) [] many e h = absurd (omega (arith, e))
many_numbers least most workers (routes line x before ∷ ss) (n ∷ ns) many e h = (
  record { low = h.0.0; high = h.0.1; own = λ one. absurd (many one) },
  many_numbers least most workers ss ns many (omega (arith, e)) h.1,
)

pub numbers_fit : (at at' : Standing) (ss : List Settled) (ns : List ℕ) → AllByRecursion (InRange (accepted at) (accepted at')) ss
    → AreNumbers (batch_of at at' ss) ns → HaveNumbers (accepted at) (accepted at') at.workers ss ns
numbers_fit at at' ss ns h (inl e) =
    subst (HaveNumbers (accepted at) (accepted at') at.workers ss) (sym e.1) (own_numbers (accepted at) (accepted at') at.workers ss h)
numbers_fit at at' ss ns h (inr e) = many_numbers (accepted at) (accepted at') at.workers ss ns e.0 e.1.each e.1.range

-- ---- the pieces

abbrev pub piece_of : Numbered → List ℕ → Option Published → Piece
piece_of line text accepted = record { line = line; text = text; accepted = accepted }

-- what is printed of a settled line, and what the nodes keep after it
abbrev pub text_of : Standing → List (List Mark) → List State → Settled → List ℕ → List ℕ
text_of at mk st (prints text) ns = text
text_of at mk st (routes line x before) [] = []
text_of at mk st (routes line x before) (n ∷ ns) =
    served_text at.first line n (journey_by at mk x n) (applied_after at.first st x (journey_by at mk x n)).outcomes

abbrev pub states_by : Standing → List (List Mark) → List State → Settled → List ℕ → List State
states_by at mk st (prints text) ns = st
states_by at mk st (routes line x before) [] = st
states_by at mk st (routes line x before) (n ∷ ns) = (applied_after at.first st x (journey_by at mk x n)).states

pub pieces_of : Standing → List (List Mark) → List State → List Entry → List ℕ → List Piece
pieces_of at mk st [] ns = []
pieces_of at mk st (e ∷ es) ns =
    piece_of e.line (text_of at mk st e.settled ns) e.accepted
    ∷ pieces_of at mk (states_by at mk st e.settled ns) es (left_after e.settled ns)

pub pieces_lines : (at : Standing) (mk : List (List Mark)) (st : List State) (es : List Entry) (ns : List ℕ)
    → lines_of (pieces_of at mk st es ns) ≡ entry_lines es
unfolding pieces_of
pieces_lines at mk st [] ns = refl
pieces_lines at mk st (e ∷ es) ns = ap (λ ls. e.line ∷ ls)
    (pieces_lines at mk (states_by at mk st e.settled ns) es (left_after e.settled ns))

pub pieces_plans : (at : Standing) (mk : List (List Mark)) (st : List State) (es : List Entry) (ns : List ℕ)
    → filter_map (λ p. p.accepted) (pieces_of at mk st es ns) ≡ plans_in es
unfolding pieces_of
pieces_plans at mk st [] ns = refl
pieces_plans at mk st (e ∷ es) ns =
    ap (cons_option e.accepted) (pieces_plans at mk (states_by at mk st e.settled ns) es (left_after e.settled ns))

tell_one : (least most workers : ℕ) (at : Standing) (mk : List (List Mark)) (st : List State) (s : Settled) (ss : List Settled)
    (ns : List ℕ) → HasNumber least most workers s ns
    → (tell at mk st (s ∷ ss) ns).text ≡ text_of at mk st s ns ++ (tell at mk (states_by at mk st s ns) ss (left_after s ns)).text
unfolding tell
tell_one least most workers at mk st (prints text) ss ns h = refl
tell_one least most workers at mk st (routes line x before) ss [] h = absurd h
tell_one least most workers at mk st (routes line x before) ss (n ∷ ns) h = refl

pub pieces_text : (least most workers : ℕ) (at : Standing) (mk : List (List Mark)) (st : List State) (es : List Entry) (ns : List ℕ)
    → HaveNumbers least most workers (settled_of es) ns
    → (tell at mk st (settled_of es) ns).text ≡ flat_map (λ p. p.text) (pieces_of at mk st es ns)
unfolding pieces_of tell
pieces_text least most workers at mk st [] ns h = refl
pieces_text least most workers at mk st (e ∷ es) ns h =
    tell_one least most workers at mk st e.settled (settled_of es) ns h.0
    ∙ ap (λ t. text_of at mk st e.settled ns ++ t)
    (pieces_text least most workers at mk (states_by at mk st e.settled ns) es (left_after e.settled ns) h.1)

-- ---- what each piece says

-- a printed text is printed, and a message has the journey of its number
abbrev pub IsToldAs : ℕ → ℕ → ℕ → Standing → List (List Mark) → List ℕ → Settled → Type 0
IsToldAs least most workers at mk text (prints t) = text ≡ t
IsToldAs least most workers at mk text (routes line x before) =
    (n : ℕ) × IsTaken least most workers before n × (outcomes : List Outcome)
    × (text ≡ served_text at.first line n (journey_by at mk x n) outcomes)

told_as : (least most workers : ℕ) (at : Standing) (mk : List (List Mark)) (st : List State) (s : Settled) (ns : List ℕ)
    → HasNumber least most workers s ns → IsToldAs least most workers at mk (text_of at mk st s ns) s
told_as least most workers at mk st (prints text) ns h = refl
told_as least most workers at mk st (routes line x before) [] h = absurd h
told_as least most workers at mk st (routes line x before) (n ∷ ns) h =
    (n, h, (applied_after at.first st x (journey_by at mk x n)).outcomes, refl)

-- a piece is that of an entry at the same place
pub record IsOfEntry (least most workers : ℕ) (at : Standing) (mk : List (List Mark)) (es : List Entry) (bp : List Piece)
    (p : Piece) : Type 0
  where
    pub before : List Entry
    pub entry : Entry
    pub after : List Entry
    pub parts : es ≡ before ++ entry ∷ after
    pub plans : filter_map (λ q. q.accepted) bp ≡ plans_in before
    pub line : entry.line ≡ p.line
    pub accepts : entry.accepted ≡ p.accepted
    pub told : IsToldAs least most workers at mk p.text entry.settled

pub entry_of : (least most workers : ℕ) (at : Standing) (mk : List (List Mark)) (st : List State) (es : List Entry) (ns : List ℕ)
    → HaveNumbers least most workers (settled_of es) ns → (bp : List Piece) (p : Piece) (ap' : List Piece)
    → pieces_of at mk st es ns ≡ bp ++ p ∷ ap' → IsOfEntry least most workers at mk es bp p
unfolding pieces_of
entry_of least most workers at mk st [] ns h bp p after is = absurd (no_parts bp p after is)
entry_of least most workers at mk st (e ∷ es) ns h [] p after is =
    let same = same_head is in
    record {
      before = [];
      entry = e;
      after = es;
      parts = refl;
      plans = refl;
      line = ap (λ q. q.line) same;
      accepts = ap (λ q. q.accepted) same;
      told = subst (λ q. IsToldAs least most workers at mk q.text e.settled) same (told_as least most workers at mk st e.settled ns h.0);
    }
entry_of least most workers at mk st (e ∷ es) ns h (b ∷ bp) p after is =
    let r = entry_of least most workers at mk (states_by at mk st e.settled ns) es (left_after e.settled ns) h.1 bp p after
    (same_tail is) in
    record {
      before = e ∷ r.before;
      entry = r.entry;
      after = r.after;
      parts = ap (λ fs. e ∷ fs) r.parts;
      plans = (λ i. cons_option (sym (ap (λ q. q.accepted) (same_head is)) i) (r.plans i));
      line = r.line;
      accepts = r.accepts;
      told = r.told;
    }

-- ---- premises

-- the headline of journeys
abbrev pub Goes : Type 0
Goes = (plan : Network) (bound : ℕ) (states : List (List Mark)) (entry origin : ℕ) (b : List ℕ) (m : Message) (s : Spot) →
    IsPlan plan → bound ≤ 14 → Safe plan bound → AreOctets b → IsCoveredMessage plan bound entry b m s →
    GoesWell plan states bound m s (journey plan states entry origin b).path (journey plan states entry origin b).end

-- the octets of a message that is routed are octets
abbrev pub HasOctets : Network → Numbered → Type 0
HasOctets first l = (x : Incoming) → role_of first l.line ≡ routed x → AreOctets x.octets
