-- What was printed up to the end of a batch.
use Rattle.std.proofs.Common.{◌≡◌, ◌⊎◌, ◌+◌, ◌-◌, ◌<◌, ◌≤◌, ℕ, List, [], ◌∷◌, ◌++◌, length, map, Option, Some, None, refl, sym, ◌∙◌, ap}
use Rattle.std.proofs.Common.{subst}
use Rattle.std.proofs.Common.{append_assoc, append-nil, arith, inl, inr}
use Rattle.std.specs.Prelude.{slice_get, unwrap_or}
use Rattle.std.specs.Option.{option_map}
use Rattle.std.specs.List.{AllByRecursion, Contains, flat_map, filter_map, cons_option}
use Rattle.std.proofs.lemmas.List.{length-append, length-map, map-append}
use Rattle.std.proofs.lemmas.List.Elements.{Contains-append_cases, filter_map-append}
use Rattle.sccp_base.specs.declared.mark.Mark.{Mark}
use Rattle.plan_model.specs.Network.{Network, IsPlan}
use Rattle.plan_verify.specs.Lawful.{IsSafeFor}
use Rattle.relay_net.specs.Batches.{Incoming}
use Rattle.relay_net.specs.Journeys.{journey}
use Rattle.relay_net.specs.States.{State, markings_of}
use Rattle.relay_net.specs.declared.outcome.Outcome.{Outcome}
use Rattle.sccp_report.specs.Roles.{routed, later as names_plan, role_of}
use Rattle.sccp_report.specs.Served.{served_text}
use Rattle.trace_text.specs.declared.line.Line.TheVariants.{Plan}
use Rattle.trace_text.specs.declared.line.Numbered.{Numbered}
use Rattle.sccp_replay.specs.Account.{Piece, Published, lines_of, plans_after, IsRefused, IsLaterPlan, TellsPlan, IsNumber, TellsJourney}
use Rattle.sccp_replay.specs.Account.{TellsMessage}
use Rattle.sccp_replay.specs.BatchEnds.{begun_after, EndsBatch}
use Rattle.sccp_replay.specs.Holding.{managers_of, managers_after, held_after}
use Rattle.sccp_work.specs.Numbers.{AreNumbers}
use Rattle.sccp_replay.specs.Replay.{Standing, Settled, prints, routes, accepted, plan_at, batch_of, told_at, journey_by}
use Rattle.sccp_replay.specs.ReplayEnds.{LaterPlansFit}
use Rattle.sccp_replay.proofs.BatchRuns.{IsRun}
use Rattle.sccp_replay.proofs.Holding.{Joins, get_map, markings_are, tell_stays, managers_stay}
use Rattle.sccp_replay.proofs.Parts.{cut, parted, no_parts, all_front, all_back, all_both, all_get, got, got_below, got_front}
use Rattle.sccp_replay.proofs.Settling.{Scene, Entry, entry_lines, settled_of, plans_in, plan_in, IsEntry, Settles, Fits, accepted_by}
use Rattle.sccp_replay.proofs.Telling.{Goes, HasOctets, IsTaken, HaveNumbers, InRange, pieces_of, pieces_lines, pieces_plans, pieces_text}
use Rattle.sccp_replay.proofs.Telling.{IsToldAs, IsOfEntry, entry_of, numbers_fit}

unfoldable pub texts : List Piece → List ℕ
texts pieces = flat_map (λ p. p.text) pieces

-- the later plans that were accepted
abbrev pub later_plans : List Piece → List Published
later_plans pieces = filter_map (λ p. p.accepted) pieces

abbrev pub IsSound : Published → Type 0
IsSound a = IsPlan a.plan × IsSafeFor a.plan a.bound

-- these lines were printed as these pieces
pub record SoFar (z : Scene) (lines : List Numbered) (pieces : List Piece) (at : Standing) : Type 0 where
  pub first : at.first ≡ z.first.plan
  pub workers : at.workers ≡ z.workers
  pub of_lines : lines_of pieces ≡ lines
  pub plans : (before : List Piece) (p : Piece) (after : List Piece) → pieces ≡ before ++ p ∷ after
      → TellsPlan z.c z.first.plan (length (plans_after z.first before)) p.line p.text p.accepted
  pub messages : (before : List Piece) (p : Piece) (after : List Piece) → pieces ≡ before ++ p ∷ after
      → TellsMessage z.workers z.first before p after
  pub managers : managers_of at.states ≡ managers_after z.first.plan lines
  pub later : at.later ≡ map plan_in (later_plans pieces)
  pub sound : AllByRecursion IsSound (later_plans pieces)
  pub fit : LaterPlansFit z.c z.first.plan.limits lines

-- ---- further pieces

plans_more : (f : Published) (pieces more : List Piece)
    → length (plans_after f (pieces ++ more)) ≡ length (plans_after f pieces) + length (later_plans more)
plans_more f pieces more = omega (
  arith,
  ap length (filter_map-append (λ p. p.accepted) pieces more) ∙ length-append (later_plans pieces) (later_plans more),
)

number_more : (workers : ℕ) (f : Published) (before : List Piece) (p : Piece) (mid more : List Piece) (n : ℕ)
    → n - 1 < length (plans_after f (before ++ p ∷ mid)) → IsNumber workers f before p mid n → IsNumber workers f before p (mid ++ more) n
number_more workers f before p mid more n below h = record {
  at_least = h.at_least;
  at_most = λ m r e ends. on m ends (cut mid more m r e);
  by_one = h.by_one;
} where
  behind : (m : List Piece) (c : List Piece) → m ≡ mid ++ c
      → length (plans_after f (before ++ p ∷ m)) ≡ length (plans_after f (before ++ p ∷ mid)) + length (later_plans c)
  behind m c e = ap (λ k. length (plans_after f (before ++ p ∷ k))) e
      ∙ ap (λ k. length (plans_after f k)) (sym (append_assoc before (p ∷ mid) c)) ∙ plans_more f (before ++ p ∷ mid) c

  on : {r : List Piece} (m : List Piece) → EndsBatch f.plan (lines_of (before ++ p ∷ m))
      → ((c : List Piece) × (mid ≡ m ++ c)) ⊎ ((c : List Piece) × (m ≡ mid ++ c) × (more ≡ c ++ r))
      → n ≤ length (plans_after f (before ++ p ∷ m))
  on m ends (inl q) = h.at_most m q.0 q.1 ends
  on m ends (inr q) = omega (arith, below, behind m q.0 q.1)

message_more : (workers : ℕ) (f : Published) (before : List Piece) (p : Piece) (mid more : List Piece)
    → TellsMessage workers f before p mid → TellsMessage workers f before p (mid ++ more)
message_more workers f before p mid more h x role = let t = h x role in record {
  number = t.number;
  is_number = number_more workers f before p mid more t.number
      (got_below (plans_after f (before ++ p ∷ mid)) (t.number - 1) t.under t.is_published) t.is_number;
  under = t.under;
  is_published = subst (λ ps. slice_get ps (t.number - 1) ≡ Some t.under)
      (ap (λ ps. f ∷ ps) (sym (filter_map-append (λ p. p.accepted) (before ++ p ∷ mid) more)
      ∙ ap later_plans (append_assoc before (p ∷ mid) more)))
      (got_front (plans_after f (before ++ p ∷ mid)) (later_plans more) (t.number - 1) t.under t.is_published);
  prohibited = t.prohibited;
  held = t.held;
  way = t.way;
  is_way = t.is_way;
  outcomes = t.outcomes;
  told = t.told;
  well = t.well;
}

-- further lines were printed as further pieces
pub SoFar-more : (z : Scene) (lines ls : List Numbered) (pieces more : List Piece) (at at' : Standing) → SoFar z lines pieces at
    → at'.first ≡ z.first.plan → at'.workers ≡ z.workers → lines_of more ≡ ls
    → ((b : List Piece) (p : Piece) (a : List Piece) → more ≡ b ++ p ∷ a
    → TellsPlan z.c z.first.plan (length (plans_after z.first (pieces ++ b))) p.line p.text p.accepted)
    → ((b : List Piece) (p : Piece) (a : List Piece) → more ≡ b ++ p ∷ a → TellsMessage z.workers z.first (pieces ++ b) p a)
    → managers_of at'.states ≡ managers_after z.first.plan (lines ++ ls) → at'.later ≡ at.later ++ map plan_in (later_plans more)
    → AllByRecursion IsSound (later_plans more) → LaterPlansFit z.c z.first.plan.limits ls
    → SoFar z (lines ++ ls) (pieces ++ more) at'
SoFar-more z lines ls pieces more at at' h same workers is plans messages managers laters sound fit = record {
  first = same;
  workers = workers;
  of_lines = map-append (λ p. p.line) pieces more ∙ (λ i. h.of_lines i ++ is i);
  plans = λ before p after e. on_plan before p after (parted pieces more before p after e);
  messages = λ before p after e. on_message before p after (parted pieces more before p after e);
  managers = managers;
  later = laters ∙ ap (λ ps. ps ++ map plan_in (later_plans more)) h.later
      ∙ sym (map-append plan_in (later_plans pieces) (later_plans more))
      ∙ ap (map plan_in) (sym (filter_map-append (λ p. p.accepted) pieces more));
  sound = subst (AllByRecursion IsSound) (sym (filter_map-append (λ p. p.accepted) pieces more))
      (all_both IsSound (later_plans pieces) (later_plans more) h.sound sound);
  fit = λ number name has. fits number name (Contains-append_cases lines ls (record { number = number; line = Plan name }) has);
} where
  fits : (number : ℕ) (name : List ℕ) → Contains lines (record { number = number; line = Plan name })
      ⊎ Contains ls (record { number = number; line = Plan name }) → Fits z.c z.first.plan.limits name
  fits number name (inl e) = h.fit number name e
  fits number name (inr e) = fit number name e

  on_plan : (before : List Piece) (p : Piece) (after : List Piece)
      → ((mid : List Piece) × (pieces ≡ before ++ p ∷ mid) × (after ≡ mid ++ more))
      ⊎ ((b : List Piece) × (before ≡ pieces ++ b) × (more ≡ b ++ p ∷ after))
      → TellsPlan z.c z.first.plan (length (plans_after z.first before)) p.line p.text p.accepted
  on_plan before p after (inl q) = h.plans before p q.0 q.1
  on_plan before p after (inr q) =
      subst (λ b. TellsPlan z.c z.first.plan (length (plans_after z.first b)) p.line p.text p.accepted) (sym q.1) (plans q.0 p after q.2)

  on_message : (before : List Piece) (p : Piece) (after : List Piece)
      → ((mid : List Piece) × (pieces ≡ before ++ p ∷ mid) × (after ≡ mid ++ more))
      ⊎ ((b : List Piece) × (before ≡ pieces ++ b) × (more ≡ b ++ p ∷ after))
      → TellsMessage z.workers z.first before p after
  on_message before p after (inl q) = subst (TellsMessage z.workers z.first before p) (sym q.2)
      (message_more z.workers z.first before p q.0 more (h.messages before p q.0 q.1))
  on_message before p after (inr q) = subst (λ b. TellsMessage z.workers z.first b p after) (sym q.1) (messages q.0 p after q.2)

-- ---- a batch

-- what the batch leaves
abbrev pub batch_pieces : Standing → List Entry → List ℕ → List Piece
batch_pieces at es ns = pieces_of at (markings_of at.states) at.states es ns

-- a batch after these lines was settled and routed
pub record IsDone (z : Scene) (lines ls : List Numbered) (pieces : List Piece) (at at' : Standing) (es : List Entry) (ns : List ℕ) : Type 0
  where
    pub before : SoFar z lines pieces at
    pub entries : entry_lines es ≡ ls
    pub settles : Settles z at es at'
    pub numbers : HaveNumbers (accepted at) (accepted at') at.workers (settled_of es) ns
    pub octets : AllByRecursion (HasOctets z.first.plan) ls
    pub joins : AllByRecursion (Joins z.first.plan) ls
    pub run : IsRun z.first.plan lines ls

-- as many plans are accepted as were printed
accepted_so : (z : Scene) (lines : List Numbered) (pieces : List Piece) (at : Standing) → SoFar z lines pieces at
    → accepted at ≡ length (plans_after z.first pieces)
accepted_so z lines pieces at h = omega (arith, ap length h.later, length-map (later_plans pieces) plan_in)

lines_after : (z : Scene) (lines : List Numbered) (pieces : List Piece) (at : Standing) (b : List Piece) → SoFar z lines pieces at
    → lines_of (pieces ++ b) ≡ lines ++ lines_of b
lines_after z lines pieces at b h = map-append (λ p. p.line) pieces b ∙ ap (λ ls. ls ++ lines_of b) h.of_lines

none_of : (pieces : List Piece) → lines_of pieces ≡ [] → pieces ≡ []
none_of [] e = refl
none_of (p ∷ pieces) e = cc

-- numbers

in_range : (z : Scene) (least most count : ℕ) (l : Numbered) (s : Settled) (o : Option Published) → IsEntry z count l s o → least ≤ count
    → count ≤ most → InRange least most s
in_range z least most count l (prints text) o h low high = tt
in_range z least most count l (routes n x before) None h low high = (omega (arith, h.2, low), omega (arith, h.2, high))
in_range z least most count l (routes n x before) (Some a) h low high = absurd h

settled_all : (P : Settled → Type 0) (es : List Entry) → ((b : List Entry) (e : Entry) (a : List Entry) → es ≡ b ++ e ∷ a → P e.settled)
    → AllByRecursion P (settled_of es)
settled_all P [] h = tt
settled_all P (e ∷ es) h = (h [] e es refl, settled_all P es (λ b f a is. h (e ∷ b) f a (ap (λ fs. e ∷ fs) is)))

ranges : (z : Scene) (base : Standing) (es : List Entry) (at : Standing) → Settles z base es at
    → AllByRecursion (InRange (accepted base) (accepted at)) (settled_of es)
ranges z base es at h = settled_all (InRange (accepted base) (accepted at)) es (λ b e a is.
    in_range z (accepted base) (accepted at) (accepted base + length (plans_in b)) e.line e.settled e.accepted (h.each b e a is)
    (omega arith)
    (omega (
      arith,
      accepted_by z base es at h.later,
      ap (λ fs. length (plans_in fs)) is ∙ ap length (filter_map-append (λ f. f.accepted) b (e ∷ a))
          ∙ length-append (plans_in b) (plans_in (e ∷ a)),
    )))

-- plans

abbrev IsSoundOf : Option Published → Type 0
IsSoundOf None = Unit {0}
IsSoundOf (Some a) = IsSound a

sound_of : (z : Scene) (count : ℕ) (l : Numbered) (s : Settled) (o : Option Published) → IsEntry z count l s o → IsSoundOf o
sound_of z count l s None h = tt
sound_of z count l (prints text) (Some a) h = (h.1, h.0.accepted.safe)
sound_of z count l (routes n x before) (Some a) h = absurd h

sound_with : (o : Option Published) (others : List Published) → IsSoundOf o → AllByRecursion IsSound others
    → AllByRecursion IsSound (cons_option o others)
sound_with None others own more = more
sound_with (Some a) others own more = (own, more)

sound_all : (es : List Entry) → ((b : List Entry) (e : Entry) (a : List Entry) → es ≡ b ++ e ∷ a → IsSoundOf e.accepted)
    → AllByRecursion IsSound (plans_in es)
sound_all [] h = tt
sound_all (e ∷ es) h = sound_with e.accepted (plans_in es) (h [] e es refl)
    (sound_all es (λ b f a is. h (e ∷ b) f a (ap (λ fs. e ∷ fs) is)))

plans_sound : (z : Scene) (base : Standing) (es : List Entry) (at : Standing) → Settles z base es at → AllByRecursion IsSound (plans_in es)
plans_sound z base es at h = sound_all es (λ b e a is.
    sound_of z (accepted base + length (plans_in b)) e.line e.settled e.accepted (h.each b e a is))

-- one piece

-- what is known of a piece by its entry
entry_at : (z : Scene) (lines ls : List Numbered) (pieces : List Piece) (at at' : Standing) (es : List Entry) (ns : List ℕ)
    → IsDone z lines ls pieces at at' es ns → (b : List Piece) (p : Piece)
    → (r : IsOfEntry (accepted at) (accepted at') at.workers at' (markings_of at'.states) es b p)
    → IsEntry z (length (plans_after z.first (pieces ++ b))) p.line r.entry.settled p.accepted
entry_at z lines ls pieces at at' es ns d b p r =
    let count : accepted at + length (plans_in r.before) ≡ length (plans_after z.first (pieces ++ b)) = omega (
      arith,
      accepted_so z lines pieces at d.before,
      plans_more z.first pieces b,
      ap length r.plans,
    ) in
    subst (λ n. IsEntry z n p.line r.entry.settled p.accepted) count
    (subst (λ l. IsEntry z (accepted at + length (plans_in r.before)) l r.entry.settled p.accepted) r.line
    (subst (λ o. IsEntry z (accepted at + length (plans_in r.before)) r.entry.line r.entry.settled o) r.accepts
    (d.settles.each r.before r.entry r.after r.parts)))

routed_named : (first : Network) (l : Numbered) (x : Incoming) (name : List ℕ) → role_of first l.line ≡ routed x → l.line ≡ Plan name → ⊥
routed_named first l x name role e = apart (sym role ∙ ap (role_of first) e) where
  apart : routed x ≡ names_plan name → ⊥
  apart f = cc

plan_told : (z : Scene) (least most workers : ℕ) (at : Standing) (mk : List (List Mark)) (n : ℕ) (l : Numbered) (text : List ℕ)
    (s : Settled) (o : Option Published) → IsEntry z n l s o → IsToldAs least most workers at mk text s
    → TellsPlan z.c z.first.plan n l text o
plan_told z least most workers at mk n l text (prints t) (Some a) h is =
    subst (λ u. IsLaterPlan z.c z.first.plan (n + 1) l u a) (sym is) h.0
plan_told z least most workers at mk n l text (prints t) None h is = subst (IsRefused z.c z.first.plan l) (sym is) h.1
plan_told z least most workers at mk n l text (routes k x before) None h is =
    λ name e. absurd (routed_named z.first.plan l x name h.1 e)
plan_told z least most workers at mk n l text (routes k x before) (Some a) h is = absurd h

same_incoming : {x y : Incoming} → routed x ≡ routed y → x ≡ y
same_incoming e = cc

-- the number of a message
number_told : (z : Scene) (lines ls : List Numbered) (pieces : List Piece) (at at' : Standing) (es : List Entry) (ns : List ℕ)
    → IsDone z lines ls pieces at at' es ns → (b : List Piece) (p : Piece) (a : List Piece) → batch_pieces at' es ns ≡ b ++ p ∷ a
    → (before n : ℕ) → before ≡ length (plans_after z.first (pieces ++ b)) → IsTaken (accepted at) (accepted at') at.workers before n
    → accepted at' ≡ length (plans_after z.first (pieces ++ batch_pieces at' es ns))
    → IsNumber z.workers z.first (pieces ++ b) p a n
number_told z lines ls pieces at at' es ns d b p a e before n is taken all = record {
  at_least = λ earlier m f ends. low earlier m ends (cut pieces b earlier m f);
  at_most = λ m r f ends. high m r f ends;
  by_one = λ one. taken.own (d.before.workers ∙ one) ∙ is;
} where
  of_lines : ls ≡ lines_of (b ++ p ∷ a)
  of_lines = sym (pieces_lines at' (markings_of at'.states) at'.states es ns ∙ d.entries) ∙ ap lines_of e

  -- a batch has begun with the first pieces of this one
  begun : (c r : List Piece) → b ++ p ∷ a ≡ c ++ r → 0 < length r → EndsBatch z.first.plan (lines_of (pieces ++ c)) → c ≡ []
  begun c r f some ends = none_of c (sym (d.run (lines_of c) (lines_of r) (of_lines ∙ ap lines_of f ∙ map-append (λ q. q.line) c r)
      (omega (arith, some, length-map r (λ q. q.line))))
      ∙ ap (begun_after z.first.plan) (sym (lines_after z lines pieces at c d.before)) ∙ ends)

  low : (earlier m : List Piece) → EndsBatch z.first.plan (lines_of earlier)
      → ((c : List Piece) × (pieces ≡ earlier ++ c)) ⊎ ((c : List Piece) × (earlier ≡ pieces ++ c) × (b ≡ c ++ m))
      → length (plans_after z.first earlier) ≤ n
  low earlier m ends (inl q) = omega (
    arith,
    taken.low,
    accepted_so z lines pieces at d.before,
    ap (λ k. length (plans_after z.first k)) q.1 ∙ plans_more z.first earlier q.0,
  )
  low earlier m ends (inr q) =
      let none : q.0 ≡ [] = begun q.0 (m ++ p ∷ a) (ap (λ k. k ++ p ∷ a) q.2 ∙ append_assoc q.0 m (p ∷ a))
      (omega (arith, length-append m (p ∷ a))) (subst (λ k. EndsBatch z.first.plan (lines_of k)) q.1 ends) in
      omega (
        arith,
        taken.low,
        accepted_so z lines pieces at d.before,
        ap (λ k. length (plans_after z.first k)) (q.1 ∙ ap (λ c. pieces ++ c) none ∙ append-nil pieces),
      )

  high : (m r : List Piece) → a ≡ m ++ r → EndsBatch z.first.plan (lines_of ((pieces ++ b) ++ p ∷ m))
      → n ≤ length (plans_after z.first ((pieces ++ b) ++ p ∷ m))
  high m [] f ends = omega (
    arith,
    taken.high,
    all,
    ap (λ k. length (plans_after z.first k)) (append_assoc pieces b (p ∷ m)
        ∙ ap (λ k. pieces ++ (b ++ p ∷ k)) (sym (f ∙ append-nil m)) ∙ ap (λ k. pieces ++ k) (sym e)),
  )
  high m (q ∷ r) f ends = absurd (no_parts b p m (sym (begun (b ++ p ∷ m) (q ∷ r)
      (ap (λ k. b ++ p ∷ k) f ∙ sym (append_assoc b (p ∷ m) (q ∷ r))) (omega arith)
      (subst (λ k. EndsBatch z.first.plan (lines_of k)) (append_assoc pieces b (p ∷ m)) ends))))

-- what the relays hold at each message of a batch is what they held after the lines before it
held_before : (z : Scene) (lines : List Numbered) (pieces : List Piece) (at : Standing) (states : List State) (b : List Piece)
    → SoFar z lines pieces at → states ≡ at.states → AllByRecursion (Joins z.first.plan) (lines_of b)
    → markings_of states ≡ held_after z.first.plan (lines_of (pieces ++ b))
held_before z lines pieces at states b h same joins = sym (markings_are states)
    ∙ ap (map (λ m. m.marking)) (ap managers_of same ∙ h.managers ∙ sym (managers_stay z.first.plan lines (lines_of b) joins)
    ∙ ap (managers_after z.first.plan) (sym (lines_after z lines pieces at b h)))

-- the plan of a number that was printed
plan_is : (at : Standing) (first : Published) (pieces : List Piece) (n : ℕ) (u : Published) → at.first ≡ first.plan
    → at.later ≡ map plan_in (later_plans pieces) → slice_get (plans_after first pieces) (n - 1) ≡ Some u → plan_at at n ≡ u.plan
plan_is at first pieces n u same later is =
    let all : at.first ∷ at.later ≡ map plan_in (plans_after first pieces) = λ i. same i ∷ later i in
    ap (λ ps. unwrap_or (slice_get ps (n - 1)) at.first) all
    ∙ ap (λ o. unwrap_or o at.first) (get_map plan_in (plans_after first pieces) (n - 1) ∙ ap (option_map plan_in) is)

-- the journey of a message
journey_told : (goes : Goes) (z : Scene) (at : Standing) (mk : List (List Mark)) (before : List Piece) (p : Piece) (after : List Piece)
    (line : ℕ) (x : Incoming) (n : ℕ) (u : Published) (outcomes : List Outcome) → at.first ≡ z.first.plan → line ≡ p.line.number
    → HasOctets z.first.plan p.line → role_of z.first.plan p.line.line ≡ routed x → IsNumber z.workers z.first before p after n
    → slice_get (plans_after z.first (before ++ p ∷ after)) (n - 1) ≡ Some u → IsSound u → plan_at at n ≡ u.plan
    → mk ≡ held_after z.first.plan (lines_of before)
    → p.text ≡ served_text at.first line n (journey_by at mk x n) outcomes → TellsJourney z.workers z.first before p after x
journey_told goes z at mk before p after line x n u outcomes same is octets role number there sound plan held told = record {
  number = n;
  is_number = number;
  under = u;
  is_published = there;
  prohibited = mk;
  held = held;
  way = journey u.plan mk x.entry x.origin x.octets;
  is_way = refl;
  outcomes = outcomes;
  told = told ∙ (λ i. served_text (same i) (is i) n (journey (plan i) mk x.entry x.origin x.octets) outcomes);
  well = λ m s covered. goes u.plan u.bound mk x.entry x.origin x.octets m s sound.0 sound.1.few sound.1.safe (octets x role) covered;
}

message_told : (goes : Goes) (z : Scene) (lines ls : List Numbered) (pieces : List Piece) (at at' : Standing) (es : List Entry)
    (ns : List ℕ) → IsDone z lines ls pieces at at' es ns
    → at'.later ≡ map plan_in (later_plans (pieces ++ batch_pieces at' es ns))
    → AllByRecursion IsSound (later_plans (pieces ++ batch_pieces at' es ns))
    → (b : List Piece) (p : Piece) (a : List Piece) → batch_pieces at' es ns ≡ b ++ p ∷ a
    → (s : Settled) (o : Option Published) → IsEntry z (length (plans_after z.first (pieces ++ b))) p.line s o
    → IsToldAs (accepted at) (accepted at') at.workers at' (markings_of at'.states) p.text s
    → TellsMessage z.workers z.first (pieces ++ b) p a
message_told goes z lines ls pieces at at' es ns d later sound b p a e (prints t) None h is x role = absurd (h.0 x role)
message_told goes z lines ls pieces at at' es ns d later sound b p a e (prints t) (Some u) h is x role =
    absurd (routed_named z.first.plan p.line x u.name role h.0.named)
message_told goes z lines ls pieces at at' es ns d later sound b p a e (routes k y before) (Some u) h is x role = absurd h
message_told goes z lines ls pieces at at' es ns d later sound b p a e (routes k y before) None h is x role =
    subst (TellsJourney z.workers z.first (pieces ++ b) p a) (same_incoming (sym h.1 ∙ role))
    (journey_told goes z at' (markings_of at'.states) (pieces ++ b) p a k y is.0 u.0 is.2 d.settles.first h.0 own.0 h.1
    (number_told z lines ls pieces at at' es ns d b p a e before is.0 h.2 is.1 all)
    (subst (λ ps. slice_get (plans_after z.first ps) (is.0 - 1) ≡ Some u.0) whole u.1)
    (all_get IsSound (plans_after z.first (pieces ++ batch_pieces at' es ns)) (is.0 - 1) u.0 ((z.is_plan, z.accepted.safe), sound) u.1)
    (plan_is at' z.first (pieces ++ batch_pieces at' es ns) is.0 u.0 d.settles.first later u.1)
    (held_before z lines pieces at at'.states b d.before d.settles.states joins) is.3) where
      whole : pieces ++ batch_pieces at' es ns ≡ (pieces ++ b) ++ p ∷ a
      whole = ap (λ k. pieces ++ k) e ∙ sym (append_assoc pieces b (p ∷ a))

      all : accepted at' ≡ length (plans_after z.first (pieces ++ batch_pieces at' es ns))
      all = omega (arith, ap length later, length-map (later_plans (pieces ++ batch_pieces at' es ns)) plan_in)

      u : (v : Published) × (slice_get (plans_after z.first (pieces ++ batch_pieces at' es ns)) (is.0 - 1) ≡ Some v)
      u = got (plans_after z.first (pieces ++ batch_pieces at' es ns)) (is.0 - 1) (omega (arith, all, is.1.high))

      of_lines : ls ≡ lines_of b ++ lines_of (p ∷ a)
      of_lines = sym (pieces_lines at' (markings_of at'.states) at'.states es ns ∙ d.entries) ∙ ap lines_of e
          ∙ map-append (λ q. q.line) b (p ∷ a)

      own : AllByRecursion (HasOctets z.first.plan) (lines_of (p ∷ a))
      own = all_back (HasOctets z.first.plan) (lines_of b) (lines_of (p ∷ a))
          (subst (AllByRecursion (HasOctets z.first.plan)) of_lines d.octets)

      joins : AllByRecursion (Joins z.first.plan) (lines_of b)
      joins = all_front (Joins z.first.plan) (lines_of b) (lines_of (p ∷ a)) (subst (AllByRecursion (Joins z.first.plan)) of_lines d.joins)

-- ---- all of a batch

pub batch_done : (goes : Goes) (z : Scene) (lines ls : List Numbered) (pieces : List Piece) (at at' : Standing) (es : List Entry)
    (ns : List ℕ) → IsDone z lines ls pieces at at' es ns
    → SoFar z (lines ++ ls) (pieces ++ batch_pieces at' es ns) (record at' { states = (told_at at' (settled_of es) ns).states })
    × ((told_at at' (settled_of es) ns).text ≡ texts (batch_pieces at' es ns))
unfolding texts
batch_done goes z lines ls pieces at at' es ns d =
    let mk : List (List Mark) = markings_of at'.states in
    let more : List Piece = batch_pieces at' es ns in
    let of_lines : lines_of more ≡ ls = pieces_lines at' mk at'.states es ns ∙ d.entries in
    let plans : later_plans more ≡ plans_in es = pieces_plans at' mk at'.states es ns in
    let later : at'.later ≡ at.later ++ map plan_in (later_plans more) = d.settles.later
    ∙ ap (λ ps. at.later ++ map plan_in ps) (sym plans) in
    let sound : AllByRecursion IsSound (later_plans more) =
    subst (AllByRecursion IsSound) (sym plans) (plans_sound z at es at' d.settles) in
    let later_all : at'.later ≡ map plan_in (later_plans (pieces ++ more)) = later
    ∙ ap (λ ps. ps ++ map plan_in (later_plans more)) d.before.later ∙ sym (map-append plan_in (later_plans pieces) (later_plans more))
    ∙ ap (map plan_in) (sym (filter_map-append (λ p. p.accepted) pieces more)) in
    let sound_all : AllByRecursion IsSound (later_plans (pieces ++ more)) =
    subst (AllByRecursion IsSound) (sym (filter_map-append (λ p. p.accepted) pieces more))
    (all_both IsSound (later_plans pieces) (later_plans more) d.before.sound sound) in
    let entry : (b : List Piece) (p : Piece) (a : List Piece) → more ≡ b ++ p ∷ a
    → IsOfEntry (accepted at) (accepted at') at.workers at' mk es b p =
    λ b p a e. entry_of (accepted at) (accepted at') at.workers at' mk at'.states es ns d.numbers b p a e in (
      SoFar-more z lines ls pieces more at (record at' { states = (told_at at' (settled_of es) ns).states }) d.before d.settles.first
          (d.settles.workers ∙ d.before.workers) of_lines
          (λ b p a e. let r = entry b p a e in
          plan_told z (accepted at) (accepted at') at.workers at' mk (length (plans_after z.first (pieces ++ b))) p.line p.text
          r.entry.settled p.accepted (entry_at z lines ls pieces at at' es ns d b p r) r.told)
          (λ b p a e. let r = entry b p a e in
          message_told goes z lines ls pieces at at' es ns d later_all sound_all b p a e r.entry.settled p.accepted
          (entry_at z lines ls pieces at at' es ns d b p r) r.told)
          (tell_stays at' mk at'.states (settled_of es) ns ∙ ap managers_of d.settles.states ∙ d.before.managers
          ∙ sym (managers_stay z.first.plan lines ls d.joins))
          later sound (subst (LaterPlansFit z.c z.first.plan.limits) d.entries d.settles.fit),
      pieces_text (accepted at) (accepted at') at.workers at' mk at'.states es ns d.numbers,
    )

-- the entries and the numbers of a batch make it done
pub is_done : (z : Scene) (lines ls : List Numbered) (pieces : List Piece) (at at' : Standing) (es : List Entry) (ns : List ℕ)
    → SoFar z lines pieces at → entry_lines es ≡ ls → Settles z at es at' → AreNumbers (batch_of at at' (settled_of es)) ns
    → AllByRecursion (HasOctets z.first.plan) ls → AllByRecursion (Joins z.first.plan) ls → IsRun z.first.plan lines ls
    → IsDone z lines ls pieces at at' es ns
is_done z lines ls pieces at at' es ns h entries s are octets joins run = record {
  before = h;
  entries = entries;
  settles = s;
  numbers = numbers_fit at at' (settled_of es) ns (ranges z at es at' s) are;
  octets = octets;
  joins = joins;
  run = run;
}
