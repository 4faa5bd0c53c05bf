-- The plan lines of a batch, and what is known of the plans that they add.
use Rattle.std.proofs.Common.{◌≡◌, ◌⊎◌, ◌+◌, ◌<◌, ◌≤◌, ℕ, zero, suc, List, [], ◌∷◌, ◌++◌, length, map, Option, Some, None, Bool, true}
use Rattle.std.proofs.Common.{false}
use Rattle.std.proofs.Common.{cond, ltb, Result, Ok, Err, IsTrue, refl, sym, ◌∙◌, ap, subst, append-nil, append_assoc, arith, inl, inr}
use Rattle.std.proofs.lemmas.List.{length-append, length-map, map-append}
use Rattle.std.specs.Option.{option_map}
use Rattle.std.specs.Io.{StartsWith}
use Rattle.std.specs.List.{Contains, filter_map}
use Rattle.std.proofs.lemmas.List.Elements.{Contains-append_left, Contains-append_right, Contains-append_cases, filter_map-append}
use Rattle.std.proofs.lemmas.Bool.{ltb-true, ltb-false}
use Rattle.plan_model.specs.Network.{Network, IsPlan}
use Rattle.plan_model.specs.SameNodes.{same_nodes}
use Rattle.plan_model.specs.declared.limits.Limits.{Limits}
use Rattle.plan_model.specs.declared.plan_fault.PlanFault.{PlanFault}
use Rattle.plan_text.specs.PlanText.{plan_within}
use Rattle.plan_text.proofs.Limits.{keeps_limits}
use Rattle.plan_verify.specs.declared.verdict.Verdict.{Verdict}
use Rattle.plan_verify.specs.declared.verdict.Verdict.TheVariants.{Accepted, Refused, TooWide}
use Rattle.relay_net.specs.Batches.{Incoming, Due}
use Rattle.sccp_io.specs.Files.{Contents}
use Rattle.sccp_report.specs.Events.{event_text}
use Rattle.sccp_address.specs.declared.address.Address.{Address}
use Rattle.sccp_message.specs.Reading.{reading}
use Rattle.sccp_message.specs.declared.fault.DecodeFault.{DecodeFault}
use Rattle.sccp_message.specs.declared.message.Message.{Message}
use Rattle.sccp_message.specs.Unitdata.{called_of}
use Rattle.sccp_report.specs.Limits.{too_long_line}
use Rattle.sccp_report.specs.Roles.{Role, routed, later, aside, alone, role_of, role_by_called, role_of_message, role_at, is_for_management}
use Rattle.sccp_report.specs.Roles.{management_data, status_due, named}
use Rattle.sccp_report.specs.Verdicts.{verdict_text}
use Rattle.trace_text.specs.declared.line.Line.{Line}
use Rattle.trace_text.specs.declared.line.Line.TheVariants.{Msg, Pause, Resume, NoSccp, Up, Down, Tick, Plan, Fence, Skip}
use Rattle.trace_text.specs.declared.line.Numbered.{Numbered}
use Rattle.sccp_replay.specs.Account.{Published, IsAcceptedIn, IsLaterPlan, TellsRefusal, IsRefused}
use Rattle.sccp_replay.specs.LaterPlans.{accepted_plan_line, refused_plan_head, bad_plan_line, other_nodes_line}
use Rattle.sccp_replay.specs.Replay.{Standing, Settled, prints, routes, accepted, judged_later, later_work, settle_line, settle}
use Rattle.sccp_work.specs.Limit.{HasFile, HasLongFile}
use Rattle.sccp_replay.specs.ReplayEnds.{LaterPlansFit}
use Rattle.sccp_work.specs.PlanFile.{PlanFile, plan_file}
use Rattle.sccp_work.specs.Questions.{IsJudged}
use Rattle.sccp_work.specs.Work.{Work, judge, answered}
use Rattle.sccp_work.specs.declared.status.Status.{Status}
use Rattle.sccp_work.specs.declared.status.Status.TheVariants.{TooLong}
use Rattle.sccp_replay.proofs.Parts.{parted, single}
use Rattle.sccp_work.proofs.Through.{Through}

-- ---- what is known of a standing inside a batch

-- a replay: its files, its first plan, and the number of its workers
pub record Scene : Type 0 where
  pub c : Contents
  pub trace_name : List ℕ
  pub workers : ℕ
  pub first : Published
  pub accepted : IsAcceptedIn c first
  pub is_plan : IsPlan first.plan

-- the file of the first plan
abbrev pub file_of : Scene → PlanFile
file_of z = plan_file z.first.name z.first.plan.limits

-- a line of a batch, what it was settled to, and the plan that was accepted at it, if any
pub record Entry : Type 0 where
  pub line : Numbered
  pub settled : Settled
  pub accepted : Option Published

abbrev pub new_entry : Numbered → Settled → Option Published → Entry
new_entry line settled accepted = record { line = line; settled = settled; accepted = accepted }

abbrev pub entry_lines : List Entry → List Numbered
entry_lines es = map (λ e. e.line) es

abbrev pub settled_of : List Entry → List Settled
settled_of es = map (λ e. e.settled) es

abbrev pub plans_in : List Entry → List Published
plans_in es = filter_map (λ e. e.accepted) es

abbrev pub plan_in : Published → Network
plan_in a = a.plan

-- what is known of an entry, if this number of plans was accepted before it
abbrev pub IsEntry : Scene → ℕ → Numbered → Settled → Option Published → Type 0
IsEntry z count l (prints text) (Some a) = IsLaterPlan z.c z.first.plan (count + 1) l text a × IsPlan a.plan
IsEntry z count l (prints text) None = ((x : Incoming) → role_of z.first.plan l.line ≡ routed x → ⊥) × IsRefused z.c z.first.plan l text
IsEntry z count l (routes n x before) None = (n ≡ l.number) × (role_of z.first.plan l.line ≡ routed x) × (before ≡ count)
IsEntry z count l (routes n x before) (Some a) = ⊥

-- these lines of a batch were settled so
pub record Settles (z : Scene) (base : Standing) (es : List Entry) (at : Standing) : Type 0 where
  pub first : at.first ≡ z.first.plan
  pub workers : at.workers ≡ base.workers
  pub states : at.states ≡ base.states
  pub later : at.later ≡ base.later ++ map plan_in (plans_in es)
  pub each : (b : List Entry) (e : Entry) (a : List Entry) → es ≡ b ++ e ∷ a
      → IsEntry z (accepted base + length (plans_in b)) e.line e.settled e.accepted
  pub fit : LaterPlansFit z.c z.first.plan.limits (entry_lines es)

-- the file is there and has no more octets than limits allow
abbrev pub Fits : Contents → Limits → List ℕ → Type 0
Fits c limits name = HasFile (Some c) (plan_file name limits) (λ octets. Unit {0})

-- so is the file of a later plan that this line names
abbrev LineFits : Contents → Limits → Numbered → Type 0
LineFits c limits l = (name : List ℕ) → l.line ≡ Plan name → Fits c limits name

pub one_of : {X : Type 0} (y x : X) → Contains (y ∷ []) x → y ≡ x
one_of y x c = on c.0 c.1 c.2 where
  on : (k : ℕ) → k < 1 → Rattle.std.specs.List.slice_index_or (y ∷ []) k x ≡ x → y ≡ x
  on zero le e = e
  on (suc k) le e = absurd (omega (arith, le))

pub fit_more : (c : Contents) (limits : Limits) (ls : List Numbered) (l : Numbered) → LaterPlansFit c limits ls → LineFits c limits l
    → LaterPlansFit c limits (ls ++ l ∷ [])
fit_more c limits ls l h own number name has = on (Contains-append_cases ls (l ∷ [])
    (record { number = number; line = Plan name }) has) where
      on : Contains ls (record { number = number; line = Plan name }) ⊎ Contains (l ∷ []) (record { number = number; line = Plan name })
          → Fits c limits name
      on (inl e) = h number name e
      on (inr e) = own name (ap (λ k. k.line) (one_of l (record { number = number; line = Plan name }) e))

-- how many plans are accepted after these lines
pub accepted_by : (z : Scene) (base : Standing) (es : List Entry) (at : Standing) → at.later ≡ base.later ++ map plan_in (plans_in es)
    → accepted at ≡ accepted base + length (plans_in es)
accepted_by z base es at e = omega (
  arith,
  ap length e ∙ length-append base.later (map plan_in (plans_in es)),
  length-map (plans_in es) plan_in,
)

abbrev IsEntryAt : Scene → Standing → List Entry → Entry → Type 0
IsEntryAt z base b e = IsEntry z (accepted base + length (plans_in b)) e.line e.settled e.accepted

each_more : (z : Scene) (base : Standing) (es : List Entry) (e : Entry)
    → ((b : List Entry) (f : Entry) (a : List Entry) → es ≡ b ++ f ∷ a → IsEntryAt z base b f) → IsEntryAt z base es e
    → (b : List Entry) (f : Entry) (a : List Entry) → es ++ e ∷ [] ≡ b ++ f ∷ a → IsEntryAt z base b f
each_more z base es e each own b f a is = on (parted es (e ∷ []) b f a is) where
  on : ((mid : List Entry) × (es ≡ b ++ f ∷ mid) × (a ≡ mid ++ e ∷ [])) ⊎ ((d : List Entry) × (b ≡ es ++ d) × (e ∷ [] ≡ d ++ f ∷ a))
      → IsEntryAt z base b f
  on (inl q) = each b f q.0 q.1
  on (inr q) = let s = single e q.0 f a q.2 in
      subst (λ c. IsEntryAt z base c f) (sym (q.1 ∙ ap (λ d. es ++ d) s.0 ∙ append-nil es)) (subst (λ g. IsEntryAt z base es g) s.1 own)

-- one more line
Settles-more : (z : Scene) (base : Standing) (es : List Entry) (at at' : Standing) (l : Numbered) (s : Settled) (o : Option Published)
    → Settles z base es at → at'.first ≡ at.first → at'.workers ≡ at.workers → at'.states ≡ at.states
    → at'.later ≡ at.later ++ map plan_in (plans_in (new_entry l s o ∷ [])) → IsEntry z (accepted at) l s o
    → LineFits z.c z.first.plan.limits l
    → Settles z base (es ++ new_entry l s o ∷ []) at'
Settles-more z base es at at' l s o h first workers states laters is fits = record {
  first = first ∙ h.first;
  workers = workers ∙ h.workers;
  states = states ∙ h.states;
  later = laters ∙ ap (λ ps. ps ++ map plan_in (plans_in (new_entry l s o ∷ []))) h.later
      ∙ append_assoc base.later (map plan_in (plans_in es)) (map plan_in (plans_in (new_entry l s o ∷ [])))
      ∙ ap (λ ps. base.later ++ ps) (sym (map-append plan_in (plans_in es) (plans_in (new_entry l s o ∷ [])))
      ∙ ap (map plan_in) (sym (filter_map-append (λ e. e.accepted) es (new_entry l s o ∷ []))));
  each = each_more z base es (new_entry l s o) h.each (subst (λ n. IsEntry z n l s o) (accepted_by z base es at h.later) is);
  fit = subst (LaterPlansFit z.c z.first.plan.limits) (sym (map-append (λ e. e.line) es (new_entry l s o ∷ [])))
      (fit_more z.c z.first.plan.limits (entry_lines es) l h.fit fits);
}

-- a line that adds no plan
pub Settles-line : (z : Scene) (base : Standing) (es : List Entry) (at : Standing) (l : Numbered) (s : Settled) → Settles z base es at
    → IsEntry z (accepted at) l s None → LineFits z.c z.first.plan.limits l → Settles z base (es ++ new_entry l s None ∷ []) at
Settles-line z base es at l s h is fits = Settles-more z base es at at l s None h refl refl refl (sym (append-nil at.later)) is fits

-- a line whose plan is accepted
Settles-plan : (z : Scene) (base : Standing) (es : List Entry) (at : Standing) (l : Numbered) (a : Published) → Settles z base es at
    → l.line ≡ Plan a.name → IsAcceptedIn z.c a → IsPlan a.plan → a.plan.limits ≡ z.first.plan.limits
    → IsTrue (same_nodes at.first a.plan) → Settles z base
    (es ++ new_entry l (prints (accepted_plan_line l.number (accepted at + 1) a.name a.bound)) (Some a) ∷ [])
    (record at { later = at.later ++ a.plan ∷ [] })
Settles-plan z base es at l a h is_line accepted_in is_plan same_limits relays =
    Settles-more z base es at (record at { later = at.later ++ a.plan ∷ [] }) l
    (prints (accepted_plan_line l.number (accepted at + 1) a.name a.bound)) (Some a) h refl refl refl refl (
      record {
        named = is_line;
        accepted = accepted_in;
        under = same_limits;
        relays = subst (λ n. IsTrue (same_nodes n a.plan)) h.first relays;
        told = refl;
      },
      is_plan,
    )
    (λ n e. subst (Fits z.c z.first.plan.limits) (same_plan_name (sym is_line ∙ e)) (
      accepted_in.octets,
      accepted_in.file,
      subst (λ (ls : Limits). length accepted_in.octets ≤ ls.octets) same_limits accepted_in.within,
      tt,
    )) where
      same_plan_name : {m n : List ℕ} → Plan m ≡ Plan n → m ≡ n
      same_plan_name e = cc

other_role : {r : Role} {name : List ℕ} {x : Incoming} → r ≡ later name → r ≡ routed x → ⊥
other_role e f = cc

aside_or : {r : Role} {x : Incoming} → r ≡ aside → r ≡ routed x → ⊥
aside_or e f = cc

alone_or : {r : Role} {d : Option Due} {x : Incoming} → r ≡ alone d → r ≡ routed x → ⊥
alone_or e f = cc

-- a line whose role is a later plan names its file
of_message : (x : Incoming) (m : Message) (a : Option Address) (name : List ℕ) → role_by_called x m a ≡ later name → ⊥
of_message x m None name e = cc
of_message x m (Some a) name e = by (is_for_management a) e where
  by : (b : Bool) → cond b (alone (option_map (status_due x) (management_data m))) (routed x) ≡ later name → ⊥
  by true e = cc
  by false e = cc

of_octets : (x : Incoming) (r : Result Message DecodeFault) (name : List ℕ) → role_of_message x r ≡ later name → ⊥
of_octets x (Ok m) name e = of_message x m (called_of m) name e
of_octets x (Err fault) name e = cc

of_msg : (origin : ℕ) (octets : List ℕ) (node : Option ℕ) (name : List ℕ) → role_at origin octets node ≡ later name → ⊥
of_msg origin octets None name e = cc
of_msg origin octets (Some entry) name e = of_octets (record { entry = entry; origin = origin; octets = octets }) (reading octets) name e

same_name : {a b : List ℕ} → later a ≡ later b → a ≡ b
same_name e = cc

pub of_later : (first : Network) (line : Line) (name : List ℕ) → role_of first line ≡ later name → line ≡ Plan name
of_later first (Msg node origin octets) name e = absurd (of_msg origin octets (named first node) name e)
of_later first (Pause node pc) name e = cc
of_later first (Resume node pc) name e = cc
of_later first (NoSccp node pc) name e = cc
of_later first (Up node ssn) name e = cc
of_later first (Down node ssn) name e = cc
of_later first (Tick node) name e = cc
of_later first (Plan file) name e = ap Plan (same_name e)
of_later first Fence name e = cc
of_later first Skip name e = cc

-- ---- all that the settling of a batch may write

-- a later plan that is too long ends the replay
abbrev pub MayStop : (ends : Status → List ℕ → Type 0) (reads fronts : List ℕ → Type 0) → Contents → Limits → List Numbered → List ℕ
    → Type 0
MayStop ends reads fronts c limits lines acc =
    reads acc × ((front : List ℕ) → StartsWith (too_long_line limits) front → fronts (acc ++ front))
    × ((number : ℕ) (name : List ℕ) → Contains lines (record { number = number; line = Plan name })
    → HasLongFile (Some c) (plan_file name limits) → ends TooLong (acc ++ too_long_line limits))

pub named_fits : (c : Contents) (limits : Limits) (l : Numbered) (name : List ℕ) → l.line ≡ Plan name → (octets : List ℕ)
    → c name ≡ Some octets → length octets ≤ limits.octets → LineFits c limits l
named_fits c limits l name is_line octets there few n e = subst (Fits c limits) (same (sym is_line ∙ e)) (octets, there, few, tt) where
  same : {m n : List ℕ} → Plan m ≡ Plan n → m ≡ n
  same f = cc

-- a line that is not of that role names none
unnamed : (c : Contents) (limits : Limits) (first : Network) (l : Numbered) (r : Role) → role_of first l.line ≡ r
    → ((name : List ℕ) → r ≡ later name → ⊥) → LineFits c limits l
unnamed c limits first l r is never name e = absurd (never name (sym is ∙ ap (role_of first) e))

-- a plan line that accepts no plan
not_accepted : (z : Scene) (l : Numbered) (name : List ℕ) (text octets : List ℕ) → l.line ≡ Plan name → z.c name ≡ Some octets
    → TellsRefusal z.first.plan l.number name (plan_within z.first.plan.limits octets) text → IsRefused z.c z.first.plan l text
not_accepted z l name text octets is_line there why n e = (
  octets,
  subst (λ m. (z.c m ≡ Some octets)) (same (sym is_line ∙ e)) there,
  subst (λ m. TellsRefusal z.first.plan l.number m (plan_within z.first.plan.limits octets) text) (same (sym is_line ∙ e)) why,
) where
  same : {m n : List ℕ} → Plan m ≡ Plan n → m ≡ n
  same f = cc

-- what a line of a batch is settled to, whatever follows
abbrev Goes : (ends : Status → List ℕ → Type 0) (reads fronts : List ℕ → Type 0) → Scene → Standing → List Entry → Numbered → List ℕ
    → (Standing → Settled → Work) → Type 0
Goes ends reads fronts z base es l acc next = (at' : Standing) (s : Settled) (o : Option Published)
    → Settles z base (es ++ new_entry l s o ∷ []) at' → Through ends reads fronts (Some z.c) (next at' s) acc

judged_through : (ends : Status → List ℕ → Type 0) (reads fronts : List ℕ → Type 0) (z : Scene) (base : Standing) (es : List Entry)
    (at : Standing) (l : Numbered) (name : List ℕ) (acc : List ℕ) (next : Standing → Settled → Work) → Settles z base es at
    → l.line ≡ Plan name → role_of z.first.plan l.line ≡ later name → Goes ends reads fronts z base es l acc next
    → (octets : List ℕ) → z.c name ≡ Some octets → length octets ≤ z.first.plan.limits.octets → (plan : Network)
    → plan_within z.first.plan.limits octets ≡ Ok plan → IsTrue (same_nodes at.first plan) → (v : Verdict) → IsJudged plan v
    → Through ends reads fronts (Some z.c) (judged_later at l.number name plan v next) acc
judged_through ends reads fronts z base es at l name acc next h is_line role go octets there few plan reads_plan relays (Accepted a) j =
    let p : Published = record { name = name; plan = plan; bound = a.bound } in
    let under : plan.limits ≡ z.first.plan.limits = keeps_limits z.first.plan.limits octets plan reads_plan in
    go (record at { later = at.later ++ plan ∷ [] }) (prints (accepted_plan_line l.number (accepted at + 1) name a.bound)) (Some p)
    (Settles-plan z base es at l p h is_line
    (record {
      octets = octets;
      file = there;
      within = subst (λ (ls : Limits). length octets ≤ ls.octets) (sym under) few;
      reads = subst (λ (ls : Limits). plan_within ls octets ≡ Ok plan) (sym under) reads_plan;
      safe = j.1.0;
      longest = a.longest;
      tight = j.1.1;
    }) j.0 under relays)
judged_through ends reads fronts z base es at l name acc next h is_line role go octets there few plan reads_plan relays
    (Refused same witness) j =
    go at (prints (refused_plan_head l.number name ++ verdict_text plan (Refused same witness))) None
    (Settles-line z base es at l _ h (
      (λ x e. other_role role e),
      not_accepted z l name _ octets is_line there (subst (λ r. TellsRefusal z.first.plan l.number name r
          (refused_plan_head l.number name ++ verdict_text plan (Refused same witness))) (sym reads_plan)
          (inr (Refused same witness, j.1, tt, refl))),
    ) (named_fits z.c z.first.plan.limits l name is_line octets there few))
judged_through ends reads fronts z base es at l name acc next h is_line role go octets there few plan reads_plan relays (TooWide same) j =
    go at (prints (refused_plan_head l.number name ++ verdict_text plan (TooWide same))) None
    (Settles-line z base es at l _ h (
      (λ x e. other_role role e),
      not_accepted z l name _ octets is_line there (subst (λ r. TellsRefusal z.first.plan l.number name r
          (refused_plan_head l.number name ++ verdict_text plan (TooWide same))) (sym reads_plan)
          (inr (TooWide same, j.1, tt, refl))),
    ) (named_fits z.c z.first.plan.limits l name is_line octets there few))

later_through : (ends : Status → List ℕ → Type 0) (reads fronts : List ℕ → Type 0) (z : Scene) (base : Standing) (es : List Entry)
    (at : Standing) (l : Numbered) (name : List ℕ) (acc : List ℕ) (next : Standing → Settled → Work) → Settles z base es at
    → l.line ≡ Plan name → role_of z.first.plan l.line ≡ later name → Goes ends reads fronts z base es l acc next
    → (octets : List ℕ) → z.c name ≡ Some octets → length octets ≤ at.first.limits.octets
    → Through ends reads fronts (Some z.c) (later_work at l.number name (plan_within at.first.limits octets) next) acc
later_through ends reads fronts z base es at l name acc next h is_line role go octets there few' =
    by (plan_within at.first.limits octets) refl where
      few : length octets ≤ z.first.plan.limits.octets
      few = subst (λ (n : Network). length octets ≤ n.limits.octets) h.first few'

      read_so : {r : Result Network PlanFault} → plan_within at.first.limits octets ≡ r → plan_within z.first.plan.limits octets ≡ r
      read_so {r} e = subst (λ (n : Network). plan_within n.limits octets ≡ r) h.first e

      of : (b : Bool) (plan : Network) → same_nodes at.first plan ≡ b → plan_within z.first.plan.limits octets ≡ Ok plan
          → Through ends reads fronts (Some z.c) (cond b (judge plan (λ v. judged_later at l.number name plan v next))
          (next at (prints (other_nodes_line l.number name)))) acc
      of true plan e is = λ v j. judged_through ends reads fronts z base es at l name acc next h is_line role go octets there few
          plan is e v j
      of false plan e is = go at (prints (other_nodes_line l.number name)) None
          (Settles-line z base es at l _ h (
            (λ x f. other_role role f),
            not_accepted z l name _ octets is_line there (subst
                (λ r. TellsRefusal z.first.plan l.number name r (other_nodes_line l.number name))
                (sym is) (inl (subst (λ n. same_nodes n plan ≡ false) h.first e, refl))),
          ) (named_fits z.c z.first.plan.limits l name is_line octets there few))

      by : (r : Result Network PlanFault) → plan_within at.first.limits octets ≡ r
          → Through ends reads fronts (Some z.c) (later_work at l.number name r next) acc
      by (Err fault) e = go at (prints (bad_plan_line l.number name at.first.limits fault)) None
          (Settles-line z base es at l _ h (
            (λ x f. other_role role f),
            not_accepted z l name _ octets is_line there
                (subst (λ r. TellsRefusal z.first.plan l.number name r (bad_plan_line l.number name at.first.limits fault))
                (sym (read_so e)) (ap (λ (n : Network). bad_plan_line l.number name n.limits fault) h.first)),
          ) (named_fits z.c z.first.plan.limits l name is_line octets there few))
      by (Ok plan) e = of (same_nodes at.first plan) plan refl (read_so e)

-- no line but that of a plan names one
names_none : (first : Network) (l : Numbered) (r : Role) (text : List ℕ) (c : Contents) → role_of first l.line ≡ r
    → ((name : List ℕ) → r ≡ later name → ⊥) → IsRefused c first l text
names_none first l r text c is never name e = absurd (never name (sym is ∙ ap (role_of first) e))

line_through : (ends : Status → List ℕ → Type 0) (reads fronts : List ℕ → Type 0) (z : Scene) (base : Standing) (es : List Entry)
    (at : Standing) (l : Numbered) (acc : List ℕ) (next : Standing → Settled → Work)
    → MayStop ends reads fronts z.c z.first.plan.limits (l ∷ []) acc
    → Settles z base es at → Goes ends reads fronts z base es l acc next
    → Through ends reads fronts (Some z.c) (settle_line at l (role_of at.first l.line) next) acc
line_through ends reads fronts z base es at l acc next stop h go = by (role_of at.first l.line) refl where
  named : (name : List ℕ) → role_of at.first l.line ≡ later name → l.line ≡ Plan name
  named name e = of_later at.first l.line name e

  long : (b : Bool) (name octets : List ℕ) → ltb at.first.limits.octets (length octets) ≡ b → role_of at.first l.line ≡ later name
      → z.c name ≡ Some octets
      → Through ends reads fronts (Some z.c) (cond b (answered (TooLong, too_long_line at.first.limits))
      (later_work at l.number name (plan_within at.first.limits octets) next)) acc
  long true name octets e role there =
      subst (λ (n : Network). Through ends reads fronts (Some z.c) (answered (TooLong, too_long_line n.limits)) acc) (sym h.first) (
        stop.1,
        stop.2 l.number name (0, omega arith, λ i. record { number = l.number; line = named name role i }) (
          octets,
          there,
          subst (λ (n : Network). n.limits.octets < length octets) h.first (ltb-true at.first.limits.octets (length octets) e),
        ),
      )
  long false name octets e role there = later_through ends reads fronts z base es at l name acc next h (named name role)
      (subst (λ n. role_of n l.line ≡ later name) h.first role) go octets there (ltb-false at.first.limits.octets (length octets) e)

  is_first : (r : Role) → role_of at.first l.line ≡ r → role_of z.first.plan l.line ≡ r
  is_first r e = subst (λ n. role_of n l.line ≡ r) h.first e

  by : (r : Role) → role_of at.first l.line ≡ r → Through ends reads fronts (Some z.c) (settle_line at l r next) acc
  by (later name) e = (stop.0, λ octets there. long (ltb at.first.limits.octets (length octets)) name octets refl e there)
  by (routed x) e = go at (routes l.number x (accepted at)) None
      (Settles-line z base es at l _ h (refl, is_first (routed x) e, refl)
      (unnamed z.c z.first.plan.limits at.first l (routed x) e (λ n f. cc)))
  by aside e = go at (prints (event_text at.first l [])) None
      (Settles-line z base es at l _ h (
        (λ x f. aside_or (is_first aside e) f),
        names_none z.first.plan l aside _ z.c (is_first aside e) (λ n f. cc),
      ) (unnamed z.c z.first.plan.limits at.first l aside e (λ n f. cc)))
  by (alone d) e = go at (prints (event_text at.first l [])) None
      (Settles-line z base es at l _ h (
        (λ x f. alone_or (is_first (alone d) e) f),
        names_none z.first.plan l (alone d) _ z.c (is_first (alone d) e) (λ n f. cc),
      ) (unnamed z.c z.first.plan.limits at.first l (alone d) e (λ n f. cc)))

pub settle_through : (ends : Status → List ℕ → Type 0) (reads fronts : List ℕ → Type 0) (z : Scene) (base : Standing)
    (all : List Numbered) (acc : List ℕ) (next : Standing → List Settled → Work) → MayStop ends reads fronts z.c z.first.plan.limits all acc
    → ((at' : Standing) (es : List Entry) → entry_lines es ≡ all → Settles z base es at'
    → Through ends reads fronts (Some z.c) (next at' (settled_of es)) acc)
    → (lines : List Numbered) (es : List Entry) (at : Standing) → entry_lines es ++ lines ≡ all → Settles z base es at
    → Through ends reads fronts (Some z.c) (settle at (settled_of es) lines next) acc
unfolding settle
settle_through ends reads fronts z base all acc next stop go [] es at e h = go at es (sym (append-nil (entry_lines es)) ∙ e) h
settle_through ends reads fronts z base all acc next stop go (l ∷ lines) es at e h =
    line_through ends reads fronts z base es at l acc (λ at' s. settle at' (settled_of es ++ s ∷ []) lines next) (
      stop.0,
      stop.1,
      λ number name has long. stop.2 number name (subst (λ k. Contains k (record { number = number; line = Plan name }))
          (append_assoc (entry_lines es) (l ∷ []) lines ∙ e)
          (Contains-append_left (entry_lines es ++ l ∷ []) lines _ (Contains-append_right (entry_lines es) (l ∷ []) _ has))) long,
    ) h
    (λ at' s o h'. subst (λ ss. Through ends reads fronts (Some z.c) (settle at' ss lines next) acc)
    (map-append (λ f. f.settled) es (new_entry l s o ∷ []))
    (settle_through ends reads fronts z base all acc next stop go lines (es ++ new_entry l s o ∷ []) at'
    (ap (λ ls. ls ++ lines) (map-append (λ f. f.line) es (new_entry l s o ∷ [])) ∙ append_assoc (entry_lines es) (l ∷ []) lines ∙ e) h'))
