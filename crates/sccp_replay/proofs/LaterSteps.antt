-- What a later plan gives, whatever the replay goes on with.
use Rattle.std.proofs.Common.{◌≡◌, ℕ, ◌+◌, List, [], ◌∷◌, ◌++◌, true, false, cond, Result, Ok, Err, IfOk, OnOk, sym, ◌∙◌, ap, subst}
use Rattle.plan_check.specs.Verified.{Verified}
use Rattle.plan_model.specs.Network.{Network}
use Rattle.plan_model.specs.SameNodes.{same_nodes}
use Rattle.plan_model.specs.declared.limits.Limits.{Limits}
use Rattle.plan_model.specs.declared.plan_fault.PlanFault.{PlanFault}
use Rattle.plan_verify.specs.declared.verdict.Verdict.TheVariants.{Accepted, Refused, TooWide}
use Rattle.plan_verify.specs.declared.witness.Witness.{Witness}
use Rattle.relay_net.specs.Batches.{Incoming}
use Rattle.sccp_report.specs.Events.{event_text}
use Rattle.sccp_report.specs.Roles.{Role, routed, later, aside, role_of}
use Rattle.sccp_report.specs.Verdicts.{verdict_text}
use Rattle.trace_text.specs.declared.line.Numbered.{Numbered}
use Rattle.sccp_work.specs.Ending.{Works}
use Rattle.sccp_replay.specs.Gathering.{joining_role}
use Rattle.sccp_replay.specs.Incoming.{incoming_in}
use Rattle.sccp_replay.specs.LaterPlans.{accepted_plan_line, refused_plan_head, bad_plan_line, other_nodes_line}
use Rattle.plan_text.specs.PlanText.{plan_within}
use Rattle.sccp_work.specs.Limit.{within_limit}
use Rattle.sccp_work.specs.Moment.{Moment}
use Rattle.sccp_replay.specs.Replayers.{settled_in}
use Rattle.sccp_replay.specs.Replaying.{EndsAs}
use Rattle.sccp_replay.specs.declared.incoming as arriving
use Rattle.sccp_replay.specs.declared.joined.Joining.{Joining}
use Rattle.sccp_replay.specs.declared.joined.Joining.TheVariants.{Routed, Later, Aside}
use Rattle.sccp_replay.specs.declared.settled as code
use Rattle.sccp_replay.specs.declared.settled.Settled.TheVariants.{Routes}
use Rattle.sccp_replay.specs.Replay.{Standing, Settled, prints, routes, accepted, later_file, judged_later, later_work, settle_line}
use Rattle.sccp_replay.specs.Settling.{JudgesLine, GivesPlanLine, GivesPlanFile, GivesLine}
use Rattle.sccp_work.specs.Questions.{verdict_on, IsJudged}
use Rattle.sccp_work.specs.Work.{Work, judge}
use Rattle.sccp_work.specs.declared.status.Status.{Status}
use Rattle.sccp_work.specs.declared.stop.Stop.{Stop}
use Rattle.sccp_work.proofs.WorkLemmas.{Works-ask}

-- ---- its verdict

pub accepted_judges : (at : Standing) (line : ℕ) (name : List ℕ) (plan : Network) (a : Verified) (at' : Standing) (s : Settled)
    → IsJudged plan (Accepted a) → a.plan ≡ plan
    → at' ≡ record at { later = at.later ++ a.plan ∷ [] } → s ≡ prints (accepted_plan_line line (accepted at + 1) name a.bound)
    → JudgesLine at line name plan at' s
accepted_judges at line name plan a at' s judged same is told = λ next now result after h.
    let text : Settled = prints (accepted_plan_line line (accepted at + 1) name a.bound) in
    Works-ask (verdict_on plan) (λ v. judged_later at line name plan v next) (Accepted a) result now after judged
    (subst (λ p. Works (next (record at { later = at.later ++ p ∷ [] }) text) result now after) same
    (subst (λ t. Works (next t text) result now after) is (subst (λ t. Works (next at' t) result now after) told h)))

-- so is the line, unless memory is lacking
pub accepted_settles : {E : Type 0} (r : Result code.Settled.Settled E) (at : Standing) (line : ℕ) (name : List ℕ) (plan : Network)
    (a : Verified) (at' : Standing) → IsJudged plan (Accepted a) → a.plan ≡ plan
    → OnOk r (at' ≡ record at { later = at.later ++ a.plan ∷ [] })
    → IfOk r (λ s. settled_in s ≡ prints (accepted_plan_line line (accepted at + 1) name a.bound))
    → IfOk r (λ s. JudgesLine at line name plan at' (settled_in s))
accepted_settles (Ok s) at line name plan a at' judged same is told =
    accepted_judges at line name plan a at' (settled_in s) judged same is told
accepted_settles (Err fault) at line name plan a at' judged same is told = told

pub refused_judges : (at : Standing) (line : ℕ) (name : List ℕ) (plan p : Network) (w : Witness) (s : Settled) → IsJudged plan (Refused p w)
    → p ≡ plan
    → s ≡ prints (refused_plan_head line name ++ verdict_text p (Refused p w)) → JudgesLine at line name plan at s
refused_judges at line name plan p w s judged same told = λ next now result after h.
    Works-ask (verdict_on plan) (λ v. judged_later at line name plan v next) (Refused p w) result now after judged
    (subst (λ q. Works (next at (prints (refused_plan_head line name ++ verdict_text q (Refused p w)))) result now after) same
    (subst (λ t. Works (next at t) result now after) told h))

pub wide_judges : (at : Standing) (line : ℕ) (name : List ℕ) (plan p : Network) (s : Settled) → IsJudged plan (TooWide p) → p ≡ plan
    → s ≡ prints (refused_plan_head line name ++ verdict_text p (TooWide p)) → JudgesLine at line name plan at s
wide_judges at line name plan p s judged same told = λ next now result after h.
    Works-ask (verdict_on plan) (λ v. judged_later at line name plan v next) (TooWide p) result now after judged
    (subst (λ q. Works (next at (prints (refused_plan_head line name ++ verdict_text q (TooWide p)))) result now after) same
    (subst (λ t. Works (next at t) result now after) told h))

-- ---- its text

-- under the limits that a plan's text was read under
under : (at : Standing) (limits : Limits) (octets : List ℕ) (r : Result Network PlanFault) → limits ≡ at.first.limits
    → plan_within limits octets ≡ r → r ≡ plan_within at.first.limits octets
under at limits octets r is e = sym e ∙ ap (λ ls. plan_within ls octets) is

pub same_reads : (at : Standing) (line : ℕ) (name : List ℕ) (limits : Limits) (octets : List ℕ) (plan : Network) (at' : Standing)
    (s : Settled) → limits ≡ at.first.limits → plan_within limits octets ≡ Ok plan → same_nodes at.first plan ≡ true
    → JudgesLine at line name plan at' s → GivesPlanLine at line name (plan_within at.first.limits octets) at' s
same_reads at line name limits octets plan at' s is e same judges = λ next now result after h.
    subst (λ k. Works (later_work at line name k next) result now after) (under at limits octets (Ok plan) is e)
    (subst (λ b. Works (cond b (judge plan (λ v. judged_later at line name plan v next))
    (next at (prints (other_nodes_line line name)))) result now after) (sym same) (judges next now result after h))

pub other_reads : (at : Standing) (line : ℕ) (name : List ℕ) (limits : Limits) (octets : List ℕ) (plan : Network) (s : Settled)
    → limits ≡ at.first.limits → plan_within limits octets ≡ Ok plan → same_nodes at.first plan ≡ false
    → s ≡ prints (other_nodes_line line name) → GivesPlanLine at line name (plan_within at.first.limits octets) at s
other_reads at line name limits octets plan s is e other told = λ next now result after h.
    subst (λ k. Works (later_work at line name k next) result now after) (under at limits octets (Ok plan) is e)
    (subst (λ b. Works (cond b (judge plan (λ v. judged_later at line name plan v next))
    (next at (prints (other_nodes_line line name)))) result now after) (sym other)
    (subst (λ t. Works (next at t) result now after) told h))

pub bad_reads : (at : Standing) (line : ℕ) (name : List ℕ) (limits : Limits) (octets : List ℕ) (fault : PlanFault) (s : Settled)
    → limits ≡ at.first.limits → plan_within limits octets ≡ Err fault → s ≡ prints (bad_plan_line line name limits fault)
    → GivesPlanLine at line name (plan_within at.first.limits octets) at s
bad_reads at line name limits octets fault s is e told = λ next now result after h.
    subst (λ k. Works (later_work at line name k next) result now after) (under at limits octets (Err fault) is e)
    (subst (λ ls. Works (next at (prints (bad_plan_line line name ls fault))) result now after) is
    (subst (λ t. Works (next at t) result now after) told h))

-- ---- each kind of line

-- what a line gives, by its role
abbrev pub RoleGives : Standing → Numbered → Role → Standing → Settled → Moment → Moment → Type 0
RoleGives at line role at' s first now = (next : Standing → Settled → Work) (result : Result Status Stop) (after : Moment)
    → Works (next at' s) result now after → Works (settle_line at line role next) result first after

pub by_role : (at : Standing) (line : Numbered) (role : Role) (at' : Standing) (s : Settled) (first now : Moment)
    → role ≡ role_of at.first line.line → RoleGives at line role at' s first now
    → RoleGives at line (role_of at.first line.line) at' s first now
by_role at line role at' s first now e gives = subst (λ r. RoleGives at line r at' s first now) e gives

pub routed_line : (at : Standing) (line : Numbered) (x : Incoming) (before : ℕ) (m : Moment) → before ≡ accepted at
    → RoleGives at line (routed x) at (routes line.number x before) m m
routed_line at line x before m is = λ next result after h. subst (λ n. Works (next at (routes line.number x n)) result m after) is h

pub aside_line : (at : Standing) (line : Numbered) (s : Settled) (m : Moment) → s ≡ prints (event_text at.first line [])
    → RoleGives at line aside at s m m
aside_line at line s m told = λ next result after h. subst (λ t. Works (next at t) result m after) told h

-- ---- as the code knows it

pub routed_gives : (at : Standing) (line : Numbered) (joining : Joining) (x : arriving.Incoming.Incoming) (before : ℕ) (m : Moment)
    → joining ≡ Routed x → joining_role joining ≡ role_of at.first line.line
    → before ≡ accepted at → GivesLine at line (Ok (Routes line.number x before)) at m m
routed_gives at line joining x before m kind e is next =
    by_role at line (routed (incoming_in x)) at (routes line.number (incoming_in x) before) m m
    (subst (λ j. joining_role j ≡ role_of at.first line.line) kind e)
    (routed_line at line (incoming_in x) before m is) next

pub aside_gives : (at : Standing) (line : Numbered) (joining : Joining) (s : code.Settled.Settled) (m : Moment) → joining ≡ Aside
    → joining_role joining ≡ role_of at.first line.line
    → settled_in s ≡ prints (event_text at.first line []) → GivesLine at line (Ok s) at m m
aside_gives at line joining s m kind e told next =
    by_role at line aside at (settled_in s) m m (subst (λ j. joining_role j ≡ role_of at.first line.line) kind e)
    (aside_line at line (settled_in s) m told) next

pub named_line : (at : Standing) (line : Numbered) (name : List ℕ) (at' : Standing) (s : Settled) (first now : Moment)
    → later name ≡ role_of at.first line.line
    → ((next : Standing → Settled → Work) → EndsAs (within_limit (later_file at name)
    (λ octets. later_work at line.number name (plan_within at.first.limits octets) next)) (next at' s) first now)
    → (next : Standing → Settled → Work) → EndsAs (settle_line at line (role_of at.first line.line) next) (next at' s) first now
named_line at line name at' s first now e gives = by_role at line (later name) at' s first now e gives

pub named_stops : (at : Standing) (line : Numbered) (name : List ℕ) (stop : Stop) (first now : Moment)
    → later name ≡ role_of at.first line.line
    → ((next : Standing → Settled → Work) → Works (within_limit (later_file at name)
    (λ octets. later_work at line.number name (plan_within at.first.limits octets) next)) (Err stop) first now)
    → (next : Standing → Settled → Work) → Works (settle_line at line (role_of at.first line.line) next) (Err stop) first now
named_stops at line name stop first now e stops next = subst (λ r. Works (settle_line at line r next) (Err stop) first now) e (stops next)

file_gives : (at : Standing) (line : Numbered) (name : List ℕ) (r : Result code.Settled.Settled Stop) (at' : Standing) (first now : Moment)
    → later name ≡ role_of at.first line.line
    → GivesPlanFile at line.number name r at' first now → GivesLine at line r at' first now
file_gives at line name (Ok s) at' first now e gives = named_line at line name at' (settled_in s) first now e gives
file_gives at line name (Err stop) at' first now e gives = named_stops at line name stop first now e gives

-- the line of a later plan gives what its file does
pub named_gives : (at : Standing) (line : Numbered) (joining : Joining) (name : List ℕ) (r : Result code.Settled.Settled Stop)
    (at' : Standing) (first now : Moment) → joining ≡ Later name → joining_role joining ≡ role_of at.first line.line
    → GivesPlanFile at line.number name r at' first now → GivesLine at line r at' first now
named_gives at line joining name r at' first now kind e gives =
    file_gives at line name r at' first now (subst (λ j. joining_role j ≡ role_of at.first line.line) kind e) gives
