-- A plan has the limits under which its text was read.
use Rattle.std.specs.Prelude.{ℕ, ◌≡◌, List, Option, Some, None, Result, Ok, Err, option_map, codes}
use Rattle.std.proofs.Common.{sym, ap, refl}
use Rattle.toml.specs.Data.{Data, Members, table}
use Rattle.sccp_base.specs.Answers.{◌>>=◌, unless}
use Rattle.plan_model.specs.declared.cover.Cover.{Cover}
use Rattle.plan_model.specs.declared.limits.Limits.{Limits}
use Rattle.plan_model.specs.declared.node.Node.{Node}
use Rattle.plan_model.specs.declared.plan_fault.PlanFault.{PlanFault}
use Rattle.plan_model.specs.declared.plan_fault.PlanFault.TheVariants.{WrongShape, Limit, Repeated, UnknownNode, RelayToSelf}
use Rattle.plan_model.specs.Faults.{plan_fault_within}
use Rattle.plan_model.specs.Network.{Network, network_within}
use Rattle.plan_text.specs.declared.version.Version.{Version as TextVersion}
use Rattle.plan_text.specs.Counts.{too_many}
use Rattle.plan_text.specs.Covers.{covers_of}
use Rattle.plan_text.specs.Document.{elements_at}
use Rattle.plan_text.specs.Drafts.{Drafted, drafts_of}
use Rattle.plan_text.specs.PlanText.{document_of, version_of, finished, resolved, valued, limited, shaped, planned, plan_within}
use Rattle.plan_text.specs.Shape.{shape_fault}
use Rattle.plan_text.specs.Tabled.{nodes_of}
use Rattle.plan_text.specs.Tests.{first_repeated_draft, first_unknown, first_to_self}

abbrev Keeps : Limits → Result Network PlanFault → Type 0
Keeps limits r = (plan : Network) → r ≡ Ok plan → plan.limits ≡ limits

after_test : (limits : Limits) (fault : Option PlanFault) (r : Result Network PlanFault) → Keeps limits r → Keeps limits (unless fault r)
after_test limits (Some fault) r keeps plan is = absurd (cc)
after_test limits None r keeps plan is = keeps plan is

after_step : {A : Type 0} (limits : Limits) (r : Result A PlanFault) (next : A → Result Network PlanFault)
    → ((x : A) → Keeps limits (next x)) → Keeps limits (r >>= next)
after_step limits (Ok x) next keeps plan is = keeps x plan is
after_step limits (Err fault) next keeps plan is = absurd (cc)

same : (r : Result Network PlanFault) (p q : Network) → r ≡ Ok p → r ≡ Ok q → p ≡ q
same r p q first second = cc

of_finished : (limits : Limits) (nodes : List Node) (covers : List Cover) → Keeps limits (finished limits nodes covers)
unfolding finished
of_finished limits nodes covers =
    after_test limits (plan_fault_within limits nodes covers) (Ok (network_within limits nodes covers))
    (λ plan is. ap (λ (p : Network). p.limits)
    (sym (same (Ok (network_within limits nodes covers)) (network_within limits nodes covers) plan refl is)))

of_resolved : (limits : Limits) (version : TextVersion) (nodes covers : List Data) (drafts : List Drafted) (read : List Cover)
    → Keeps limits (resolved limits version nodes covers drafts read)
unfolding resolved
of_resolved limits version nodes covers drafts read =
    let built = nodes_of drafts >>= λ built. finished limits built read in
    let third = unless (option_map RelayToSelf (first_to_self version drafts)) built in
    let second = unless (option_map UnknownNode (first_unknown nodes covers)) third in
    after_test limits (option_map Repeated (first_repeated_draft drafts)) second
    (after_test limits (option_map UnknownNode (first_unknown nodes covers)) third
    (after_test limits (option_map RelayToSelf (first_to_self version drafts)) built
    (after_step limits (nodes_of drafts) (λ built. finished limits built read) (λ built. of_finished limits built read))))

of_valued : (limits : Limits) (document : Data) (nodes covers : List Data) → Keeps limits (valued limits document nodes covers)
unfolding valued
of_valued limits document nodes covers =
    after_step limits (version_of document) _ (λ version. after_step limits (drafts_of nodes) _ (λ drafts.
    after_step limits (covers_of nodes covers) _ (λ read. of_resolved limits version nodes covers drafts read)))

of_limited : (limits : Limits) (document : Data) (nodes covers : List Data) → Keeps limits (limited limits document nodes covers)
unfolding limited
of_limited limits document nodes covers = after_test limits (option_map Limit (too_many limits nodes covers))
    (valued limits document nodes covers) (of_valued limits document nodes covers)

of_shaped : (limits : Limits) (members : Members) → Keeps limits (shaped limits members)
unfolding shaped
of_shaped limits members =
    let nodes = elements_at (codes "node") (table members) in
    let covers = elements_at (codes "cover") (table members) in
    after_test limits (option_map WrongShape (shape_fault members)) (limited limits (table members) nodes covers)
    (of_limited limits (table members) nodes covers)

of_planned : (limits : Limits) (document : Option Members) → Keeps limits (planned limits document)
of_planned limits (Some members) = of_shaped limits members
of_planned limits None = λ plan is. absurd (cc)

pub keeps_limits : (limits : Limits) (text : List ℕ) (plan : Network) → plan_within limits text ≡ Ok plan → plan.limits ≡ limits
unfolding plan_within
keeps_limits limits text plan is = of_planned limits (document_of text) plan is
