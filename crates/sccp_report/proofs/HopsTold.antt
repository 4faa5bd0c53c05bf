-- The text of hops gives each title and what was held prohibited there.
use Rattle.std.specs.Prelude.{ℕ, ◌<◌, true, not, ◌==◌, List, [], ◌∷◌, ◌++◌, length, take, codes, decimal, Option, Some, None}
use Rattle.std.specs.List.{All, list_all}
use Rattle.std.proofs.Common.{◌≡◌, refl, sym, subst, ◌∙◌, ap, arith, append_assoc}
use Rattle.std.proofs.lemmas.Bool.{and_parts, false≢true}
use Rattle.std.proofs.lemmas.List.Elements.{All-nil, All-cons, All-append, All-head, All-tail}
use Rattle.sccp_base.specs.declared.mark.Mark.{Mark}
use Rattle.sccp_base.specs.Marks.{IsMark, IsMarking}
use Rattle.sccp_base.specs.Names.{IsName, is_name_octet}
use Rattle.plan_model.specs.declared.node.Node.{Node}
use Rattle.plan_model.specs.declared.hop.Hop.{Hop}
use Rattle.plan_model.specs.declared.hop.Step.{Step}
use Rattle.plan_model.specs.declared.hop.Step.TheVariants.{Sent, Ended, Blocked, NoRow, Overgrown}
use Rattle.plan_model.specs.Network.{Network, IsPlan}
use Rattle.plan_model.specs.declared.spot.Spot.{Spot}
use Rattle.plan_model.specs.Spots.{IsSpotOf}
use Rattle.plan_model.specs.Next.{next_of}
use Rattle.plan_model.specs.Steps.{step}
use Rattle.plan_model.specs.Routes.{route, onward, StaysIn}
use Rattle.std.proofs.lemmas.Option.{get_or_from_slice_get}
use Rattle.sccp_report.specs.Values.{numbered, point_code_text}
use Rattle.sccp_report.specs.Hops.{node_text, spot_text, marks_text, destination_text, target_text, step_text, hop_line, hops_text}
use Rattle.sccp_report.specs.Told.{TextTellsRoute}
use Rattle.sccp_report.proofs.InPlan.{step_in}
use Rattle.sccp_report.proofs.Parted.{Stops, decimal_digits, rest_same, parted}
use Rattle.sccp_report.proofs.MarkTexts.{marks_parted}
use Rattle.sccp_report.proofs.SpotTexts.{node_named, spot_parted}

-- a step's text is within one line

abbrev InLine : ℕ → Type 0
InLine c = c ≡ 10 → ⊥

feed_ends : (r : List ℕ) → Stops InLine (10 ∷ r)
feed_ends r h = h refl

-- of a text that is written out this is a test
by_test : (xs : List ℕ) → list_all (λ c. not (c == 10)) xs ≡ true → All InLine xs
by_test [] h = All-nil InLine
by_test (c ∷ cs) h =
    let p = and_parts (not (c == 10)) (list_all (λ x. not (x == 10)) cs) h in
    All-cons InLine c cs (λ (e : c ≡ 10). false≢true (subst (λ x. not (x == 10) ≡ true) e p.0)) (by_test cs p.1)

decimal_in_line : (n : ℕ) → All InLine (decimal n)
decimal_in_line n = λ k d lt e. let p = decimal_digits n k d lt in omega (arith, p.0, e)

node_in_line : (plan : Network) (node : ℕ) → All (λ n. IsName n.name) plan.nodes → node < length plan.nodes
    → All InLine (node_text plan node)
node_in_line plan node names h =
    let n = node_named plan node h in
    let is : IsName n.0.name = subst (λ (x : Node). IsName x.name) (get_or_from_slice_get plan.nodes node n.0 n.0 n.2) (names node n.0 h) in
    subst (All InLine) (sym n.1) (λ k d lt e. false≢true (subst (λ c. is_name_octet c ≡ true) e (is.each k d lt)))

point_code_in_line : (pc : ℕ) → All InLine (point_code_text pc)
unfolding point_code_text
point_code_in_line pc =
    All-append InLine _ _ (All-append InLine _ _ (All-append InLine _ _ (All-append InLine _ _
    (decimal_in_line _) (by_test (codes "-") refl)) (decimal_in_line _)) (by_test (codes "-") refl)) (decimal_in_line _)

destination_in_line : (pc ssn : ℕ) → All InLine (destination_text pc ssn)
unfolding destination_text
destination_in_line pc ssn = All-append InLine _ _ (All-append InLine _ _ (point_code_in_line pc) (by_test (codes "/") refl))
    (decimal_in_line ssn)

target_in_line : (place : ℕ) → All InLine (target_text place)
unfolding target_text numbered
target_in_line place = All-append InLine (codes " target ") (decimal place) (by_test (codes " target ") refl) (decimal_in_line place)

-- it begins with a blank
step_begins : (plan : Network) (s : Step) → All (λ n. IsName n.name) plan.nodes → StaysIn plan s
    → (w : List ℕ) × (step_text plan s ≡ 32 ∷ w) × All InLine w
unfolding step_text numbered
step_begins plan (Sent next place) names h = (
  codes "sent " ++ node_text plan next.node ++ target_text place,
  refl,
  All-append InLine (codes "sent " ++ node_text plan next.node) (target_text place)
      (All-append InLine (codes "sent ") (node_text plan next.node) (by_test (codes "sent ") refl) (node_in_line plan next.node names h))
      (target_in_line place),
)
step_begins plan (Ended pc ssn place) names h = (
  codes "ended " ++ destination_text pc ssn ++ target_text place,
  refl,
  All-append InLine (codes "ended " ++ destination_text pc ssn) (target_text place)
      (All-append InLine (codes "ended ") (destination_text pc ssn) (by_test (codes "ended ") refl) (destination_in_line pc ssn))
      (target_in_line place),
)
step_begins plan (Blocked cause marks) names h = (
  codes "blocked " ++ decimal cause,
  refl,
  All-append InLine (codes "blocked ") (decimal cause) (by_test (codes "blocked ") refl)
      (decimal_in_line cause),
)
step_begins plan (NoRow cause) names h = (
  codes "no row " ++ decimal cause,
  refl,
  All-append InLine (codes "no row ") (decimal cause) (by_test (codes "no row ") refl)
      (decimal_in_line cause),
)
step_begins plan Overgrown names h = (codes "overgrown", refl, by_test (codes "overgrown") refl)

-- ---- hops that happen

-- a hop of the plan under a marking
record IsHopUnder (plan : Network) (hop : Hop) (marking : List Mark) : Type 0 where
  spot : IsSpotOf plan hop.spot
  marks : All IsMark marking
  stays : StaysIn plan hop.step
  does : hop.step ≡ step plan hop.spot marking

-- each hop under the marking at its place
abbrev AreHopsUnder : Network → List Hop → List (List Mark) → Type 0
AreHopsUnder plan [] markings = Unit {0}
AreHopsUnder plan (hop ∷ hops) [] = ⊥
AreHopsUnder plan (hop ∷ hops) (marking ∷ markings) = IsHopUnder plan hop marking × AreHopsUnder plan hops markings

onward_under : (plan : Network) (o : Option Spot) (ms : List (List Mark))
    → ((next : Spot) → All (λ hop. IsSpotOf plan hop.spot) (route plan next ms) → AreHopsUnder plan (route plan next ms) ms)
    → All (λ hop. IsSpotOf plan hop.spot) (onward o (λ next. route plan next ms))
    → AreHopsUnder plan (onward o (λ next. route plan next ms)) ms
onward_under plan None ms each spots = tt
onward_under plan (Some next) ms each spots = each next spots

route_under : (plan : Network) (s : Spot) (ms : List (List Mark)) → IsPlan plan → All IsMarking ms
    → All (λ hop. IsSpotOf plan hop.spot) (route plan s ms) → AreHopsUnder plan (route plan s ms) ms
route_under plan s [] is marks spots = tt
route_under plan s (m ∷ ms) is marks spots =
    let rest : List Hop = onward (next_of (step plan s m)) (λ next. route plan next ms) in (
      record {
        spot = All-head (λ hop. IsSpotOf plan hop.spot) (record { spot = s; step = step plan s m }) rest spots;
        marks = (All-head IsMarking m ms marks).real;
        stays = step_in plan s m is;
        does = refl;
      },
      onward_under plan (next_of (step plan s m)) ms (λ next. route_under plan next ms is (All-tail IsMarking m ms marks))
          (All-tail (λ hop. IsSpotOf plan hop.spot) (record { spot = s; step = step plan s m }) rest spots),
    )

-- ---- a line, and what follows it

line_more : (plan : Network) (hop : Hop) (marking : List Mark) (r : List ℕ)
    → hop_line plan hop marking ++ r ≡ spot_text plan hop.spot ++ 32 ∷ 104 ∷ 101 ∷ 108 ∷ 100 ∷ 32
    ∷ (marks_text marking ++ (step_text plan hop.step ++ 10 ∷ r))
unfolding hop_line
line_more plan hop marking r =
    let spot : List ℕ = spot_text plan hop.spot in
    let marks : List ℕ = marks_text marking in
    let does : List ℕ = step_text plan hop.step in
    append_assoc (spot ++ codes " held " ++ marks ++ does) (10 ∷ []) r
    ∙ append_assoc (spot ++ codes " held " ++ marks) does (10 ∷ r)
    ∙ append_assoc (spot ++ codes " held ") marks (does ++ 10 ∷ r)
    ∙ append_assoc spot (codes " held ") (marks ++ (does ++ 10 ∷ r))

-- two lines that are the same have the same title and marks, and go on alike
pub line_parts : (plan : Network) (hop other : Hop) (m n : List Mark) (r s : List ℕ) → IsPlan plan
    → All (λ node. IsName node.name) plan.nodes → IsSpotOf plan hop.spot → IsSpotOf plan other.spot
    → All IsMark m → All IsMark n → StaysIn plan hop.step → StaysIn plan other.step
    → hop_line plan hop m ++ r ≡ hop_line plan other n ++ s → (hop.spot ≡ other.spot) × (m ≡ n) × (r ≡ s)
line_parts plan hop other m n r s is names at there marked also stays goes e =
    let a = step_begins plan hop.step names stays in
    let b = step_begins plan other.step names goes in
    let spot = spot_parted plan hop.spot other.spot _ _ names is.names at there (sym (line_more plan hop m r) ∙ e
    ∙ line_more plan other n s) in
    let held = rest_same 32 32 _ _ (rest_same 100 100 _ _ (rest_same 108 108 _ _ (rest_same 101 101 _ _ (rest_same 104 104 _ _ spot.1)))) in
    let begun = sym (ap (λ (w : List ℕ). marks_text m ++ (w ++ 10 ∷ r)) a.1) ∙ held
    ∙ ap (λ (w : List ℕ). marks_text n ++ (w ++ 10 ∷ s)) b.1 in
    let marks = marks_parted m n (a.0 ++ 10 ∷ r) (b.0 ++ 10 ∷ s) marked also begun in
    let ends = parted InLine a.0 b.0 (10 ∷ r) (10 ∷ s) a.2 b.2 (feed_ends r) (feed_ends s) marks.1 in
    (spot.0, marks.0, rest_same 10 10 r s ends.1)

line_parted : (plan : Network) (hop other : Hop) (m n : List Mark) (r s : List ℕ) → IsPlan plan → All (λ node. IsName node.name) plan.nodes
    → IsHopUnder plan hop m → IsHopUnder plan other n
    → hop_line plan hop m ++ r ≡ hop_line plan other n ++ s → (hop ≡ other) × (m ≡ n) × (r ≡ s)
line_parted plan hop other m n r s is names h k e =
    let parts = line_parts plan hop other m n r s is names h.spot k.spot h.marks k.marks h.stays k.stays e in
    let does : hop.step ≡ other.step = h.does ∙ (λ i. step plan (parts.0 i) (parts.1 i)) ∙ sym k.does in
    ((λ i. record { spot = parts.0 i; step = does i }), parts.1, parts.2)

-- no line is empty
pub some_line : (plan : Network) (hop : Hop) (m : List Mark) (r : List ℕ) → hop_line plan hop m ++ r ≡ [] → ⊥
unfolding hop_line spot_text
some_line plan hop m r e = omega (arith, ap length e)

text_tells_hops : (plan : Network) (hops others : List Hop) (ms ns : List (List Mark)) → IsPlan plan
    → All (λ node. IsName node.name) plan.nodes → AreHopsUnder plan hops ms → AreHopsUnder plan others ns
    → hops_text plan hops ms ≡ hops_text plan others ns → (hops ≡ others) × (take (length hops) ms ≡ take (length others) ns)
text_tells_hops plan [] [] ms ns is names h k e = (refl, refl)
text_tells_hops plan [] (other ∷ others) ms [] is names h k e = absurd k
text_tells_hops plan [] (other ∷ others) ms (n ∷ ns) is names h k e = absurd (some_line plan other n (hops_text plan others ns) (sym e))
text_tells_hops plan (hop ∷ hops) others [] ns is names h k e = absurd h
text_tells_hops plan (hop ∷ hops) [] (m ∷ ms) ns is names h k e = absurd (some_line plan hop m (hops_text plan hops ms) e)
text_tells_hops plan (hop ∷ hops) (other ∷ others) (m ∷ ms) [] is names h k e = absurd k
text_tells_hops plan (hop ∷ hops) (other ∷ others) (m ∷ ms) (n ∷ ns) is names h k e =
    let first = line_parted plan hop other m n (hops_text plan hops ms) (hops_text plan others ns) is names h.0 k.0 e in
    let more = text_tells_hops plan hops others ms ns is names h.1 k.1 first.2 in
    ((λ i. first.0 i ∷ more.0 i), (λ i. first.1 i ∷ more.1 i))

pub text_tells_route : TextTellsRoute
text_tells_route plan s t ms ns is names h k e =
    text_tells_hops plan (route plan s ms) (route plan t ns) ms ns is names (route_under plan s ms is h.markings h.spots)
    (route_under plan t ns is k.markings k.spots) e
