-- What running relays and links have of a line is what the definition says.
use Rattle.std.specs.Prelude.{ℕ, ◌≡◌, ◌+◌, ◌<◌, Bool, true, false, cond, List, [], ◌∷◌, ◌++◌, All, find, map, length, take, Option, Some}
use Rattle.std.specs.Prelude.{None, option_and_then, refl}
use Rattle.std.specs.Option.{option_map_or}
use Rattle.std.specs.List.{AllByRecursion, cons_option}
use Rattle.std.proofs.Common.{zero, suc, sym, ◌∙◌, ap, subst, arith, get_or}
use Rattle.std.proofs.lemmas.Option.{slice_get-get_or}
use Rattle.sccp_message.specs.declared.message.Message.{Message}
use Rattle.sccp_message.specs.Reading.{reading}
use Rattle.sccp_message.specs.Written.{message_octets}
use Rattle.sccp_scrc.specs.Arriving.{point_of}
use Rattle.sccp_scrc.proofs.Redirected.{reads_again}
use Rattle.plan_model.specs.Network as plans
use Rattle.sccp_couple.specs.declared.section.Section.{Section}
use Rattle.sccp_couple.specs.Events.{Piece, Data, data_of}
use Rattle.sccp_couple.specs.Runs.{Pair}
use Rattle.couple_chain.specs.declared.happening.Happening.{Happening}
use Rattle.couple_chain.specs.declared.passed.Passed.{Passed}
use Rattle.couple_chain.specs.Fit.{IsFit}
use Rattle.couple_chain.specs.Line.{Leg, Line, line, line_of, line_from, last_of, legs_from, first_leg, piece_if_for, piece_for, pieces_for}
use Rattle.couple_chain.specs.Logged.{logged, IsOf, IsLogged}
use Rattle.couple_chain.specs.Relays.{Relaying, first_relay}
use Rattle.couple_chain.specs.World.{World, is_node, after}
use Rattle.chain_world.specs.declared.link.Link.{Link}
use Rattle.chain_world.specs.declared.stage.Stage.{Stage}
use Rattle.chain_world.specs.Kept.{network_of}
use Rattle.chain_world.specs.Links.{octets_on}
use Rattle.chain_world.specs.Offering.{if_read}
use Rattle.chain_world.specs.Running.{IsRelay, IsWorld}
use Rattle.chain_world.specs.Staged.{pieces_in, passed_at, sections_at, delivered_by, over, last_stage, first_in, stages_from, line_by}
use Rattle.chain_world.specs.Staged.{line_in}
use Rattle.chain_world.proofs.Happens.{regular}
use Rattle.chain_world.proofs.Nodes.{point_by}
use Rattle.chain_world.proofs.Staging.{IsStage, Same, AllSame, SameLists, first_same, follow_same}

-- ---- pieces of octets

none_for : (m : Message) → piece_for None m ≡ None
none_for m = go (data_of m)
  where
    go : (d : Option Data) → piece_if_for None d ≡ None
    go None = refl
    go (Some d) = refl

none_in : (o : Option Message) → option_and_then (piece_for None) o ≡ None
none_in None = refl
none_in (Some m) = none_for m

-- no message is a DT1 for a section that has no remote
pub nothing_for : (octets : List (List ℕ)) → pieces_in None octets ≡ []
nothing_for [] = refl
nothing_for (b ∷ octets) = ap (λ (o : Option Piece). cons_option o (pieces_in None octets)) (none_in (if_read (reading b)))
    ∙ nothing_for octets

pieces_written : (remote : Option ℕ) (ms : List Message) → AllByRecursion IsFit ms
    → pieces_in remote (map message_octets ms) ≡ pieces_for remote ms
pieces_written remote [] h = refl
pieces_written remote (m ∷ ms) h =
    ap (λ (o : Option Piece). cons_option o (pieces_in remote (map message_octets ms)))
    (ap (λ r. option_and_then (piece_for remote) (if_read r)) (reads_again m h.0.message h.0.sound))
    ∙ ap (cons_option (piece_for remote m)) (pieces_written remote ms h.1)

take_front : (xs ys : List Message) → take (length xs) (map message_octets (xs ++ ys)) ≡ map message_octets xs
take_front [] ys = refl
take_front (x ∷ xs) ys = ap (λ os. message_octets x ∷ os) (take_front xs ys)

in_front : (xs ys : List Message) → AllByRecursion IsFit (xs ++ ys) → AllByRecursion IsFit xs
in_front [] ys h = tt
in_front (x ∷ xs) ys h = (h.0, in_front xs ys h.1)

arrived_pieces : (plan : plans.Network) (relays : List Relaying) (links : List Link) (history : List Happening)
    → IsWorld plan relays links history → (a b : ℕ) (remote : Option ℕ) →
    pieces_for remote ((after (network_of plan) history).arrived a b) ≡ pieces_in remote (delivered_by links a b)
arrived_pieces plan relays links history is a b remote =
    let w : World = after (network_of plan) history in
    sym
    (ap (λ (n : ℕ). pieces_in remote (take n (octets_on links a b))) (is.gone a b)
    ∙ ap (λ (os : List (List ℕ)). pieces_in remote (take (length (w.arrived a b)) os)) (is.octets a b)
    ∙ ap (pieces_in remote) (take_front (w.arrived a b) (w.waiting a b))
    ∙ pieces_written remote (w.arrived a b) (in_front (w.arrived a b) (w.waiting a b) (is.fit a b)))

-- ---- what a pair passed on

of_found : (q : Pair → Bool) (ps : List Pair) (p : Pair) (log : List Passed) → find q ps ≡ Some p → IsLogged ps log → IsOf log p
of_found q [] p log e h = absurd (let z : None ≡ Some p = e in cc)
of_found q (x ∷ ps) p log e h =
    elim (q x) as (λ b. cond b (Some x) (find q ps) ≡ Some p → IsOf log p) [
      | true ↦ λ k. let same : x ≡ p = cc in subst (IsOf log) same h.0
      | false ↦ λ k. of_found q ps p log k h.1
    ] e

relay_there : (plan : plans.Network) (relays : List Relaying) (links : List Link) (history : List Happening)
    → IsWorld plan relays links history → (place : ℕ) → place < length plan.nodes →
    IsRelay place ((after (network_of plan) history).moments (point_of plan place)) (get_or relays place (first_relay 0))
relay_there plan relays links history is place lt = is.each place (first_relay 0) (omega (arith, is.count, lt))

passed_is : (plan : plans.Network) (relays : List Relaying) (links : List Link) (history : List Happening)
    → IsWorld plan relays links history → (l : Leg) (s : Stage) → IsStage plan (after (network_of plan) history) l s →
    IsOf (passed_at relays s.node) l.pair
passed_is plan relays links history is l s stage =
    let r = relay_there plan relays links history is s.node stage.within in
    let lt : s.node < length relays = omega (arith, is.count, stage.within) in
    subst (λ (log : List Passed). IsOf log l.pair) (sym (ap (λ (o : Option Relaying). option_map_or (λ x. x.passed) o [])
    (slice_get-get_or relays s.node (first_relay 0) lt)))
    (of_found stage.found.0 ((after (network_of plan) history).moments (point_of plan s.node)).pairs l.pair
    (get_or relays s.node (first_relay 0)).passed
    (subst (λ (n : ℕ). find stage.found.0 ((after (network_of plan) history).moments n).pairs
    ≡ Some l.pair) stage.node_is stage.found.1) r.passed_is)

-- the relay at a place of the plan has the sections of the coupling of its point
pub sections_there : (plan : plans.Network) (relays : List Relaying) (links : List Link) (history : List Happening)
    → IsWorld plan relays links history → (place : ℕ) → place < length plan.nodes →
    sections_at relays place ≡ ((after (network_of plan) history).moments (point_of plan place)).sections
sections_there plan relays links history is place lt =
    let r = relay_there plan relays links history is place lt in
    ap (λ (o : Option Relaying). option_map_or (λ x. x.sections) o [])
    (slice_get-get_or relays place (first_relay 0) (omega (arith, is.count, lt))) ∙ r.sections_are

-- ---- the line

path_is : (plan : plans.Network) (w : World) (ls : List Leg) (ss : List Stage) → AllSame plan w ls ss
    → map (λ (l : Leg). l.node) ls ≡ map (λ (s : Stage). point_of plan s.node) ss
path_is plan w [] [] h = refl
path_is plan w (l ∷ ls) (s ∷ ss) h = ap (λ (n : ℕ). n ∷ map (λ (l : Leg). l.node) ls) h.0.node_is
    ∙ ap (λ (ns : List ℕ). point_of plan s.node ∷ ns) (path_is plan w ls ss h.1)
path_is plan w [] (s ∷ ss) h = absurd h
path_is plan w (l ∷ ls) [] h = absurd h

last_is : (plan : plans.Network) (w : World) (l : Leg) (s : Stage) (ls : List Leg) (ss : List Stage) → IsStage plan w l s
    → AllSame plan w ls ss → IsStage plan w (last_of l ls) (last_stage s ss)
last_is plan w l s [] [] is h = is
last_is plan w l s (m ∷ ls) (t ∷ ss) is h = last_is plan w m t ls ss h.0 h.1
last_is plan w l s [] (t ∷ ss) is h = absurd h
last_is plan w l s (m ∷ ls) [] is h = absurd h

-- a line of its six parts
abbrev pub made_line : List ℕ → ℕ → List Piece → List Piece → List Piece → List Piece → Line
made_line p e a b c d = record { path = p; end_point = e; forth_in = a; forth_out = b; back_in = c; back_out = d }

-- lines with the same parts are the same
pub same_line : (p q : List ℕ) (e f : ℕ) (a b c d a' b' c' d' : List Piece) → p ≡ q → e ≡ f → a ≡ a' → b ≡ b' → c ≡ c' → d ≡ d'
    → made_line p e a b c d ≡ made_line q f a' b' c' d'
same_line p q e f a b c d a' b' c' d' h1 h2 h3 h4 h5 h6 =
    ap (λ (x : List ℕ). made_line x e a b c d) h1 ∙ ap (λ (x : ℕ). made_line q x a b c d) h2
    ∙ ap (λ (x : List Piece). made_line q f x b c d) h3 ∙ ap (λ (x : List Piece). made_line q f a' x c d) h4
    ∙ ap (λ (x : List Piece). made_line q f a' b' x d) h5 ∙ ap (λ (x : List Piece). made_line q f a' b' c' x) h6

values : (plan : plans.Network) (relays : List Relaying) (links : List Link) (history : List Happening) → IsWorld plan relays links history
    → (point : ℕ) (ls : List Leg) (ss : List Stage) (first last : Leg) (s t : Stage) →
    AllSame plan (after (network_of plan) history) ls ss → IsStage plan (after (network_of plan) history) first s
    → IsStage plan (after (network_of plan) history) last t →
    line_from (after (network_of plan) history) point ls first last ≡ over plan relays links point ss s t
values plan relays links history is point ls ss first last s t all f l =
    let w : World = after (network_of plan) history in
    let pf = passed_is plan relays links history is first s f f.stands in
    let pl = passed_is plan relays links history is last t l l.stands in
    same_line (map (λ (x : Leg). x.node) ls) (map (λ (x : Stage). point_of plan x.node) ss) last.far.point t.far.point
    first.pair.passed_near (pieces_for last.far.remote (w.arrived last.node last.far.point)) last.pair.passed_far
    (pieces_for first.near.remote (w.arrived first.node point))
    (logged s.near.own (passed_at relays s.node)) (pieces_in t.far.remote (delivered_by links (point_of plan t.node) t.far.point))
    (logged t.far.own (passed_at relays t.node)) (pieces_in s.near.remote (delivered_by links (point_of plan s.node) point))
    (path_is plan w ls ss all)
    (ap (λ (x : Section). x.point) (sym l.far_is))
    (pf.0 ∙ ap (λ (n : ℕ). logged n (passed_at relays s.node)) (f.pair_near ∙ ap (λ (x : Section). x.own) (sym f.near_is)))
    (ap (λ (x : Section). pieces_for x.remote (w.arrived last.node x.point)) (sym l.far_is)
    ∙ ap (λ (n : ℕ). pieces_for t.far.remote (w.arrived n t.far.point)) l.node_is
    ∙ arrived_pieces plan relays links history is (point_of plan t.node) t.far.point t.far.remote)
    (pl.1 ∙ ap (λ (n : ℕ). logged n (passed_at relays t.node)) (l.pair_far ∙ ap (λ (x : Section). x.own) (sym l.far_is)))
    (ap (λ (x : Section). pieces_for x.remote (w.arrived first.node point)) (sym f.near_is)
    ∙ ap (λ (n : ℕ). pieces_for s.near.remote (w.arrived n point)) f.node_is
    ∙ arrived_pieces plan relays links history is (point_of plan s.node) point s.near.remote)

by_lists : (plan : plans.Network) (relays : List Relaying) (links : List Link) (history : List Happening)
    → IsWorld plan relays links history → (point : ℕ) (o : Option (List Leg)) (x : Option (List Stage)) →
    SameLists plan (after (network_of plan) history) o x
    → line_of (after (network_of plan) history) point o ≡ line_by plan relays links point x
by_lists plan relays links history is point None None h = refl
by_lists plan relays links history is point (Some []) (Some []) h = refl
by_lists plan relays links history is point (Some (l ∷ ls)) (Some (s ∷ ss)) h =
    ap (λ (x : Line). Some x) (values plan relays links history is point (l ∷ ls) (s ∷ ss) l (last_of l ls) s (last_stage s ss) h h.0
    (last_is plan (after (network_of plan) history) l s ls ss h.0 h.1))
by_lists plan relays links history is point (Some []) (Some (s ∷ ss)) h = absurd h
by_lists plan relays links history is point (Some (l ∷ ls)) (Some []) h = absurd h
by_lists plan relays links history is point None (Some ss) h = absurd h
by_lists plan relays links history is point (Some ls) None h = absurd h

from_first : (plan : plans.Network) (relays : List Relaying) (links : List Link) (history : List Happening)
    → IsWorld plan relays links history → (o : Option Leg) (x : Option Stage) → Same plan (after (network_of plan) history) o x →
    SameLists plan (after (network_of plan) history) (legs_from (network_of plan) (after (network_of plan) history) 15 o)
    (option_and_then (stages_from plan relays 15) x)
from_first plan relays links history is None None h = tt
from_first plan relays links history is (Some l) (Some s) h =
    follow_same plan (after (network_of plan) history) (regular (network_of plan) history) relays
    (sections_there plan relays links history is) 15 l s h
from_first plan relays links history is None (Some s) h = absurd h
from_first plan relays links history is (Some l) None h = absurd h

-- the line that relays find is the line of the definition
pub line_is : (plan : plans.Network) (relays : List Relaying) (links : List Link) (history : List Happening)
    → IsWorld plan relays links history → (point reference : ℕ) →
    line_in plan relays links point reference ≡ line (network_of plan) (after (network_of plan) history) point reference
line_is plan relays links history is point reference =
    let w : World = after (network_of plan) history in
    let first = first_same plan w (regular (network_of plan) history) relays plan.nodes 0 is.count (let e = is.count in omega (arith, e))
    (λ i e lt. ap (point_of plan) (none_more i) ∙ point_by plan i e lt)
    (λ i d lt. (is.each i d lt).sections_are ∙ ap (λ (j : ℕ). (w.moments (point_of plan j)).sections) (sym (none_more i)))
    point reference in
    elim (is_node (network_of plan) point) as (λ b. cond b None
    (line_by plan relays links point (option_and_then (stages_from plan relays 15) (first_in 0 relays point reference)))
    ≡ line_of w point (cond b None (legs_from (network_of plan) w 15 (first_leg w point reference (network_of plan).nodes)))) [
      | true ↦ refl
      | false ↦
          sym (by_lists plan relays links history is point
          (legs_from (network_of plan) w 15 (first_leg w point reference (network_of plan).nodes))
          (option_and_then (stages_from plan relays 15) (first_in 0 relays point reference))
          (from_first plan relays links history is (first_leg w point reference (network_of plan).nodes)
          (first_in 0 relays point reference) first))
    ]
  where
    none_more : (i : ℕ) → 0 + i ≡ i
    none_more i = omega arith

-- ---- by what was found on the way

-- no line begins at a relay's point
pub at_node : (plan : plans.Network) (relays : List Relaying) (links : List Link) (history : List Happening)
    → IsWorld plan relays links history → (point reference : ℕ) → is_node (network_of plan) point ≡ true →
    None ≡ line (network_of plan) (after (network_of plan) history) point reference
at_node plan relays links history is point reference e =
    sym (ap (λ (b : Bool). cond b None (line_by plan relays links point
    (option_and_then (stages_from plan relays 15) (first_in 0 relays point reference)))) e)
    ∙ line_is plan relays links history is point reference

-- the line over the pairs that were found, from the first one on, is the line of the definition
pub found_path : (plan : plans.Network) (relays : List Relaying) (links : List Link) (history : List Happening)
    → IsWorld plan relays links history → (point reference : ℕ) (o : Option Stage) (x : Option (List Stage))
    → is_node (network_of plan) point ≡ false →
    first_in 0 relays point reference ≡ o → option_and_then (stages_from plan relays 15) o ≡ x
    → line_by plan relays links point x ≡ line (network_of plan) (after (network_of plan) history) point reference
found_path plan relays links history is point reference o x e f g =
    ap (line_by plan relays links point) (sym (ap (option_and_then (stages_from plan relays 15)) f ∙ g))
    ∙ sym (ap (λ (b : Bool). cond b None (line_by plan relays links point
    (option_and_then (stages_from plan relays 15) (first_in 0 relays point reference)))) e)
    ∙ line_is plan relays links history is point reference

firsts : (plan : plans.Network) (relays : List Relaying) (links : List Link) (history : List Happening) → IsWorld plan relays links history
    → (point reference : ℕ) →
    Same plan (after (network_of plan) history) (first_leg (after (network_of plan) history) point reference (network_of plan).nodes)
    (first_in 0 relays point reference)
firsts plan relays links history is point reference =
    first_same plan (after (network_of plan) history) (regular (network_of plan) history) relays plan.nodes 0 is.count
    (let e = is.count in omega (arith, e))
    (λ i e lt. ap (point_of plan) (none_more i) ∙ point_by plan i e lt)
    (λ i d lt. (is.each i d lt).sections_are ∙ ap (λ (j : ℕ). ((after (network_of plan) history).moments (point_of plan j)).sections)
    (sym (none_more i)))
    point reference
  where
    none_more : (i : ℕ) → 0 + i ≡ i
    none_more i = omega arith

one_within : (plan : plans.Network) (w : World) (o : Option Leg) (s : Stage) → Same plan w o (Some s) → s.node < length plan.nodes
one_within plan w None s h = absurd h
one_within plan w (Some l) s h = h.within

-- the first pair that is found is at a relay of the plan
pub first_within : (plan : plans.Network) (relays : List Relaying) (links : List Link) (history : List Happening)
    → IsWorld plan relays links history → (point reference : ℕ) (s : Stage) → first_in 0 relays point reference ≡ Some s
    → s.node < length plan.nodes
first_within plan relays links history is point reference s e =
    let w : World = after (network_of plan) history in
    one_within plan w (first_leg w point reference (network_of plan).nodes) s
    (subst (Same plan w (first_leg w point reference (network_of plan).nodes)) e (firsts plan relays links history is point reference))

all_within : (plan : plans.Network) (w : World) (ls : List Leg) (ss : List Stage) → AllSame plan w ls ss
    → All (λ (s : Stage). s.node < length plan.nodes) ss
all_within plan w [] [] h k d lt = absurd (omega (arith, lt))
all_within plan w (l ∷ ls) (s ∷ ss) h zero d lt = h.0.within
all_within plan w (l ∷ ls) (s ∷ ss) h (suc k) d lt = all_within plan w ls ss h.1 k d (omega (arith, lt))
all_within plan w [] (s ∷ ss) h k d lt = absurd h
all_within plan w (l ∷ ls) [] h k d lt = absurd h

some_within : (plan : plans.Network) (w : World) (o : Option (List Leg)) (ss : List Stage) → SameLists plan w o (Some ss)
    → All (λ (s : Stage). s.node < length plan.nodes) ss
some_within plan w None ss h = absurd h
some_within plan w (Some ls) ss h = all_within plan w ls ss h

-- all pairs that are found from the first one on are at relays of the plan
pub path_within : (plan : plans.Network) (relays : List Relaying) (links : List Link) (history : List Happening)
    → IsWorld plan relays links history → (point reference : ℕ) (s : Stage) (ss : List Stage) → first_in 0 relays point reference ≡ Some s →
    stages_from plan relays 15 s ≡ Some ss → All (λ (x : Stage). x.node < length plan.nodes) ss
path_within plan relays links history is point reference s ss e f =
    let w : World = after (network_of plan) history in
    let o : Option (List Leg) = legs_from (network_of plan) w 15 (first_leg w point reference (network_of plan).nodes) in
    some_within plan w o ss
    (subst (SameLists plan w o) (ap (option_and_then (stages_from plan relays 15)) e ∙ f)
    (from_first plan relays links history is (first_leg w point reference (network_of plan).nodes) (first_in 0 relays point reference)
    (firsts plan relays links history is point reference)))

last_at : (s : Stage) (ss : List Stage) (d : Stage) → last_stage s ss ≡ get_or (s ∷ ss) (length ss) d
last_at s [] d = refl
last_at s (t ∷ ss) d = last_at t ss d

-- the line over pairs is that of the first of them and the one at the last place
pub along : (plan : plans.Network) (relays : List Relaying) (links : List Link) (point : ℕ) (path : List Stage) (first last : Stage) (n : ℕ)
    → n + 1 ≡ length path → first ≡ get_or path 0 first → last ≡ get_or path n last →
    Some (over plan relays links point path first last) ≡ line_by plan relays links point (Some path)
along plan relays links point [] first last n e f g = absurd (omega (arith, e))
along plan relays links point (s ∷ ss) first last n e f g =
    let m : n ≡ length ss = omega (arith, e) in
    ap (λ (x : Stage). Some (over plan relays links point (s ∷ ss) x last)) f
    ∙ ap (λ (x : Stage). Some (over plan relays links point (s ∷ ss) s x)) (g ∙ ap (λ (k : ℕ). get_or (s ∷ ss) k last) m
    ∙ sym (last_at s ss last))

-- the points of the relays of pairs are those at the relays' places
pub points_of : (plan : plans.Network) (ss : List Stage)
    → map (point_of plan) (map (λ (s : Stage). s.node) ss) ≡ map (λ (s : Stage). point_of plan s.node) ss
points_of plan [] = refl
points_of plan (s ∷ ss) = ap (λ (ns : List ℕ). point_of plan s.node ∷ ns) (points_of plan ss)

-- the nodes of pairs that are all at nodes below a number
pub nodes_within : (n : ℕ) (ss : List Stage) (nodes : List ℕ) → nodes ≡ map (λ (s : Stage). s.node) ss → All (λ (s : Stage). s.node < n) ss
    → All (λ (node : ℕ). node < n) nodes
nodes_within n ss nodes e h = subst (All (λ (node : ℕ). node < n)) (sym e) (mapped ss h)
  where
    mapped : (ts : List Stage) → All (λ (s : Stage). s.node < n) ts → All (λ (node : ℕ). node < n) (map (λ (s : Stage). s.node) ts)
    mapped [] all k d lt = absurd (omega (arith, lt))
    mapped (t ∷ ts) all zero d lt = all zero t (omega arith)
    mapped (t ∷ ts) all (suc k) d lt = mapped ts (λ i x below. all (suc i) x (omega (arith, below))) k d (omega (arith, lt))
