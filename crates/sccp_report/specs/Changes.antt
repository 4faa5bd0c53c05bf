-- The printed text of the answer on a changeover between two plans of the same nodes.
use Rattle.std.specs.Prelude.{ℕ, List, [], ◌∷◌, ◌++◌, Option, Some, None, codes}
use Rattle.sccp_base.specs.declared.mark.Mark.{Mark}
use Rattle.plan_model.specs.declared.kind.Kind.{Kind}
use Rattle.plan_model.specs.declared.spot.Spot.{Spot}
use Rattle.plan_model.specs.declared.limits.Limits.{Limits}
use Rattle.plan_model.specs.Network.{Network}
use Rattle.plan_mixed.specs.declared.which.Which.{Which}
use Rattle.plan_mixed.specs.declared.which.Which.TheVariants.{Old, New}
use Rattle.plan_change.specs.declared.answer.Change.{Change}
use Rattle.plan_change.specs.declared.answer.Change.TheVariants.{Kept, Broken, TooWide}
use Rattle.plan_change.specs.declared.mixed_hop.MixedHop.{MixedHop}
use Rattle.plan_change.specs.declared.turn.Turn.{Turn}
use Rattle.plan_change.specs.Mixture.{mixed, tagged}
use Rattle.sccp_report.specs.Hops.{hop_line}
use Rattle.sccp_report.specs.Limits.{too_wide_line}
use Rattle.sccp_report.specs.Values.{numbered}
use Rattle.sccp_report.specs.Verdicts.{kind_words, accepted_line}

-- the plan that a relay holds
unfoldable pub which_words : Which → List ℕ
which_words Old = codes "old "
which_words New = codes "new "

-- a hop under a marking, after the plan that its relay held
unfoldable pub mixed_hop_line : Network → MixedHop → List Mark → List ℕ
mixed_hop_line plan hop marking = which_words hop.which ++ hop_line plan hop.hop marking

-- the hops in their order, each under the marking of its turn; the names of the nodes are the same in both plans
abbrev pub mixed_hops_text : Network → List MixedHop → List Turn → List ℕ
mixed_hops_text plan [] turns = []
mixed_hops_text plan (hop ∷ hops) [] = []
mixed_hops_text plan (hop ∷ hops) (turn ∷ turns) = mixed_hop_line plan hop turn.marking ++ mixed_hops_text plan hops turns

-- the two plans may be mixed
unfoldable pub kept_line : ℕ → List ℕ
kept_line bound = codes "change " ++ accepted_line bound

-- they may not, for a title that these covers have
unfoldable pub broken_words : List ℕ
broken_words = codes "change refused "

unfoldable pub covers_words : ℕ → ℕ → List ℕ
covers_words old_cover new_cover = numbered (codes " covers ") old_cover ++ numbered (codes " ") new_cover ++ codes "\n"

unfoldable pub broken_line : ℕ → ℕ → Kind → List ℕ
broken_line old_cover new_cover kind = broken_words ++ kind_words kind ++ covers_words old_cover new_cover

-- they reach more classes than are followed
unfoldable pub wide_change_line : Limits → List ℕ
wide_change_line limits = codes "change " ++ too_wide_line limits

-- the longest mixed route, if some title is covered by both plans
abbrev pub longest_hops_text : Network → Network → Option Spot → List Turn → List ℕ
longest_hops_text old new None turns = []
longest_hops_text old new (Some spot) turns = mixed_hops_text old (tagged (mixed old new spot turns) turns) turns

-- The answer, and the mixed route that shows it: the longest one of a mixture that is kept, the bad one of a broken one.
abbrev pub change_text : Network → Network → Change → List ℕ
change_text old new (Kept bound spot turns) = kept_line bound ++ longest_hops_text old new spot turns
change_text old new (Broken old_cover new_cover spot turns hops kind) = broken_line old_cover new_cover kind
    ++ mixed_hops_text old hops turns
change_text old new TooWide = wide_change_line old.limits
