-- an answer that is the journey keeps what holds of the journey
use Rattle.std.specs.Prelude.{◌≡◌, ℕ, List, Result, Ok, Err, IfOk}
use Rattle.std.proofs.Common.{sym, subst}
use Rattle.sccp_base.specs.declared.mark.Mark.{Mark}
use Rattle.sccp_message.specs.declared.message.Message.{Message}
use Rattle.plan_model.specs.declared.spot.Spot.{Spot}
use Rattle.plan_model.specs.Network.{Network}
use Rattle.relay_net.specs.declared.end.End.TheVariants.{Cut}
use Rattle.relay_net.specs.declared.travelled.Journey.{Journey}
use Rattle.relay_net.specs.Journeys.{journey}
use Rattle.relay_net.specs.Headline.{GoesWell, IsCutOff}

pub told_well : {E : Type 0} (r : Result Journey E) (plan : Network) (bound : ℕ) (states : List (List Mark)) (entry origin : ℕ) (b : List ℕ)
    (m : Message) (s : Spot) → IfOk r (λ j. j ≡ journey plan states entry origin b) →
    GoesWell plan states bound m s (journey plan states entry origin b).path (journey plan states entry origin b).end
    → IfOk r (λ j. GoesWell plan states bound m s j.path j.end)
told_well (Ok j) plan bound states entry origin b m s same h = subst (λ (k : Journey). GoesWell plan states bound m s k.path k.end)
    (sym same) h
told_well (Err e) plan bound states entry origin b m s same h = tt

pub told_cut : {E : Type 0} (r : Result Journey E) (plan : Network) (states : List (List Mark)) (entry origin : ℕ) (b : List ℕ)
    → IfOk r (λ j. j ≡ journey plan states entry origin b) →
    ((journey plan states entry origin b).end ≡ Cut → IsCutOff b (journey plan states entry origin b).path)
    → IfOk r (λ j. j.end ≡ Cut → IsCutOff b j.path)
told_cut (Ok j) plan states entry origin b same h = subst (λ (k : Journey). k.end ≡ Cut → IsCutOff b k.path) (sym same) h
told_cut (Err e) plan states entry origin b same h = tt
