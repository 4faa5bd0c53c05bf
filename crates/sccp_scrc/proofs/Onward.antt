-- what goes on to the next relay reads again
use Rattle.std.specs.Prelude.{◌≡◌, ℕ, List, Option, Some, None, refl}
use Rattle.std.specs.Option.{option_and_then}
use Rattle.std.proofs.Common.{subst}
use Rattle.sccp_base.specs.declared.mark.Mark.{Mark}
use Rattle.sccp_address.specs.declared.address.Address.{Address}
use Rattle.sccp_message.specs.declared.message.Message.{Message}
use Rattle.sccp_message.specs.Unitdata.{called_of}
use Rattle.plan_model.specs.declared.spot.Spot.{Spot}
use Rattle.plan_model.specs.declared.hop.Step.{Step}
use Rattle.plan_model.specs.declared.hop.Step.TheVariants as steps
use Rattle.plan_model.specs.Network.{Network, IsPlan}
use Rattle.plan_model.specs.Steps.{step}
use Rattle.plan_model.proofs.Leading.{Facts, step_facts}
use Rattle.sccp_scrc.specs.Unitdata.{redirected}
use Rattle.sccp_scrc.specs.Rewriting.{one_less, to_relay, spot_of}
use Rattle.sccp_scrc.specs.Passing.{sent_by, sent_from, sent_on, ReadsAgain}
use Rattle.sccp_scrc.proofs.Redirected.{IsMessage-redirected, Sound-redirected, called_kept}
use Rattle.sccp_scrc.proofs.Addresses.{IsSpot, IsSpot-sent, IsAddress-relay}
use Rattle.sccp_scrc.proofs.Arrivals.{is_spot}

by_step : (plan : Network) (marking : List Mark) (m new : Message) (a : Address) (s : Spot) (x : Step) → IsPlan plan → IsSpot s
    → ReadsAgain m → Facts plan s marking x → sent_by a m x ≡ Some new → ReadsAgain new
by_step plan marking m new a s (steps.Sent next target) is spot h facts e =
    let same : redirected (to_relay a next) one_less m ≡ new = cc in
    let there : IsSpot next = IsSpot-sent plan s next is spot facts in
    subst ReadsAgain same (record {
      message = IsMessage-redirected (to_relay a next) one_less m (IsAddress-relay a next there) h.message;
      sound = Sound-redirected (to_relay a next) one_less m h.sound;
    })
by_step plan marking m new a s (steps.Ended pc ssn target) is spot h facts e = absurd (cc)
by_step plan marking m new a s (steps.Blocked cause shut) is spot h facts e = absurd (cc)
by_step plan marking m new a s (steps.NoRow cause) is spot h facts e = absurd (cc)
by_step plan marking m new a s steps.Overgrown is spot h facts e = absurd (cc)

by_spot : (plan : Network) (node : ℕ) (marking : List Mark) (m new : Message) (a : Address) (o : Option Spot) → IsPlan plan
    → called_of m ≡ Some a → ReadsAgain m → spot_of node a ≡ o → option_and_then (λ s. sent_by a m (step plan s marking)) o ≡ Some new
    → ReadsAgain new
by_spot plan node marking m new a None is called h at e = absurd (cc)
by_spot plan node marking m new a (Some s) is called h at e =
    by_step plan marking m new a s (step plan s marking) is (is_spot node a s (called_kept a m called h.message) at) h
    (step_facts plan is s marking) e

by_address : (plan : Network) (node : ℕ) (marking : List Mark) (m new : Message) (o : Option Address) → IsPlan plan → called_of m ≡ o
    → ReadsAgain m → option_and_then (sent_from plan node marking m) o ≡ Some new → ReadsAgain new
by_address plan node marking m new None is called h e = absurd (cc)
by_address plan node marking m new (Some a) is called h e = by_spot plan node marking m new a (spot_of node a) is called h refl e

pub sent_reads : (plan : Network) (node : ℕ) (marking : List Mark) (m new : Message) → IsPlan plan → ReadsAgain m
    → sent_on plan node marking m ≡ Some new → ReadsAgain new
sent_reads plan node marking m new is h e = by_address plan node marking m new (called_of m) is refl h e
