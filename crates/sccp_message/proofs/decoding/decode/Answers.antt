use Rattle.std.proofs.Common.{subst, arith}
use Rattle.sccp_message.specs.Reading.{Gives}
use Rattle.sccp_message.proofs.Laws.{is_found, message_again}
use Rattle.sccp_message.proofs.Made.{answer_sound, answer_kept}
use Rattle.sccp_address.proofs.Kept.{are_octets}
use Rattle.sccp_message.proofs.decoding.decode.Goals as goal

pub returns-clause-found : goal.returns-clause-found
returns-clause-found c = is_found c.args.octets.now c.whole.result c.whole.ensures

pub returns-clause-only : goal.returns-clause-only
returns-clause-only c = λ m is. subst (λ f. Gives (λ m. m) c.whole.result f) (message_again c.args.octets.now m is) c.whole.ensures

pub returns-clause-sound : goal.returns-clause-sound
returns-clause-sound c = answer_sound c.args.octets.now c.whole.result (is_found c.args.octets.now c.whole.result c.whole.ensures)

pub returns-clause-kept : goal.returns-clause-kept
returns-clause-kept c = answer_kept c.args.octets.now c.whole.result
    (are_octets c.args.octets.now (λ i. omega (arith, c.type_inv.octets i))) (is_found c.args.octets.now c.whole.result c.whole.ensures)
