use Rattle.std.proofs.Common.{subst, arith}
use Rattle.sccp_address.specs.Faults.{Gives}
use Rattle.sccp_address.proofs.Laws.{is_found, address_again}
use Rattle.sccp_address.proofs.Kept.{are_octets, answer_kept}
use Rattle.sccp_address.proofs.reading.read.Goals as goal

pub returns-clause-found : goal.returns-clause-found
returns-clause-found c = is_found c.args.octets.now c.address.result c.address.ensures

pub returns-clause-only : goal.returns-clause-only
returns-clause-only c = λ a is. subst (λ f. Gives (λ a. a) c.address.result f) (address_again c.args.octets.now a is) c.address.ensures

pub returns-clause-kept : goal.returns-clause-kept
returns-clause-kept c =
    let octets = are_octets c.args.octets.now (λ i. omega (arith, c.type_inv.octets i)) in
    answer_kept c.args.octets.now c.address.result octets (is_found c.args.octets.now c.address.result c.address.ensures)
