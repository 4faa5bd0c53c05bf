use Rattle.std.proofs.Common.{◌≡◌, rules, subst, sym}
use Rattle.sccp_address.specs.Addresses.{AddressIs}
use Rattle.sccp_address.specs.Written.{written}
use Rattle.sccp_address.proofs.Writing.{written_is}
use Rattle.sccp_address.proofs.encoding.write.Goals as goal

pub returns-clause-again : goal.returns-clause-again
returns-clause-again c =
    let exact : c.from_vec.result ≡ written c.args.address.now = search rules in
    λ is. subst (λ octets. AddressIs octets c.args.address.now) (sym exact) (written_is c.args.address.now is)
