use Rattle.sccp_tool.proofs.SendOnLemmas.{arrived}
use Rattle.sccp_tool.proofs.send_on.text_at.Goals as goal

pub arrival_text-text-requires : goal.arrival_text-text-requires
arrival_text-text-requires c =
    let come = c.in_ok-arrival.ensures in
    arrived c.args.plan.now c.args.node c.new-marking.result c.args.incoming.now.origin c.as_slice-octets.result.now c.in_ok-arrival.arrival
    c.new-marking.ensures come.exact come.names
