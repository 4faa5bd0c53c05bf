use Rattle.std.proofs.Common.{arith}
use Rattle.plan_unused.proofs.Settling.{short_table}
use Rattle.plan_unused.proofs.looking.look.Goals as goal

pub overflow_cast-stop : goal.overflow_cast-stop
overflow_cast-stop c = record {
  fits = omega (
    arith,
    short_table c.args.plan.now c.args.class.now.node c.class_node-node.result.now c.class_node-node.ensures.sound
        c.class_node-node.ensures.value,
    c.in-Some.ensures.within,
  );
}
