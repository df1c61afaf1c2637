use Rattle.std.proofs.Common.{length, sym, ap, ◌∙◌, arith}
use Rattle.ports.proofs.Ascending.{none_yet, room_left, one_put, none_put}
use Rattle.ports.proofs.port.Port.inputs.Goals as goal

pub loop-code-init : goal.loop-code-init
loop-code-init c = c.new-list.ensures ∙ sym (none_yet c.args.block.now c.args.self)

pub with-list-requires : goal.with-list-requires
with-list-requires c = omega (arith, room_left c.args.block.now c.args.self c.loop-code.code c.loop-code-test.true c.loop-code.auto.code, ap length c.loop-code.invariant)

pub loop-code-preserved-in-Some : goal.loop-code-preserved-in-Some
loop-code-preserved-in-Some c = c.with-list.ensures ∙ one_put c.args.block.now c.args.self c.loop-code.code c.loop-code-test.true c.loop-code.auto.code c.in-Some.operand c.loop-code.list (sym c.operand_at.ensures ∙ c.in-Some.is) c.loop-code.invariant

pub loop-code-preserved : goal.loop-code-preserved
loop-code-preserved c = none_put c.args.block.now c.args.self c.loop-code.code c.loop-code-test.true c.loop-code.auto.code c.loop-code.list (sym c.operand_at.ensures ∙ c.in_default.is) c.loop-code.invariant
