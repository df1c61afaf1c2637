use Rattle.std.proofs.Common.{sym, ◌∙◌}
use Rattle.pricing.proofs.Columns.{no_value}
use Rattle.pricing.proofs.net.Net.largest.Goals as goal

pub loop-code-preserved : goal.loop-code-preserved
loop-code-preserved c = (no_value c.args.block.now c.args.self c.loop-code.code c.loop-code-test.true c.loop-code.auto.code c.loop-code.largest (sym c.in_default.is ∙ c.value_of.ensures.value) c.loop-code.invariant.0, c.loop-code.invariant.1)
