use Rattle.std.proofs.Common.{None, ◌+◌, arith}
use Rattle.std.proofs.lemmas.List.{length-set}
use Rattle.rows.specs.Rows.{adder_at}
use Rattle.rises.specs.Uses.{adder_used}
use Rattle.fusing.proofs.Filling.{filled_more}
use Rattle.fusing.proofs.task.making.uses_of.Goals as goal

pub loop-place-preserved : goal.loop-place-preserved
loop-place-preserved c = (
  omega (arith, length-set c.loop-place.uses c.loop-place.place c.of.result, c.loop-place.invariant.0),
  filled_more (λ d. adder_used c.args.row.now (d + 1) (adder_at c.args.row.now (d + 1))) None c.loop-place.uses c.loop-place.place c.of.result (omega (arith, c.loop-place-test.true, c.loop-place.invariant.0)) c.of.ensures c.loop-place.invariant.1,
)
