use Rattle.std.proofs.Common.{arith}
use Rattle.ports.proofs.Places.{nth_output, nth_left, nth_right}
use Rattle.ports.proofs.port.Port.nth.Goals as goal

pub returns-then-place-adders : goal.returns-then-place-adders
returns-then-place-adders c = nth_output c.args.adders c.args.place c.if-place-adders.true

pub returns-then-place-eq0 : goal.returns-then-place-eq0
returns-then-place-eq0 c = nth_left c.args.adders c.args.place c.if-place-adders.false (omega arith)

pub returns-else-place-eq0 : goal.returns-else-place-eq0
returns-else-place-eq0 c = nth_right c.args.adders c.args.place c.if-place-adders.false (omega arith)
