use Rattle.std.proofs.Common.{length}
use Rattle.fusegen.proofs.Going.{Going}
use Rattle.fusegen.proofs.script.Script.read.Given as goal

abbrev pub invariant-loop-chain : goal.invariant-loop-chain
invariant-loop-chain l = Going l.width l.text l.rest l.calls.items

abbrev pub decreases-loop-chain : goal.decreases-loop-chain
decreases-loop-chain l = length l.rest
