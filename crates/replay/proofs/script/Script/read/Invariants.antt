use Rattle.std.proofs.Common.{◌≡◌, length}
use Rattle.replay.specs.Scripts.{calls_in}
use Rattle.replay.proofs.Going.{Joins}
use Rattle.replay.proofs.script.Script.read.Given as goal

abbrev pub invariant-loop-rest : goal.invariant-loop-rest
invariant-loop-rest l = (l.calls.items ≡ calls_in l.answers.items) × Joins l.text l.rest l.answers.items

abbrev pub decreases-loop-rest : goal.decreases-loop-rest
decreases-loop-rest l = length l.rest
