use Rattle.std.proofs.Common.{◌≡◌, ◌+◌, drop}
use Rattle.fusegen.specs.Generated.{first_fault}
use Rattle.fusegen.proofs.generate.first_fault.Given as goal

abbrev pub invariant-loop-place : goal.invariant-loop-place
invariant-loop-place l = first_fault 2 l.outcomes l.stop ≡ first_fault (l.place + 2) (drop l.place l.outcomes) l.stop
