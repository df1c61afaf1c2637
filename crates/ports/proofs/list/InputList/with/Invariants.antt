use Rattle.std.proofs.Common.{◌≡◌, ◌++◌, drop}
use Rattle.ports.specs.Inputs.{insert}
use Rattle.ports.proofs.Inserting.{left_in}
use Rattle.ports.proofs.list.InputList.with.Given as goal

abbrev pub invariant-loop-next : goal.invariant-loop-next
invariant-loop-next l = l.list ++ left_in l.left (drop l.next-index l.next-items) ≡ insert l.fn.input l.fn.self
