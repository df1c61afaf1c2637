use Rattle.std.proofs.Common.{◌≡◌, ◌+◌, drop, length}
use Rattle.ports.specs.Inputs.{insert}
use Rattle.ports.proofs.list.InputList.len_with.Given as goal

abbrev pub invariant-loop-next : goal.invariant-loop-next
invariant-loop-next l = length (insert l.input l.self) ≡ l.next-index + length (insert l.input (drop l.next-index l.next-items))
