use Rattle.reading.specs.Orders.{lists_of}
use Rattle.reading.proofs.RowByRow.{Filled}
use Rattle.reading.proofs.lists.PortLists.block.Given as goal

abbrev pub invariant-loop-code : goal.invariant-loop-code
invariant-loop-code l = Filled (lists_of l.fn.self) l.fn.adders l.fn.width l.fn.text l.code l.line l.rest l.block
