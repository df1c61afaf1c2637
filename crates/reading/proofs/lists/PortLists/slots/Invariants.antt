use Rattle.reading.specs.Orders.{lists_of}
use Rattle.reading.proofs.Slotted.{Slotted}
use Rattle.reading.proofs.lists.PortLists.slots.Given as goal

abbrev pub invariant-loop-place : goal.invariant-loop-place
invariant-loop-place l = Slotted (lists_of l.fn.self) l.selection-items l.place l.slots
