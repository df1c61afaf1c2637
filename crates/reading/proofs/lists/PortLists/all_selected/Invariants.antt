use Rattle.std.proofs.Common.{◌≡◌, ◌+◌, drop}
use Rattle.ports.specs.Ports.{ports}
use Rattle.reading.specs.Orders.{lists_of}
use Rattle.reading.specs.Data.{rows_of}
use Rattle.reading.specs.Reader.{check_ports}
use Rattle.reading.proofs.lists.PortLists.all_selected.Given as goal

abbrev pub invariant-loop-place : goal.invariant-loop-place
invariant-loop-place l = check_ports (rows_of l.fn.block) (lists_of l.fn.self) (3 + l.place) (drop l.place (ports l.fn.block.adders)) ≡ check_ports (rows_of l.fn.block) (lists_of l.fn.self) 3 (ports l.fn.block.adders)
