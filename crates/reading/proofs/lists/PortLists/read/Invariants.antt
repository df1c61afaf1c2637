use Rattle.std.proofs.Common.{◌≡◌, ◌+◌, drop}
use Rattle.ports.specs.Ports.{ports}
use Rattle.reading.specs.Reader.{read_ports}
use Rattle.reading.specs.Orders.{lists_of}
use Rattle.reading.proofs.lists.PortLists.read.Given as goal

abbrev pub invariant-loop-place : goal.invariant-loop-place
invariant-loop-place l =
    read_ports l.fn.adders (l.place + 3) (drop l.place (ports l.fn.adders)) (lists_of l.self) l.rest ≡ read_ports l.fn.adders 3 (ports l.fn.adders) (lists_of l.fn.self) l.fn.text
