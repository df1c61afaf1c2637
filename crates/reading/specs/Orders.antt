-- For each port its inputs, in the order of its line.
use Rattle.std.specs.Prelude.{ℕ, ◌-◌, ◌*◌, Bool, true, false, ◌&&◌, List, [], nat_le, ◌==◌, if◌then◌else◌, slice_index_or}
use Rattle.adders.specs.declared.wiring.Operand.{Operand}
use Rattle.ports.specs.declared.port.Port.{Port}
use Rattle.ports.specs.declared.port.Port.TheVariants.{Left, Right, Output}
use Rattle.reading.specs.declared.lists.PortLists.{PortLists}

abbrev pub Orders : Type 0
Orders = Port → List Operand

abbrev pub no_lines : Orders
no_lines p = []

abbrev pub same_port : Port → Port → Bool
same_port (Left i) (Left j) = i == j
same_port (Right i) (Right j) = i == j
same_port Output Output = true
same_port (Left i) (Right j) = false
same_port (Left i) Output = false
same_port (Right i) (Left j) = false
same_port (Right i) Output = false
same_port Output (Left j) = false
same_port Output (Right j) = false

-- the line of one port more
abbrev pub with_line : Port → List Operand → Orders → Orders
with_line p os orders q = if same_port p q then os else orders q

-- where the list of a port is kept: two for each of eight adders, then the output's
abbrev pub place_of : Port → ℕ
place_of (Left j) = if nat_le 1 j && nat_le j 8 then 2 * j - 2 else 17
place_of (Right j) = if nat_le 1 j && nat_le j 8 then 2 * j - 1 else 17
place_of Output = 16

abbrev pub lists_of : PortLists → Orders
lists_of l p = slice_index_or l.lists (place_of p) []
