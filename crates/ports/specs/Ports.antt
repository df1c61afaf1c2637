-- Ports, and the operand that a row puts at each.
--   a          a block's adder count
--   ports a    its ports in their order
use Rattle.std.specs.Prelude.{ℕ, zero, suc, List, [], ◌∷◌, Some, None, Option, slice_index_or}
use Rattle.adders.specs.declared.wiring.Adder.{Adder}
use Rattle.adders.specs.declared.wiring.Operand.{Operand}
use Rattle.rows.specs.declared.model.Row.{Row}
use Rattle.rows.specs.Rows.{adder_at}
use Rattle.ports.specs.declared.port.Port.{Port}
use Rattle.ports.specs.declared.port.Port.TheVariants.{Left, Right, Output}

-- left and right of each adder, ascending, and the output last: from adder j on, where n adders are left
abbrev pub ports_from : ℕ → ℕ → List Port
ports_from j zero = Output ∷ []
ports_from j (suc n) = Left j ∷ Right j ∷ ports_from (suc j) n

abbrev pub ports : ℕ → List Port
ports a = ports_from 1 a

-- the port at a place of the order, from 0
abbrev pub nth_port : ℕ → ℕ → Port
nth_port a k = slice_index_or (ports a) k Output

abbrev pub left_of : Option Adder → Option Operand
left_of None = None
left_of (Some x) = Some x.left

abbrev pub right_of : Option Adder → Option Operand
right_of None = None
right_of (Some x) = Some x.right

abbrev pub operand_at : Row → Port → Option Operand
operand_at r (Left j) = left_of (adder_at r j)
operand_at r (Right j) = right_of (adder_at r j)
operand_at r Output = Some r.output

-- the row of an idle code puts nothing anywhere
abbrev pub put_at : Option Row → Port → Option Operand
put_at None p = None
put_at (Some r) p = operand_at r p
