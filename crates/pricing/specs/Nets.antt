-- How wide the parts of a block are.
--   b   a block
--   r   the row at a code, None where the code is idle
--   n   a net: what leaves an adder, or the multiplexer of a port
use Rattle.std.specs.Prelude.{ℕ, ◌+◌, ◌*◌, ◌^◌, List, [], ◌∷◌, map, Some, None, Option, max}
use Rattle.adders.specs.declared.wiring.Operand.{Operand}
use Rattle.adders.specs.Values.{value}
use Rattle.rows.specs.declared.model.Row.{Row}
use Rattle.rows.specs.Rows.{row_value_at}
use Rattle.blocks.specs.declared.model.Block.{Block}
use Rattle.ports.specs.Ports.{operand_at}
use Rattle.bits.specs.Bits.{bits}
use Rattle.pricing.specs.declared.net.Net.{Net}
use Rattle.pricing.specs.declared.net.Net.TheVariants.{OfAdder, OfPort}

-- the value of an operand of a row
abbrev pub operand_value : Row → Option Operand → Option ℕ
operand_value r None = None
operand_value r (Some o) = Some (value r.slots o.source * 2 ^ o.shift)

-- what a sample of 1 becomes there by the row: an adder's value, or that of the operand that the row puts at the port
abbrev pub value_on : Option Row → Net → Option ℕ
value_on None n = None
value_on (Some r) (OfAdder j) = row_value_at r j
value_on (Some r) (OfPort p) = operand_value r (operand_at r p)

-- the largest of the values that are there, 0 where there is none
abbrev pub largest : List (Option ℕ) → ℕ
largest [] = 0
largest (None ∷ vs) = largest vs
largest (Some v ∷ vs) = max v (largest vs)

-- over the live rows
abbrev pub largest_on : Block → Net → ℕ
largest_on b n = largest (map (λ r. value_on r n) b.table.rows)

-- the sample's bits and those of the largest value
abbrev pub width_of : Block → Net → ℕ
width_of b n = b.width + bits (largest_on b n)
