-- What a row puts at an adder and at a port, with the bits of the values.
use Rattle.std.specs.Prelude.{ℕ, ◌*◌, ◌^◌, Bool, true, false, Some, None, Option}
use Rattle.adders.specs.declared.wiring.Adder.{Adder}
use Rattle.adders.specs.declared.wiring.Operand.{Operand}
use Rattle.adders.specs.declared.wiring.Sign.{Sign}
use Rattle.adders.specs.declared.wiring.Sign.TheVariants.{Plus, Minus}
use Rattle.adders.specs.Values.{value}
use Rattle.bits.specs.Bits.{bits}
use Rattle.rows.specs.declared.model.Row.{Row}
use Rattle.rises.specs.declared.uses.ValuedOperand.{ValuedOperand}
use Rattle.rises.specs.declared.uses.ValuedAdder.{ValuedAdder}

-- with the bits of what the row makes of a sample of 1 at the operand, and at an adder of number j
abbrev pub valued_operand : Row → Operand → ValuedOperand
valued_operand r o = record { operand = o; bits = bits (value r.slots o.source * 2 ^ o.shift) }

abbrev pub valued_adder : Row → ℕ → Adder → ValuedAdder
valued_adder r j a = record { left = valued_operand r a.left; sign = a.sign; right = valued_operand r a.right; bits = bits (value r.slots j) }

abbrev pub operand_used : Row → Option Operand → Option ValuedOperand
operand_used r None = None
operand_used r (Some o) = Some (valued_operand r o)

abbrev pub adder_used : Row → ℕ → Option Adder → Option ValuedAdder
adder_used r j None = None
adder_used r j (Some a) = Some (valued_adder r j a)

-- with its operands exchanged, if so said
abbrev pub turned : Bool → ValuedAdder → ValuedAdder
turned false u = u
turned true u = record { left = u.right; sign = u.sign; right = u.left; bits = u.bits }

abbrev pub is_plus : Sign → Bool
is_plus Plus = true
is_plus Minus = false
