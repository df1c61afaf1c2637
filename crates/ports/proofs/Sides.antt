-- The operand at one side of an adder.
use Rattle.std.proofs.Common.{◌≡◌, Some, None, Option, refl, sym}
use Rattle.adders.specs.declared.wiring.Adder.{Adder}
use Rattle.adders.specs.declared.wiring.Operand.{Operand}
use Rattle.adders.proofs.Broken.{some_none}
use Rattle.ports.specs.Ports.{left_of, right_of}

pub left_is : (a : Option Adder) (o : Operand) → left_of a ≡ Some o → (x : Adder) × (a ≡ Some x) × (x.left ≡ o)
left_is None o e = absurd (some_none (sym e))
left_is (Some x) o e = (x, refl, cc)

pub right_is : (a : Option Adder) (o : Operand) → right_of a ≡ Some o → (x : Adder) × (a ≡ Some x) × (x.right ≡ o)
right_is None o e = absurd (some_none (sym e))
right_is (Some x) o e = (x, refl, cc)
