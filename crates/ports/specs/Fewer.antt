-- A block that has some of the rows of another.
use Rattle.std.specs.Prelude.{◌≡◌, ℕ, ◌⊎◌, None}
use Rattle.adders.specs.declared.wiring.Operand.{Operand}
use Rattle.blocks.specs.declared.model.Block.{Block}
use Rattle.blocks.specs.Blocks.{row_of}
use Rattle.ports.specs.declared.port.Port.{Port}
use Rattle.ports.specs.Inputs.{inputs, Among}

-- each code of a is idle, or has the row that it has in b
abbrev pub SomeRows : Block → Block → Type 0
SomeRows a b = (code : ℕ) → (row_of a code ≡ None) ⊎ (row_of a code ≡ row_of b code)

-- then each input of a port in a is one in b
abbrev pub SomeInputs : Type 0
SomeInputs =
    (a b : Block)
    → SomeRows a b
    → (p : Port) (o : Operand)
    → Among o (inputs a p)
    → Among o (inputs b p)
