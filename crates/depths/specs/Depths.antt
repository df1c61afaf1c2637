-- Depths: how many adders and two-way multiplexers stand one behind the other.
--   d     the depth of each source
--   b j   a block and an adder's number, or 0 for the sample
use Rattle.std.specs.Prelude.{ℕ, zero, suc, ◌+◌, List, [], ◌∷◌, length, max}
use Rattle.adders.specs.declared.wiring.Operand.{Operand}
use Rattle.blocks.specs.declared.model.Block.{Block}
use Rattle.ports.specs.declared.port.Port.{Port}
use Rattle.ports.specs.declared.port.Port.TheVariants.{Left, Right, Output}
use Rattle.ports.specs.Inputs.{inputs}
use Rattle.bits.specs.Bits.{bits}

-- the depth of the deepest source
abbrev pub deepest : (ℕ → ℕ) → List Operand → ℕ
deepest d [] = 0
deepest d (o ∷ os) = max (d o.source) (deepest d os)

-- of a port with these inputs: the levels of its multiplexer, each of which halves what is left to choose from, behind the deepest source
abbrev pub inputs_depth : (ℕ → ℕ) → List Operand → ℕ
inputs_depth d [] = 0
inputs_depth d (o ∷ os) = bits (length (o ∷ os)) + deepest d (o ∷ os)

-- n, or 0 where there are no inputs
abbrev pub if_any : List Operand → ℕ → ℕ
if_any [] n = 0
if_any (o ∷ os) n = n

-- one more than the deeper port's, whose sources are followed so many rounds; 0 where no row uses the adder
abbrev pub adder_depth_within : ℕ → Block → ℕ → ℕ
adder_depth_within rounds b zero = 0
adder_depth_within zero b (suc j) = 0
adder_depth_within (suc rounds) b (suc j) =
    if_any (inputs b (Left (suc j)))
    (1 + max (inputs_depth (adder_depth_within rounds b) (inputs b (Left (suc j)))) (inputs_depth (adder_depth_within rounds b) (inputs b (Right (suc j)))))

-- sources are lower than their reader, so that eight rounds are enough for eight adders
unfoldable pub adder_depth : Block → ℕ → ℕ
adder_depth b j = adder_depth_within 8 b j

-- 0 without inputs
abbrev pub port_depth : Block → Port → ℕ
port_depth b p = inputs_depth (adder_depth b) (inputs b p)

-- that of its output
abbrev pub block_depth : Block → ℕ
block_depth b = port_depth b Output
