-- What depths are.
--   d   the depth of each source of a block, the sample's and the adders'
--   e   the depth of each port
use Rattle.std.specs.Prelude.{◌≡◌, ℕ, ◌+◌, ◌≤◌, true, [], length, max}
use Rattle.adders.specs.declared.wiring.Operand.{Operand}
use Rattle.blocks.specs.declared.model.Block.{Block}
use Rattle.blocks.specs.Uses.{uses}
use Rattle.ports.specs.declared.port.Port.{Port}
use Rattle.ports.specs.declared.port.Port.TheVariants.{Left, Right, Output}
use Rattle.ports.specs.Inputs.{inputs, Among}
use Rattle.bits.specs.Bits.{bits}
use Rattle.depths.specs.Depths.{adder_depth, port_depth, block_depth}

-- some live row uses the adder
abbrev pub IsUsed : Block → ℕ → Type 0
IsUsed b j = (code : ℕ) × (uses b.table code j ≡ true)

-- m is the depth of the deepest source among a port's inputs
pub record IsDeepest (b : Block) (d : ℕ → ℕ) (p : Port) (m : ℕ) : Type 0 where
  pub input : Operand
  pub among : Among input (inputs b p)
  pub reached : d input.source ≡ m
  pub most : (o : Operand) → Among o (inputs b p) → d o.source ≤ m

-- the rules of depth
pub record FollowsRules (b : Block) (d : ℕ → ℕ) (e : Port → ℕ) : Type 0 where
  pub sample : d 0 ≡ 0
  pub unused : (j : ℕ) → (IsUsed b j → ⊥) → d j ≡ 0
  pub used : (j : ℕ) → IsUsed b j → d j ≡ 1 + max (e (Left j)) (e (Right j))
  pub no_inputs : (p : Port) → inputs b p ≡ [] → e p ≡ 0
  pub some_inputs : (p : Port) (m : ℕ) → IsDeepest b d p m → e p ≡ bits (length (inputs b p)) + m

-- the depths follow their rules, and no others do
pub record DepthsFollow : Type 0 where
  pub these : (b : Block) → FollowsRules b (adder_depth b) (port_depth b)
  pub alone : (b : Block) (d : ℕ → ℕ) (e : Port → ℕ) → FollowsRules b d e → ((j : ℕ) → d j ≡ adder_depth b j) × ((p : Port) → e p ≡ port_depth b p)
  pub block : (b : Block) → block_depth b ≡ port_depth b Output
