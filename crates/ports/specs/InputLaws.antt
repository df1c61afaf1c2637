-- What a port's inputs are.
use Rattle.std.specs.Prelude.{◌≡◌, ◌≤◌, List, length}
use Rattle.adders.specs.declared.wiring.Operand.{Operand}
use Rattle.blocks.specs.declared.model.Block.{Block}
use Rattle.ports.specs.declared.port.Port.{Port}
use Rattle.ports.specs.Inputs.{inputs, Among, Ascends, Selected}

-- the operands that live rows put at a port, each once, in ascending order
pub record InputsOf (b : Block) (p : Port) (os : List Operand) : Type 0 where
  pub ascending : Ascends os
  pub only : (o : Operand) → Among o os → Selected b p o
  pub all : (o : Operand) → Selected b p o → Among o os

-- a block's inputs are these, no other list is, and they are at most sixteen
pub record InputsLaw : Type 0 where
  pub these : (b : Block) (p : Port) → InputsOf b p (inputs b p)
  pub alone : (b : Block) (p : Port) (os : List Operand) → InputsOf b p os → os ≡ inputs b p
  pub few : (b : Block) (p : Port) → length (inputs b p) ≤ 16
