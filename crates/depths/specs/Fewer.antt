-- How the depths of blocks compare, of which one has some of the rows of the other.
--   a, b    blocks
--   before  the block before a call, after the block after it
use Rattle.std.specs.Prelude.{◌≡◌, ℕ, ◌≤◌, Some, None, Result}
use Rattle.adders.specs.declared.refusals.Refusal.{Refusal}
use Rattle.rows.specs.declared.model.Row.{Row}
use Rattle.blocks.specs.declared.model.Block.{Block}
use Rattle.blocks.specs.Blocks.{row_of, Rewritten}
use Rattle.blocks.specs.Calls.{retiring, Step}
use Rattle.ports.specs.declared.port.Port.{Port}
use Rattle.ports.specs.Fewer.{SomeRows}
use Rattle.depths.specs.Depths.{adder_depth, port_depth, block_depth}

-- a is nowhere deeper than b: at no adder, at no port, and not as a whole
pub record NoDeeper (a b : Block) : Type 0 where
  pub adders : (j : ℕ) → adder_depth a j ≤ adder_depth b j
  pub ports : (p : Port) → port_depth a p ≤ port_depth b p
  pub whole : block_depth a ≤ block_depth b

-- whatever rows there are already, more make nothing shallower
abbrev pub RowsNeverShallower : Type 0
RowsNeverShallower = (a b : Block) → SomeRows a b → NoDeeper a b

-- so that retiring makes nothing deeper, and a row at an idle code nothing shallower
pub record CallsNeverShallower : Type 0 where
  pub retired : (code : ℕ) (before after : Block) (r : Result Unit Refusal)
      → Step (retiring code) before r after
      → NoDeeper after before
  pub added : (code : ℕ) (row : Row) (before after : Block)
      → row_of before code ≡ None
      → Rewritten before code (Some row) after
      → NoDeeper before after
