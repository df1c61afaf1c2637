-- Placements: where each adder of a chain stands among those of a block, and whether its operands are swapped.
--   p       a placement: for each adder of the chain, adder 1 first, the number of the block's adder at which it stands, and whether its operands are swapped
--   c, d    adders of the chain, counted from 0
--   j       the number of an adder of the block
--   before  the block before; a, b: blocks after
--   r, s    rows
use Rattle.std.specs.Prelude.{◌≡◌, ℕ, zero, suc, ◌<◌, ◌≤◌, ◌≢◌, Bool, true, false, List, length, Some, None, Option, slice_index, slice_index_or}
use Rattle.adders.specs.declared.wiring.Adder.{Adder}
use Rattle.adders.specs.declared.wiring.Operand.{Operand}
use Rattle.adders.specs.declared.wiring.Sign.TheVariants.{Minus}
use Rattle.adders.specs.Values.{wired}
use Rattle.chains.specs.declared.model.Chain.{Chain}
use Rattle.chains.specs.Chains.{chain_adders, chain_constant}
use Rattle.rows.specs.declared.model.Row.{Row}
use Rattle.rows.specs.Reading.{HasSource}
use Rattle.rows.specs.Rows.{adder_at, constant_of}
use Rattle.blocks.specs.declared.model.Block.{Block}
use Rattle.blocks.specs.Blocks.{Rewritten}

pub record Placement : Type 0 where
  pub places : List ℕ
  pub swaps : List Bool

-- adder d + 1 of the chain
abbrev pub nth_adder : Chain → ℕ → Option Adder
nth_adder chain d = slice_index_or (wired (chain_adders chain)) d None

-- the block's adder at which adder d + 1 of the chain stands, and whether its operands are swapped
abbrev pub place : Placement → ℕ → ℕ
place p d = slice_index p.places d

abbrev pub swap : Placement → ℕ → Bool
swap p d = slice_index_or p.swaps d false

-- Each adder of the chain stands at an adder of the block of its own, above those that feed it; the operands of a minus adder are never swapped.
pub record Admissible (before : Block) (chain : Chain) (p : Placement) : Type 0 where
  pub each_placed : length p.places ≡ length (chain_adders chain)
  pub each_told : length p.swaps ≡ length (chain_adders chain)
  pub inside : (d : ℕ) → d < length p.places → (1 ≤ place p d) × (place p d ≤ before.adders)
  pub apart : (c d : ℕ) → c < d → d < length p.places → place p c ≢ place p d
  pub fed : (c d : ℕ) (a : Adder) → nth_adder chain d ≡ Some a → HasSource a (suc c) → place p c < place p d
  pub kept : (d : ℕ) (a : Adder) → nth_adder chain d ≡ Some a → a.sign ≡ Minus → swap p d ≡ false

-- What a placement makes of the chain.

-- a source of the chain as a source of the block: the sample stays, an adder is where it stands
abbrev pub placed_source : Placement → ℕ → ℕ
placed_source p zero = 0
placed_source p (suc d) = place p d

abbrev pub placed_operand : Placement → Operand → Operand
placed_operand p o = record { source = placed_source p o.source; shift = o.shift }

abbrev pub placed_adder : Placement → Bool → Adder → Adder
placed_adder p false a = record { left = placed_operand p a.left; sign = a.sign; right = placed_operand p a.right }
placed_adder p true a = record { left = placed_operand p a.right; sign = a.sign; right = placed_operand p a.left }

-- The row that the chain has there: its adders at their places and no others, and an output that reads where the chain's adder
-- of the highest number stands (the sample, of a chain without adders) with the output shift of the chain.
pub record PlacedRow (chain : Chain) (p : Placement) (row : Row) : Type 0 where
  pub there : (d : ℕ) (a : Adder) → nth_adder chain d ≡ Some a → adder_at row (place p d) ≡ Some (placed_adder p (swap p d) a)
  pub others : (j : ℕ) → ((d : ℕ) → d < length p.places → place p d ≢ j) → adder_at row j ≡ None
  pub source : row.output.source ≡ placed_source p (length (chain_adders chain))
  pub shift : row.output.shift ≡ chain.shift

-- The block after, if the chain stands so at a code of the block before.
pub record Placed (before : Block) (code : ℕ) (chain : Chain) (p : Placement) (after : Block) : Type 0 where
  pub row : Row
  pub of_chain : PlacedRow chain p row
  pub rest : Rewritten before code (Some row) after

-- What holds of placements.

-- at each admissible placement the chain has one row, and one block is left by it; the row multiplies by the chain's constant
pub record PlacementLaw : Type 0 where
  pub row : (before : Block) (chain : Chain) (p : Placement) → Admissible before chain p → (row : Row) × PlacedRow chain p row
  pub row_one : (before : Block) (chain : Chain) (p : Placement) (r s : Row)
      → Admissible before chain p
      → PlacedRow chain p r
      → PlacedRow chain p s
      → r ≡ s
  pub constant : (before : Block) (chain : Chain) (p : Placement) (r : Row)
      → Admissible before chain p
      → PlacedRow chain p r
      → constant_of r ≡ chain_constant chain
  pub block : (before : Block) (code : ℕ) (chain : Chain) (p : Placement)
      → code ≤ 15
      → Admissible before chain p
      → (after : Block) × Placed before code chain p after
  pub block_one : (before : Block) (code : ℕ) (chain : Chain) (p : Placement) (a b : Block)
      → Admissible before chain p
      → Placed before code chain p a
      → Placed before code chain p b
      → a ≡ b
  -- there is a placement exactly where the block has no fewer adders than the chain
  pub some : (before : Block) (chain : Chain) → length (chain_adders chain) ≤ before.adders → (p : Placement) × Admissible before chain p
  pub enough : (before : Block) (chain : Chain) (p : Placement) → Admissible before chain p → length (chain_adders chain) ≤ before.adders
