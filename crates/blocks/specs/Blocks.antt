-- What a block has.
--   b      the block before
--   after  the block after
use Rattle.std.specs.Prelude.{◌≡◌, ℕ, ◌≢◌, true, is_some, Some, None, Option}
use Rattle.rows.specs.declared.model.Row.{Row}
use Rattle.rows.specs.Rows.{constant_of}
use Rattle.tables.specs.Tables.{row_at}
use Rattle.blocks.specs.declared.model.Block.{Block}

-- the row at a code, none where the code is idle or above 15
abbrev pub row_of : Block → ℕ → Option Row
row_of b code = row_at b.table code

abbrev pub Live : Block → ℕ → Type 0
Live b code = is_some (row_of b code) ≡ true

-- what a code multiplies by, if it is live
abbrev pub row_constant_of : Option Row → Option ℕ
row_constant_of None = None
row_constant_of (Some r) = Some (constant_of r)

abbrev pub constant_at : Block → ℕ → Option ℕ
constant_at b code = row_constant_of (row_of b code)

-- a place that is not yet founded
pub record Unfounded (b : Block) : Type 0 where
  pub adders : b.adders ≡ 0
  pub width : b.width ≡ 1
  pub idle : (code : ℕ) → row_of b code ≡ None

-- nothing differs but what stands at one code
pub record Rewritten (b : Block) (code : ℕ) (row : Option Row) (after : Block) : Type 0 where
  pub adders : after.adders ≡ b.adders
  pub width : after.width ≡ b.width
  pub there : row_of after code ≡ row
  pub others : (k : ℕ) → k ≢ code → row_of after k ≡ row_of b k

-- every code multiplies by what it did before
abbrev pub SameConstants : Block → Block → Type 0
SameConstants b after = (k : ℕ) → constant_at after k ≡ constant_at b k

-- blocks that have the same adders, width and rows are the same block
abbrev pub AllThatABlockHas : Type 0
AllThatABlockHas = (b c : Block) → b.adders ≡ c.adders → b.width ≡ c.width → ((k : ℕ) → row_of b k ≡ row_of c k) → b ≡ c
