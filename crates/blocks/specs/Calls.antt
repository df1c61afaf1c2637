-- The calls that change a block: the causes to turn each down, in the order in which they are tried, and what it makes of the block.
--   b      the block before
--   after  the block after
use Rattle.std.specs.Prelude.{◌≡◌, ℕ, ◌&&◌, ◌≢◌, List, [], ◌∷◌, ◌++◌, ℤ, length, Some, None, Option, Result, nat_le}
use Rattle.adders.specs.declared.refusals.Refusal.{Refusal}
use Rattle.adders.specs.declared.refusals.Refusal.TheVariants.{WidthOutOfRange}
use Rattle.adders.specs.Rules.{Rule, rule, Changed}
use Rattle.chains.specs.declared.model.Chain.{Chain}
use Rattle.chains.specs.Chains.{chain_adders, chain_constant}
use Rattle.rows.specs.declared.model.Row.{Row}
use Rattle.rows.specs.Rows.{constant_of, RowOf}
use Rattle.rows.specs.Moving.{move_rules, MovedRow, Movable}
use Rattle.tables.specs.Tables.{code_rules, live_rules}
use Rattle.blocks.specs.declared.model.Block.{Block}
use Rattle.blocks.specs.Blocks.{row_of, Rewritten}

-- a call, by its arguments
pub data Call : Type 0 where
  founding : (chain : Chain) (code width : ℕ) → Call
  retiring : (code : ℕ) → Call
  moving : (code adder : ℕ) (amount : ℤ) → Call

-- the causes of a row, if there is one
abbrev pub row_move_rules : Option Row → ℕ → ℤ → List Rule
row_move_rules None adder amount = []
row_move_rules (Some r) adder amount = move_rules r adder amount

-- a code of the sixteen, then a width from 1 to 32
abbrev pub founding_rules : ℕ → ℕ → List Rule
founding_rules code width = code_rules code ++ rule (nat_le 1 width && nat_le width 32) WidthOutOfRange ∷ []

abbrev pub call_rules : Call → Block → List Rule
call_rules (founding chain code width) b = founding_rules code width
call_rules (retiring code) b = live_rules code (row_of b code)
call_rules (moving code adder amount) b = live_rules code (row_of b code) ++ row_move_rules (row_of b code) adder amount

-- the block has the chain's adders, and at this code alone a row, which is the chain's, whatever was there before
pub record Founded (chain : Chain) (code w : ℕ) (after : Block) : Type 0 where
  pub adders : after.adders ≡ length (chain_adders chain)
  pub width : after.width ≡ w
  pub row : Row
  pub there : row_of after code ≡ Some row
  pub of_chain : RowOf chain row
  pub constant : constant_of row ≡ chain_constant chain
  pub others : (k : ℕ) → k ≢ code → row_of after k ≡ None

-- the row at this code is moved
pub record Moved (b : Block) (code adder : ℕ) (amount : ℤ) (after : Block) : Type 0 where
  pub before : Row
  pub was : row_of b code ≡ Some before
  pub row : Row
  pub moved : MovedRow before adder amount row
  pub rest : Rewritten b code (Some row) after

-- the code is live, and its row can be moved so
pub record MovableAt (b : Block) (code adder : ℕ) (amount : ℤ) : Type 0 where
  pub row : Row
  pub there : row_of b code ≡ Some row
  pub movable : Movable row adder amount

abbrev pub Done : Call → Block → Block → Type 0
Done (founding chain code width) b after = Founded chain code width after
Done (retiring code) b after = Rewritten b code None after
Done (moving code adder amount) b after = Moved b code adder amount after

-- What the rules say of one call, its answer and the block after it: the first cause that is met is answered, and then the block is as it was.
abbrev pub Step : Call → Block → Result Unit Refusal → Block → Type 0
Step call b r after = Changed (call_rules call b) b (λ _ c. Done call b c) r after
