-- Building a block row by row.
use Rattle.std.specs.Prelude.{◌≡◌, ℕ, Bool, not, ◌&&◌, List, [], ◌∷◌, ◌++◌, drop, is_none, is_some, None, nat_le}
use Rattle.std.specs.List.{list_all}
use Rattle.adders.specs.declared.refusals.Refusal.TheVariants.{TooManyAdders, WidthOutOfRange, CodeLive, BlockTooSmall}
use Rattle.adders.specs.Rules.{Rule, rule}
use Rattle.rows.specs.declared.model.Row.{Row}
use Rattle.tables.specs.Tables.{code_rules}
use Rattle.blocks.specs.declared.model.Block.{Block}
use Rattle.blocks.specs.Blocks.{row_of}

-- so many adders, samples of so many bits, and no live code
pub record Bare (a w : ℕ) (b : Block) : Type 0 where
  pub adders : b.adders ≡ a
  pub width : b.width ≡ w
  pub idle : (code : ℕ) → row_of b code ≡ None

-- at most eight adders, then a width from 1 to 32
abbrev pub size_rules : ℕ → ℕ → List Rule
size_rules a w = rule (nat_le a 8) TooManyAdders ∷ rule (nat_le 1 w && nat_le w 32) WidthOutOfRange ∷ []

-- the row uses none past so many adders
abbrev pub uses_none_past : ℕ → Row → Bool
uses_none_past a r = list_all is_none (drop a r.slots)

-- a code of the sixteen, then an idle one, then a row that uses the block's adders alone
abbrev pub filling_rules : Block → ℕ → Row → List Rule
filling_rules b code r = code_rules code ++ rule (not (is_some (row_of b code))) CodeLive ∷ rule (uses_none_past b.adders r) BlockTooSmall ∷ []
