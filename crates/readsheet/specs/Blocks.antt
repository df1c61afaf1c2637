-- What is printed for a block.
use Rattle.std.specs.Prelude.{ℕ, zero, suc, ◌/◌, ◌%◌, List, [], ◌++◌, Some, None, Option, codes, decimal}
use Rattle.blocks.specs.declared.model.Block.{Block}
use Rattle.blocks.specs.Blocks.{constant_at}
use Rattle.depths.specs.Depths.{block_depth}

-- the line of a live code, with the code in two digits; an idle one has none
abbrev pub code_text : ℕ → Option ℕ → List ℕ
code_text code None = []
code_text code (Some constant) = codes "s" ++ (decimal (code / 10) ++ (decimal (code % 10) ++ (codes "=" ++ (decimal constant ++ codes "\n"))))

-- the lines of so many codes from 0 on
abbrev pub codes_text : Block → ℕ → List ℕ
codes_text b zero = []
codes_text b (suc code) = codes_text b code ++ code_text code (constant_at b code)

abbrev pub block_text : Block → List ℕ
block_text b = codes_text b 16 ++ (codes "depth=" ++ decimal (block_depth b))
