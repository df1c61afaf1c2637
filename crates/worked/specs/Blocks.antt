-- Worked blocks, and what is claimed of them.
--   b, c   blocks
--   w      the width of samples
--   a      what running answers
--   x, r   a sample and its product
use Rattle.std.specs.Prelude.{◌≡◌, ℕ, ◌*◌, ◌%◌, ◌≤◌, ◌≢◌, List, ℤ, length, Some, None, Ok, Result}
use Rattle.std.specs.List.{AllByRecursion}
use Rattle.adders.specs.declared.refusals.Refusal.{Refusal}
use Rattle.arith.specs.declared.word.Word.{Word}
use Rattle.arith.specs.declared.residue.Residue.{Residue}
use Rattle.arith.specs.declared.residue.Mod255.{Mod255}
use Rattle.arith.specs.Words.{WordProduct, word_meaning, words}
use Rattle.arith.specs.Remainders.{Modular, residue, residues}
use Rattle.chains.specs.declared.model.Chain.{Chain}
use Rattle.chains.specs.Chains.{chain_adders, Reading}
use Rattle.rows.specs.declared.model.Row.{Row}
use Rattle.rows.specs.Rows.{RowOf}
use Rattle.blocks.specs.declared.model.Block.{Block}
use Rattle.blocks.specs.Blocks.{row_of, constant_at}
use Rattle.blocks.specs.Calls.{Call, Founded, Done}
use Rattle.blocks.specs.Runs.{RunAt}
use Rattle.depths.specs.Depths.{block_depth}
use Rattle.prices.specs.declared.per_bit.PerBitList.{PerBitList}
use Rattle.prices.specs.declared.per_bit.UnitPrices.{UnitPrices}
use Rattle.prices.specs.Supplied.{count_list, per_bit_list}
use Rattle.pricing.specs.Prices.{block_price}
use Rattle.placing.specs.Placements.{Placement, PlacedRow}
use Rattle.fusing.specs.Fusing.{Fusing}
use Rattle.worked.specs.Lines.{done, fault, call_answer}

-- the width of samples, where it matters
pub data Width : Type 0 where
  any : Width
  bits : ℕ → Width

-- the count list, or the units of a per-bit list
pub data Prices : Type 0 where
  count : Prices
  units : (adds subtracts both two_to_one : ℕ) → Prices

pub data Fact : Type 0 where
  depth : ℕ → Fact
  costs : Prices → ℕ → Fact
  -- the code has the row of this line
  shows : (code : ℕ) → List ℕ → Fact
  multiplies : (code constant : ℕ) → Fact
  -- running it makes a product of a sample: of a word, and of a residue by 255
  runs_word : (code : ℕ) (sample product : ℤ) → Fact
  runs_mod_255 : (code sample product : ℕ) → Fact
  -- a call is turned down
  refuses : Call → (number place : ℕ) → Fact
  -- it is done, and then this holds
  after : Call → Fact → Fact

-- two chain lines, at codes 0 and 1, and where the second stands
pub record TwoLines : Type 0 where
  pub width : Width
  pub first : List ℕ
  pub second : List ℕ
  pub placement : Placement

-- What each claims.

abbrev pub HasWidth : Width → ℕ → Type 0
HasWidth any w = (1 ≤ w) × (w ≤ 32)
HasWidth (bits n) w = w ≡ n

-- there is a list of these units, and under it the block costs so much
pub record CostsByUnits (units : UnitPrices) (n : ℕ) (b : Block) : Type 0 where
  pub list : PerBitList
  pub has : list.units ≡ units
  pub price : block_price (per_bit_list list) b ≡ n

abbrev pub Costs : Prices → ℕ → Block → Type 0
Costs count n b = block_price count_list b ≡ n
Costs (units a s o m) n b = CostsByUnits (record { adds = a; subtracts = s; both = o; two_to_one = m }) n b

pub record Shows (b : Block) (code : ℕ) (line : List ℕ) : Type 0 where
  pub chain : Chain
  pub reads : Reading line (Ok chain)
  pub row : Row
  pub there : row_of b code ≡ Some row
  pub of_chain : RowOf chain row

-- whatever running may answer is this product
abbrev pub RunsWord : Block → ℕ → ℤ → ℤ → Type 0
RunsWord b code x r = (a : Result Word Refusal) → RunAt (λ word. word_meaning word.value) words (λ n s p. WordProduct n s.value p.value) code (constant_at b code) (record { value = x }) a → a ≡ Ok (record { value = r })

pub record IsResidue (a : Result (Residue Mod255) Refusal) (r : ℕ) : Type 0 where
  pub product : Residue Mod255
  pub is : a ≡ Ok product
  pub number : product.number ≡ r

abbrev pub RunsMod255 : Block → ℕ → ℕ → ℕ → Type 0
RunsMod255 b code x r = (bounds : Modular 255) (sample : Residue Mod255) (a : Result (Residue Mod255) Refusal) → sample.number ≡ x → RunAt (λ s. residue bounds s.number) (residues bounds) (λ n s p. p.number ≡ (n * s.number) % 255) code (constant_at b code) sample a → IsResidue a r

abbrev pub Holds : Block → Fact → Type 0
Holds b (depth n) = block_depth b ≡ n
Holds b (costs prices n) = Costs prices n b
Holds b (shows code line) = Shows b code line
Holds b (multiplies code n) = constant_at b code ≡ Some n
Holds b (runs_word code x r) = RunsWord b code x r
Holds b (runs_mod_255 code x r) = RunsMod255 b code x r
Holds b (refuses call number place) = call_answer call b ≡ fault number place
Holds b (after call fact) = (call_answer call b ≡ done) × ((c : Block) → Done call b c → Holds c fact)

-- the first chain is founded at code 0, and the second is fused at code 1 under the count list
pub record Built (first second : Chain) (w : ℕ) (b : Block) : Type 0 where
  pub before : Block
  pub price : ℕ
  pub founded : Founded first 0 w before
  pub fused : Fusing (block_price count_list) second 1 before (Ok price) b

-- code 0 has the row of the first chain, code 1 that of the second at the placement p, and no other code is live
pub record TwoRows (first second : Chain) (p : Placement) (w : ℕ) (b : Block) : Type 0 where
  pub adders : b.adders ≡ length (chain_adders first)
  pub width : b.width ≡ w
  pub row_0 : Row
  pub row_1 : Row
  pub at_0 : row_of b 0 ≡ Some row_0
  pub at_1 : row_of b 1 ≡ Some row_1
  pub of_first : RowOf first row_0
  pub of_second : PlacedRow second p row_1
  pub others : (code : ℕ) → code ≢ 0 → code ≢ 1 → row_of b code ≡ None

-- The lines are read as chains, and some block is built of them.
-- In every such block the second stands at its placement, so that the block has their two rows,
-- and all this holds of every block that has them.
pub record AllHold (lines : TwoLines) (facts : List Fact) : Type 0 where
  pub first : Chain
  pub reads_first : Reading lines.first (Ok first)
  pub second : Chain
  pub reads_second : Reading lines.second (Ok second)
  pub some : (w : ℕ) → HasWidth lines.width w → (b : Block) × Built first second w b
  pub stands : (w : ℕ) (b : Block) → HasWidth lines.width w
      → (built : Built first second w b)
      → built.fused.1.placement ≡ lines.placement
  pub rows : (w : ℕ) (b : Block) → HasWidth lines.width w
      → Built first second w b
      → TwoRows first second lines.placement w b
  pub all : (w : ℕ) (b : Block) → HasWidth lines.width w
      → TwoRows first second lines.placement w b
      → AllByRecursion (Holds b) facts
