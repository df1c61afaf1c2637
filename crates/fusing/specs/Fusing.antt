-- Fusing a chain at an idle code: the cheapest placement, and of several that cost as little the first.
--   cost        what a block costs
--   before      the block before, after the block after
--   p, q        placements of the chain
--   count       how many adders there are
--   constants   what each code multiplies by, or nothing where it is idle
use Rattle.std.specs.Prelude.{◌≡◌, ℕ, ◌<◌, ◌≤◌, Bool, true, false, not, ◌⊎◌, List, [], ◌∷◌, ◌++◌, length, is_some, None, Option, Result, nat_le}
use Rattle.adders.specs.declared.refusals.Refusal.{Refusal}
use Rattle.adders.specs.declared.refusals.Refusal.TheVariants.{CodeLive, BlockTooSmall}
use Rattle.adders.specs.Rules.{Rule, rule, Changed}
use Rattle.chains.specs.declared.model.Chain.{Chain}
use Rattle.chains.specs.Chains.{chain_adders}
use Rattle.tables.specs.Tables.{code_rules}
use Rattle.blocks.specs.declared.model.Block.{Block}
use Rattle.blocks.specs.Blocks.{row_of, constant_at}
use Rattle.search.specs.Choosing.{Lower}
use Rattle.placing.specs.Placements.{Placement, Admissible, Placed}

-- of two lists of swaps the first comes earlier: at the first adder where they differ, it leaves the operands as they are
abbrev pub Unswapped : List Bool → List Bool → Type 0
Unswapped [] ss = ⊥
Unswapped (r ∷ rs) [] = ⊥
Unswapped (r ∷ rs) (s ∷ ss) = ((r ≡ false) × (s ≡ true)) ⊎ ((r ≡ s) × Unswapped rs ss)

-- q comes before p: its list of places is the lower one, or the places are the same and its swaps come earlier
abbrev pub Before : Placement → Placement → Type 0
Before q p = Lower q.places p.places ⊎ ((q.places ≡ p.places) × Unswapped q.swaps p.swaps)

-- Of all admissible placements none would have left a block that costs less, and none that comes before this one a block that costs as little.
pub record Chosen (cost : Block → ℕ) (before : Block) (code : ℕ) (chain : Chain) (p : Placement) (after : Block) : Type 0 where
  pub admissible : Admissible before chain p
  pub placed : Placed before code chain p after
  pub least : (q : Placement) (other : Block)
      → Admissible before chain q
      → Placed before code chain q other
      → cost after ≤ cost other
  pub first : (q : Placement) (other : Block)
      → Admissible before chain q
      → Placed before code chain q other
      → Before q p
      → cost after < cost other

-- what fusing leaves and answers: the block's new price
pub record Fused (cost : Block → ℕ) (before : Block) (code : ℕ) (chain : Chain) (price : ℕ) (after : Block) : Type 0 where
  pub placement : Placement
  pub chosen : Chosen cost before code chain placement after
  pub priced : price ≡ cost after

-- A code of the sixteen, then one with nothing there, then a chain with no more adders than there are.
-- All of it is asked of what a block and a plain book both show.
abbrev pub fusing_rules : ℕ → (ℕ → Option ℕ) → Chain → ℕ → List Rule
fusing_rules count constants chain code =
    code_rules code
    ++ rule (not (is_some (constants code))) CodeLive
    ∷ rule (nat_le (length (chain_adders chain)) count) BlockTooSmall
    ∷ []

-- the code is one of sixteen and idle, and the block has no fewer adders than the chain
pub record Fusable (before : Block) (code : ℕ) (chain : Chain) : Type 0 where
  pub one_of_sixteen : code ≤ 15
  pub idle : row_of before code ≡ None
  pub enough : length (chain_adders chain) ≤ before.adders

-- What the rules say of one fusing, its answer and the block after it.
abbrev pub Fusing : (Block → ℕ) → Chain → ℕ → Block → Result ℕ Refusal → Block → Type 0
Fusing cost chain code before r after =
    Changed (fusing_rules before.adders (constant_at before) chain code) before
    (λ price b. Fused cost before code chain price b) r after

-- the placement, the answer and the block are determined
abbrev pub FusingIsDetermined : Type 0
FusingIsDetermined =
    (cost : Block → ℕ) (before : Block) (code : ℕ) (chain : Chain) (m n : ℕ) (a b : Block)
    → (f : Fused cost before code chain m a)
    → (g : Fused cost before code chain n b)
    → (f.placement ≡ g.placement) × (m ≡ n) × (a ≡ b)
