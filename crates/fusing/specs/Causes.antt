-- Why a fusing is turned down, in plain facts.
use Rattle.std.specs.Prelude.{◌≡◌, ℕ, ◌<◌, ◌≤◌, length, Some, None}
use Rattle.adders.specs.declared.refusals.Refusal.{Refusal}
use Rattle.adders.specs.declared.refusals.Refusal.TheVariants.{CodeAboveFifteen, CodeLive, BlockTooSmall}
use Rattle.adders.specs.Rules.{first_broken}
use Rattle.chains.specs.declared.model.Chain.{Chain}
use Rattle.chains.specs.Chains.{chain_adders}
use Rattle.blocks.specs.declared.model.Block.{Block}
use Rattle.blocks.specs.Blocks.{row_of, constant_at, Live}
use Rattle.fusing.specs.Fusing.{fusing_rules}

-- the cause that is told, which is met, while none before it is
pub data Cause (before : Block) (code : ℕ) (chain : Chain) : Refusal → Type 0 where
  no_code : 15 < code → Cause before code chain CodeAboveFifteen
  live : code ≤ 15 → Live before code → Cause before code chain CodeLive
  too_small : code ≤ 15
      → row_of before code ≡ None
      → before.adders < length (chain_adders chain)
      → Cause before code chain BlockTooSmall

abbrev pub CausesInOrder : Type 0
CausesInOrder =
    (before : Block) (code : ℕ) (chain : Chain) (e : Refusal)
    → first_broken (fusing_rules before.adders (constant_at before) chain code) ≡ Some e
    → Cause before code chain e
