-- What a host program in C is answered.
--   line, sheet   the bytes that the host hands over
--   constant      the factor by which a sample is multiplied
use Rattle.std.specs.Prelude.{◌≡◌, ℕ, suc, Bool, true, false, List, Some, Ok, Err, Result, ℤ, pos, ◌-ℤ◌}
use Rattle.adders.specs.declared.refusals.Refusal.{Refusal}
use Rattle.adders.specs.Refusals.{refusal_entry}
use Rattle.adders.specs.Rules.{first_broken}
use Rattle.tables.specs.Tables.{live_rules}
use Rattle.chains.specs.declared.model.Chain.{Chain}
use Rattle.chains.specs.Chains.{chain_constant, Reading}
use Rattle.blocks.specs.declared.model.Block.{Block}
use Rattle.blocks.specs.Blocks.{constant_at}
use Rattle.sheetlaws.specs.Sheets.{IsSheet}
use Rattle.sheetlaws.specs.Refusing.{Refused}

-- the constant, or the number of the refusal made negative; the place is dropped
abbrev pub told : Result ℕ Refusal → ℤ
told (Ok constant) = pos constant
told (Err e) = pos 0 -ℤ pos (refusal_entry e).number

abbrev pub positive : ℤ → Bool
positive (pos (suc n)) = true
positive n = false

-- the constant of the chain that a line says, or why the line is turned down
pub data LineConstant (line : List ℕ) : Result ℕ Refusal → Type 0 where
  of_chain : {c : Chain} → Reading line (Ok c) → LineConstant line (Ok (chain_constant c))
  turned_down : {e : Refusal} → Reading line (Err e) → LineConstant line (Err e)

-- What stands against the sheet comes first: why the bytes are no sheet; or why the code has no constant in the block
-- that they are a sheet of, a code above 15 before an idle one; or the constant.
pub data SheetConstant (sheet : List ℕ) (code : ℕ) : Result ℕ Refusal → Type 0 where
  no_sheet : {e : Refusal} → Refused sheet e → SheetConstant sheet code (Err e)
  no_constant : {b : Block} {e : Refusal} → IsSheet sheet b → first_broken (live_rules code (constant_at b code)) ≡ Some e → SheetConstant sheet code (Err e)
  at_code : {b : Block} {n : ℕ} → IsSheet sheet b → constant_at b code ≡ Some n → SheetConstant sheet code (Ok n)

-- n tells an answer of which P holds
abbrev pub Told : (Result ℕ Refusal → Type 0) → ℤ → Type 0
Told P n = (r : Result ℕ Refusal) × P r × (n ≡ told r)
