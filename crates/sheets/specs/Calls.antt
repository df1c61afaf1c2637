-- Writing and reading a sheet.
use Rattle.std.specs.Prelude.{◌≡◌, ℕ, List, Ok, Err, Result}
use Rattle.adders.specs.declared.refusals.Refusal.{Refusal}
use Rattle.blocks.specs.declared.model.Block.{Block}
use Rattle.ports.specs.Inputs.{inputs}
use Rattle.reading.specs.Data.{said}
use Rattle.sheetlaws.specs.Sheets.{sheet_text, IsSheet}
use Rattle.sheetlaws.specs.Refusing.{Refused}

-- the sheet of a block that is written: each port's inputs ascend by source and then by shift
abbrev pub written_sheet : Block → List ℕ
written_sheet b = sheet_text (inputs b) (said b)

-- what reading some bytes over a block answers, and what it leaves in its place: the block that they are a sheet of, or the first cause why they are none
abbrev pub ReadOver : List ℕ → Block → Result Unit Refusal → Block → Type 0
ReadOver bytes before (Ok u) after = IsSheet bytes after
ReadOver bytes before (Err e) after = Refused bytes e × (after ≡ before)

-- whatever reading them over a block answers, it is done, and the block is this one
abbrev pub ReadsBack : List ℕ → Block → Type 0
ReadsBack bytes b = (before : Block) (r : Result Unit Refusal) (after : Block) → ReadOver bytes before r after → (r ≡ Ok tt) × (after ≡ b)
