-- The staged reader reads sheets and nothing else, and tells the first cause why bytes are none.
use Rattle.std.specs.Prelude.{◌≡◌, ℕ, List, Ok, Err}
use Rattle.adders.specs.declared.refusals.Refusal.{Refusal}
use Rattle.blocks.specs.declared.model.Block.{Block}
use Rattle.reading.specs.Data.{said}
use Rattle.reading.specs.Reader.{read_sheet}
use Rattle.sheetlaws.specs.Sheets.{IsSheet}
use Rattle.sheetlaws.specs.Refusing.{Refused}

-- bytes are accepted exactly if they are a sheet of some block, and as that block
abbrev pub SheetsAreRead : Type 0
SheetsAreRead = (bytes : List ℕ) (b : Block) → (read_sheet bytes ≡ Ok (said b) → IsSheet bytes b) × (IsSheet bytes b → read_sheet bytes ≡ Ok (said b))

-- the reader's refusal is the first cause, line by line, and no other is
abbrev pub RefusalsAreTold : Type 0
RefusalsAreTold = (bytes : List ℕ) (e : Refusal) → (read_sheet bytes ≡ Err e → Refused bytes e) × (Refused bytes e → read_sheet bytes ≡ Err e)
