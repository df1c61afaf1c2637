-- What is accepted is a sheet, and every sheet is accepted.
use Rattle.sheetlaws.specs.SheetLaws.{SheetsAreRead}
use Rattle.sheetlaws.proofs.Sound.{sound}
use Rattle.sheetlaws.proofs.Complete.{complete}

pub sheets_read : SheetsAreRead
sheets_read bytes b = (sound bytes b, complete bytes b)
