use Rattle.sheetlaws.proofs.Accepting.{sheets_read}
use Rattle.sheetlaws.proofs.laws.sheets_are_read.Goals as goal

pub returns : goal.returns
returns c = sheets_read
