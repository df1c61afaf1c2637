use Rattle.sheets.proofs.Canonical.{is_sheet}
use Rattle.sheets.proofs.Writes.{written_back}
use Rattle.sheets.proofs.calls.write.Goals as goal

pub returns-clause-sheet : goal.returns-clause-sheet
returns-clause-sheet c = is_sheet c.args.block.now

pub returns-clause-again : goal.returns-clause-again
returns-clause-again c = written_back c.args.block.now c.sheet_of.result c.args.buffer.now c.copy_to.result c.copy_to.new.buffer c.sheet_of.ensures c.copy_to.ensures
