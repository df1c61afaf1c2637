use Rattle.sheets.proofs.Writes.{CodesFinish}
use Rattle.sheets.proofs.writer.write_codes.Given as goal

abbrev pub invariant-loop-code : goal.invariant-loop-code
invariant-loop-code l = CodesFinish l.fn.lists.block.now l.fn.text l.text l.code
