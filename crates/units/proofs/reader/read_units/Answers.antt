use Rattle.std.proofs.lemmas.Result.{err_from_is_err_and}
use Rattle.units.proofs.Lines.{told, broken, reading_one}
use Rattle.units.proofs.reader.read_units.Goals as goal

pub returns-in_err-adds-clause-answer : goal.returns-in_err-adds-clause-answer
returns-in_err-adds-clause-answer c =
    let p = err_from_is_err_and c.from_residual.result c.from_residual.ensures.1 in
    rw (p.1, p.2) (broken c.args.line.now _ c.in_err-adds.ensures)

pub returns-in_err-adds-clause-only : goal.returns-in_err-adds-clause-only
returns-in_err-adds-clause-only c s said = reading_one c.args.line.now _ s said (returns-in_err-adds-clause-answer c)

pub returns-clause-only : goal.returns-clause-only
returns-clause-only c s said = reading_one c.args.line.now _ s said (told _ _ c.in_ok-adds.ensures)
