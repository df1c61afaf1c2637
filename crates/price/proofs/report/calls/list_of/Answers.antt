use Rattle.std.proofs.lemmas.Result.{err_from_is_err_and}
use Rattle.price.specs.Reports.{broken}
use Rattle.price.proofs.Inputs.{made}
use Rattle.price.proofs.report.calls.list_of.Goals as goal

pub returns-in_err-read_units : goal.returns-in_err-read_units
returns-in_err-read_units c =
    let p = err_from_is_err_and c.from_residual.result c.from_residual.ensures.1 in
    rw (p.1, p.2) (broken _ c.in_err-read_units.ensures.answer)

pub returns : goal.returns
returns c = made c.args.line.now _ c.new.result c.in_ok-read_units.ensures.answer c.new.ensures.answer
