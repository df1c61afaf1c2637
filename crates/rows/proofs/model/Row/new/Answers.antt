use Rattle.std.proofs.Common.{refl}
use Rattle.std.proofs.lemmas.Result.{err_from_is_err_and}
use Rattle.rows.specs.Rows.{kept, broken}
use Rattle.rows.proofs.Answering.{told_new}
use Rattle.rows.proofs.model.Row.new.Goals as goal

pub returns-in_err-constant_of : goal.returns-in_err-constant_of
returns-in_err-constant_of c =
    let p = err_from_is_err_and c.from_residual.result c.from_residual.ensures.1 in
    rw (p.1, p.2) (told_new (broken c.in_err-constant_of.ensures))

pub returns : goal.returns
returns c = told_new (kept c.in_ok-constant_of.ensures.0 refl refl)
