use Rattle.std.proofs.Common.{Ok, sym, subst}
use Rattle.std.proofs.lemmas.Result.{err_from_is_err_and}
use Rattle.kundrevez.specs.Host.{LineConstant, of_chain, turned_down}
use Rattle.kundrevez.proofs.calls.line_constant.Goals as goal

pub returns-in_err-read : goal.returns-in_err-read
returns-in_err-read c =
    let p = err_from_is_err_and c.from_residual.result c.from_residual.ensures.1 in
    record { answer = rw (p.1, p.2) (turned_down c.in_err-read.ensures.answer) }

pub returns : goal.returns
returns c = record { answer = subst (λ n. LineConstant c.args.line.now (Ok n)) (sym c.constant.ensures.value) (of_chain c.in_ok-read.ensures.answer) }
