use Rattle.std.proofs.Common.{refl}
use Rattle.std.proofs.lemmas.Bool.{false≢true}
use Rattle.std.proofs.lemmas.Result.{err_from_is_err_and}
use Rattle.sheets.proofs.ReadOver.{is_sheet, only_block, turned_down, no_sheet}
use Rattle.sheets.proofs.calls.read.Goals as goal

pub returns-in_err-block-clause-answer : goal.returns-in_err-block-clause-answer
returns-in_err-block-clause-answer c =
    let p = err_from_is_err_and c.from_residual.result c.from_residual.ensures.1 in
    rw (p.1, p.2) (turned_down c.args.sheet.now c.in_err-block.field-0.0 c.args.block.now c.in_err-block.ensures)

pub returns-in_err-block-clause-exactly : goal.returns-in_err-block-clause-exactly
returns-in_err-block-clause-exactly c =
    let p = err_from_is_err_and c.from_residual.result c.from_residual.ensures.1 in
    rw p.1 (λ e. absurd (false≢true e), λ h. absurd (no_sheet c.args.sheet.now c.in_err-block.field-0.0 c.in_err-block.ensures h.0 h.1))

pub returns-in_err-block-clause-every : goal.returns-in_err-block-clause-every
returns-in_err-block-clause-every c = λ b h. absurd (no_sheet c.args.sheet.now c.in_err-block.field-0.0 c.in_err-block.ensures b h)

pub returns-clause-answer : goal.returns-clause-answer
returns-clause-answer c = is_sheet c.args.sheet.now c.in_ok-block.field-0 c.in_ok-block.ensures

pub returns-clause-exactly : goal.returns-clause-exactly
returns-clause-exactly c = (λ _. (c.in_ok-block.field-0, is_sheet c.args.sheet.now c.in_ok-block.field-0 c.in_ok-block.ensures), λ _. refl)

pub returns-clause-every : goal.returns-clause-every
returns-clause-every c = λ b h. (refl, only_block c.args.sheet.now c.in_ok-block.field-0 c.in_ok-block.ensures b h)
