use Rattle.std.proofs.Common.{◌≤◌, rules}
use Rattle.std.proofs.lemmas.Result.{err_from_is_err_and}
use Rattle.calls.specs.Widths.{width, long, outside}
use Rattle.calls.proofs.WidthLines.{told_width, broken, told_reading}
use Rattle.calls.proofs.width.read_width.Goals as goal

pub returns-then-line-gt-MOST_BYTES : goal.returns-then-line-gt-MOST_BYTES
returns-then-line-gt-MOST_BYTES c = told_reading (long c.if-line-gt-MOST_BYTES.true)

pub returns-in_err-width : goal.returns-in_err-width
returns-in_err-width c =
    let p = err_from_is_err_and c.from_residual.result c.from_residual.ensures.1 in
    rw (p.1, p.2) (told_reading (broken c.if-line-gt-MOST_BYTES.false c.in_err-width.ensures))

pub returns-then-not-contains : goal.returns-then-not-contains
returns-then-not-contains c =
    let off : 1 ≤ c.in_ok-width.width → c.in_ok-width.width ≤ 32 → ⊥ = search rules in
    told_reading (outside (told_width _ _ c.in_ok-width.ensures) off)

pub returns : goal.returns
returns c =
    let low : 1 ≤ c.in_ok-width.width = search rules in
    let high : c.in_ok-width.width ≤ 32 = search rules in
    told_reading (width (told_width _ _ c.in_ok-width.ensures) low high)
