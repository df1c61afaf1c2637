use Rattle.std.proofs.Common.{◌≡◌, ◌<◌, ◌≤◌, ◌^◌, None, Some, rules}
use Rattle.forms.specs.Digits.{digit}
use Rattle.integers.specs.NaturalScan.{grown}
use Rattle.integers.proofs.NaturalTexts.{no_digit_off, zero_off, past_off, grown_on}
use Rattle.integers.proofs.natural.NaturalScanner.step.Goals as goal

pub returns-in_err-of : goal.returns-in_err-of
returns-in_err-of g c bs reached =
    let none : digit c.args.byte ≡ None = search rules in
    rw c.from_residual.ensures (no_digit_off g.row.LAST bs c.args.byte none)

pub returns-in_err-number : goal.returns-in_err-number
returns-in_err-number g c bs reached =
    let d = c.in_ok-of.field-0 in
    let some : digit c.args.byte ≡ Some d = search rules in
    let made : grown c.args.self d ≡ None = search rules in
    rw c.from_residual-in_err-number.ensures (zero_off g.row.LAST bs c.args.byte d some c.args.self reached made)

pub returns-then-number-from : goal.returns-then-number-from
returns-then-number-from g c bs reached =
    let d = c.in_ok-of.field-0 in
    let n = c.in_ok-number.number in
    let some : digit c.args.byte ≡ Some d = search rules in
    let made : grown c.args.self d ≡ Some n = search rules in
    let past : g.row.LAST < n = search rules in
    past_off g.row.LAST bs c.args.byte d some c.args.self n reached made past

pub returns : goal.returns
returns g c bs reached =
    let d = c.in_ok-of.field-0 in
    let n = c.in_ok-number.number in
    let some : digit c.args.byte ≡ Some d = search rules in
    let made : grown c.args.self d ≡ Some n = search rules in
    let most : n ≤ g.row.LAST = search rules in
    let held : n < 2 ^ 32 = search rules in
    grown_on g.row.LAST bs c.args.byte d some c.args.self n reached made most held
