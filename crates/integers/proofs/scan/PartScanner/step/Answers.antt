use Rattle.std.proofs.Common.{◌≡◌, [], ◌∷◌, ◌++◌, Some, None, rules}
use Rattle.std.specs.Option.{option_map}
use Rattle.forms.specs.Digits.{digit}
use Rattle.forms.proofs.Digits.{digit_none, digit_some}
use Rattle.integers.specs.declared.scan.Part.TheVariants.{Nothing, Number}
use Rattle.integers.specs.Scan.{Continued}
use Rattle.integers.proofs.Texts.{odd_off, continued_reached}
use Rattle.integers.proofs.scan.PartScanner.step.Goals as goal
use Rattle.integers.proofs.scan.PartScanner.step.Goals.{in_default-via-in-Nothing+in_default, in_default-via-in_default}

pub returns-in_err-of-in_default : goal.returns-in_err-of-in_default
returns-in_err-of-in_default c bs reached =
    let none : digit c.args.byte ≡ None = search rules in
    let no_minus : c.args.self ≡ Nothing → c.args.byte ≡ 45 → ⊥ =
    elim c.in_default.branch [ in_default-via-in-Nothing+in_default w ↦ search rules | in_default-via-in_default w ↦ search rules ] in
    rw c.from_residual.ensures (odd_off bs c.args.self c.args.byte reached (digit_none c.args.byte none) no_minus)

pub returns-in_ok-of-in_default : goal.returns-in_ok-of-in_default
returns-in_ok-of-in_default c bs reached =
    let d = c.in_ok-of-in_default.field-0 in
    let read : digit c.args.byte ≡ Some d = search rules in
    let made : Continued (bs ++ c.args.byte ∷ []) c.with_digit.result = rw (digit_some c.args.byte d read).0 (c.with_digit.ensures bs reached) in
    let wrapped : c.map.result ≡ option_map Number c.with_digit.result = search rules in
    rw wrapped (continued_reached (bs ++ c.args.byte ∷ []) c.with_digit.result made)
