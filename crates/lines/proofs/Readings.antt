-- A line is read in one way only.
use Rattle.std.proofs.Common.{◌≡◌, ℕ, ◌+◌, ◌*◌, ◌/◌, ◌%◌, List, decimal, sym, ◌∙◌, arith}
use Rattle.std.proofs.lemmas.Fmt.{decimal_digit, decimal_step}
use Rattle.adders.specs.declared.wiring.Operand.{Operand}
use Rattle.adders.specs.declared.wiring.Adder.{Adder}
use Rattle.lines.specs.Form.{Decimal, one, two, OperandForm, operand, AdderForm, adder, AddersForm, none, more, Line, line, Form, operand_text, adder_text, adders_text, line_text, OneReading}
use Rattle.forms.proofs.Breaks.{breaks_once}
use Rattle.lines.proofs.Texts.{says_one}

decimal_written : {n : ℕ} {bs : List ℕ} → Decimal n bs → bs ≡ decimal n
decimal_written (one {d = d} h) = sym (decimal_digit d (omega arith))
decimal_written (two {d = d} {e = e} a h k) =
    let tens : (10 * d + e) / 10 ≡ d = omega arith in
    let units : (10 * d + e) % 10 ≡ e = omega arith in
    sym (decimal_step (10 * d + e) (omega arith) (omega arith) ∙ simp (tens, units, decimal_digit d (omega arith)))

operand_written : {o : Operand} {bs : List ℕ} → OperandForm o bs → bs ≡ operand_text o
operand_written (operand a b) = let p = decimal_written a in let q = decimal_written b in cc

adder_written : {a : Adder} {bs : List ℕ} → AdderForm a bs → bs ≡ adder_text a
adder_written (adder a b) = let p = operand_written a in let q = operand_written b in cc

adders_written : {xs : List Adder} {bs : List ℕ} → AddersForm xs bs → bs ≡ adders_text xs
adders_written none = cc
adders_written (more a b) = let p = adder_written a in let q = adders_written b in cc

pub line_written : {xs : List Adder} {out : ℕ} {bs : List ℕ} → Line xs out bs → bs ≡ line_text xs out
line_written (line a b) = let p = adders_written a in let q = decimal_written b in cc

pub one_reading : OneReading
one_reading = record { says_one = says_one; written = line_written; breaks_once = breaks_once Form }
