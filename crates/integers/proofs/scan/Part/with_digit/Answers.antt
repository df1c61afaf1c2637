use Rattle.std.proofs.Common.{◌≡◌, pos, rules, subst, arith}
use Rattle.std.proofs.lemmas.Int.{ints}
use Rattle.integers.proofs.scan.Part.with_digit.Goals as goal
use Rattle.integers.specs.Scan.{Reached, longer}
use Rattle.std.specs.Prelude.{SomeIff}
use Rattle.arith.specs.Words.{InWord}
use Rattle.integers.proofs.Texts.{nothing_on, minus_on, minus_off, zero_off, longer_told}
use Rattle.integers.specs.declared.scan.Part.TheVariants.{Number}

pub returns-in-Nothing : goal.returns-in-Nothing
returns-in-Nothing c bs reached =
    nothing_on bs c.args.digit _ (subst (Reached bs) c.in-Nothing.is reached) (omega arith) (omega (arith, ints))

pub returns-in-Minus : goal.returns-in-Minus
returns-in-Minus c bs reached = minus_off bs c.args.digit (subst (Reached bs) c.in-Minus.is reached) (omega (arith, ints))

pub returns-in-Minus-2 : goal.returns-in-Minus-2
returns-in-Minus-2 c bs reached =
    minus_on bs c.args.digit _ (subst (Reached bs) c.in-Minus.is reached) (omega (arith, ints)) (omega arith) (omega (arith, ints))

pub returns-in-Number-eq0 : goal.returns-in-Number-eq0
returns-in-Number-eq0 c bs reached =
    let is : c.args.self ≡ Number (pos 0) = search rules in
    zero_off bs c.args.digit (subst (Reached bs) is reached)

pub returns-in-Number : goal.returns-in-Number
returns-in-Number c bs reached =
    let z = c.in-Number.number in
    let some : z ≡ pos 0 → ⊥ = search rules in
    let told : SomeIff c.longer.result (InWord (longer z c.args.digit)) (longer z c.args.digit) = search rules in
    longer_told bs z c.args.digit c.longer.result (subst (Reached bs) c.in-Number.is reached) some (omega arith) told
