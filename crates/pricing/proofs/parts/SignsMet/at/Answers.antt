use Rattle.std.proofs.Common.{Some, None, sym, ap, ◌∙◌}
use Rattle.adders.specs.declared.wiring.Sign.TheVariants.{Plus, Minus}
use Rattle.pricing.proofs.Columns.{sign_more}
use Rattle.pricing.proofs.parts.SignsMet.at.Goals as goal

pub loop-code-preserved-in-Some-Plus : goal.loop-code-preserved-in-Some-Plus
loop-code-preserved-in-Some-Plus c =
    let more = sign_more c.args.block.now c.args.adder c.loop-code.code (Some Plus) c.loop-code-test.true c.loop-code.auto.code (sym (c.in-Some-Plus.is ∙ ap Some c.in-Some-Plus.field-0-is) ∙ c.sign_used.ensures) in
    (more Plus, c.loop-code.invariant.1 ∙ more Minus)

pub loop-code-preserved-in-Some-Minus : goal.loop-code-preserved-in-Some-Minus
loop-code-preserved-in-Some-Minus c =
    let more = sign_more c.args.block.now c.args.adder c.loop-code.code (Some Minus) c.loop-code-test.true c.loop-code.auto.code (sym (c.in-Some-Minus.is ∙ ap Some c.in-Some-Minus.field-0-is) ∙ c.sign_used.ensures) in
    (c.loop-code.invariant.0 ∙ more Plus, more Minus)

pub loop-code-preserved : goal.loop-code-preserved
loop-code-preserved c =
    let more = sign_more c.args.block.now c.args.adder c.loop-code.code None c.loop-code-test.true c.loop-code.auto.code (sym c.in-None.is ∙ c.sign_used.ensures) in
    (c.loop-code.invariant.0 ∙ more Plus, c.loop-code.invariant.1 ∙ more Minus)
