use Rattle.std.proofs.Common.{get_or}
use Rattle.adders.specs.declared.wiring.Sign.TheVariants.{Plus, Minus}
use Rattle.running.specs.Results.{listed}
use Rattle.running.proofs.Carrying.{slot_told}
use Rattle.running.proofs.runner.slot_result.Goals as goal

pub returns-in-Plus : goal.returns-in-Plus
returns-in-Plus g c d =
    let m = g.X.Arithmetic in
    slot_told m.operations g.met.X.Arithmetic.laws (λ k. m.means (get_or (listed c.args.results.now) k d)) c.args.slot c.in-Some.adder Plus _ _ _
    c.in-Some.is c.in-Plus.is c.sum.ensures.meaning (c.operand-left.ensures.meaning d) (c.operand-right.ensures.meaning d)

pub returns-in-Minus : goal.returns-in-Minus
returns-in-Minus g c d =
    let m = g.X.Arithmetic in
    slot_told m.operations g.met.X.Arithmetic.laws (λ k. m.means (get_or (listed c.args.results.now) k d)) c.args.slot c.in-Some.adder Minus _ _ _
    c.in-Some.is c.in-Minus.is c.difference.ensures.meaning (c.operand-left.ensures.meaning d) (c.operand-right.ensures.meaning d)
