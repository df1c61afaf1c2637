use Rattle.std.proofs.Common.{◌≡◌, length, ◌∙◌, arith, rules}
use Rattle.std.proofs.lemmas.Result.{err_from_is_err_and}
use Rattle.adders.proofs.Turns.{rules_stop}
use Rattle.adders.proofs.values.slot_values.Goals as goal

pub returns-in_err-at : goal.returns-in_err-at
returns-in_err-at c =
    let p = err_from_is_err_and c.from_residual.result c.from_residual.ensures.1 in
    let eight : length c.args.slots ≡ 8 = search rules in
    rw (p.1, p.2) (c.loop-i.invariant.1 ∙ rules_stop c.args.slots c.loop-i.i c.loop-i.at (omega arith) (omega (arith, c.loop-i.invariant.0)) _ (omega arith) _ c.in_err-at.ensures)
