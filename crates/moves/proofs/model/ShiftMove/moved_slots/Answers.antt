use Rattle.std.proofs.Common.{◌≡◌, ◌+◌, length, drop, ap, ◌∙◌, arith, rules}
use Rattle.std.proofs.lemmas.Result.{err_from_is_err_and}
use Rattle.adders.specs.Rules.{first_broken}
use Rattle.adders.proofs.Broken.{otherwise}
use Rattle.moves.specs.Moves.{shift_rules_from}
use Rattle.moves.proofs.Turns.{rules_more}
use Rattle.moves.proofs.model.ShiftMove.moved_slots.Goals as goal

pub returns-in_err-moved : goal.returns-in_err-moved
returns-in_err-moved c =
    let p = err_from_is_err_and c.from_residual.result c.from_residual.ensures.1 in
    let m = c.args.self in
    let xs = c.args.slots in
    let i = c.loop-i.i in
    let eight : length xs ≡ 8 = search rules in
    rw (p.1, p.2) (c.loop-i.invariant.1 ∙ rules_more m.adder m.amount xs i (omega arith) ∙ ap (λ o. otherwise o (first_broken (shift_rules_from m.adder m.amount (i + 1 + 1) (drop (i + 1) xs)))) c.in_err-moved.ensures)
