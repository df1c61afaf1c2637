use Rattle.std.proofs.Common.{◌≡◌, ◌+◌, length, drop, ap, ◌∙◌, arith, rules}
use Rattle.std.proofs.lemmas.Result.{err_from_is_err_and}
use Rattle.adders.specs.Rules.{first_broken}
use Rattle.adders.proofs.Broken.{otherwise}
use Rattle.rows.specs.Rules.{wiring_from}
use Rattle.rows.proofs.Marking.{wiring_more}
use Rattle.rows.proofs.rules.slots_wired.Goals as goal

pub returns-in_err-slot_wired : goal.returns-in_err-slot_wired
returns-in_err-slot_wired c =
    let p = err_from_is_err_and c.from_residual.result c.from_residual.ensures.1 in
    let xs = c.args.slots in
    let i = c.loop-i.i in
    let eight : length xs ≡ 8 = search rules in
    rw (p.1, p.2) (c.loop-i.invariant ∙ wiring_more xs i (omega arith) ∙ ap (λ o. otherwise o (first_broken (wiring_from (i + 1 + 1) (drop (i + 1) xs)))) c.in_err-slot_wired.ensures)
