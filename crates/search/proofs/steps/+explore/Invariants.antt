use Rattle.std.proofs.Common.{◌≡◌, ◌-◌}
use Rattle.search.specs.Choosing.{cheaper, through, cheapest_of, best_from}
use Rattle.search.proofs.steps.+explore.Given as goal

abbrev pub decreases-explore : goal.decreases-explore
decreases-explore g l = l.left

abbrev pub invariant-loop-lower : goal.invariant-loop-lower
invariant-loop-lower g l =
    let count = g.S.Steps.count l.steps in
    let opens = g.S.Steps.opens l.steps in
    let rise = g.S.Steps.rise l.steps in
    let last = g.S.Steps.last l.steps in
    l.best ≡ cheaper l.fn.best (cheapest_of (through count opens rise last (best_from count opens rise last (l.fn.left - 1)) l.before l.paid) l.lower)
