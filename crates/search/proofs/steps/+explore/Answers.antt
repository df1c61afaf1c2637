use Rattle.std.proofs.Common.{rules, ◌-◌}
use Rattle.search.specs.Choosing.{best_from}
use Rattle.search.proofs.Exploring.{kept, at_least, opened, closed, whole}
use Rattle.search.proofs.steps.+explore.Goals as goal
use Rattle.search.proofs.steps.+explore.Goals.{then-opens, else-opens}

pub returns-then-no_dearer : goal.returns-then-no_dearer
returns-then-no_dearer g t c =
    let s = g.S.Steps in
    let x = c.args.steps.now in
    kept c.args.best (best_from (s.count x) (s.opens x) (s.rise x) (s.last x) c.args.left c.args.before c.args.paid) c.args.paid (search rules) (at_least (s.count x) (s.opens x) (s.rise x) (s.last x) c.args.left c.args.before c.args.paid)

pub loop-lower-preserved : goal.loop-lower-preserved
loop-lower-preserved g t c =
    let s = g.S.Steps in
    let x = c.args.steps.now in
    let n = c.args.left - 1 in
    elim c.if-opens.branch [
      | then-opens w ↦ opened (s.count x) (s.opens x) (s.rise x) (s.last x) n c.args.before c.args.paid c.loop-lower.lower w.rise.result w.with.result c.args.best c.loop-lower.best c.if-opens.best (search rules) (search rules) (search rules) (search rules) c.loop-lower.invariant
      | else-opens w ↦ closed (s.count x) (s.opens x) (s.rise x) (s.last x) n c.args.before c.args.paid c.loop-lower.lower c.args.best c.loop-lower.best c.if-opens.best (search rules) w.best-is c.loop-lower.invariant
    ]

pub returns : goal.returns
returns g t c =
    let s = g.S.Steps in
    let x = c.args.steps.now in
    whole (s.count x) (s.opens x) (s.rise x) (s.last x) c.args.left c.args.before c.args.paid c.args.best c.loop-lower.best c.if-left-eq0.false (search rules)
