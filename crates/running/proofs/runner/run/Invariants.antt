use Rattle.running.specs.Results.{listed}
use Rattle.running.proofs.Carrying.{Carries}
use Rattle.running.proofs.runner.run.Given as goal

abbrev pub invariant-loop-i : goal.invariant-loop-i
invariant-loop-i g l =
    let m = g.X.Arithmetic in
    Carries m.operations g.met.X.Arithmetic.laws m.means l.slot-items l.i (listed l.results) l.initial.results.0
