use Rattle.texts.proofs.Entering.{Entered}
use Rattle.texts.proofs.lists.entries.Given as goal

abbrev pub invariant-loop-place : goal.invariant-loop-place
invariant-loop-place l = Entered l.fn.count l.fn.text l.place l.entries l.rest
