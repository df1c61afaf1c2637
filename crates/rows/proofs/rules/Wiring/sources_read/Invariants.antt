use Rattle.rows.proofs.Marking.{Marked}
use Rattle.rows.proofs.rules.Wiring.sources_read.Given as goal

abbrev pub invariant-loop-place : goal.invariant-loop-place
invariant-loop-place l = Marked l.self.slots l.self.output.source l.read l.place
