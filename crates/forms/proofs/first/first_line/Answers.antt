use Rattle.forms.proofs.Lines.{free_more}
use Rattle.forms.proofs.first.first_line.Goals as goal

pub loop-place-preserved : goal.loop-place-preserved
loop-place-preserved c = free_more c.args.text.now c.loop-place.place c.loop-place-test.true c.loop-place.invariant c.if-byte-eq10.false
