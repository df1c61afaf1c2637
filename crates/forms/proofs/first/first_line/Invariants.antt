use Rattle.std.proofs.Common.{take}
use Rattle.forms.specs.Lines.{NoLineFeed}
use Rattle.forms.proofs.first.first_line.Given as goal

abbrev pub invariant-loop-place : goal.invariant-loop-place
invariant-loop-place l = NoLineFeed (take l.place l.text)
