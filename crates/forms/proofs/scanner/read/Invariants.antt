use Rattle.std.proofs.Common.{take}
use Rattle.forms.proofs.scanner.read.Given as goal

abbrev pub invariant-loop-place : goal.invariant-loop-place
invariant-loop-place g l = g.S.Scanner.Reached (take l.place l.bytes) l.scanner
