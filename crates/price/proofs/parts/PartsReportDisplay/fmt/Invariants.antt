use Rattle.std.specs.Fmt.{HasWritten, IsPlainFormatter}
use Rattle.price.specs.Parts.{adder_lines}
use Rattle.price.proofs.parts.PartsReportDisplay.fmt.Given as goal

abbrev pub invariant-loop-place : goal.invariant-loop-place
invariant-loop-place g l = IsPlainFormatter l.initial.f → HasWritten g.W.Write.write_str_gives l.initial.f (adder_lines l.block l.place) l.f
