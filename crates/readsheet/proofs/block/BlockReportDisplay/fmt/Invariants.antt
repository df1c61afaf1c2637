use Rattle.std.specs.Fmt.{HasWritten, IsPlainFormatter}
use Rattle.readsheet.specs.Blocks.{codes_text}
use Rattle.readsheet.proofs.block.BlockReportDisplay.fmt.Given as goal

abbrev pub invariant-loop-code : goal.invariant-loop-code
invariant-loop-code g l = IsPlainFormatter l.initial.f → HasWritten g.W.Write.write_str_gives l.initial.f (codes_text l.initial.self.block l.code) l.f
