use Rattle.std.proofs.Common.{rules, ◌≡◌, ℕ, suc, ◌+◌, subst, arith}
use Rattle.std.specs.Fmt.{HasWritten}
use Rattle.std.proofs.Output.{has_written_append}
use Rattle.readsheet.specs.Blocks.{codes_text}
use Rattle.readsheet.proofs.block.BlockReportDisplay.fmt.Goals as goal

pub loop-code-preserved : goal.loop-code-preserved
loop-code-preserved g c = λ plain.
    let more : c.loop-code.code + 1 ≡ suc c.loop-code.code = omega arith in
    rw more (has_written_append _ _ _ _ _ _ (c.loop-code.invariant plain) (search rules))

pub returns-clause-writes : goal.returns-clause-writes
returns-clause-writes g c = λ plain ok.
    let last : c.loop-code.code ≡ 16 = search rules in
    let all = subst (λ (n : ℕ). HasWritten g.W.Write.write_str_gives c.args.f.now (codes_text c.args.self.now.block n) c.loop-code.f) last (c.loop-code.invariant plain) in
    has_written_append _ _ _ _ _ _ all (search rules)
