use Rattle.std.proofs.Common.{rules, ◌≡◌, ℕ, suc, ◌+◌, subst, arith}
use Rattle.std.specs.Fmt.{HasWritten}
use Rattle.std.proofs.Output.{has_written_append}
use Rattle.price.specs.Parts.{adder_lines}
use Rattle.price.proofs.parts.PartsReportDisplay.fmt.Goals as goal

pub loop-place-preserved : goal.loop-place-preserved
loop-place-preserved g c = λ plain.
    let more : c.loop-place.place + 1 ≡ suc c.loop-place.place = omega arith in
    rw more (has_written_append _ _ _ _ _ _ (c.loop-place.invariant plain) (search rules))

pub returns-clause-writes : goal.returns-clause-writes
returns-clause-writes g c = λ plain ok.
    let last : c.loop-place.place ≡ c.args.self.now.block.adders = search rules in
    let all = subst (λ (n : ℕ). HasWritten g.W.Write.write_str_gives c.args.f.now (adder_lines c.args.self.now.block n) c.loop-place.f) last (c.loop-place.invariant plain) in
    has_written_append _ _ _ _ _ _ all (search rules)
