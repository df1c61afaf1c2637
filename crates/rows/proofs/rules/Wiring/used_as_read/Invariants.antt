use Rattle.std.proofs.Common.{◌≡◌, ◌+◌, drop}
use Rattle.adders.specs.Rules.{first_broken}
use Rattle.rows.specs.Rules.{use_rules}
use Rattle.rows.proofs.rules.Wiring.used_as_read.Given as goal

abbrev pub invariant-loop-i : goal.invariant-loop-i
invariant-loop-i l = first_broken (use_rules l.self.slots l.self.output.source 1 l.self.slots) ≡ first_broken (use_rules l.self.slots l.self.output.source (l.i + 1) (drop l.i l.self.slots))
