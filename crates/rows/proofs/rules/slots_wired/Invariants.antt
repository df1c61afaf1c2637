use Rattle.std.proofs.Common.{◌≡◌, ◌+◌, drop}
use Rattle.adders.specs.Rules.{first_broken}
use Rattle.rows.specs.Rules.{wiring_from}
use Rattle.rows.proofs.rules.slots_wired.Given as goal

abbrev pub invariant-loop-i : goal.invariant-loop-i
invariant-loop-i l = first_broken (wiring_from 1 l.slot-items) ≡ first_broken (wiring_from (l.i + 1) (drop l.i l.slot-items))
