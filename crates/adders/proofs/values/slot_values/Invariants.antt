use Rattle.std.proofs.Common.{◌≡◌, ◌+◌, length, take, drop}
use Rattle.adders.specs.Values.{sample, values_from}
use Rattle.adders.specs.Rules.{first_broken, rules_from}
use Rattle.adders.proofs.values.slot_values.Given as goal

abbrev pub invariant-loop-i : goal.invariant-loop-i
invariant-loop-i l =
    (length l.at ≡ 9)
    × (first_broken (rules_from sample l.slot-items) ≡ first_broken (rules_from (take (l.i + 1) l.at) (drop l.i l.slot-items)))
    × (values_from sample l.slot-items ≡ values_from (take (l.i + 1) l.at) (drop l.i l.slot-items))
