use Rattle.std.proofs.Common.{◌≡◌, ◌+◌, ◌++◌, length, take, drop}
use Rattle.adders.specs.Rules.{first_broken}
use Rattle.moves.specs.Moves.{shift_rules_from, moved_from}
use Rattle.moves.proofs.model.ShiftMove.moved_slots.Given as goal

abbrev pub invariant-loop-i : goal.invariant-loop-i
invariant-loop-i l =
    let a = l.self.adder in
    let z = l.self.amount in
    (length l.moved ≡ 8)
    × (first_broken (shift_rules_from a z 1 l.slot-items) ≡ first_broken (shift_rules_from a z (l.i + 1) (drop l.i l.slot-items)))
    × (moved_from a z 1 l.slot-items ≡ take l.i l.moved ++ moved_from a z (l.i + 1) (drop l.i l.slot-items))
