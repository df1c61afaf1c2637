use Rattle.std.proofs.Common.{◌≡◌, ◌*◌, ◌%◌, ◌^◌}
use Rattle.arith.proofs.residue.ResidueArithmetic.shifted.Given as goal

abbrev pub invariant-loop-turn : goal.invariant-loop-turn
invariant-loop-turn g l = l.number ≡ (l.fn.self.number * 2 ^ l._turn) % l.m
