use Rattle.std.proofs.Common.{◌≡◌}
use Rattle.arith.specs.Operations.{doubled}
use Rattle.arith.proofs.arithmetic.Arithmetic.shifted.Given as goal

abbrev pub invariant-loop-turn : goal.invariant-loop-turn
invariant-loop-turn g l =
    let m = g.Self.Arithmetic in
    record {
      meaning : m.means l.sample ≡ doubled m.operations l._turn (m.means l.initial.sample);
      settled : m.Settled l.sample;
    }
