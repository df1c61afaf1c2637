use Rattle.std.proofs.Common.{ℕ, ◌^◌, ◌<◌}
use Rattle.bits.proofs.bits.Given as goal

abbrev pub invariant-loop-count : goal.invariant-loop-count
invariant-loop-count l = (b : ℕ) → b < l.count → 2 ^ b < l.fn.value
