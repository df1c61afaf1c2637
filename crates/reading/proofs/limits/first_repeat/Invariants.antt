use Rattle.std.proofs.Common.{◌≡◌, ℕ, ◌<◌, None}
use Rattle.reading.specs.Repeats.{Differ}
use Rattle.reading.proofs.limits.first_repeat.Given as goal

abbrev pub invariant-pairs : goal.invariant-pairs
invariant-pairs l = (l.found ≡ None) × ((h k : ℕ) → h < l.i → Differ l.inputs h k)

abbrev pub invariant-loop-j : goal.invariant-loop-j
invariant-loop-j l = (l.found ≡ None) × ((k : ℕ) → k < l.j → Differ l.inputs l.i k)
