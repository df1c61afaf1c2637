use Rattle.std.proofs.Common.{◌≡◌, ℕ, ◌+◌, ◌<◌, None, length, slice_index_or}
use Rattle.rows.specs.Rows.{adder_at}
use Rattle.rises.specs.Uses.{adder_used}
use Rattle.fusing.proofs.task.making.uses_of.Given as goal

abbrev pub invariant-loop-place : goal.invariant-loop-place
invariant-loop-place l = (length l.uses ≡ 8) × ((d : ℕ) → d < l.place → slice_index_or l.uses d None ≡ adder_used l.row (d + 1) (adder_at l.row (d + 1)))
