use Rattle.std.proofs.Common.{◌≡◌, ℕ, ◌<◌, length, get_or}
use Rattle.rows.specs.Rows.{constant_of}
use Rattle.running.specs.Buffers.{Multiplied}
use Rattle.running.proofs.runner.run_all.Given as goal

abbrev pub invariant-loop-i : goal.invariant-loop-i
invariant-loop-i g l =
    let m = g.X.Arithmetic in
    (length l.output ≡ length l.input)
    × ((k : ℕ) (d : g.row.X.Denot) → k < l.i → Multiplied m.means m.operations m.Product (constant_of l.row) (get_or l.input k d) (get_or l.output k d))
