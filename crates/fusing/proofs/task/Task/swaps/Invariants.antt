use Rattle.std.proofs.Common.{◌≡◌, ℕ, ◌-◌, ◌<◌, false, length, take, None}
use Rattle.std.specs.Prelude.{slice_get, slice_index, slice_index_or}
use Rattle.prices.specs.Tables.{tables}
use Rattle.fusing.specs.Tasks.{way_at, swap_of}
use Rattle.fusing.proofs.task.Task.swaps.Given as goal

abbrev pub invariant-loop-index : goal.invariant-loop-index
invariant-loop-index g l =
    let t = tables (g.L.PriceList.adders l.self.list.now) (g.L.PriceList.muxes l.self.list.now) in
    (length l.swaps ≡ 8) × ((d : ℕ) → d < l.index → slice_index_or l.swaps d false ≡ swap_of (way_at t l.self.sample (take d l.places) (slice_get l.self.held (slice_index l.places d - 1)) (slice_index_or l.self.uses d None)))
