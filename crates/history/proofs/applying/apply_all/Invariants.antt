use Rattle.std.proofs.Common.{take, map}
use Rattle.blocks.specs.declared.model.Block.{Block}
use Rattle.blocks.specs.Blocks.{Unfounded}
use Rattle.history.specs.Events.{event_of, Step}
use Rattle.history.specs.Runs.{Run}
use Rattle.history.proofs.applying.apply_all.Given as goal

abbrev pub invariant-loop-i : goal.invariant-loop-i
invariant-loop-i g l = (start : Block) × Unfounded start × Run Step start (map (event_of g.L.PriceList.adders g.L.PriceList.muxes) (take l.i l.calls)) (take l.i l.outcomes) l.block
