use Rattle.std.proofs.Common.{◌≡◌, drop}
use Rattle.std.specs.List.{list_all}
use Rattle.std.specs.Prelude.{is_none}
use Rattle.blocks.specs.Filling.{uses_none_past}
use Rattle.blocks.proofs.model.Block.has_adders_of.Given as goal

abbrev pub invariant-loop-slot : goal.invariant-loop-slot
invariant-loop-slot l = list_all is_none (drop l.slot-index l.slot-items) ≡ uses_none_past l.fn.self.adders l.fn.row
