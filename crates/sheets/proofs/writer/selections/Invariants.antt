use Rattle.ports.specs.Inputs.{inputs}
use Rattle.sheets.proofs.Selecting.{Selected}
use Rattle.sheets.proofs.writer.selections.Given as goal

abbrev pub invariant-loop-place : goal.invariant-loop-place
invariant-loop-place l = Selected (inputs l.fn.lists.block.now) l.fn.row.slots l.place l.selections
