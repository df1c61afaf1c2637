use Rattle.std.proofs.Common.{drop}
use Rattle.ports.specs.Ports.{ports}
use Rattle.ports.specs.Inputs.{inputs}
use Rattle.sheetlaws.specs.Sheets.{port_lines}
use Rattle.writing.proofs.Joins.{Finishes}
use Rattle.sheets.proofs.writer.write_ports.Given as goal

abbrev pub invariant-loop-place : goal.invariant-loop-place
invariant-loop-place l = Finishes l.fn.text (port_lines (inputs l.fn.lists.block.now) (ports l.fn.lists.block.now.adders)) l.text (port_lines (inputs l.fn.lists.block.now) (drop l.place (ports l.fn.lists.block.now.adders)))
