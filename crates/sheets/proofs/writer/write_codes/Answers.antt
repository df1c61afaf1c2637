use Rattle.std.proofs.Common.{ap, ◌∙◌}
use Rattle.ports.specs.declared.port.Port.TheVariants.{Output}
use Rattle.ports.specs.Inputs.{inputs}
use Rattle.sheetlaws.specs.Sheets.{place}
use Rattle.sheets.proofs.Writes.{idle_written, idle_code, line_written, codes_written}
use Rattle.sheets.proofs.writer.write_codes.Goals as goal
use Rattle.sheets.proofs.writer.write_codes.Goals.{in-Ok, in_default}

pub loop-code-preserved : goal.loop-code-preserved
loop-code-preserved c = elim c.match-row.branch [
  | in-Ok w ↦ rw w.text-is (line_written c.args.lists.now.block.now c.loop-code.code c.args.text.now c.loop-code.text w.code_line.new.self c.loop-code.invariant c.loop-code-test.true w.in-Ok.row w.in-Ok.ensures.1 c.adders-adders.result w.from.result w.number_at-output.result w.selections-selections.result c.adders-adders.ensures w.selections-selections.ensures (w.number_at-output.ensures ∙ ap (λ o. place o (inputs c.args.lists.now.block.now Output)) w.output.ensures) w.from.ensures w.code_line.ensures)
  | in_default w ↦ rw w.text-is (idle_written c.args.lists.now.block.now c.loop-code.code c.args.text.now c.loop-code.text c.loop-code.invariant c.loop-code-test.true (idle_code c.args.lists.now.block.now c.loop-code.code w.in_default.field-0 c.loop-code-test.true w.in_default.ensures))
]

pub returns : goal.returns
returns c = codes_written c.args.lists.now.block.now c.loop-code.code c.args.text.now c.loop-code.text c.loop-code.invariant c.loop-code-test.false
