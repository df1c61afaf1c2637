use Rattle.std.proofs.Common.{sym, ap, ◌∙◌}
use Rattle.sheets.specs.Calls.{written_sheet}
use Rattle.sheets.proofs.Writes.{all_written}
use Rattle.sheets.proofs.writer.sheet_of.Goals as goal

pub returns : goal.returns
returns c =
    let same = c.new-lists.ensures in
    all_written c.new-lists.result.block.now c.new-text.result c.number_line.new.self c.number_line-2.new.self c.write_ports.new.text c.write_codes.new.text c.adders.result c.width.result c.new-text.ensures
    (c.adders.ensures ∙ ap (λ b. b.adders) (sym same)) (c.width.ensures ∙ ap (λ b. b.width) (sym same)) c.number_line.ensures c.number_line-2.ensures c.write_ports.ensures c.write_codes.ensures
    ∙ ap written_sheet same
