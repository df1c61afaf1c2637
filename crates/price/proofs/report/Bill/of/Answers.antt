use Rattle.price.specs.Reports.{done, units, block}
use Rattle.price.proofs.report.Bill.of.Goals as goal

pub returns-in-Err : goal.returns-in-Err
returns-in-Err c = units c.in-Err.refusal _ _ c.first_line.ensures c.in-Err.ensures

pub returns-in-Ok-block_of : goal.returns-in-Ok-block_of
returns-in-Ok-block_of c = done _ _ _ c.first_line.ensures c.in-Ok.ensures c.in-Ok-block_of.ensures

pub returns-in-Err-block_of : goal.returns-in-Err-block_of
returns-in-Err-block_of c =
    rw c.input_line-line.ensures (block c.in-Ok.list c.in-Err-block_of.refusal _ _ c.first_line.ensures c.in-Ok.ensures c.in-Err-block_of.ensures)
