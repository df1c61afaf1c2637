use Rattle.std.proofs.Common.{rules, sym, ap, ◌∙◌, Err}
use Rattle.adders.specs.declared.refusals.Refusal.TheVariants.{RowBroken}
use Rattle.reading.specs.Orders.{lists_of}
use Rattle.reading.proofs.RowRules.{row_kept, row_broken}
use Rattle.reading.proofs.lists.PortLists.row.Goals as goal

pub returns-in-Ok : goal.returns-in-Ok
returns-in-Ok c = row_kept (lists_of c.args.self.now) c.args.line c.args.selections.adders c.args.selections.output c.in_ok-slots.slots c.in_ok-slots.output (search rules) c.in-Ok.row c.in-Ok.ensures.answer

pub returns-in-Err : goal.returns-in-Err
returns-in-Err c = row_broken (lists_of c.args.self.now) c.args.line c.args.selections.adders c.args.selections.output c.in_ok-slots.slots c.in_ok-slots.output (search rules) c.in-Err.refusal c.in-Err.ensures.answer ∙ ap (λ f. Err (RowBroken c.args.line f)) (sym c.fault_of.ensures)
