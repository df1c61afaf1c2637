use Rattle.std.proofs.Common.{drop}
use Rattle.texts.specs.Text.{more_inputs}
use Rattle.writing.proofs.Joins.{Finishes}
use Rattle.writing.proofs.text.SheetText.more_inputs.Given as goal

abbrev pub invariant-loop-input : goal.invariant-loop-input
invariant-loop-input l = Finishes l.fn.self (more_inputs l.fn.inputs) l.self (more_inputs (drop l.input-index l.fn.inputs))
