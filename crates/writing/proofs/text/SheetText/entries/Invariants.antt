use Rattle.std.proofs.Common.{drop}
use Rattle.texts.specs.Text.{entries}
use Rattle.writing.proofs.Joins.{Finishes}
use Rattle.writing.proofs.text.SheetText.entries.Given as goal

abbrev pub invariant-loop-adder : goal.invariant-loop-adder
invariant-loop-adder l = Finishes l.fn.self (entries l.fn.adders) l.self (entries (drop l.adder-index l.fn.adders))
