use Rattle.std.proofs.Common.{[], ◌∷◌, ◌++◌}
use Rattle.texts.specs.Text.{number, entries}
use Rattle.writing.proofs.Joins.{joined}
use Rattle.writing.proofs.text.SheetText.selections.Goals as goal

pub returns : goal.returns
returns c =
    let each = entries c.args.adders.now in
    let output = number c.args.output in
    joined c.args.self.now each c.entries.new.self (output ++ 10 ∷ []) c.key.new.self c.entries.ensures (joined c.entries.new.self output c.number.new.self (10 ∷ []) c.key.new.self c.number.ensures c.key.ensures)
