use Rattle.std.proofs.Common.{[], ◌∷◌, ◌++◌}
use Rattle.texts.specs.Text.{number}
use Rattle.writing.proofs.Joins.{joined}
use Rattle.writing.proofs.text.SheetText.number_line.Goals as goal

pub returns : goal.returns
returns c =
    let digits = number c.args.value in
    joined c.args.self.now c.args.key.now c.key.new.self (digits ++ 10 ∷ []) c.key-2.new.self c.key.ensures (joined c.key.new.self digits c.number.new.self (10 ∷ []) c.key-2.new.self c.number.ensures c.key-2.ensures)
