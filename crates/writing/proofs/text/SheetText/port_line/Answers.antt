use Rattle.std.proofs.Common.{[], ◌∷◌, ◌++◌}
use Rattle.texts.specs.Text.{port_key, input_list}
use Rattle.writing.proofs.Joins.{joined}
use Rattle.writing.proofs.text.SheetText.port_line.Goals as goal

pub returns : goal.returns
returns c =
    let start = port_key c.args.port in
    let inputs = input_list c.args.inputs.now in
    joined c.args.self.now start c.port_key.new.self (inputs ++ 10 ∷ []) c.key.new.self c.port_key.ensures (joined c.port_key.new.self inputs c.input_list.new.self (10 ∷ []) c.key.new.self c.input_list.ensures c.key.ensures)
