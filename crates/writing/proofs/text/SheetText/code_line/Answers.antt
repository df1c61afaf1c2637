use Rattle.texts.specs.Text.{code_key, selections}
use Rattle.writing.proofs.Joins.{joined}
use Rattle.writing.proofs.text.SheetText.code_line.Goals as goal

pub returns : goal.returns
returns c = joined c.args.self.now (code_key c.args.code) c.code_key.new.self (selections c.args.adders.now c.args.output) c.selections.new.self c.code_key.ensures c.selections.ensures
