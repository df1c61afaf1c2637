use Rattle.std.proofs.Common.{[], ◌∷◌, ◌++◌, take, sym, ap, ◌∙◌, append_assoc}
use Rattle.texts.specs.Text.{number}
use Rattle.writing.proofs.Joins.{joined}
use Rattle.writing.proofs.text.SheetText.code_key.Goals as goal

pub returns : goal.returns
returns c =
    let digits = number c.args.code in
    joined c.args.self.now c.before_code.result.now c.key.new.self (digits ++ 61 ∷ []) c.key-2.new.self c.key.ensures (joined c.key.new.self digits c.number.new.self (61 ∷ []) c.key-2.new.self c.number.ensures c.key-2.ensures)
    ∙ ap (λ l. take 4096 (c.args.self.now ++ l)) (sym (append_assoc c.before_code.result.now digits (61 ∷ [])) ∙ ap (λ l. l ++ 61 ∷ []) c.before_code.ensures)
