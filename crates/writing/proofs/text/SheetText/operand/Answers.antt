use Rattle.std.proofs.Common.{ℕ, [], ◌∷◌, subst}
use Rattle.texts.specs.Text.{number}
use Rattle.writing.specs.Writes.{Wrote}
use Rattle.writing.proofs.Joins.{joined}
use Rattle.writing.proofs.text.SheetText.operand.Goals as goal

pub returns : goal.returns
returns c =
    let source = number c.args.input.source in
    let shift = number c.args.input.shift in
    let first = subst (λ (n : ℕ). Wrote c.args.self.now (number n) c.number.new.self) c.from.ensures c.number.ensures in
    let second = subst (λ (n : ℕ). Wrote c.key.new.self (number n) c.number-2.new.self) c.from-2.ensures c.number-2.ensures in
    joined c.args.self.now source c.number.new.self (46 ∷ shift) c.number-2.new.self first (joined c.number.new.self (46 ∷ []) c.key.new.self shift c.number-2.new.self c.key.ensures second)
