use Rattle.std.proofs.Common.{ℕ, [], ◌∷◌, ◌++◌, Option, sym, subst}
use Rattle.texts.specs.declared.selection.Selection.{Selection}
use Rattle.texts.specs.Text.{number, mark, entry}
use Rattle.writing.specs.Writes.{Wrote}
use Rattle.writing.proofs.Joins.{joined}
use Rattle.writing.proofs.text.SheetText.entry.Goals as goal

pub returns-in-Some : goal.returns-in-Some
returns-in-Some c =
    let s = c.in-Some.selection in
    let right = number s.right ++ 32 ∷ [] in
    let first = subst (λ (n : ℕ). Wrote c.args.self.now (number n) c.number.new.self) c.from.ensures c.number.ensures in
    let second = subst (λ (n : ℕ). Wrote c.sign.new.self (number n) c.number-in-Some.new.self) c.from-in-Some.ensures c.number-in-Some.ensures in
    subst (λ (x : Option Selection). Wrote c.args.self.now (entry x) c.key-in-Some.new.self) (sym c.in-Some.is)
    (joined c.args.self.now (number s.left) c.number.new.self (mark s.sign ∷ right) c.key-in-Some.new.self first
    (joined c.number.new.self (mark s.sign ∷ []) c.sign.new.self right c.key-in-Some.new.self c.sign.ensures (joined c.sign.new.self (number s.right) c.number-in-Some.new.self (32 ∷ []) c.key-in-Some.new.self second c.key-in-Some.ensures)))
