use Rattle.std.proofs.Common.{rules, ◌≡◌, ◌≤◌, ℕ, List, [], ◌∷◌, length, sym, subst, arith}
use Rattle.adders.specs.declared.wiring.Operand.{Operand}
use Rattle.texts.specs.Text.{operand, more_inputs, input_list}
use Rattle.writing.specs.Writes.{Wrote}
use Rattle.writing.proofs.Joins.{joined, nothing}
use Rattle.writing.proofs.text.SheetText.input_list.Goals as goal

pub returns-in-Some : goal.returns-in-Some
returns-in-Some c =
    let first = c.in-Some.first.now in
    let rest = c.in-Some.rest.now in
    let is : c.args.inputs.now ≡ first ∷ rest = search rules in
    subst (λ os. Wrote c.args.self.now (input_list os) c.more_inputs.new.self) (sym is) (joined c.args.self.now (operand first) c.operand.new.self (more_inputs rest) c.more_inputs.new.self c.operand.ensures c.more_inputs.ensures)

no_inputs : (a : List ℕ) (os : List Operand) → length a ≤ 4096 → length os ≡ 0 → Wrote a (input_list os) a
no_inputs a [] room none = nothing a room
no_inputs a (o ∷ os) room none = absurd (omega arith)

pub returns-in_default : goal.returns-in_default
returns-in_default c = no_inputs c.args.self.now c.args.inputs.now c.len.ensures.few c.in_default.ensures.cases
