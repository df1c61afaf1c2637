use Rattle.std.proofs.Common.{ℕ, List, [], ◌∷◌, get_or, drop, ◌+◌, subst}
use Rattle.std.proofs.lemmas.List.{drop_more, drop_all}
use Rattle.adders.specs.declared.wiring.Operand.{Operand}
use Rattle.adders.specs.Values.{spare_operand}
use Rattle.texts.specs.Text.{operand, more_inputs}
use Rattle.writing.proofs.Joins.{Finishes, joined, finishes_next, finished}
use Rattle.writing.proofs.text.SheetText.more_inputs.Goals as goal

pub loop-input-preserved : goal.loop-input-preserved
loop-input-preserved c =
    let inputs : List Operand = c.args.inputs.now in
    let i : ℕ = c.loop-input.input-index in
    let input = operand (get_or inputs i spare_operand) in
    finishes_next c.args.self.now (more_inputs inputs) c.loop-input.self (32 ∷ input) (more_inputs (drop (i + 1) inputs)) c.operand.new.self
    (subst (λ os. Finishes c.args.self.now (more_inputs inputs) c.loop-input.self (more_inputs os)) (drop_more inputs i spare_operand c.loop-input-test.true) c.loop-input.invariant)
    (joined c.loop-input.self (32 ∷ []) c.key.new.self input c.operand.new.self c.key.ensures c.operand.ensures)

pub returns : goal.returns
returns c =
    let inputs : List Operand = c.args.inputs.now in
    finished c.args.self.now (more_inputs inputs) c.loop-input.self
    (subst (λ os. Finishes c.args.self.now (more_inputs inputs) c.loop-input.self (more_inputs os)) (drop_all c.loop-input.input-index inputs c.loop-input-test.false) c.loop-input.invariant)
