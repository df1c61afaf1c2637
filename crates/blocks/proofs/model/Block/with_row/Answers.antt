use Rattle.std.proofs.Common.{rules, ◌≡◌, true, false, length, Some, ap, ◌∙◌}
use Rattle.std.proofs.lemmas.List.{length-set}
use Rattle.blocks.specs.Uses.{row_uses, uses}
use Rattle.blocks.specs.Filling.{uses_none_past}
use Rattle.blocks.proofs.Placing.{at_each}
use Rattle.blocks.proofs.Fills.{fits}
use Rattle.blocks.proofs.model.Block.with_row.Goals as goal

pub invariant_of-result-clause-room : goal.invariant_of-result-clause-room
invariant_of-result-clause-room c =
    let b = c.args.self in
    ap (λ t. length t.rows) c.in_ok-put.ensures.1 ∙ length-set b.table.rows c.args.code (Some c.args.row) ∙ b.room

pub invariant_of-result-clause-within : goal.invariant_of-result-clause-within
invariant_of-result-clause-within c = λ code adder h.
    let b = c.args.self in
    let passed : uses_none_past b.adders c.args.row ≡ true = search rules in
    ap (λ t. uses t code adder) c.in_ok-put.ensures.1
    ∙ at_each b.table c.args.code (Some c.args.row) (λ k o. row_uses o adder ≡ false) b.room c.if-code-gt15.false (fits c.args.row b.adders adder passed h) (λ k. b.within k adder h) code
