use Rattle.std.proofs.Common.{rules, ◌≡◌, Some, sym, ap, ◌∙◌, arith}
use Rattle.std.specs.Prelude.{option_map}
use Rattle.std.proofs.lemmas.Result.{err_from_is_err_and}
use Rattle.texts.specs.Text.{code_key}
use Rattle.texts.specs.Pieces.{skip}
use Rattle.reading.specs.Orders.{lists_of}
use Rattle.reading.proofs.RowByRow.{skipped, row_stops, refused, filled, more_left, block_read}
use Rattle.reading.proofs.lists.PortLists.block.Goals as goal
use Rattle.reading.proofs.lists.PortLists.block.Goals.{in-Some+in_ok-row+in_ok-block-2, in_default}

pub returns-in_err-row : goal.returns-in_err-row
returns-in_err-row c =
    let p = err_from_is_err_and c.from_residual-in_err-row.result c.from_residual-in_err-row.ensures.1 in
    let key : skip (code_key c.loop-code.code) c.loop-code.rest.now ≡ Some c.in-Some.after.now = (ap (λ k. skip k c.loop-code.rest.now) (sym (c.of_code.ensures (omega (arith, c.loop-code-test.true)))) ∙ sym c.skip.ensures ∙ ap (option_map (λ r. r.now)) c.in-Some.is) in
    rw (p.1, p.2) (row_stops (lists_of c.args.self.now) c.args.adders c.args.width c.args.text.now c.loop-code.code c.loop-code.line c.loop-code.rest.now c.loop-code.block c.loop-code.invariant c.loop-code-test.true c.in-Some.after.now key _ c.in_err-row.ensures)

pub returns-in_err-block-2 : goal.returns-in_err-block-2
returns-in_err-block-2 c =
    absurd (refused (lists_of c.args.self.now) c.args.adders c.args.width c.args.text.now c.loop-code.code c.loop-code.line c.loop-code.rest.now c.loop-code.block c.loop-code.invariant c.loop-code-test.true c.in-Some.after.now (ap (λ k. skip k c.loop-code.rest.now) (sym (c.of_code.ensures (omega (arith, c.loop-code-test.true)))) ∙ sym c.skip.ensures ∙ ap (option_map (λ r. r.now)) c.in-Some.is) c.in_ok-row.row c.in_ok-row.after.now c.in_ok-row.ensures c.in_err-block-2.field-0.0 c.in_err-block-2.ensures)

pub loop-code-preserved : goal.loop-code-preserved
loop-code-preserved c = elim c.match-skip.branch [
  | in-Some+in_ok-row+in_ok-block-2 w ↦ rw (w.block-is, w.line-is, w.rest-is) (filled (lists_of c.args.self.now) c.args.adders c.args.width c.args.text.now c.loop-code.code c.loop-code.line c.loop-code.rest.now c.loop-code.block c.loop-code.invariant c.loop-code-test.true w.in-Some.after.now (ap (λ k. skip k c.loop-code.rest.now) (sym (c.of_code.ensures (omega (arith, c.loop-code-test.true)))) ∙ sym c.skip.ensures ∙ ap (option_map (λ r. r.now)) w.in-Some.is) w.in_ok-row.row w.in_ok-row.after.now w.in_ok-row.ensures w.in_ok-block-2.block w.in_ok-block-2.ensures.1)
  | in_default w ↦ rw (w.block-is, w.line-is, w.rest-is) (skipped (lists_of c.args.self.now) c.args.adders c.args.width c.args.text.now c.loop-code.code c.loop-code.line c.loop-code.rest.now c.loop-code.block c.loop-code.invariant c.loop-code-test.true (ap (λ k. skip k c.loop-code.rest.now) (sym (c.of_code.ensures (omega (arith, c.loop-code-test.true)))) ∙ sym c.skip.ensures ∙ ap (option_map (λ r. r.now)) w.in_default.is))
]

pub returns-then-not-is_empty : goal.returns-then-not-is_empty
returns-then-not-is_empty c = more_left (lists_of c.args.self.now) c.args.adders c.args.width c.args.text.now c.loop-code.code c.loop-code.line c.loop-code.rest.now c.loop-code.block c.loop-code.invariant c.loop-code-test.false (search rules)

pub returns : goal.returns
returns c = block_read (lists_of c.args.self.now) c.args.adders c.args.width c.args.text.now c.loop-code.code c.loop-code.line c.loop-code.rest.now c.loop-code.block c.loop-code.invariant c.loop-code-test.false (search rules)
