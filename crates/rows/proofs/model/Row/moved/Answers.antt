use Rattle.std.proofs.lemmas.Result.{err_from_is_err_and}
use Rattle.std.proofs.Common.{◌∙◌}
use Rattle.rows.proofs.Causes.{by_reader, by_output, by_adder, room_after, lawful_after}
use Rattle.rows.proofs.model.Row.moved.Goals as goal

pub returns-in_err-slots : goal.returns-in_err-slots
returns-in_err-slots c =
    let p = err_from_is_err_and c.from_residual-in_err-slots.result c.from_residual-in_err-slots.ensures.1 in
    let m = c.args.shift_move in
    rw (p.1, p.2) (by_reader c.args.self.now m.adder m.amount c.args.used c.requires _ c.adder-adder.ensures c.in_ok-own.ensures.0 _ c.in_err-slots.ensures)

pub returns-in_err-output : goal.returns-in_err-output
returns-in_err-output c =
    let p = err_from_is_err_and c.from_residual-in_err-output.result c.from_residual-in_err-output.ensures.1 in
    let m = c.args.shift_move in
    rw (p.1, p.2) (by_output c.args.self.now m.adder m.amount c.args.used c.requires _ c.adder-adder.ensures c.in_ok-own.ensures.0 c.in_ok-slots.ensures.0 _ c.in_err-output.ensures)

pub returns-in_err-value : goal.returns-in_err-value
returns-in_err-value c =
    let p = err_from_is_err_and c.from_residual-in_err-value.result c.from_residual-in_err-value.ensures.1 in
    let r = c.args.self.now in
    let m = c.args.shift_move in
    rw (p.1, p.2) (
    by_adder r m.adder m.amount c.args.used c.requires _ c.adder-adder.ensures c.in_ok-own.ensures.0 c.in_ok-slots.ensures.0 c.in_ok-output.ensures.0
    _ _ c.values-values.ensures c.in_ok-own.ensures.1
    ∙ c.in_err-value.ensures)

pub invariant_of-result : goal.invariant_of-result
invariant_of-result c =
    let r = c.args.self.now in
    let m = c.args.shift_move in
    let whole = by_adder r m.adder m.amount c.args.used c.requires _ c.adder-adder.ensures c.in_ok-own.ensures.0 c.in_ok-slots.ensures.0 c.in_ok-output.ensures.0
    _ _ c.values-values.ensures c.in_ok-own.ensures.1
    ∙ c.in_ok-value.ensures.0 in
    record {
      room = room_after r m.adder m.amount c.args.used c.requires _ c.adder-adder.ensures c.in_ok-own.ensures.0 c.in_ok-slots.ensures.0 c.in_ok-output.ensures.0 whole _ _ c.in_ok-slots.ensures.1 c.in_ok-output.ensures.1;
      lawful = lawful_after r m.adder m.amount c.args.used c.requires _ c.adder-adder.ensures c.in_ok-own.ensures.0 c.in_ok-slots.ensures.0 c.in_ok-output.ensures.0 whole _ _ c.in_ok-slots.ensures.1 c.in_ok-output.ensures.1;
    }

pub returns : goal.returns
returns c =
    let r = c.args.self.now in
    let m = c.args.shift_move in (
      by_adder r m.adder m.amount c.args.used c.requires _ c.adder-adder.ensures c.in_ok-own.ensures.0 c.in_ok-slots.ensures.0 c.in_ok-output.ensures.0
          _ _ c.values-values.ensures c.in_ok-own.ensures.1
          ∙ c.in_ok-value.ensures.0,
      record { slots = c.in_ok-slots.ensures.1; output = c.in_ok-output.ensures.1 },
    )
