use Rattle.std.proofs.Common.{◌≡◌, None, Ok, rules}
use Rattle.adders.specs.Rules.{first_broken, Changed}
use Rattle.rows.specs.Moving.{move_rules, MovedRow}
use Rattle.rows.proofs.Causes.{move_scales_value, move_keeps_constant}
use Rattle.rows.proofs.Movable.{exactly_movable}
use Rattle.rows.proofs.model.Row.move_shifts.Goals as goal

-- what an accepted move is known by
told : (c : goal.In_ok-self) → (first_broken (move_rules c.args.self.now c.args.adder c.args.amount) ≡ None) × MovedRow c.args.self.now c.args.adder c.args.amount c.in_ok-self.field-0
told c = search rules

pub returns-clause-values : goal.returns-clause-values
returns-clause-values c = move_scales_value c.args.self.now c.in_ok-self.field-0 c.args.adder c.args.amount (told c).0 (told c).1

pub returns-clause-constant : goal.returns-clause-constant
returns-clause-constant c = move_keeps_constant c.args.self.now c.in_ok-self.field-0 c.args.adder c.args.amount (told c).0 (told c).1

pub returns-clause-exactly : goal.returns-clause-exactly
returns-clause-exactly c = exactly_movable c.args.self.now c.args.adder c.args.amount (Ok (tt {0})) c.in_ok-self.field-0 (told c)

pub returns-in_err-self-clause-exactly : goal.returns-in_err-self-clause-exactly
returns-in_err-self-clause-exactly c =
    let r = c.args.self.now in
    let refused : Changed (move_rules r c.args.adder c.args.amount) r (λ _ row. MovedRow r c.args.adder c.args.amount row) c.from_residual-in_err-self.result r = search rules in
    exactly_movable r c.args.adder c.args.amount c.from_residual-in_err-self.result r refused
