use Rattle.std.proofs.Common.{◌≡◌, true, false, Decides, Some, None, Ok, sym, refl, ap, ◌∙◌, subst, w64}
use Rattle.std.proofs.lemmas.List.{length-set}
use Rattle.std.proofs.lemmas.Result.{err_from_is_err_and}
use Rattle.std.proofs.lemmas.Int.{to_z-of_z}
use Rattle.adders.specs.Rules.{first_broken}
use Rattle.adders.proofs.Broken.{whole_from}
use Rattle.rows.specs.Moving.{move_rules, MovedRow, Movable}
use Rattle.rows.proofs.Moving.{uses_kept}
use Rattle.tables.specs.Tables.{live_rules}
use Rattle.blocks.specs.Uses.{row_uses}
use Rattle.blocks.specs.Blocks.{row_of, row_constant_of, constant_at}
use Rattle.blocks.specs.Calls.{moving, row_move_rules}
use Rattle.blocks.proofs.Books.{steps_follow_book}
use Rattle.blocks.proofs.Movable.{movable_at}
use Rattle.blocks.proofs.Placing.{below_sixteen, written, others_stay, at_each}
use Rattle.blocks.proofs.model.Block.move_shifts.Goals as goal

pub invariant_of-self : goal.invariant_of-self
invariant_of-self c =
    let b = c.args.self.now in
    let was = c.in_ok-row_mut.ensures.value.1 in
    let moved = c.in_ok-move_shifts.ensures.answer.1 in
    record {
      few = b.few;
      some_bits = b.some_bits;
      few_bits = b.few_bits;
      room = length-set b.table.rows c.args.code _ ∙ b.room;
      within = λ code adder h.
          at_each b.table c.args.code (Some _) (λ k o. row_uses o adder ≡ false) b.room (below_sixteen b.table c.args.code _ was)
          (uses_kept _ _ _ _ moved adder ∙ sym (ap (λ o. row_uses o adder) was) ∙ b.within c.args.code adder h)
          (λ k. b.within k adder h) code;
    }

pub returns-clause-answer : goal.returns-clause-answer
returns-clause-answer c =
    let b = c.args.self.now in
    let was = c.in_ok-row_mut.ensures.value.1 in
    let r = c.in_ok-row_mut.field-0.now in
    let moved = subst (λ z. (first_broken (move_rules r c.args.adder z) ≡ None) × MovedRow r c.args.adder z c.move_shifts.new.self) (to_z-of_z w64 c.args.amount c.ranges.amount) c.in_ok-move_shifts.ensures.answer in (
      whole_from (live_rules c.args.code (row_of b c.args.code)) (row_move_rules (row_of b c.args.code) c.args.adder c.args.amount) c.in_ok-row_mut.ensures.value.0
          (ap (λ o. first_broken (row_move_rules o c.args.adder c.args.amount)) was ∙ moved.0),
      record {
        before = c.in_ok-row_mut.field-0.now;
        was = was;
        row = _;
        moved = moved.1;
        rest = record {
          adders = refl;
          width = refl;
          there = written b.table c.args.code (Some _) b.room (below_sixteen b.table c.args.code _ was);
          others = others_stay b.table c.args.code (Some _);
        };
      },
    )

pub returns-clause-constants : goal.returns-clause-constants
returns-clause-constants c =
    let b = c.args.self.now in
    let was = c.in_ok-row_mut.ensures.value.1 in
    at_each b.table c.args.code (Some _) (λ k o. row_constant_of o ≡ constant_at b k) b.room (below_sixteen b.table c.args.code _ was)
    (ap Some c.in_ok-move_shifts.ensures.constant ∙ sym (ap row_constant_of was)) (λ k. refl)

pub returns-clause-book : goal.returns-clause-book
returns-clause-book c = steps_follow_book (moving c.args.code c.args.adder c.args.amount) c.args.self.now (Ok tt) _ (returns-clause-answer c)

pub returns-in_err-move_shifts-clause-exactly : goal.returns-in_err-move_shifts-clause-exactly
returns-in_err-move_shifts-clause-exactly c =
    let p = err_from_is_err_and c.from_residual-in_err-move_shifts.result c.from_residual-in_err-move_shifts.ensures.1 in
    let told = subst (λ z. Decides false (Movable c.in_ok-row_mut.field-0.now c.args.adder z)) (to_z-of_z w64 c.args.amount c.ranges.amount) c.in_err-move_shifts.ensures.exactly in
    rw p.1 (movable_at c.args.self.now c.args.code c.args.adder c.args.amount c.in_ok-row_mut.field-0.now c.in_ok-row_mut.ensures.value.1 false told)

pub returns-clause-exactly : goal.returns-clause-exactly
returns-clause-exactly c =
    let told = subst (λ z. Decides true (Movable c.in_ok-row_mut.field-0.now c.args.adder z)) (to_z-of_z w64 c.args.amount c.ranges.amount) c.in_ok-move_shifts.ensures.exactly in
    movable_at c.args.self.now c.args.code c.args.adder c.args.amount c.in_ok-row_mut.field-0.now c.in_ok-row_mut.ensures.value.1 true told
