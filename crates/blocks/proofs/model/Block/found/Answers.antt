use Rattle.std.proofs.Common.{◌≤◌, ◌<◌, length, refl, ap, subst, rules}
use Rattle.blocks.proofs.Founding.{room_founded, there_founded, others_founded, within_founded}
use Rattle.blocks.proofs.model.Block.found.Goals as goal

pub invariant_of-self : goal.invariant_of-self
invariant_of-self c =
    let low : c.args.code ≤ 15 = search rules in
    let adders = c.adders.ensures.adders in
    record {
      few = search rules;
      some_bits = search rules;
      few_bits = search rules;
      room = room_founded c.new-table.result _ c.args.code c.from.result c.new-table.ensures low c.in_ok-put.ensures.1;
      within = λ k j l. within_founded c.new-table.result _ c.args.code c.from.result c.new-table.ensures low c.in_ok-put.ensures.1 c.args.chain.now c.from.ensures.0 k j (subst (λ xs. length xs < j) adders l);
    }

pub returns-clause-answer : goal.returns-clause-answer
returns-clause-answer c =
    let low : c.args.code ≤ 15 = search rules in (
      search rules,
      record {
        adders = ap length c.adders.ensures.adders;
        width = refl;
        row = c.from.result;
        there = there_founded c.new-table.result _ c.args.code c.from.result c.new-table.ensures low c.in_ok-put.ensures.1;
        of_chain = c.from.ensures.0;
        constant = c.from.ensures.1;
        others = others_founded c.new-table.result _ c.args.code c.from.result c.new-table.ensures low c.in_ok-put.ensures.1;
      },
    )
