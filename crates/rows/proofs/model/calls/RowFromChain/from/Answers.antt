use Rattle.std.proofs.Common.{length, is_some, ap, ◌∙◌}
use Rattle.adders.specs.declared.wiring.Operand.{Operand}
use Rattle.adders.specs.Rules.{first_broken}
use Rattle.chains.specs.Chains.{chain_adders}
use Rattle.chains.proofs.Answering.{chain_keeps}
use Rattle.chains.proofs.Judging.{eight}
use Rattle.rows.specs.Rules.{row_constant, row_rules}
use Rattle.rows.proofs.Chained.{chain_row, same_constant}
use Rattle.rows.proofs.Keeping.{rules_from_keeps}
use Rattle.rows.proofs.model.calls.RowFromChain.from.Goals as goal

pub invariant_of-result : goal.invariant_of-result
invariant_of-result c =
    let d = c.args.chain in
    let xs = chain_adders d in
    let keeps = chain_keeps d in
    let out : Operand = record { source = length c.adders.result.now; shift = c.shift.result } in
    record {
      room = ap length c.slots.ensures ∙ eight xs keeps.few;
      lawful =
          ap (λ ys. is_some (first_broken (row_rules ys out))) c.slots.ensures
          ∙ ap is_some (rules_from_keeps _ out (chain_row xs d.shift keeps out (ap length c.adders.ensures.adders) c.shift.ensures));
    }

pub returns : goal.returns
returns c =
    let d = c.args.chain in
    let xs = chain_adders d in
    let count = ap length c.adders.ensures.adders in
    let out : Operand = record { source = length c.adders.result.now; shift = c.shift.result } in (
      record { slots = c.slots.ensures; source = count; shift = c.shift.ensures },
      ap (λ ys. row_constant ys out) c.slots.ensures ∙ same_constant xs d.shift (chain_keeps d) out count c.shift.ensures,
    )
