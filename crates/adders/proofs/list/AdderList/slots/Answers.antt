use Rattle.std.proofs.Common.{◌-◌, ◌++◌, length, map, replicate, Some, None, ◌∙◌, ap, arith}
use Rattle.std.proofs.lemmas.List.{length-set}
use Rattle.adders.specs.Values.{spare_adder}
use Rattle.adders.proofs.Places.{filled_more, spare_less, filled_all}
use Rattle.adders.proofs.list.AdderList.slots.Goals as goal

pub loop-i-preserved : goal.loop-i-preserved
loop-i-preserved g c =
    let inv = c.loop-i.invariant in
    let few = c.as_slice-adders.ensures.few in
    let same = ap length c.as_slice-adders.ensures.items in (
      length-set c.loop-i.slots c.loop-i.i _ ∙ inv.0,
      filled_more Some c.as_slice-adders.result.now c.loop-i.slots c.loop-i.i spare_adder (omega (arith, few, same, inv.0, c.loop-i-test.true)) c.loop-i-test.true inv.1,
      spare_less c.loop-i.slots c.loop-i.i g.row.N _ None inv.2,
    )

pub returns-clause-slots : goal.returns-clause-slots
returns-clause-slots g c =
    let inv = c.loop-i.invariant in
    let end = c.loop-i.auto.i-end in
    let all = filled_all Some None c.as_slice-adders.result.now c.loop-i.slots c.loop-i.i g.row.N (omega (arith, end, c.loop-i-test.false)) inv.1 inv.2 in
    all ∙ ap (λ xs. map Some xs ++ replicate (g.row.N - length xs) None) c.as_slice-adders.ensures.items
