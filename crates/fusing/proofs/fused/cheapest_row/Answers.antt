use Rattle.std.proofs.Common.{rules, ◌≡◌, ℕ, ◌<◌, List, length, take, Some, sym, subst}
use Rattle.chains.specs.Chains.{chain_adders}
use Rattle.blocks.specs.declared.model.Block.{Block}
use Rattle.prices.specs.Tables.{Lawful, tables}
use Rattle.search.specs.Choosing.{Choice}
use Rattle.placing.specs.Placements.{Admissible}
use Rattle.placing.specs.Slots.{at_places, IsPlaced}
use Rattle.fusing.specs.Tasks.{TaskOf, ChosenRow}
use Rattle.fusing.proofs.Choosing.{none_found, answered}
use Rattle.fusing.proofs.fused.cheapest_row.Goals as goal

pub returns-in_err-found : goal.returns-in_err-found
returns-in_err-found g c =
    let t = tables (g.L.PriceList.adders c.args.list.now) (g.L.PriceList.muxes c.args.list.now) in
    let law : Lawful t = record { adders = g.met.L.PriceList.adders_lawful c.args.list.now; muxes = g.met.L.PriceList.muxes_lawful c.args.list.now } in
    let few : c.args.block.now.adders < length (chain_adders c.args.chain.now) = none_found t law c.args.block.now c.args.chain.now c.new-task.result c.new-task.ensures.task c.new-task.result.length c.new-task.ensures.task.length_is (search rules) in
    search rules

pub returns : goal.returns
returns g c =
    let l = c.new-task.result.list.now in
    let t = tables (g.L.PriceList.adders l) (g.L.PriceList.muxes l) in
    let law : Lawful t = record { adders = g.met.L.PriceList.adders_lawful l; muxes = g.met.L.PriceList.muxes_lawful l } in
    let same = c.new-task.ensures.list in
    let is = subst (λ k. TaskOf (tables (g.L.PriceList.adders k) (g.L.PriceList.muxes k)) c.args.block.now c.args.chain.now c.new-task.result) (sym same) c.new-task.ensures.task in
    let eight : length c.swaps-swaps.result ≡ 8 = search rules in
    let some : c.cheapest.result ≡ Some c.in_ok-found.found = search rules in
    let choice = subst (Choice c.new-task.result.count _ _ _ c.new-task.result.length) some c.cheapest.ensures in
    let made = subst (λ (ps : List ℕ). (before : Block) → Admissible before c.args.chain.now (at_places ps (take (length ps) c.swaps-swaps.result)) → IsPlaced c.args.chain.now (at_places ps (take (length ps) c.swaps-swaps.result)) c.placed_row.result)
    c.as_slice-places.ensures.items c.placed_row.ensures.placed in
    subst (λ k. ChosenRow (tables (g.L.PriceList.adders k) (g.L.PriceList.muxes k)) c.args.block.now c.args.chain.now c.placed_row.result) same
    (answered t law c.args.block.now c.args.chain.now c.new-task.result is c.new-task.result.length is.length_is c.in_ok-found.found choice c.swaps-swaps.result eight c.swaps-swaps.ensures c.placed_row.result made)
