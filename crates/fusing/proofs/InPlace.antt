-- An adder whose operands add nothing at their ports as it is, is not swapped.
--   q       the placement p with adder d as it is
--   r, s    the rows of p and of q
--   a, o    the blocks that they leave
use Rattle.std.proofs.Common.{◌≡◌, ℕ, zero, suc, ◌+◌, ◌*◌, ◌^◌, ◌<◌, ◌≤◌, ◌≢◌, Bool, true, false, List, length, get_or, Some, None, Option, sym, refl, ap, ◌∙◌, subst, inl, inr, ⊎_elim, arith}
use Rattle.std.proofs.lemmas.Bool.{cases_eq}
use Rattle.adders.specs.declared.wiring.Adder.{Adder}
use Rattle.adders.specs.declared.wiring.Operand.{Operand}
use Rattle.adders.specs.Values.{value, wired}
use Rattle.chains.specs.declared.model.Chain.{Chain}
use Rattle.chains.specs.Chains.{chain_adders}
use Rattle.rows.specs.declared.model.Row.{Row}
use Rattle.rows.specs.Rows.{adder_at}
use Rattle.blocks.specs.declared.model.Block.{Block}
use Rattle.blocks.specs.Blocks.{row_of}
use Rattle.bits.specs.Bits.{bits}
use Rattle.ports.specs.declared.port.Port.{Port}
use Rattle.ports.specs.declared.port.Port.TheVariants.{Left, Right, Output}
use Rattle.ports.specs.Ports.{operand_at, left_of, right_of}
use Rattle.ports.specs.Inputs.{inputs}
use Rattle.prices.specs.Tables.{Tables, Lawful}
use Rattle.pricing.specs.declared.net.Net.TheVariants.{OfPort}
use Rattle.pricing.specs.Nets.{width_of}
use Rattle.pricing.specs.Laws.{InPlace}
use Rattle.pricing.specs.Prices.{mux_price, port_price, adder_with_ports, total, block_price}
use Rattle.pricing.proofs.Staying.{port_stays}
use Rattle.pricing.proofs.Comparing.{one_more, ports_grow, total_grows}
use Rattle.rises.specs.Uses.{valued_operand, valued_adder}
use Rattle.rises.specs.Rises.{port_of, adder_of, adder_with, port_with, ports_with}
use Rattle.rises.proofs.Parts.{port_after, unused, used}
use Rattle.placing.specs.Placements.{Placement, nth_adder, place, swap, Admissible, Placed, placed_source, placed_operand, placed_adder}
use Rattle.placing.proofs.Standing.{nth_there, nth_within, nth_lower, stands}
use Rattle.placing.proofs.Made.{value_placed}
use Rattle.fusing.specs.Fusing.{Chosen}
use Rattle.fusing.specs.Swaps.{as_it_is, InPlaceStays}
use Rattle.fusing.proofs.Swaps.{kept_own, kept_other, kept_admissible, swaps_pay}

module _ (t : Tables) (law : Lawful t) (before : Block) (code : ℕ) (chain : Chain) (p : Placement) (d : ℕ) (after other : Block) (idle : row_of before code ≡ None) (c : Chosen (block_price t) before code chain p after) (as_is : Placed before code chain (as_it_is d p) other) where
  abbrev q : Placement
  q = as_it_is d p

  abbrev r : Row
  r = c.placed.row

  abbrev s : Row
  s = as_is.row

  abbrev w : ℕ
  w = before.width

  ok : Admissible before chain q
  ok = kept_admissible before chain p d c.admissible

  -- both rows have the chain's values
  same_value : (j : ℕ) → j ≤ length (chain_adders chain) → value s.slots (placed_source p j) ≡ value r.slots (placed_source p j)
  same_value j h = value_placed chain q s as_is.of_chain before ok j h ∙ sym (value_placed chain p r c.placed.of_chain before c.admissible j h)

  same_operand : (o : Operand) → o.source ≤ length (chain_adders chain) → valued_operand s (placed_operand p o) ≡ valued_operand r (placed_operand p o)
  same_operand o h = let v = same_value o.source h in λ i. record { operand = placed_operand p o; bits = bits (v i * 2 ^ o.shift) }

  module _ (e : ℕ) (a : Adder) (at : nth_adder chain e ≡ Some a) where
    left : valued_operand s (placed_operand p a.left) ≡ valued_operand r (placed_operand p a.left)
    left = same_operand a.left (omega (arith, nth_lower chain e a at, nth_within chain e a at))

    right : valued_operand s (placed_operand p a.right) ≡ valued_operand r (placed_operand p a.right)
    right = same_operand a.right (omega (arith, nth_lower chain e a at, nth_within chain e a at))

    own : bits (value s.slots (place p e)) ≡ bits (value r.slots (place p e))
    own = ap bits (same_value (suc e) (omega (arith, nth_within chain e a at)))

    same_used : (turn : Bool) → valued_adder s (place p e) (placed_adder p turn a) ≡ valued_adder r (place p e) (placed_adder p turn a)
    same_used false = λ i. record { left = left i; sign = a.sign; right = right i; bits = own i }
    same_used true = λ i. record { left = right i; sign = a.sign; right = left i; bits = own i }

    in_other : adder_with_ports t other (place p e) ≡ adder_with t w (adder_of t before (place p e)) (valued_adder s (place p e) (placed_adder p (swap q e) a))
    in_other = used code s before other idle as_is.rest t (place p e) (placed_adder p (swap q e) a) (as_is.of_chain.there e a at)

    in_after : adder_with_ports t after (place p e) ≡ adder_with t w (adder_of t before (place p e)) (valued_adder r (place p e) (placed_adder p (swap p e) a))
    in_after = used code r before after idle c.placed.rest t (place p e) (placed_adder p (swap p e) a) (c.placed.of_chain.there e a at)

    elsewhere : e ≢ d → adder_with_ports t other (place p e) ≡ adder_with_ports t after (place p e)
    elsewhere ne =
        in_other
        ∙ ap (adder_with t w (adder_of t before (place p e))) (same_used (swap q e))
        ∙ ap (λ turn. adder_with t w (adder_of t before (place p e)) (valued_adder r (place p e) (placed_adder p turn a))) (kept_other d e p.swaps ne)
        ∙ sym in_after

  -- a port where the operand adds nothing costs what it cost, and so no more than with another operand
  module _ (port : Port) (x y : Operand) (here : operand_at s port ≡ Some x) (there : operand_at r port ≡ Some y) (nothing : InPlace s before port) where
    kept_price : port_price t.muxes other port ≡ port_price t.muxes before port
    unfolding port_price
    kept_price =
        let same = port_stays code s before other port idle as_is.rest nothing in λ i. mux_price t.muxes (length (same.inputs i)) (same.width i)

    no_dearer_port : port_with t.muxes w (port_of before port) (valued_operand s x) ≤ port_with t.muxes w (port_of before port) (valued_operand r y)
    no_dearer_port =
        let o = port_after code s before other idle as_is.rest t port x here in
        let a = port_after code r before after idle c.placed.rest t port y there in
        let grows = ports_grow before after (one_more before after code r idle c.placed.rest) t.muxes law.muxes port in omega (arith, kept_price)

  module _ (at_left : InPlace s before (Left (place p d))) (at_right : InPlace s before (Right (place p d))) (turned : swap p d ≡ true) where
    here : (a : Adder) → nth_adder chain d ≡ Some a → adder_with_ports t other (place p d) ≤ adder_with_ports t after (place p d)
    unfolding ports_with
    here a at =
        let h = adder_of t before (place p d) in
        let j = place p d in
        let there_s : adder_at s j ≡ Some (placed_adder p false a) = as_is.of_chain.there d a at ∙ ap (λ turn. Some (placed_adder p turn a)) (kept_own d p.swaps) in
        let there_r : adder_at r j ≡ Some (placed_adder p true a) = c.placed.of_chain.there d a at ∙ ap (λ turn. Some (placed_adder p turn a)) turned in
        let l = no_dearer_port (Left j) (placed_operand p a.left) (placed_operand p a.right) (ap left_of there_s) (ap left_of there_r) at_left in
        let k = no_dearer_port (Right j) (placed_operand p a.right) (placed_operand p a.left) (ap right_of there_s) (ap right_of there_r) at_right in
        let o = in_other d a at ∙ ap (λ turn. adder_with t w h (valued_adder s j (placed_adder p turn a))) (kept_own d p.swaps) in
        let x = in_after d a at ∙ ap (λ turn. adder_with t w h (valued_adder r j (placed_adder p turn a))) turned in
        let bits_same = own d a at in
        let kinds = ap (λ b. adder_with t w h (record { left = valued_operand s (placed_operand p a.left); sign = a.sign; right = valued_operand s (placed_operand p a.right); bits = b })) bits_same in
        omega arith

    part : (j : ℕ) → adder_with_ports t other j ≤ adder_with_ports t after j
    part j =
        ⊎_elim
        (λ at.
        let a = nth_there chain at.adder (omega (arith, at.within, c.admissible.each_placed)) in
        subst (λ i. adder_with_ports t other i ≤ adder_with_ports t after i) at.is
        (⊎_elim
        (λ (same : at.adder ≡ d). subst (λ e. adder_with_ports t other (place p e) ≤ adder_with_ports t after (place p e)) (sym same) (here a.0 (ap (nth_adder chain) (sym same) ∙ a.1)))
        (λ ne. omega (arith, elsewhere at.adder a.0 a.1 ne))
        (cases_eq at.adder d)))
        (λ none.
        let o = unused code s before other idle as_is.rest t j (as_is.of_chain.others j none) in
        let x = unused code r before after idle c.placed.rest t j (c.placed.of_chain.others j none) in omega arith)
        (stands p.places j)

    output : port_price t.muxes other Output ≡ port_price t.muxes after Output
    output =
        let n = length (chain_adders chain) in
        let last : Operand = record { source = n; shift = chain.shift } in
        let x : s.output ≡ placed_operand p last = λ i. record { source = as_is.of_chain.source i; shift = as_is.of_chain.shift i } in
        let y : r.output ≡ placed_operand p last = λ i. record { source = c.placed.of_chain.source i; shift = c.placed.of_chain.shift i } in
        port_after code s before other idle as_is.rest t Output s.output refl
        ∙ ap (λ o. port_with t.muxes w (port_of before Output) (valued_operand s o)) x
        ∙ ap (port_with t.muxes w (port_of before Output)) (same_operand last (omega arith))
        ∙ ap (λ o. port_with t.muxes w (port_of before Output) (valued_operand r o)) (sym y)
        ∙ sym (port_after code r before after idle c.placed.rest t Output r.output refl)

    no_dearer : block_price t other ≤ block_price t after
    no_dearer =
        let sum = total_grows (adder_with_ports t other) (adder_with_ports t after) before.adders part in
        let o = ap (total (adder_with_ports t other)) as_is.rest.adders in
        let x = ap (total (adder_with_ports t after)) c.placed.rest.adders in omega (arith, output)

  stays : InPlace s before (Left (place p d)) → InPlace s before (Right (place p d)) → (turn : Bool) → swap p d ≡ turn → swap p d ≡ false
  stays l k false e = e
  stays l k true e = absurd (omega (arith, no_dearer l k e, swaps_pay (block_price t) before code chain p d after other c e as_is))

pub in_place_stays : InPlaceStays
in_place_stays t before code chain p d after other law idle c as_is l k = stays t law before code chain p d after other idle c as_is l k (swap p d) refl
