-- What the parts of a block cost once the chain stands there.
use Rattle.std.proofs.Common.{◌≡◌, ℕ, zero, suc, ◌+◌, ◌-◌, ◌*◌, ◌^◌, ◌<◌, ◌≤◌, Bool, true, false, List, length, get_or, Some, None, Option, sym, refl, ap, ◌∙◌, arith}
use Rattle.std.specs.Prelude.{slice_get, slice_index_or}
use Rattle.std.proofs.lemmas.List.{get_or_append_left, length-map}
use Rattle.adders.specs.declared.wiring.Adder.{Adder}
use Rattle.adders.specs.declared.wiring.Operand.{Operand}
use Rattle.adders.specs.Values.{value, wired}
use Rattle.chains.specs.declared.model.Chain.{Chain}
use Rattle.chains.specs.Chains.{chain_adders}
use Rattle.chains.proofs.Answering.{chain_keeps}
use Rattle.rows.specs.declared.model.Row.{Row}
use Rattle.rows.specs.Rows.{adder_at}
use Rattle.rows.proofs.Chained.{same_value}
use Rattle.blocks.specs.declared.model.Block.{Block}
use Rattle.blocks.specs.Blocks.{row_of, Rewritten}
use Rattle.bits.specs.Bits.{bits}
use Rattle.ports.specs.declared.port.Port.TheVariants.{Output}
use Rattle.prices.specs.Tables.{Tables, Lawful}
use Rattle.pricing.specs.Prices.{port_price, adder_with_ports, total, block_price}
use Rattle.rises.specs.declared.uses.ValuedAdder.{ValuedAdder}
use Rattle.rises.specs.declared.uses.ValuedOperand.{ValuedOperand}
use Rattle.rises.specs.Uses.{valued_operand, valued_adder, adder_used, turned}
use Rattle.rises.specs.Rises.{adder_of, port_of, adder_with, port_with}
use Rattle.rises.proofs.Parts.{used, unused, port_after, no_less}
use Rattle.placing.specs.Placements.{Placement, nth_adder, place, swap, Admissible, placed_source, placed_operand, placed_adder, PlacedRow}
use Rattle.placing.proofs.Standing.{nth_within, nth_lower}
use Rattle.placing.proofs.Made.{at_slot, value_placed}
use Rattle.fusing.specs.declared.task.Task.{Task}
use Rattle.fusing.specs.Tasks.{at, moved, moved_adder, TaskOf}
use Rattle.fusing.proofs.Sums.{rises, total_dearer}

module _ {L : Type 0} (t : Tables) (b : Block) (chain : Chain) (task : Task L) (is : TaskOf t b chain task) where
  abbrev n : ℕ
  n = length (chain_adders chain)

  abbrev uses : ℕ → Option ValuedAdder
  uses d = slice_index_or task.uses d None

  pub few : n ≤ 8
  few = chain.few

  pub use_at : (d : ℕ) (a : Adder) → nth_adder chain d ≡ Some a → uses d ≡ Some (valued_adder is.row (suc d) a)
  use_at d a e =
      let within = nth_within chain d a e in
      let long = length-map (chain_adders chain) Some in
      let s : d + 1 ≡ suc d = omega arith in
      let there : adder_at is.row (suc d) ≡ Some a = at_slot is.row d ∙ ap (λ xs. get_or xs d None) is.of_chain.slots ∙ get_or_append_left (wired (chain_adders chain)) _ None d (omega arith) ∙ e in
      is.uses d (omega (arith, few)) ∙ ap (λ j. adder_used is.row j (adder_at is.row j)) s ∙ ap (adder_used is.row (suc d)) there

  pub held_at : (p : ℕ) → 1 ≤ p → p ≤ b.adders → slice_get task.held (p - 1) ≡ Some (adder_of t b p)
  held_at p low high = let s : p - 1 + 1 ≡ p = omega arith in is.held (p - 1) (omega (arith, b.few)) ∙ ap (λ j. Some (adder_of t b j)) s

  -- the row of the chain has the chain's values
  row_value : (j : ℕ) → j ≤ n → value is.row.slots j ≡ value (wired (chain_adders chain)) j
  row_value j h = ap (λ xs. value xs j) is.of_chain.slots ∙ same_value (chain_adders chain) chain.shift (chain_keeps chain) j h

  module _ (p : Placement) (adm : Admissible b chain p) (row : Row) (of : PlacedRow chain p row) where
    -- the first d places are those of p
    abbrev pub Agrees : List ℕ → ℕ → Type 0
    Agrees before d = (i : ℕ) → i < d → get_or before i 0 ≡ place p i

    same_source : (before : List ℕ) (d j : ℕ) → Agrees before d → j ≤ d → placed_source p j ≡ placed_source (at before) j
    same_source before d zero g h = refl
    same_source before d (suc i) g h = sym (g i (omega arith))

    same_operand : (before : List ℕ) (d : ℕ) (o : Operand) → Agrees before d → o.source ≤ d → d ≤ n → valued_operand row (placed_operand p o) ≡ moved before (valued_operand is.row o)
    same_operand before d o g h within =
        let e = same_source before d o.source g h in
        let v = value_placed chain p row of b adm o.source (omega arith) ∙ sym (row_value o.source (omega arith)) in
        λ i. record { operand = record { source = e i; shift = o.shift }; bits = bits (v i * 2 ^ o.shift) }

    -- an adder's sides at its place, whichever way round
    same_sides : (j : ℕ) (a : Adder) (s : Bool) (l r : ValuedOperand) (v : ℕ) → valued_operand row (placed_operand p a.left) ≡ l → valued_operand row (placed_operand p a.right) ≡ r → bits (value row.slots j) ≡ v
        → valued_adder row j (placed_adder p s a) ≡ turned s (record { left = l; sign = a.sign; right = r; bits = v })
    same_sides j a false l r v e f g = λ i. record { left = e i; sign = a.sign; right = f i; bits = g i }
    same_sides j a true l r v e f g = λ i. record { left = f i; sign = a.sign; right = e i; bits = g i }

    same_adder : (before : List ℕ) (d : ℕ) (a : Adder) (s : Bool) → Agrees before d → nth_adder chain d ≡ Some a → valued_adder row (place p d) (placed_adder p s a) ≡ turned s (moved_adder before (valued_adder is.row (suc d) a))
    same_adder before d a s g e =
        let low = nth_lower chain d a e in
        let within = nth_within chain d a e in
        same_sides (place p d) a s (moved before (valued_operand is.row a.left)) (moved before (valued_operand is.row a.right)) (bits (value is.row.slots (suc d)))
        (same_operand before d a.left g low.0 (omega arith))
        (same_operand before d a.right g low.1 (omega arith))
        (ap bits (value_placed chain p row of b adm (suc d) (omega arith) ∙ sym (row_value (suc d) (omega arith))))

    module _ (code : ℕ) (after : Block) (idle : row_of b code ≡ None) (w : Rewritten b code (Some row) after) where
      -- an adder that the chain stands at
      pub part_after : (before : List ℕ) (d : ℕ) (a : Adder) → Agrees before d → nth_adder chain d ≡ Some a
          → adder_with_ports t after (place p d) ≡ adder_with t b.width (adder_of t b (place p d)) (turned (swap p d) (moved_adder before (valued_adder is.row (suc d) a)))
      part_after before d a g e =
          used code row b after idle w t (place p d) (placed_adder p (swap p d) a) (of.there d a e) ∙ ap (adder_with t b.width (adder_of t b (place p d))) (same_adder before d a (swap p d) g e)

      pub output_after : port_price t.muxes after Output ≡ port_with t.muxes b.width (port_of b Output) (moved p.places task.output)
      output_after =
          let e : row.output.source ≡ placed_source p is.row.output.source = of.source ∙ ap (placed_source p) (sym is.of_chain.source) in
          let s : row.output.shift ≡ is.row.output.shift = of.shift ∙ sym is.of_chain.shift in
          let o : row.output ≡ placed_operand p is.row.output = λ i. record { source = e i; shift = s i } in
          let last : is.row.output.source ≤ n = omega (arith, is.of_chain.source) in
          port_after code row b after idle w t Output row.output refl
          ∙ ap (λ x. port_with t.muxes b.width (port_of b Output) (valued_operand row x)) o
          ∙ ap (port_with t.muxes b.width (port_of b Output)) (same_operand p.places n is.row.output (λ i h. refl) last (omega arith) ∙ ap (moved p.places) (sym is.output))

      pub price_after : Lawful t → block_price t after ≡ total (adder_with_ports t b) b.adders + (rises (adder_with_ports t b) (adder_with_ports t after) p.places + port_with t.muxes b.width (port_of b Output) (moved p.places task.output))
      price_after law =
          let sum = total_dearer (adder_with_ports t b) (adder_with_ports t after) b.adders p.places (record { inside = adm.inside; apart = adm.apart }) (λ j none. unused code row b after idle w t j (of.others j none)) (no_less code row b after idle w t law) in
          let same : total (adder_with_ports t after) after.adders ≡ total (adder_with_ports t after) b.adders = ap (total (adder_with_ports t after)) w.adders in
          omega (arith, output_after)
