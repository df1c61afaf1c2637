-- What the search for a placement asks of one chain and one block.
--   uses     how the chain uses adder d + 1, with its sources as they stand in the chain
--   held     what the live rows have at each adder of the block, adder 1 first
--   before   where the chain's adders stand that are placed already
use Rattle.std.specs.Prelude.{◌≡◌, ℕ, ◌+◌, ◌-◌, ◌<◌, ◌≤◌, Bool, true, false, ◌&&◌, not, List, [], length, take, Some, None, Ok, Err, Option, Result, nat_lt, ◌==◌, slice_get, slice_index, slice_index_or}
use Rattle.std.specs.List.{list_any}
use Rattle.adders.specs.declared.refusals.Refusal.{Refusal}
use Rattle.chains.specs.declared.model.Chain.{Chain}
use Rattle.chains.specs.Chains.{chain_adders}
use Rattle.rows.specs.declared.model.Row.{Row}
use Rattle.rows.specs.Rows.{adder_at, RowOf}
use Rattle.blocks.specs.declared.model.Block.{Block}
use Rattle.blocks.specs.Blocks.{row_of, Rewritten}
use Rattle.blocks.specs.Filling.{uses_none_past}
use Rattle.ports.specs.declared.port.Port.TheVariants.{Output}
use Rattle.prices.specs.Tables.{Tables}
use Rattle.pricing.specs.Prices.{block_price}
use Rattle.rises.specs.declared.held.HeldAdder.{HeldAdder}
use Rattle.rises.specs.declared.held.Way.{Way}
use Rattle.rises.specs.declared.uses.ValuedAdder.{ValuedAdder}
use Rattle.rises.specs.declared.uses.ValuedOperand.{ValuedOperand}
use Rattle.rises.specs.Rises.{adder_of, port_of, way_of}
use Rattle.rises.specs.Uses.{valued_operand, adder_used}
use Rattle.fusing.specs.declared.task.Task.{Task}
use Rattle.fusing.specs.Fusing.{Chosen}
use Rattle.placing.specs.Placements.{Placement, placed_source, placed_operand}

abbrev pub at : List ℕ → Placement
at ps = record { places = ps; swaps = [] }

-- an operand where its source stands
abbrev pub moved : List ℕ → ValuedOperand → ValuedOperand
moved before u = record { operand = placed_operand (at before) u.operand; bits = u.bits }

abbrev pub moved_adder : List ℕ → ValuedAdder → ValuedAdder
moved_adder before u = record { left = moved before u.left; sign = u.sign; right = moved before u.right; bits = u.bits }

-- what feeds the next adder stands below p
abbrev pub stands_above : List ℕ → Option ValuedAdder → ℕ → Bool
stands_above before None p = true
stands_above before (Some u) p = nat_lt (placed_source (at before) u.left.operand.source) p && nat_lt (placed_source (at before) u.right.operand.source) p

-- the next adder may stand at p
abbrev pub opens_at : (ℕ → Option ValuedAdder) → List ℕ → ℕ → Bool
opens_at uses before p = stands_above before (uses (length before)) p && not (list_any (λ q. q == p) before)

-- the cheaper way round for it there
abbrev pub way_at : Tables → ℕ → List ℕ → Option HeldAdder → Option ValuedAdder → Option Way
way_at t w before None u = None
way_at t w before (Some h) None = None
way_at t w before (Some h) (Some u) = Some (way_of t w h (moved_adder before u))

abbrev pub rise_of : Option Way → ℕ
rise_of None = 0
rise_of (Some way) = way.rise

abbrev pub swap_of : Option Way → Bool
swap_of None = false
swap_of (Some way) = way.swapped

-- how the row of the chain uses its adders, and what it puts at the output
abbrev pub UsesOf : Row → List (Option ValuedAdder) → Type 0
UsesOf r uses = (d : ℕ) → d < 8 → slice_index_or uses d None ≡ adder_used r (d + 1) (adder_at r (d + 1))

-- what the live rows have at the adders of the block
abbrev pub HeldOf : Tables → Block → List HeldAdder → Type 0
HeldOf t b held = (k : ℕ) → k < 8 → slice_get held k ≡ Some (adder_of t b (k + 1))

-- what a search is given of a block and a chain
pub record TaskOf {L : Type 0} (t : Tables) (b : Block) (chain : Chain) (task : Task L) : Type 0 where
  pub sample : task.sample ≡ b.width
  pub count : task.count ≡ b.adders
  pub length_is : task.length ≡ length (chain_adders chain)
  pub row : Row
  pub of_chain : RowOf chain row
  pub uses : UsesOf row task.uses
  pub output : task.output ≡ valued_operand row row.output
  pub held : HeldOf t b task.held
  pub held_output : task.held_output ≡ port_of b Output

-- whether each adder of the chain is better turned, at these places
abbrev pub SwapsOf : {L : Type 0} → Tables → Task L → List ℕ → List Bool → Type 0
SwapsOf t task ps ss = (d : ℕ) → d < length ps → slice_index_or ss d false ≡ swap_of (way_at t task.sample (take d ps) (slice_get task.held (slice_index ps d - 1)) (slice_index_or task.uses d None))

-- the row that is chosen for the chain, at whatever idle code it is put; there is one where the block has adders enough
abbrev pub ChosenRow : Tables → Block → Chain → Result Row Refusal → Type 0
ChosenRow t b chain (Ok row) =
    (uses_none_past b.adders row ≡ true)
    × (p : Placement)
    × ((code : ℕ) (after : Block)
    → code ≤ 15
    → row_of b code ≡ None
    → Rewritten b code (Some row) after
    → Chosen (block_price t) b code chain p after)
ChosenRow t b chain (Err e) = b.adders < length (chain_adders chain)
