-- What a sheet says, as plain data: a block is its adder count, its width and its rows, a row its slots and its output.
use Rattle.std.specs.Prelude.{ℕ, ◌-◌, cond, List, map, Some, None, Option, nat_le, option_map, slice_index_or}
use Rattle.adders.specs.declared.wiring.Adder.{Adder}
use Rattle.adders.specs.declared.wiring.Operand.{Operand}
use Rattle.adders.specs.Values.{Slots}
use Rattle.rows.specs.declared.model.Row.{Row}
use Rattle.blocks.specs.declared.model.Block.{Block}
use Rattle.ports.specs.declared.port.Port.{Port}
use Rattle.ports.specs.declared.port.Port.TheVariants.{Left, Right, Output}
use Rattle.ports.specs.Ports.{left_of, right_of}

pub record RowData : Type 0 where
  pub slots : Slots
  pub output : Operand

abbrev pub data_of : Row → RowData
data_of r = record { slots = r.slots; output = r.output }

pub record Said : Type 0 where
  pub adders : ℕ
  pub width : ℕ
  pub rows : List (Option RowData)

abbrev pub rows_of : Block → List (Option RowData)
rows_of b = map (option_map data_of) b.table.rows

abbrev pub said : Block → Said
said b = record { adders = b.adders; width = b.width; rows = rows_of b }

-- the operand that a row puts at a port
abbrev pub slot_at : Slots → ℕ → Option Adder
slot_at xs j = cond (nat_le 1 j) (slice_index_or xs (j - 1) None) None

abbrev pub data_at : RowData → Port → Option Operand
data_at r (Left j) = left_of (slot_at r.slots j)
data_at r (Right j) = right_of (slot_at r.slots j)
data_at r Output = Some r.output

abbrev pub put_data : Option RowData → Port → Option Operand
put_data None p = None
put_data (Some r) p = data_at r p
