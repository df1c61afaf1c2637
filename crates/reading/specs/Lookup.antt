-- The row that a code line selects.
use Rattle.std.specs.Prelude.{ℕ, suc, List, [], ◌∷◌, Some, None, Option, option_map, slice_get}
use Rattle.adders.specs.declared.wiring.Adder.{Adder}
use Rattle.adders.specs.Values.{Slots}
use Rattle.ports.specs.declared.port.Port.TheVariants.{Left, Right, Output}
use Rattle.texts.specs.declared.selection.Selection.{Selection}
use Rattle.texts.specs.Steps.{◌>>=◌}
use Rattle.reading.specs.Orders.{Orders}
use Rattle.reading.specs.Data.{RowData}

-- adder j with the inputs of these numbers at its two ports, none where a port lacks the number
unfoldable pub wired : Orders → ℕ → Selection → Option Adder
wired orders j s = do
  left ← slice_get (orders (Left j)) s.left
  right ← slice_get (orders (Right j)) s.right
  Some (record { left = left; sign = s.sign; right = right })

abbrev pub slot_of : Orders → ℕ → Option Selection → Option (Option Adder)
slot_of orders j None = Some None
slot_of orders j (Some s) = option_map Some (wired orders j s)

-- from adder j on
unfoldable pub slots_of : Orders → ℕ → List (Option Selection) → Option Slots
slots_of orders j [] = Some []
slots_of orders j (x ∷ xs) = do
  slot ← slot_of orders j x
  slots ← slots_of orders (suc j) xs
  Some (slot ∷ slots)

unfoldable pub row_data : Orders → List (Option Selection) → ℕ → Option RowData
row_data orders xs out = do
  slots ← slots_of orders 1 xs
  output ← slice_get (orders Output) out
  Some (record { slots = slots; output = output })
