-- The wiring sheet of a block.
--   b        the block
--   a        its adder count
--   orders   for each port its inputs, in the order of its line
use Rattle.std.specs.Prelude.{◌≡◌, ℕ, suc, List, [], ◌∷◌, ◌++◌, take, Some, None, Option, codes, if◌then◌else◌}
use Rattle.adders.specs.declared.wiring.Adder.{Adder}
use Rattle.adders.specs.declared.wiring.Operand.{Operand}
use Rattle.adders.specs.Values.{Slots}
use Rattle.blocks.specs.declared.model.Block.{Block}
use Rattle.ports.specs.declared.port.Port.{Port}
use Rattle.ports.specs.declared.port.Port.TheVariants.{Left, Right, Output}
use Rattle.ports.specs.Ports.{ports}
use Rattle.ports.specs.Inputs.{same, Among, Selected}
use Rattle.texts.specs.declared.selection.Selection.{Selection}
use Rattle.texts.specs.Text.{number_line, port_line, code_line}
use Rattle.reading.specs.Orders.{Orders}
use Rattle.reading.specs.Data.{RowData, Said, said}
use Rattle.reading.specs.Repeats.{Once}

-- the lines of some ports
abbrev pub port_lines : Orders → List Port → List ℕ
port_lines orders [] = []
port_lines orders (p ∷ ps) = port_line p (orders p) ++ port_lines orders ps

-- the number of an input in its line, from 0
abbrev pub place : Operand → List Operand → ℕ
place o [] = 0
place o (u ∷ us) = if same o u then 0 else suc (place o us)

-- an adder's entry in a code line: the numbers of its two inputs, in their ports' lines
abbrev pub selection_of : Orders → ℕ → Option Adder → Option Selection
selection_of orders j None = None
selection_of orders j (Some x) = Some (record { left = place x.left (orders (Left j)); sign = x.sign; right = place x.right (orders (Right j)) })

-- from adder j on
abbrev pub selections_of : Orders → ℕ → Slots → List (Option Selection)
selections_of orders j [] = []
selections_of orders j (x ∷ xs) = selection_of orders j x ∷ selections_of orders (suc j) xs

-- the line of a live code; an idle one has none
abbrev pub row_line : Orders → ℕ → ℕ → Option RowData → List ℕ
row_line orders a c None = []
row_line orders a c (Some r) = code_line c (selections_of orders 1 (take a r.slots)) (place r.output (orders Output))

-- from code c on
abbrev pub row_lines : Orders → ℕ → ℕ → List (Option RowData) → List ℕ
row_lines orders a c [] = []
row_lines orders a c (r ∷ rs) = row_line orders a c r ++ row_lines orders a (suc c) rs

abbrev pub sheet_text : Orders → Said → List ℕ
sheet_text orders s =
    number_line (codes "adders=") s.adders ++ (number_line (codes "width=") s.width ++ (port_lines orders (ports s.adders) ++ row_lines orders s.adders 0 s.rows))

-- the inputs of a port, which are the operands that live rows put there, each once, in some order
pub record InputsInOrder (b : Block) (p : Port) (os : List Operand) : Type 0 where
  pub once : Once os
  pub only : (o : Operand) → Among o os → Selected b p o
  pub all : (o : Operand) → Selected b p o → Among o os

-- these bytes are a sheet of the block
pub record IsSheet (bytes : List ℕ) (b : Block) : Type 0 where
  pub orders : Orders
  pub ordered : (p : Port) → InputsInOrder b p (orders p)
  pub text : bytes ≡ sheet_text orders (said b)
