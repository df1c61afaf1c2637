-- The order in which a port's inputs are written.
use Rattle.std.proofs.Common.{List, [], ◌∷◌, refl}
use Rattle.adders.specs.declared.wiring.Operand.{Operand}
use Rattle.blocks.specs.declared.model.Block.{Block}
use Rattle.ports.specs.declared.port.Port.{Port}
use Rattle.ports.specs.Inputs.{inputs, Ascends}
use Rattle.ports.proofs.Ascending.{before_irrefl, inputs_law}
use Rattle.reading.specs.Repeats.{Once}
use Rattle.sheetlaws.specs.Sheets.{InputsInOrder, IsSheet}
use Rattle.sheets.specs.Calls.{written_sheet}

ascending_once : (os : List Operand) → Ascends os → Once os
ascending_once [] a = tt
ascending_once (o ∷ os) a = (λ h. before_irrefl o (a.0 o h), ascending_once os a.1)

pub canonical : (b : Block) (p : Port) → InputsInOrder b p (inputs b p)
canonical b p = let l = inputs_law.these b p in record { once = ascending_once (inputs b p) l.ascending; only = l.only; all = l.all }

pub is_sheet : (b : Block) → IsSheet (written_sheet b) b
is_sheet b = record { orders = inputs b; ordered = canonical b; text = refl }
