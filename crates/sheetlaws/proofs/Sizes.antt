-- How long a sheet is.
use Rattle.std.proofs.Common.{ℕ, suc, ◌*◌, ◌≤◌, ◌+◌, List, [], ◌∷◌, ◌++◌, length, take, Some, None, Option, arith}
use Rattle.std.specs.Prelude.{codes}
use Rattle.std.proofs.lemmas.List.{length-append, length-take}
use Rattle.blocks.specs.declared.model.Block.{Block}
use Rattle.ports.specs.declared.port.Port.{Port}
use Rattle.ports.specs.declared.port.Port.TheVariants.{Output}
use Rattle.ports.specs.Ports.{ports}
use Rattle.texts.specs.Text.{number_line, port_line, code_line, AllSmall}
use Rattle.texts.proofs.Lengths.{number_line_length, port_line_length, code_line_length}
use Rattle.reading.specs.Orders.{Orders}
use Rattle.reading.specs.Data.{RowData, rows_of, said}
use Rattle.sheetlaws.specs.Sheets.{place, selections_of, port_lines, row_lines, sheet_text}
use Rattle.reading.proofs.PortOrder.{ports_count}
use Rattle.reading.proofs.RowByRow.{rows_length}
use Rattle.sheetlaws.proofs.Placed.{place_few}
use Rattle.sheetlaws.proofs.RowsAgain.{FewEach, small_entries, selections_length}
use Rattle.sheetlaws.proofs.ToldOrder.{Proper, proper}

module _ (orders : Orders) (few : FewEach orders) (small : (p : Port) → AllSmall (orders p)) where
  pub port_lines_length : (ps : List Port) → Proper ps → length (port_lines orders ps) ≤ 101 * length ps
  port_lines_length [] h = omega arith
  port_lines_length (p ∷ ps) h =
      omega (arith, port_lines_length ps h.1.1, port_line_length p (orders p) h.0 (small p), few p, length-append (port_line p (orders p)) (port_lines orders ps))

module _ (orders : Orders) (few : FewEach orders) (a : ℕ) (few_adders : a ≤ 8) where
  pub row_lines_length : (c : ℕ) (rs : List (Option RowData)) → c + length rs ≤ 16 → length (row_lines orders a c rs) ≤ 55 * length rs
  row_lines_length c [] h = omega arith
  row_lines_length c (None ∷ rs) h = omega (arith, row_lines_length (suc c) rs (omega arith))
  row_lines_length c (Some r ∷ rs) h =
      let es = selections_of orders 1 (take a r.slots) in
      let out = place r.output (orders Output) in
      let small = small_entries orders 1 (take a r.slots) few in
      let small_output : out ≤ 99 = omega (arith, place_few (orders Output) r.output, few Output) in
      omega (arith, row_lines_length (suc c) rs (omega arith), code_line_length c es out (omega arith) small small_output, selections_length orders 1 (take a r.slots), length-take a r.slots, length-append (code_line c es out) (row_lines orders a (suc c) rs))

pub sheet_length : (orders : Orders) (b : Block) → FewEach orders → ((p : Port) → AllSmall (orders p)) → length (sheet_text orders (said b)) ≤ 4096
sheet_length orders b few small =
    let first = number_line (codes "adders=") b.adders in
    let second = number_line (codes "width=") b.width in
    let lines = port_lines orders (ports b.adders) in
    let rows = row_lines orders b.adders 0 (rows_of b) in
    omega (
      arith,
      length-append first (second ++ (lines ++ rows)),
      length-append second (lines ++ rows),
      length-append lines rows,
      number_line_length (codes "adders=") b.adders (omega (arith, b.few)),
      number_line_length (codes "width=") b.width (omega (arith, b.few_bits)),
      port_lines_length orders few small (ports b.adders) (proper b.adders b.few),
      ports_count b.adders 1,
      row_lines_length orders few b.adders b.few 0 (rows_of b) (omega (arith, rows_length b)),
      rows_length b,
      b.few,
    )
