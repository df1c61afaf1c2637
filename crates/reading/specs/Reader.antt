-- Reading a sheet, as functions on lists of bytes: each stage answers what it read and the bytes after it, or the first cause to turn the sheet down.
--   n        the line, from 1
--   a        the block's adder count
--   orders   for each port its inputs in the order of its line, as far as they are read
use Rattle.std.specs.Prelude.{ℕ, zero, suc, ◌+◌, ◌*◌, Bool, not, ◌&&◌, List, [], ◌∷◌, length, map, Some, None, Option, Ok, Err, Result, codes, nat_le, nat_lt, ◌==◌, if◌then◌else◌}
use Rattle.std.specs.List.{list_all, list_any}
use Rattle.adders.specs.declared.refusals.Refusal.{Refusal}
use Rattle.adders.specs.declared.refusals.Refusal.TheVariants.{SheetTooLong, SheetForm, SheetLimit, InputRepeated, InputAbsent, RowBroken, InputUnselected}
use Rattle.adders.specs.declared.refusals.RowFault.{RowFault}
use Rattle.adders.specs.declared.refusals.RowFault.TheVariants.{NotAsRead, OutOfRange}
use Rattle.adders.specs.Refusals.{refusal_entry}
use Rattle.adders.specs.declared.wiring.Operand.{Operand}
use Rattle.adders.specs.Rules.{first_broken}
use Rattle.rows.specs.Rules.{row_rules}
use Rattle.ports.specs.declared.port.Port.{Port}
use Rattle.ports.specs.declared.port.Port.TheVariants.{Left, Right, Output}
use Rattle.ports.specs.Ports.{ports}
use Rattle.ports.specs.Inputs.{same, different}
use Rattle.texts.specs.declared.selection.Selection.{Selection}
use Rattle.texts.specs.Text.{code_key}
use Rattle.texts.specs.Pieces.{skip, if_next, number_line_at, port_line_at, selections_at}
use Rattle.texts.specs.Listings.{eight_places}
use Rattle.reading.specs.Orders.{Orders, no_lines, with_line}
use Rattle.reading.specs.Data.{RowData, Said, put_data}
use Rattle.reading.specs.Stages.{◌>>=◌, or_refused, if_passed}
use Rattle.reading.specs.Lookup.{row_data}
use Rattle.reading.specs.Repeats.{repeats}

-- a key and a number from low to high
unfoldable pub read_number : List ℕ → ℕ → ℕ → ℕ → List ℕ → Result (ℕ × List ℕ) Refusal
read_number key low high n text = do
  x ← or_refused (SheetForm n) (number_line_at key text)
  if_passed (nat_le low x.0 && nat_le x.0 high) (SheetLimit n) x

-- the sources of a port are below this; the output takes any adder of the block
abbrev pub bound : ℕ → Port → ℕ
bound a (Left j) = j
bound a (Right j) = j
bound a Output = suc a

abbrev pub allowed : ℕ → Operand → Bool
allowed limit o = nat_lt o.source limit && nat_le o.shift 30

-- at most sixteen inputs, each of a source that is allowed there, shifted by at most 30
abbrev pub within_limits : ℕ → List Operand → Bool
within_limits limit os = nat_le (length os) 16 && list_all (allowed limit) os

-- the line of a port
unfoldable pub read_port : ℕ → ℕ → Port → List ℕ → Result (List Operand × List ℕ) Refusal
read_port a n p text = do
  os ← or_refused (SheetForm n) (port_line_at p text)
  inputs ← if_passed (within_limits (bound a p) os.0) (SheetLimit n) os.0
  if_passed (not (repeats inputs)) (InputRepeated n) os

-- the lines of the ports, one after another
unfoldable pub read_ports : ℕ → ℕ → List Port → Orders → List ℕ → Result (Orders × List ℕ) Refusal
read_ports a n [] orders text = Ok (orders, text)
read_ports a n (p ∷ ps) orders text = do
  os ← read_port a n p text
  read_ports a (suc n) ps (with_line p os.0 orders) os.1

-- what breaks a rule of a row, as it is told
abbrev pub fault_of : Refusal → RowFault
fault_of e = if (refusal_entry e).number == 16 then NotAsRead (refusal_entry e).place else OutOfRange (refusal_entry e).place

abbrev pub judged_by : ℕ → RowData → Option Refusal → Result RowData Refusal
judged_by n r None = Ok r
judged_by n r (Some e) = Err (RowBroken n (fault_of e))

-- the row that a code line selects
unfoldable pub select_row : Orders → ℕ → List (Option Selection) → ℕ → Result RowData Refusal
select_row orders n xs out = do
  r ← or_refused (InputAbsent n) (row_data orders xs out)
  judged_by n r (first_broken (row_rules r.slots r.output))

-- what a code line has after its key
unfoldable pub read_row : Orders → ℕ → ℕ → List ℕ → Result (RowData × List ℕ) Refusal
read_row orders a n text = do
  s ← or_refused (SheetForm n) (selections_at a text)
  row ← select_row orders n (eight_places s.0.0) s.0.1
  Ok (row, s.1)

abbrev pub then_row : Option RowData → Result (List (Option RowData)) Refusal → Result (List (Option RowData)) Refusal
then_row r rs = do
  rows ← rs
  Ok (r ∷ rows)

-- the lines of the codes from c on, of which k are left, up to the end
unfoldable pub read_codes : Orders → ℕ → ℕ → ℕ → ℕ → List ℕ → Result (List (Option RowData)) Refusal
read_codes orders a zero c n text = if_passed (length text == 0) (SheetForm n) []
read_codes orders a (suc k) c n text = if_next (skip (code_key c) text) (then_row None (read_codes orders a k (suc c) n text)) (λ rest. do
  row ← read_row orders a n rest
  then_row (Some row.0) (read_codes orders a k (suc c) (suc n) row.1))

-- the block whose rows the code lines select
unfoldable pub read_block : Orders → ℕ → ℕ → List ℕ → Result Said Refusal
read_block orders a w text = do
  rows ← read_codes orders a 16 0 (2 * a + 4) text
  Ok (record { adders = a; width = w; rows = rows })

-- each of these inputs is selected by some row
abbrev pub data_inputs : List (Option RowData) → Port → List Operand
data_inputs rows p = different (map (λ r. put_data r p) rows)

abbrev pub all_selected : List (Option RowData) → Port → List Operand → Bool
all_selected rows p os = list_all (λ o. list_any (same o) (data_inputs rows p)) os

-- and so at each port
abbrev pub check_ports : List (Option RowData) → Orders → ℕ → List Port → Result Unit Refusal
check_ports rows orders n [] = Ok tt
check_ports rows orders n (p ∷ ps) = if all_selected rows p (orders p) then check_ports rows orders (suc n) ps else Err (InputUnselected n)

unfoldable pub read_sheet : List ℕ → Result Said Refusal
read_sheet bytes = do
  text ← if_passed (nat_le (length bytes) 4096) SheetTooLong bytes
  a ← read_number (codes "adders=") 0 8 1 text
  w ← read_number (codes "width=") 1 32 2 a.1
  orders ← read_ports a.0 3 (ports a.0) no_lines w.1
  block ← read_block orders.0 a.0 w.0 orders.1
  selected ← check_ports block.rows orders.0 3 (ports block.adders)
  Ok block
