-- What a row that breaks a rule is told with is the refusal of its first broken rule, by number and place,
-- and the place is a part of the sheet's block.
--   bytes    a sheet whose port lines are all fine
--   a w      the adder count on its first line, and the width on its second
--   orders   for each port its inputs
--   es out   what a code line has: an entry for each adder, and the number of the output's input
--   r        the row that they select
--   e        the refusal of the first rule that the row breaks
use Rattle.std.specs.Prelude.{◌≡◌, ℕ, ◌≤◌, ◌⊎◌, List, ◌++◌, Some, Option, Err, codes}
use Rattle.adders.specs.declared.refusals.Refusal.{Refusal}
use Rattle.adders.specs.declared.refusals.Refusal.TheVariants.{ValueOutOfRange, AdderNotAsRead, RowBroken}
use Rattle.adders.specs.declared.refusals.RowFault.{RowFault}
use Rattle.adders.specs.declared.refusals.RowFault.TheVariants.{NotAsRead, OutOfRange}
use Rattle.adders.specs.Refusals.{refusal_entry, fault_entry}
use Rattle.adders.specs.Rules.{first_broken}
use Rattle.rows.specs.Rules.{row_rules}
use Rattle.texts.specs.declared.selection.Selection.{Selection}
use Rattle.texts.specs.Text.{number_line}
use Rattle.texts.specs.Listings.{eight_places}
use Rattle.reading.specs.Orders.{Orders}
use Rattle.reading.specs.Data.{RowData}
use Rattle.reading.specs.Lookup.{row_data}
use Rattle.reading.specs.Reader.{fault_of, read_sheet}
use Rattle.sheetlaws.specs.Refusing.{AllPorts}

-- the row has an adder that its output does not read, or lacks one that it reads; or a value is out of range
abbrev pub UseOrRange : Refusal → Type 0
UseOrRange e = ((j : ℕ) × (e ≡ AdderNotAsRead j)) ⊎ ((j : ℕ) × (e ≡ ValueOutOfRange j))

-- what is told is of a block with so many adders: an adder that is not as read is one of them;
-- a value out of range is one's too, or the output's, which has place 0
abbrev pub OfTheBlock : ℕ → RowFault → Type 0
OfTheBlock a (NotAsRead j) = (1 ≤ j) × (j ≤ a)
OfTheBlock a (OutOfRange j) = j ≤ a

-- sources and shifts were judged at the port lines, so no other rule of a row can be broken;
-- the fault that is carried has the number and the place of the refusal; and it is of the sheet's block
abbrev pub FaultsAreCarried : Type 0
FaultsAreCarried =
    (bytes : List ℕ) (a w : ℕ) (orders : Orders) (text : List ℕ)
    (es : List (Option Selection)) (out : ℕ) (r : RowData) (e : Refusal)
    → AllPorts bytes a w orders text
    → row_data orders (eight_places es) out ≡ Some r
    → first_broken (row_rules r.slots r.output) ≡ Some e
    → UseOrRange e × (fault_entry (fault_of e) ≡ refusal_entry e) × OfTheBlock a (fault_of e)

-- whatever sheet is turned down for a row: the adder count of its first line is such that the fault told is of a block with so many adders
abbrev pub FaultsAreOfTheBlock : Type 0
FaultsAreOfTheBlock =
    (bytes : List ℕ) (n : ℕ) (f : RowFault)
    → read_sheet bytes ≡ Err (RowBroken n f)
    → (a : ℕ) × (rest : List ℕ) × (bytes ≡ number_line (codes "adders=") a ++ rest) × OfTheBlock a f
