-- Which adders the rows of a table use.
use Rattle.std.specs.Prelude.{ℕ, Bool, false, is_some, Some, None, Option}
use Rattle.rows.specs.declared.model.Row.{Row}
use Rattle.rows.specs.Rows.{adder_at}
use Rattle.tables.specs.declared.Table.{Table}
use Rattle.tables.specs.Tables.{row_at}

abbrev pub row_uses : Option Row → ℕ → Bool
row_uses None adder = false
row_uses (Some r) adder = is_some (adder_at r adder)

-- the row at a code uses an adder
abbrev pub uses : Table Row → ℕ → ℕ → Bool
uses t code adder = row_uses (row_at t code) adder
