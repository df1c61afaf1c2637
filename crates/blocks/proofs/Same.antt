-- Blocks that have the same are the same.
use Rattle.std.proofs.Common.{◌≡◌, ℕ, ◌≤◌, leb, get_or, None, sym, ◌∙◌, arith}
use Rattle.std.proofs.lemmas.Bool.{cond-true, le-leb}
use denote.Struct.Record.{values_one}
use Rattle.adders.proofs.Places.{same_list}
use Rattle.rows.specs.contracts.model.Row as row
use Rattle.tables.specs.declared.Table.{Table}
use Rattle.tables.specs.Tables.{row_at}
use Rattle.tables.specs.contracts.Table as table
use Rattle.blocks.specs.contracts.model.Block.{struct, the_propositions}
use Rattle.blocks.specs.Blocks.{AllThatABlockHas}

-- the place of a code
at_place : {A : Type 0} (t : Table A) (k : ℕ) → k ≤ 15 → row_at t k ≡ get_or t.rows k None
at_place t k h = cond-true (leb k 15) (get_or t.rows k None) None (le-leb k 15 h)

pub all_that_a_block_has : AllThatABlockHas
all_that_a_block_has b c adders width rows =
    let sixteen = b.room in
    let places : b.table.rows ≡ c.table.rows =
    same_list None b.table.rows c.table.rows (b.room ∙ sym c.room) (λ k h. sym (at_place b.table k (omega arith)) ∙ rows k ∙ at_place c.table k (omega arith)) in
    values_one struct (the_propositions (table.the_row row.the_row).coded (row.the_row).coded) b c (λ i. (adders i, (width i, ((record { rows = places i }), tt))))
