-- Blocks of which the same is said are the same.
use Rattle.std.proofs.Common.{◌≡◌, get_or, Some, None, Option, sym, refl, ap, ◌∙◌}
use Rattle.std.specs.Prelude.{option_map}
use Rattle.adders.proofs.Broken.{some_none}
use Rattle.rows.specs.declared.model.Row.{Row}
use Rattle.rows.proofs.Answering.{same_row}
use Rattle.blocks.specs.declared.model.Block.{Block}
use Rattle.blocks.specs.Blocks.{row_of}
use Rattle.blocks.proofs.Same.{all_that_a_block_has}
use Rattle.texts.proofs.Takes.{some_is}
use Rattle.reading.specs.Data.{RowData, data_of, Said, said}
use Rattle.reading.proofs.RowByRow.{rows_at}

same_rows : (r s : Option Row) → option_map data_of r ≡ option_map data_of s → r ≡ s
same_rows None None e = refl
same_rows None (Some s) e = absurd (some_none (sym e))
same_rows (Some r) None e = absurd (some_none e)
same_rows (Some r) (Some s) e = let d = some_is (data_of r) (data_of s) e in ap Some (same_row r s (ap (λ (x : RowData). x.slots) d) (ap (λ (x : RowData). x.output) d))

pub same_said : (b c : Block) → said b ≡ said c → b ≡ c
same_said b c e =
    all_that_a_block_has b c (ap (λ (s : Said). s.adders) e) (ap (λ (s : Said). s.width) e)
    (λ k. same_rows (row_of b k) (row_of c k) (sym (rows_at b k) ∙ ap (λ (s : Said). get_or s.rows k None) e ∙ rows_at c k))
