-- What reading over a block answers.
use Rattle.std.proofs.Common.{◌≡◌, ℕ, List, Ok, Err, sym, refl, ◌∙◌}
use Rattle.adders.specs.declared.refusals.Refusal.{Refusal}
use Rattle.blocks.specs.declared.model.Block.{Block}
use Rattle.reading.specs.Data.{said}
use Rattle.reading.specs.Reader.{read_sheet}
use Rattle.sheetlaws.specs.Sheets.{IsSheet}
use Rattle.sheetlaws.specs.Refusing.{Refused}
use Rattle.sheets.specs.Calls.{ReadsBack}
use Rattle.sheetlaws.proofs.Told.{refusals_told}
use Rattle.reading.proofs.Staged.{ok_is, ok_not_err}
use Rattle.sheetlaws.proofs.Sound.{sound}
use Rattle.sheetlaws.proofs.Complete.{complete}
use Rattle.sheetlaws.proofs.SameSaid.{same_said}

module _ (bytes : List ℕ) where
  module _ (b : Block) (read : read_sheet bytes ≡ Ok (said b)) where
    pub is_sheet : IsSheet bytes b
    is_sheet = sound bytes b read

    pub only_block : (c : Block) → IsSheet bytes c → b ≡ c
    only_block c h = same_said b c (ok_is (said b) (said c) (sym read ∙ complete bytes c h))

  -- what is turned down leaves the block as it was
  pub turned_down : (e : Refusal) (b : Block) → read_sheet bytes ≡ Err e → Refused bytes e × (b ≡ b)
  turned_down e b read = ((refusals_told bytes e).0 read, refl)

  pub no_sheet : (e : Refusal) → read_sheet bytes ≡ Err e → (c : Block) → IsSheet bytes c → ⊥
  no_sheet e read c h = ok_not_err (said c) e (sym (complete bytes c h) ∙ read)

-- a sheet is a sheet of one block
pub one_block : (bytes : List ℕ) (b c : Block) → IsSheet bytes b → IsSheet bytes c → b ≡ c
one_block bytes b c h k = only_block bytes b (complete bytes b h) c k

-- bytes that are a sheet of a block are read back as it over any block
pub reads_back : (bytes : List ℕ) (b : Block) → IsSheet bytes b → ReadsBack bytes b
reads_back bytes b h before (Ok tt) after k = (refl, one_block bytes after b k h)
reads_back bytes b h before (Err e) after k = absurd (no_sheet bytes e ((refusals_told bytes e).1 k.0) b h)
