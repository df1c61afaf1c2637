-- The multiples of a sample, and what is printed for it.
--   MultiplesOf c x  c times x: as a word, by 255, and by 257
use Rattle.std.specs.Prelude.{◌≡◌, ℕ, ◌*◌, ◌%◌, List, ◌++◌, ℤ, codes, decimal}
use Rattle.std.specs.Fmt.{signed_decimal}
use Rattle.arith.specs.Remainders.{reduced_by}
use Rattle.arith.specs.Words.{WordProduct}
use Rattle.multiples.specs.declared.report.Multiples.{Multiples}

abbrev pub residue_product : ℕ → ℕ → ℤ → ℕ
residue_product m c x = (c * reduced_by m x) % m

pub record MultiplesOf (c : ℕ) (x : ℤ) (m : Multiples) : Type 0 where
  pub word : WordProduct c x m.word
  pub mod255 : m.mod255 ≡ residue_product 255 c x
  pub mod257 : m.mod257 ≡ residue_product 257 c x

abbrev pub multiples_bytes : Multiples → Multiples → List ℕ
multiples_bytes m f =
    codes "word=" ++ (signed_decimal m.word ++ (codes "\nmod255=" ++ (decimal m.mod255 ++ (codes "\nmod257=" ++ (decimal m.mod257
    ++ (codes "\nframe=" ++ (signed_decimal f.word ++ (codes " " ++ (decimal f.mod255 ++ (codes " " ++ decimal f.mod257))))))))))
