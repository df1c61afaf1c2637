-- The form of a line that is a whole number of 64 bits: as the number is printed, so without a plus and without leading zeros.
--   Integer z bs   the bytes bs say the integer z, which a word holds
--   Reading bs r   r is what reading the bytes bs answers: the integer, or the byte where they break the form
use Rattle.std.specs.Prelude.{◌≡◌, ℕ, List, ℤ, Ok, Err, Result}
use Rattle.forms.specs.declared.error.FormError.{FormError}
use Rattle.std.specs.Fmt.{signed_decimal}
use Rattle.arith.specs.Words.{InWord}
use Rattle.forms.specs.Breaking.{BrokenAt}

pub record Integer (z : ℤ) (bs : List ℕ) : Type 0 where
  pub held : InWord z
  pub written : bs ≡ signed_decimal z

abbrev pub Form : List ℕ → Type 0
Form bs = (z : ℤ) × Integer z bs

abbrev pub Reading : List ℕ → Result ℤ FormError → Type 0
Reading bs (Ok z) = Integer z bs
Reading bs (Err e) = BrokenAt Form bs e.place
