-- The line of a width: `width=` and a number of one or two digits.
--   WidthLine w bs     the bytes bs say the width w
--   WidthReading bs r  r is what reading the bytes bs answers: the width, or that they are too many, or the byte where they break the form, or that the width is none
use Rattle.std.specs.Prelude.{◌≡◌, ℕ, ◌<◌, ◌≤◌, List, ◌++◌, length, Ok, Err, Result, codes, decimal}
use Rattle.forms.specs.Breaking.{BrokenAt}
use Rattle.adders.specs.declared.refusals.Refusal.{Refusal}
use Rattle.adders.specs.declared.refusals.Refusal.TheVariants.{LineTooLong, BrokenForm, WidthOutOfRange}

pub record WidthLine (w : ℕ) (bs : List ℕ) : Type 0 where
  pub written : bs ≡ codes "width=" ++ decimal w
  pub small : w < 100

abbrev pub WidthForm : List ℕ → Type 0
WidthForm bs = (w : ℕ) × WidthLine w bs

-- the length first, then the form, then the range
pub data WidthReading (bs : List ℕ) : Result ℕ Refusal → Type 0 where
  width : {w : ℕ} → WidthLine w bs → 1 ≤ w → w ≤ 32 → WidthReading bs (Ok w)
  long : 200 < length bs → WidthReading bs (Err LineTooLong)
  misshapen : {i : ℕ} → length bs ≤ 200 → BrokenAt WidthForm bs i → WidthReading bs (Err (BrokenForm i))
  outside : {w : ℕ} → WidthLine w bs → (1 ≤ w → w ≤ 32 → ⊥) → WidthReading bs (Err WidthOutOfRange)
