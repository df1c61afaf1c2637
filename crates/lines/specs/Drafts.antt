-- What a draft keeps of a line.
use Rattle.std.specs.Prelude.{◌≡◌, ℕ, List, take}
use Rattle.adders.specs.declared.wiring.Adder.{Adder}
use Rattle.lines.specs.declared.draft.Draft.{Draft}
use Rattle.lines.specs.Form.{Line}

-- the first nine of the adders
abbrev pub Holds : List Adder → List Adder → Type 0
Holds kept xs = kept ≡ take 9 xs

-- the bytes are a line of the form, and the draft has what it says
pub record Says (bs : List ℕ) (d : Draft) : Type 0 where
  pub all : List Adder
  pub line : Line all d.shift bs
  pub holds : Holds d.adders all
