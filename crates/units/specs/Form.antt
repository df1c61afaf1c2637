-- The form of a line of unit prices: `units=` and four numbers with a space between them.
--   UnitsLine u bs   the bytes bs say the unit prices u
--   Reading bs r     r is what reading the bytes bs answers: the unit prices, or the byte where they break the form
-- Each number is below 1,000,000,000. What else prices may be is no part of the form.
use Rattle.std.specs.Prelude.{◌≡◌, ℕ, ◌^◌, ◌<◌, List, ◌∷◌, ◌++◌, Ok, Err, Result, codes, decimal}
use Rattle.forms.specs.declared.error.FormError.{FormError}
use Rattle.forms.specs.Breaking.{BrokenAt}
use Rattle.prices.specs.declared.per_bit.UnitPrices.{UnitPrices}

abbrev pub key : List ℕ
key = codes "units="

-- 32 is the space
abbrev pub units_text : UnitPrices → List ℕ
units_text u = key ++ (decimal u.adds ++ 32 ∷ (decimal u.subtracts ++ 32 ∷ (decimal u.both ++ 32 ∷ decimal u.two_to_one)))

pub record UnitsLine (u : UnitPrices) (bs : List ℕ) : Type 0 where
  pub written : bs ≡ units_text u
  pub adds : u.adds < 10 ^ 9
  pub subtracts : u.subtracts < 10 ^ 9
  pub both : u.both < 10 ^ 9
  pub two_to_one : u.two_to_one < 10 ^ 9

abbrev pub Form : List ℕ → Type 0
Form bs = (u : UnitPrices) × UnitsLine u bs

abbrev pub Reading : List ℕ → Result UnitPrices FormError → Type 0
Reading bs (Ok u) = UnitsLine u bs
Reading bs (Err e) = BrokenAt Form bs e.place
