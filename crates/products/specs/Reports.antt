-- The numbers of the input, and what is printed.
use Rattle.std.specs.Prelude.{ℕ, List, ◌++◌, ℤ, pos, negsuc, codes}
use Rattle.std.specs.Fmt.{signed_decimal}
use Rattle.adders.specs.declared.refusals.Refusal.{Refusal}
use Rattle.adders.specs.declared.refusals.Refusal.TheVariants as R

-- the code or adder that an integer names: one below 0 names none, which the largest number stands for
abbrev pub number_of : ℤ → ℕ
number_of (pos n) = n
number_of (negsuc n) = 18446744073709551615

-- the line of the input that a refused founding or move is about
abbrev pub input_line : Refusal → ℕ
input_line R.CodeAboveFifteen = 2
input_line R.CodeIdle = 2
input_line R.AdderUnused = 3
input_line r = 4

abbrev pub products_bytes : ℤ → ℤ → List ℕ
products_bytes before after = codes "before=" ++ (signed_decimal before ++ (codes "\nafter=" ++ signed_decimal after))
