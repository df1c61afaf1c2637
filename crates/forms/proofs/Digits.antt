-- Which bytes are digits.
use Rattle.std.proofs.Common.{◌≡◌, ℕ, ◌+◌, ◌≤◌, Some, None, arith}
use Rattle.std.proofs.lemmas.Bool.Decides.{nat_tests}
use Rattle.std.specs.Int.{IsInRange}
use Rattle.forms.specs.Digits.{digit}

pub digit_some : (b d : ℕ) → digit b ≡ Some d → (b ≡ 48 + d) × (d ≤ 9)
digit_some b d e = grind (arith, nat_tests)

pub digit_none : (b : ℕ) → digit b ≡ None → ¬ IsInRange 48 57 b
digit_none b e r = grind (arith, nat_tests)
