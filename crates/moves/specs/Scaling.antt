-- What a move comes to in values.
--   xs   the slots before
--   ys   the slots after
use Rattle.std.specs.Prelude.{◌≡◌, ℕ, suc, ◌*◌, ◌^◌, ◌≤◌, ℤ, pos, negsuc, None, length, ◌≢◌}
use Rattle.adders.specs.Values.{Slots, value}
use Rattle.adders.specs.Rules.{first_broken, Sound}
use Rattle.moves.specs.Moves.{shift_rules_from, moved_from}

-- w is v times 2 ^ z; negsuc n is -(n + 1)
abbrev pub Scaled : ℤ → ℕ → ℕ → Type 0
Scaled (pos n) v w = w ≡ v * 2 ^ n
Scaled (negsuc n) v w = w * 2 ^ suc n ≡ v

-- the value of the moved adder is scaled by the amount, and every other value stays
pub record ValuesMove (a : ℕ) (z : ℤ) (xs ys : Slots) : Type 0 where
  pub moved : a ≤ length xs → Scaled z (value xs a) (value ys a)
  pub others : (j : ℕ) → j ≢ a → j ≤ length xs → value ys j ≡ value xs j

-- so it is wherever no shift leaves its range
abbrev pub MovingScales : Type 0
MovingScales = (a : ℕ) (z : ℤ) (xs : Slots) → 1 ≤ a → Sound xs → first_broken (shift_rules_from a z 1 xs) ≡ None → ValuesMove a z xs (moved_from a z 1 xs)
