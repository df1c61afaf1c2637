-- Numbers without a sign, as they are printed.
--   NumberUpTo last n bs   the bytes bs say the number n, which is at most last
--   FormUpTo last bs       they say some number
--   NineDigits n bs        they say the number n, of at most nine digits
-- Each is below 2 ^ 32, whatever the last is.
use Rattle.std.specs.Prelude.{◌≡◌, ℕ, ◌^◌, ◌<◌, ◌≤◌, List, decimal}

pub record NumberUpTo (last n : ℕ) (bs : List ℕ) : Type 0 where
  pub most : n ≤ last
  pub held : n < 2 ^ 32
  pub written : bs ≡ decimal n

abbrev pub FormUpTo : ℕ → List ℕ → Type 0
FormUpTo last bs = (n : ℕ) × NumberUpTo last n bs

abbrev pub NineDigits : ℕ → List ℕ → Type 0
NineDigits n bs = NumberUpTo 999999999 n bs
