-- The bits of a value: the least b with 2 ^ b at least the value.
use Rattle.std.specs.Prelude.{ℕ, zero, suc, ◌+◌, ◌^◌, ◌≤◌, cond, nat_le}

-- the first of b, b + 1 and so on whose power of two is at least v, where it comes within so many steps
abbrev pub first_enough : ℕ → ℕ → ℕ → ℕ
first_enough b v zero = b
first_enough b v (suc steps) = cond (nat_le v (2 ^ b)) b (first_enough (b + 1) v steps)

-- at most v steps are needed
unfoldable pub bits : ℕ → ℕ
bits v = first_enough 0 v v

-- What they come to.

pub record BitsAreLeast : Type 0 where
  pub enough : (v : ℕ) → v ≤ 2 ^ bits v
  pub least : (v b : ℕ) → v ≤ 2 ^ b → bits v ≤ b
