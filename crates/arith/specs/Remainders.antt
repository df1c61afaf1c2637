-- The remainders by a modulus, which words and residues mean.
--   Below n         a number below n
--   remainder n     of a number by n
--   remainders n    sum and difference by remainder
--   Modular         the moduli that residues can have
--   reduced_by m z  the remainder of the integer z by m
use Rattle.std.specs.Prelude.{ℕ, ◌+◌, ◌-◌, ◌%◌, ◌<◌, ◌≤◌, ℤ, pos, unsigned_abs}
use Rattle.std.specs.Int.{int_rem_euclid}
use Rattle.std.proofs.Common.{mod-lt, arith}
use Rattle.arith.specs.Operations.{Operations}

pub record Below (n : ℕ) : Type 0 where
  pub number : ℕ
  pub within : number < n

abbrev pub remainder : (n : ℕ) → 0 < n → ℕ → Below n
remainder n h k = record { number = k % n; within = mod-lt k h }

abbrev pub remainders : (n : ℕ) → 0 < n → Operations (Below n)
remainders n h = record {
  neutral = remainder n h 0;
  plus = λ x y. remainder n h (x.number + y.number);
  minus = λ x y. remainder n h (x.number + (n - y.number));
}

pub record Modular (n : ℕ) : Type 0 where
  pub least : 2 ≤ n
  pub most : n ≤ 65536

pub modular_positive : {n : ℕ} → Modular n → 0 < n
modular_positive bounds = omega (arith, bounds.least)

-- what a number means as a residue by n
abbrev pub residue : {n : ℕ} → Modular n → ℕ → Below n
residue {n} bounds = remainder n (modular_positive bounds)

abbrev pub residues : {n : ℕ} → Modular n → Operations (Below n)
residues {n} bounds = remainders n (modular_positive bounds)

abbrev pub reduced_by : ℕ → ℤ → ℕ
reduced_by m z = unsigned_abs (int_rem_euclid z (pos m))
