-- What the samples of an arithmetic mean, and what multiplying a meaning is.
--   Operations   a neutral meaning, a sum and a difference
--   Laws         what they have to keep: those of a commutative group. Addition is associative and commutative, the neutral
--                meaning is its unit, and adding y to x - y gives x again
--   times        the sum of n copies of a meaning
--   doubled      a meaning added to itself, s times over
use Rattle.std.specs.Prelude.{◌≡◌, ℕ, zero, suc}

pub record Operations (M : Type 0) : Type 0 where
  pub neutral : M
  pub plus : M → M → M
  pub minus : M → M → M

pub record Laws {M : Type 0} (ops : Operations M) : Type 0 where
  pub brackets : (x y z : M) → ops.plus (ops.plus x y) z ≡ ops.plus x (ops.plus y z)
  pub turned : (x y : M) → ops.plus x y ≡ ops.plus y x
  pub unchanged : (x : M) → ops.plus x ops.neutral ≡ x
  pub restored : (x y : M) → ops.plus (ops.minus x y) y ≡ x

abbrev pub times : {M : Type 0} → Operations M → ℕ → M → M
times ops zero x = ops.neutral
times ops (suc n) x = ops.plus (times ops n x) x

abbrev pub doubled : {M : Type 0} → Operations M → ℕ → M → M
doubled ops zero x = x
doubled ops (suc s) x = let y = doubled ops s x in ops.plus y y

-- two arithmetics side by side
abbrev pub paired : {M N : Type 0} → Operations M → Operations N → Operations (M × N)
paired l r = record {
  neutral = (l.neutral, r.neutral);
  plus = λ x y. (l.plus x.0 y.0, r.plus x.1 y.1);
  minus = λ x y. (l.minus x.0 y.0, r.minus x.1 y.1);
}
