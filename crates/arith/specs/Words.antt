-- Words of 64 bits: integers from -2^63 to 2^63 - 1, each of which means its remainder by 2^64.
--   InWord        an integer that a word holds; pos n is n, and negsuc n is -(n + 1)
--   word_bits     the remainder of an integer by 2^64: the bits of a word, two's complement
--   WordProduct   the product of n and x as a word: the integer that a word holds and that differs from n * x by a multiple of 2^64
use Rattle.std.specs.Prelude.{◌≡◌, ℕ, ◌-◌, ◌^◌, ◌<◌, ℤ, pos, negsuc, ◌+ℤ◌, ◌*ℤ◌, ◌≤ℤ◌}
use Rattle.std.proofs.Common.{mod-lt, arith, lit<}
use Rattle.arith.specs.Operations.{Operations}
use Rattle.arith.specs.Remainders.{Below, remainders, reduced_by}

pub record InWord (z : ℤ) : Type 0 where
  pub least : negsuc (2 ^ 63 - 1) ≤ℤ z
  pub most : z ≤ℤ pos (2 ^ 63 - 1)

pub record WordProduct (n : ℕ) (x r : ℤ) : Type 0 where
  pub held : InWord r
  pub wraps : ℤ
  pub congruent : pos n *ℤ x ≡ r +ℤ wraps *ℤ pos (2 ^ 64)

pub bits_positive : 0 < 2 ^ 64
bits_positive = lit< tt

abbrev pub word_bits : ℤ → ℕ
word_bits = reduced_by (2 ^ 64)

pub bits_below : (z : ℤ) → word_bits z < 2 ^ 64
bits_below (pos n) = mod-lt n bits_positive
bits_below (negsuc n) = omega arith

abbrev pub word_meaning : ℤ → Below (2 ^ 64)
word_meaning z = record { number = word_bits z; within = bits_below z }

abbrev pub words : Operations (Below (2 ^ 64))
words = remainders (2 ^ 64) bits_positive

-- a word has room for one product only
abbrev pub OneWordProduct : Type 0
OneWordProduct = (n : ℕ) (x r s : ℤ) → WordProduct n x r → WordProduct n x s → r ≡ s
