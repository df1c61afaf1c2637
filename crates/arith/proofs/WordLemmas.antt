-- What the operations of words come to.
use Rattle.std.specs.Prelude.{◌≡◌, ℕ, ◌+◌, ◌-◌, ◌*◌, ◌%◌, ◌^◌, ◌<◌, ◌≤◌, Option, Some, None, ℤ, pos, negsuc, FitsSigned, unwrap_or}
use Rattle.std.specs.Int.{w64, int_shl}
use Rattle.std.specs.Option.{SomeIff}
use Rattle.std.proofs.Common.{refl, sym, ap, ◌∙◌, arith, mod-lt, mul_assoc, of_z, to_z}
use Rattle.std.proofs.Math.Nat.{mul-mod_left}
use Rattle.std.proofs.lemmas.Nat.{pow-add}
use Rattle.std.proofs.lemmas.Int.{ints, to_z-of_z}
use Rattle.arith.specs.Operations.{doubled}
use Rattle.arith.specs.Remainders.{remainder}
use Rattle.arith.specs.Words.{InWord, bits_positive, word_bits, word_meaning, words, OneWordProduct}
use Rattle.arith.specs.Moduli.{same_below, doubled_number}
use Rattle.arith.specs.Integers.{bits_again}

-- the bits of an integer that a word holds are those that it is stored by
pub bits_of_word : (z : ℤ) → FitsSigned w64 z → of_z w64 z ≡ word_bits z
bits_of_word (pos n) f = omega (arith, ints)
bits_of_word (negsuc n) f = omega (arith, ints)

-- a word that is stored by the low 64 bits of a number means that number
pub stored : (k m : ℕ) → k ≡ m → word_meaning (to_z w64 (k % 2 ^ 64)) ≡ remainder (2 ^ 64) bits_positive m
stored k m e = same_below _ _ (bits_again (k % 2 ^ 64) (mod-lt k bits_positive) ∙ ap (λ n. n % 2 ^ 64) e)

-- a word stored by the low 64 bits of a number is one
pub stored_held : (k : ℕ) → InWord (to_z w64 (k % 2 ^ 64))
stored_held k = let h = mod-lt k bits_positive in record { least = omega (arith, ints); most = omega (arith, ints) }

module _ (a b : ℤ) (f : FitsSigned w64 a) (g : FitsSigned w64 b) where
  pub word_sum : word_meaning (to_z w64 ((of_z w64 a + of_z w64 b) % 2 ^ 64)) ≡ words.plus (word_meaning a) (word_meaning b)
  word_sum = stored _ _ (let p = bits_of_word a f in let q = bits_of_word b g in cc)

  pub word_difference : word_meaning (to_z w64 ((of_z w64 a + (2 ^ 64 - of_z w64 b)) % 2 ^ 64)) ≡ words.minus (word_meaning a) (word_meaning b)
  word_difference = stored _ _ (let p = bits_of_word a f in let q = bits_of_word b g in cc)

-- the low 64 bits of a product with a power of two are those of so many doublings
pub word_shift : (a : ℤ) (s : ℕ) → FitsSigned w64 a → word_meaning (to_z w64 ((of_z w64 a * 2 ^ s) % 2 ^ 64)) ≡ doubled words s (word_meaning a)
word_shift a s f =
    stored _ _ (ap (λ n. n * 2 ^ s) (bits_of_word a f))
    ∙ same_below _ _ (sym (doubled_number (2 ^ 64) bits_positive s (word_meaning a)))

-- a shift by the width or more leaves nothing
pub word_emptied : (a : ℤ) (s : ℕ) → 64 ≤ s → words.neutral ≡ doubled words s (word_meaning a)
word_emptied a s h =
    let bits = word_bits a in
    let split : bits * 2 ^ s ≡ bits * 2 ^ (s - 64) * 2 ^ 64 =
    ap (λ n. bits * 2 ^ n) (omega arith)
    ∙ ap (λ n. bits * n) (pow-add 2 (s - 64) 64)
    ∙ sym (mul_assoc bits (2 ^ (s - 64)) (2 ^ 64)) in
    same_below _ _ (sym (doubled_number (2 ^ 64) bits_positive s (word_meaning a) ∙ ap (λ n. n % 2 ^ 64) split ∙ mul-mod_left (bits * 2 ^ (s - 64)) (2 ^ 64)))

-- the word 0 is the neutral one
pub word_neutral : word_meaning (pos 0) ≡ words.neutral
word_neutral = same_below _ _ refl

-- any shift, by what a checked one answers
pub shifted_word : (a : ℤ) (s : ℕ) (o : Option ℤ) → FitsSigned w64 a → SomeIff o (s < 64) (int_shl w64 a s) → word_meaning (unwrap_or o (pos 0)) ≡ doubled words s (word_meaning a)
shifted_word a s None f e = word_neutral ∙ word_emptied a s (omega (arith, e))
shifted_word a s (Some v) f e = ap word_meaning e.1 ∙ word_shift a s f

-- what the methods of words cite
pub ruleset words_compute = (word_neutral, stored, bits_of_word, shifted_word, to_z-of_z)

-- two products of one number and one word differ by a multiple of 2^64, and both are words
pub one_product : OneWordProduct
one_product n x r s p q =
    let a = p.held in
    let b = q.held in
    omega (arith, ints, p.congruent, q.congruent)
