-- The bits of integers, and what words mean.
use Rattle.std.specs.Prelude.{◌≡◌, ℕ, suc, ◌-◌, ◌*◌, ◌/◌, ◌%◌, ◌^◌, ◌<◌, Bool, true, false, ℤ, pos, negsuc, ◌+ℤ◌, ◌-ℤ◌, ◌*ℤ◌, nat_lt, refl}
use Rattle.std.proofs.Common.{sym, ap, ◌∙◌, arith, mod-lt, mul_comm}
use mir.Val.{to_z, sel}
use Rattle.std.proofs.lemmas.Nat.{mul-mod_second}
use Rattle.std.proofs.lemmas.Int.{ints, wrapping_mul-bits, int_wrap-mul_left, int_wrap-mul_right}
use Rattle.std.specs.Int.{int_wrap, w64}
use Rattle.arith.specs.Operations.{times}
use Rattle.arith.specs.Remainders.{Below}
use Rattle.arith.specs.Words.{InWord, WordProduct, bits_below, bits_positive, word_bits, word_meaning, words}
use Rattle.arith.specs.Moduli.{times_number}

wrapped_bits : (z : ℤ) → int_wrap w64 z ≡ to_z w64 (word_bits z)
unfolding int_wrap
wrapped_bits z = refl

-- the bits of a word that was made from bits
pub bits_again : (m : ℕ) → m < 2 ^ 64 → word_bits (to_z w64 m) ≡ m
bits_again m h = by (nat_lt m (2 ^ 63)) refl
  where
    by : (b : Bool) → nat_lt m (2 ^ 63) ≡ b → word_bits (sel b (pos m) (negsuc (2 ^ 64 - suc m))) ≡ m
    by true e = omega arith
    by false e = omega arith

bits_wrapped : (z : ℤ) → word_bits (int_wrap w64 z) ≡ word_bits z
bits_wrapped z = ap word_bits (wrapped_bits z) ∙ bits_again (word_bits z) (bits_below z)

bits_from : (m : ℕ) (z : ℤ) → m < 2 ^ 64 → to_z w64 m ≡ int_wrap w64 z → word_bits z ≡ m
bits_from m z h e = sym (bits_wrapped z) ∙ ap word_bits (sym e) ∙ bits_again m h

bits_product : (a b : ℤ) → word_bits (a *ℤ b) ≡ (word_bits a * word_bits b) % 2 ^ 64
bits_product a b =
    bits_from _ (a *ℤ b) (mod-lt (word_bits a * word_bits b) bits_positive) (
    wrapping_mul-bits w64 (word_bits a) (word_bits b) (bits_below a) (bits_below b)
    ∙ ap (λ y. int_wrap w64 (y *ℤ to_z w64 (word_bits b))) (sym (wrapped_bits a))
    ∙ int_wrap-mul_left w64 a _
    ∙ ap (λ y. int_wrap w64 (a *ℤ y)) (sym (wrapped_bits b))
    ∙ int_wrap-mul_right w64 a b)

-- an integer is its bits and some turns of 2^64
turns : (y : ℤ) → (k : ℤ) × (y ≡ pos (word_bits y) +ℤ k *ℤ pos (2 ^ 64))
turns (pos n) = (pos (n / 2 ^ 64), omega (arith, ints))
turns (negsuc n) = (negsuc (n / 2 ^ 64), omega (arith, ints))

-- integers of the same bits differ by a multiple of 2^64
congruent : (y z : ℤ) → word_bits y ≡ word_bits z → (k : ℤ) × (y ≡ z +ℤ k *ℤ pos (2 ^ 64))
congruent y z e =
    let p = turns y in
    let q = turns z in
    (p.0 -ℤ q.0, omega (arith, ints, p.1, q.1))

pub word_product : (n : ℕ) (x r : ℤ) → InWord r → word_meaning r ≡ times words n (word_meaning x) → WordProduct n x r
word_product n x r h e =
    let same : word_bits (pos n *ℤ x) ≡ word_bits r =
    bits_product (pos n) x
    ∙ ap (λ k. k % 2 ^ 64) (mul_comm (n % 2 ^ 64) (word_bits x))
    ∙ mul-mod_second (word_bits x) n (2 ^ 64)
    ∙ ap (λ k. k % 2 ^ 64) (mul_comm (word_bits x) n)
    ∙ sym (times_number (2 ^ 64) bits_positive n (word_meaning x))
    ∙ sym (ap (λ (b : Below (2 ^ 64)). b.number) e) in
    let k = congruent (pos n *ℤ x) r same in
    record { held = h; wraps = k.0; congruent = k.1 }
