-- The least power of two that is at least a value.
use Rattle.std.proofs.Common.{◌≡◌, ℕ, zero, suc, ◌+◌, ◌^◌, ◌<◌, ◌≤◌, subst, inl, inr, arith}
use Rattle.std.proofs.Math.Nat.{pow-suc}
use Rattle.std.proofs.lemmas.Bool.{cases_lt}
use Rattle.std.proofs.lemmas.Bool.Decides.{leb_tells}
use Rattle.bits.specs.Bits.{first_enough, bits, BitsAreLeast}

under_power : (n : ℕ) → n < 2 ^ n
under_power zero = omega arith
under_power (suc n) = omega (arith, under_power n, pow-suc 2 n)

steps_enough : (v steps b : ℕ) → v ≤ 2 ^ (b + steps) → v ≤ 2 ^ first_enough b v steps
steps_enough v zero b h = let e : b + 0 ≡ b = omega arith in subst (λ k. v ≤ 2 ^ k) e h
steps_enough v (suc steps) b h =
    let e : b + suc steps ≡ b + 1 + steps = omega arith in
    elim (leb_tells v (2 ^ b)) [
      | inl p ↦ rw p.0 p.1
      | inr p ↦ rw p.0 (steps_enough v steps (b + 1) (subst (λ k. v ≤ 2 ^ k) e h))
    ]

steps_least : (v steps b c : ℕ) → b ≤ c → v ≤ 2 ^ c → first_enough b v steps ≤ c
steps_least v zero b c low h = low
steps_least v (suc steps) b c low h =
    elim (leb_tells v (2 ^ b)) [
      | inl p ↦ rw p.0 low
      | inr p ↦ rw p.0 (steps_least v steps (b + 1) c (higher p.1) h)
    ]
  where
    higher : 2 ^ b < v → b + 1 ≤ c
    higher more =
        elim (cases_lt b c) [
          | inl l ↦ omega arith
          | inr l ↦ (let e : c ≡ b = omega arith in let g : v ≤ 2 ^ b = subst (λ k. v ≤ 2 ^ k) e h in absurd (omega arith))
        ]

pub enough : (v : ℕ) → v ≤ 2 ^ bits v
unfolding bits
enough v = steps_enough v v 0 (let e : v ≡ 0 + v = omega arith in subst (λ k. v ≤ 2 ^ k) e (omega (arith, under_power v)))

pub least : (v b : ℕ) → v ≤ 2 ^ b → bits v ≤ b
unfolding bits
least v b h = steps_least v v 0 b (omega arith) h

pub bits_least : BitsAreLeast
bits_least = record { enough = enough; least = least }

-- a value that is above all lower powers, and not above this one
pub bits_found : (v b : ℕ) → ((c : ℕ) → c < b → 2 ^ c < v) → v ≤ 2 ^ b → b ≡ bits v
bits_found v b lower h =
    elim (cases_lt (bits v) b) [
      | inl l ↦ (let over = lower (bits v) l in absurd (omega (arith, enough v, over)))
      | inr l ↦ omega (arith, least v b h)
    ]

pub bits_more : (v w : ℕ) → v ≤ w → bits v ≤ bits w
bits_more v w h = least v (bits w) (omega (arith, enough w))

pub bits_few : (v : ℕ) → v ≤ 2147483647 → bits v ≤ 31
bits_few v h = least v 31 (omega arith)
