-- What the operations of residues come to.
use Rattle.std.proofs.Common.{◌≡◌, ℕ, ◌+◌, ◌-◌, ◌*◌, ◌%◌, ◌^◌, ◌<◌, ◌≤◌, sym, ap, ◌∙◌, add-one, mod-lt, mul_assoc, arith}
use Rattle.std.proofs.Math.Nat.{mod-mod}
use Rattle.std.proofs.lemmas.Nat.{mul-mod_first, mul-mod_second, pow-add, shl_whole}
use Rattle.arith.specs.Operations.{doubled}
use Rattle.arith.specs.Times.{twice}
use Rattle.arith.specs.Moduli.{same_below, same_remainder, doubled_number}
use Rattle.arith.specs.Remainders.{Modular, residue, residues, modular_positive}

-- a product with a power of two is so many doublings
pub residue_shifted : {n : ℕ} (b : Modular n) (x s r : ℕ) → r ≡ (x * 2 ^ s) % n → residue b r ≡ doubled (residues b) s (residue b x)
residue_shifted {n} b x s r e =
    same_below _ _ (
    ap (λ k. k % n) e
    ∙ mod-mod (x * 2 ^ s) n
    ∙ sym (doubled_number n (modular_positive b) s (residue b x) ∙ mul-mod_first x (2 ^ s) n))

-- whatever number the modulus is handed as
module _ {n : ℕ} (b : Modular n) where
  pub residue_sum : (d x y r : ℕ) → d ≡ n → r ≡ (x % d + y % d) % d → residue b r ≡ (residues b).plus (residue b x) (residue b y)
  residue_sum d x y r e p = same_below _ _ (ap (λ k. k % n) (rw e at p) ∙ mod-mod (x % n + y % n) n)

  pub residue_difference : (d x y r : ℕ) → d ≡ n → r ≡ (x % d + (d - y % d)) % d → residue b r ≡ (residues b).minus (residue b x) (residue b y)
  residue_difference d x y r e p = same_below _ _ (ap (λ k. k % n) (rw e at p) ∙ mod-mod (x % n + (n - y % n)) n)

  pub residue_below : (d k r : ℕ) → d ≡ n → r ≡ k % d → r < n
  residue_below d k r e p = let h = mod-lt k (modular_positive b) in rw p (rw e h)

  -- a product with a power of two, in two parts
  pub residue_shift : (d x f s first r : ℕ) → d ≡ n → f ≤ s → first ≡ (x * 2 ^ f) % d → r ≡ (first * 2 ^ (s - f)) % d → residue b r ≡ doubled (residues b) s (residue b x)
  residue_shift d x f s first r e le p q =
      let whole : 2 ^ f * 2 ^ (s - f) ≡ 2 ^ s = sym (pow-add 2 f (s - f)) ∙ ap (λ k. 2 ^ k) (omega arith) in
      residue_shifted b x s r (
      q
      ∙ ap (λ k. (first * 2 ^ (s - f)) % k) e
      ∙ ap (λ k. (k * 2 ^ (s - f)) % n) (p ∙ ap (λ k. (x * 2 ^ f) % k) e)
      ∙ mul-mod_first (x * 2 ^ f) (2 ^ (s - f)) n
      ∙ ap (λ k. k % n) (mul_assoc x (2 ^ f) (2 ^ (s - f)) ∙ ap (λ k. x * k) whole))

-- the first product fits 64 bits
pub shifted_whole : (m x k f : ℕ) → k ≡ x → x < 2 ^ 32 → f ≤ 32 → k * 2 ^ f % 2 ^ 64 % m ≡ (x * 2 ^ f) % m
shifted_whole m x k f e below room = ap (λ i. i % m) (rw e (shl_whole x 32 f 64 below (omega arith)))

-- one doubling more
pub doubled_again : (m x t number : ℕ) → number ≡ (x * 2 ^ t) % m → (2 * number) % m ≡ (x * 2 ^ (t + 1)) % m
doubled_again m x t number e =
    ap (λ i. (2 * i) % m) e
    ∙ mul-mod_second 2 (x * 2 ^ t) m
    ∙ ap (λ i. i % m) (rw add-one (let both = twice x t in omega arith))

-- what the methods of residues cite
pub ruleset residues_compute = (same_remainder, mod-mod, residue_shifted, shifted_whole, doubled_again)
