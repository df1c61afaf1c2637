-- Running a buffer.
--   c        the row's constant
--   input    the samples that come in
--   output   what the output buffer held before
--   after    what it holds then
use Rattle.std.specs.Prelude.{◌≡◌, ℕ, ◌<◌, List, length, Ok, Err, Result, ◌≢◌, slice_index_or}
use Rattle.adders.specs.declared.refusals.Refusal.{Refusal}
use Rattle.adders.specs.declared.refusals.Refusal.TheVariants.{LengthsDiffer}
use Rattle.arith.specs.Operations.{Operations, times}

-- r is c times x: by what it means, and in the arithmetic's own words
pub record Multiplied {X M : Type 0} (means : X → M) (ops : Operations M) (Product : ℕ → X → X → Type 0) (c : ℕ) (x r : X) : Type 0 where
  pub meaning : means r ≡ times ops c (means x)
  pub product : Product c x r

-- each place of the output has the multiple of the sample at that place
pub record Filled {X M : Type 0} (means : X → M) (ops : Operations M) (Product : ℕ → X → X → Type 0) (c : ℕ) (input after : List X) : Type 0 where
  pub long : length after ≡ length input
  pub each : (k : ℕ) (d : X) → k < length input → Multiplied means ops Product c (slice_index_or input k d) (slice_index_or after k d)

-- what running answers, and what it leaves in the output: the multiples, or, where the lengths differ, a refusal and what was there
pub record Ran {X M : Type 0} (means : X → M) (ops : Operations M) (Product : ℕ → X → X → Type 0) (c : ℕ) (input output after : List X) (r : Result Unit Refusal) : Type 0 where
  pub done : length input ≡ length output → (r ≡ Ok tt) × Filled means ops Product c input after
  pub refused : (length input ≢ length output) → (r ≡ Err LengthsDiffer) × (after ≡ output)
