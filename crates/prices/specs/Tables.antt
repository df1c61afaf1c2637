-- What a price list means, and when it is lawful.
--   w        a width, from 1 to 63 bits
--   m and n  input counts, from 1 to 16
use Rattle.std.specs.Prelude.{◌≡◌, ℕ, ◌≤◌}
use Rattle.prices.specs.declared.adder.AdderKind.{AdderKind}
use Rattle.prices.specs.declared.adder.AdderKind.TheVariants.{Both}

-- the price of an adder of a kind at a width
abbrev pub AdderTable : Type 0
AdderTable = AdderKind → ℕ → ℕ

-- the price of a multiplexer of so many inputs at a width
abbrev pub MuxTable : Type 0
MuxTable = ℕ → ℕ → ℕ

-- prices up to 1,000,000; neither a wider adder nor one of both kinds costs less
pub record LawfulAdders (price : AdderTable) : Type 0 where
  pub most : (k : AdderKind) (w : ℕ) → 1 ≤ w → w ≤ 63 → price k w ≤ 1000000
  pub wider : (k : AdderKind) (v w : ℕ) → 1 ≤ v → v ≤ w → w ≤ 63 → price k v ≤ price k w
  pub both : (k : AdderKind) (w : ℕ) → 1 ≤ w → w ≤ 63 → price k w ≤ price Both w

-- prices up to 1,000,000; neither a wider multiplexer nor one of more inputs costs less, and one of a single input costs nothing
pub record LawfulMuxes (price : MuxTable) : Type 0 where
  pub most : (n w : ℕ) → 1 ≤ n → n ≤ 16 → 1 ≤ w → w ≤ 63 → price n w ≤ 1000000
  pub wider : (n v w : ℕ) → 1 ≤ n → n ≤ 16 → 1 ≤ v → v ≤ w → w ≤ 63 → price n v ≤ price n w
  pub more : (m n w : ℕ) → 1 ≤ m → m ≤ n → n ≤ 16 → 1 ≤ w → w ≤ 63 → price m w ≤ price n w
  pub one : (w : ℕ) → 1 ≤ w → w ≤ 63 → price 1 w ≡ 0

-- the two tables of a price list
pub record Tables : Type 0 where
  pub adders : AdderTable
  pub muxes : MuxTable

pub record Lawful (t : Tables) : Type 0 where
  pub adders : LawfulAdders t.adders
  pub muxes : LawfulMuxes t.muxes

abbrev pub tables : AdderTable → MuxTable → Tables
tables adders muxes = record { adders = adders; muxes = muxes }
