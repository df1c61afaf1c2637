-- The tables of a per-bit list, when it is made, and that its tables are lawful.
use Rattle.std.specs.Prelude.{ℕ, ◌-◌, ◌*◌, ◌≤◌, ◌&&◌, List, [], ◌∷◌, nat_le}
use Rattle.std.proofs.Common.{arith}
use Rattle.std.proofs.Math.Nat.{mul-le-mul, mul-zero, zero-mul}
use Rattle.adders.specs.declared.refusals.Refusal.TheVariants.{UnitTooHigh, BothTooCheap}
use Rattle.adders.specs.Rules.{Rule, rule}
use Rattle.prices.specs.declared.adder.AdderKind.{AdderKind}
use Rattle.prices.specs.declared.adder.AdderKind.TheVariants.{Adds, Subtracts, Both}
use Rattle.prices.specs.declared.per_bit.UnitPrices.{UnitPrices}
use Rattle.prices.specs.declared.per_bit.PerBitList.{PerBitList}
use Rattle.prices.specs.Tables.{AdderTable, MuxTable, LawfulAdders, LawfulMuxes}

-- what one bit of an adder costs
abbrev pub unit_of : UnitPrices → AdderKind → ℕ
unit_of u Adds = u.adds
unit_of u Subtracts = u.subtracts
unit_of u Both = u.both

abbrev pub per_bit_adders : PerBitList → AdderTable
per_bit_adders l kind width = unit_of l.units kind * width

-- each input past the first takes a two-way multiplexer
abbrev pub per_bit_muxes : PerBitList → MuxTable
per_bit_muxes l inputs width = l.units.two_to_one * (inputs - 1) * width

-- no unit above 1,000, then both kinds no cheaper than either
abbrev pub unit_rules : UnitPrices → List Rule
unit_rules u =
    rule (nat_le u.adds 1000 && (nat_le u.subtracts 1000 && (nat_le u.both 1000 && nat_le u.two_to_one 1000))) UnitTooHigh
    ∷ rule (nat_le u.adds u.both && nat_le u.subtracts u.both) BothTooCheap ∷ []

-- the bounds of the units that a list can have
pub record WithinBounds (u : UnitPrices) : Type 0 where
  pub adds : u.adds ≤ u.both
  pub subtracts : u.subtracts ≤ u.both
  pub both : u.both ≤ 1000
  pub two_to_one : u.two_to_one ≤ 1000

-- Its tables are lawful.

module _ (l : PerBitList) where
  both_dearest : (k : AdderKind) → unit_of l.units k ≤ l.units.both
  both_dearest Adds = l.adds_less
  both_dearest Subtracts = l.subtracts_less
  both_dearest Both = omega arith

  pub per_bit_adders_lawful : LawfulAdders (per_bit_adders l)
  per_bit_adders_lawful = record {
    most = λ k w a b.
        let unit : unit_of l.units k ≤ 1000 = omega (arith, both_dearest k, l.both_most) in
        let all : unit_of l.units k * w ≤ 1000 * 63 = mul-le-mul unit b in omega arith;
    wider = λ k v w a b c. let same : unit_of l.units k ≤ unit_of l.units k = omega arith in mul-le-mul same b;
    both = λ k w a b. let same : w ≤ w = omega arith in mul-le-mul (both_dearest k) same;
  }

  pub per_bit_muxes_lawful : LawfulMuxes (per_bit_muxes l)
  per_bit_muxes_lawful = record {
    most = λ n w a b c d.
        let few : n - 1 ≤ 15 = omega arith in
        let all : l.units.two_to_one * (n - 1) * w ≤ 1000 * 15 * 63 = mul-le-mul (mul-le-mul l.mux_most few) d in omega arith;
    wider = λ n v w a b c d e. let same : l.units.two_to_one * (n - 1) ≤ l.units.two_to_one * (n - 1) = omega arith in mul-le-mul same d;
    more = λ m n w a b c d e.
        let unit : l.units.two_to_one ≤ l.units.two_to_one = omega arith in
        let fewer : m - 1 ≤ n - 1 = omega arith in
        let same : w ≤ w = omega arith in mul-le-mul (mul-le-mul unit fewer) same;
    one = λ w a b. simp (mul-zero, zero-mul);
  }
