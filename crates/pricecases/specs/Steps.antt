-- The tables of a list that sells parts in steps of eight bits, and that they are lawful.
use Rattle.std.specs.Prelude.{ℕ, ◌+◌, ◌-◌, ◌*◌, ◌/◌, ◌≤◌}
use Rattle.std.proofs.Common.{arith}
use Rattle.std.proofs.Math.Nat.{mul-le-mul, mul-zero, zero-mul}
use Rattle.prices.specs.declared.adder.AdderKind.{AdderKind}
use Rattle.prices.specs.declared.adder.AdderKind.TheVariants.{Adds, Subtracts, Both}
use Rattle.prices.specs.Tables.{AdderTable, MuxTable, LawfulAdders, LawfulMuxes}

-- the first step of at least this width
abbrev pub steps : ℕ → ℕ
steps width = (width + 7) / 8

abbrev pub step_adders : AdderTable
step_adders Adds width = 10 * steps width
step_adders Subtracts width = 12 * steps width
step_adders Both width = 15 * steps width

abbrev pub step_muxes : MuxTable
step_muxes inputs width = 3 * (inputs - 1) * steps width

pub step_adders_lawful : LawfulAdders step_adders
step_adders_lawful = record { most = most; wider = wider; both = both }
  where
    most : (k : AdderKind) (w : ℕ) → 1 ≤ w → w ≤ 63 → step_adders k w ≤ 1000000
    most Adds w a b = omega arith
    most Subtracts w a b = omega arith
    most Both w a b = omega arith

    wider : (k : AdderKind) (v w : ℕ) → 1 ≤ v → v ≤ w → w ≤ 63 → step_adders k v ≤ step_adders k w
    wider Adds v w a b c = omega arith
    wider Subtracts v w a b c = omega arith
    wider Both v w a b c = omega arith

    both : (k : AdderKind) (w : ℕ) → 1 ≤ w → w ≤ 63 → step_adders k w ≤ step_adders Both w
    both Adds w a b = omega arith
    both Subtracts w a b = omega arith
    both Both w a b = omega arith

pub step_muxes_lawful : LawfulMuxes step_muxes
step_muxes_lawful = record {
  most = λ n w a b c d.
      let few : 3 * (n - 1) ≤ 45 = omega arith in
      let narrow : steps w ≤ 8 = omega arith in
      let all : 3 * (n - 1) * steps w ≤ 45 * 8 = mul-le-mul few narrow in omega arith;
  wider = λ n v w a b c d e.
      let same : 3 * (n - 1) ≤ 3 * (n - 1) = omega arith in
      let wide : steps v ≤ steps w = omega arith in mul-le-mul same wide;
  more = λ m n w a b c d e.
      let fewer : 3 * (m - 1) ≤ 3 * (n - 1) = omega arith in
      let same : steps w ≤ steps w = omega arith in mul-le-mul fewer same;
  one = λ w a b. simp (mul-zero, zero-mul);
}
