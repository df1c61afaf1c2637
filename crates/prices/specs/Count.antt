-- The tables of the count list, and that they are lawful.
use Rattle.std.specs.Prelude.{◌-◌}
use Rattle.std.proofs.Common.{refl, arith}
use Rattle.prices.specs.Tables.{AdderTable, MuxTable, LawfulAdders, LawfulMuxes}

-- adders are free
abbrev pub count_adders : AdderTable
count_adders kind width = 0

-- each input past the first costs 1
abbrev pub count_muxes : MuxTable
count_muxes inputs width = inputs - 1

pub count_adders_lawful : LawfulAdders count_adders
count_adders_lawful = record {
  most = λ k w a b. omega arith;
  wider = λ k v w a b c. omega arith;
  both = λ k w a b. omega arith;
}

pub count_muxes_lawful : LawfulMuxes count_muxes
count_muxes_lawful = record {
  most = λ n w a b c d. omega arith;
  wider = λ n v w a b c d e. omega arith;
  more = λ m n w a b c d e. omega arith;
  one = λ w a b. refl;
}
