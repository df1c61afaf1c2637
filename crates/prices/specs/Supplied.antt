-- The supplied lists, by their two tables.
use Rattle.prices.specs.declared.per_bit.PerBitList.{PerBitList}
use Rattle.prices.specs.Tables.{Tables, Lawful}
use Rattle.prices.specs.Count.{count_adders, count_muxes, count_adders_lawful, count_muxes_lawful}
use Rattle.prices.specs.PerBit.{per_bit_adders, per_bit_muxes, per_bit_adders_lawful, per_bit_muxes_lawful}

abbrev pub count_list : Tables
count_list = record { adders = count_adders; muxes = count_muxes }

abbrev pub per_bit_list : PerBitList → Tables
per_bit_list l = record { adders = per_bit_adders l; muxes = per_bit_muxes l }

pub record SuppliedListsAreLawful : Type 0 where
  pub count : Lawful count_list
  pub per_bit : (l : PerBitList) → Lawful (per_bit_list l)

pub supplied_lawful : SuppliedListsAreLawful
supplied_lawful = record {
  count = record { adders = count_adders_lawful; muxes = count_muxes_lawful };
  per_bit = λ l. record { adders = per_bit_adders_lawful l; muxes = per_bit_muxes_lawful l };
}
