-- What standard input is answered, and what is printed of it.
--   line    the first line of the input, without its line feed
--   sheet   what follows it
use Rattle.std.specs.Prelude.{◌≡◌, ℕ, ◌+◌, ◌-◌, ◌^◌, List, ◌++◌, Some, Ok, Err, Result, codes, decimal, min}
use Rattle.adders.specs.declared.refusals.Refusal.{Refusal}
use Rattle.adders.specs.declared.refusals.Refusal.TheVariants as R
use Rattle.adders.specs.declared.refusals.LineRefusal.{LineRefusal}
use Rattle.adders.specs.Refusals.{refusal_entry, line_refusal_text}
use Rattle.adders.specs.Rules.{first_broken}
use Rattle.forms.specs.Breaking.{BrokenAt}
use Rattle.forms.specs.Lines.{FirstLine}
use Rattle.blocks.specs.declared.model.Block.{Block}
use Rattle.prices.specs.declared.per_bit.PerBitList.{PerBitList}
use Rattle.prices.specs.declared.per_bit.UnitPrices.{UnitPrices}
use Rattle.prices.specs.PerBit.{unit_rules}
use Rattle.prices.specs.Supplied.{count_list, per_bit_list}
use Rattle.units.specs.Form.{UnitsLine, Form}
use Rattle.sheetlaws.specs.Sheets.{IsSheet}
use Rattle.sheetlaws.specs.Refusing.{Refused}
use Rattle.pricing.specs.Prices.{block_price}
use Rattle.price.specs.declared.report.Bill.{Bill}
use Rattle.price.specs.Parts.{parts_text}

-- the unit prices of a line break its form, or are none of a list
pub data UnitsRefused (line : List ℕ) : Refusal → Type 0 where
  broken : (place : ℕ) → BrokenAt Form line place → UnitsRefused line (R.BrokenForm place)
  unlawful : (u : UnitPrices) (e : Refusal) → UnitsLine u line → first_broken (unit_rules u) ≡ Some e → UnitsRefused line e

-- the list of a line's unit prices
abbrev pub ListOf : List ℕ → Result PerBitList Refusal → Type 0
ListOf line (Ok l) = UnitsLine l.units line
ListOf line (Err e) = UnitsRefused line e

-- the block that the bytes are a sheet of, or the first cause why they are none
abbrev pub BlockOf : List ℕ → Result Block Refusal → Type 0
BlockOf bytes (Ok b) = IsSheet bytes b
BlockOf bytes (Err e) = Refused bytes e

-- where the line of a sheet stands in the input, one below the unit prices; a sheet that is too long has no line
abbrev pub input_line : Refusal → ℕ
input_line R.SheetTooLong = 0
input_line e = min ((refusal_entry e).place + 1) (2 ^ 64 - 1)

-- the unit prices are judged first
pub data Priced (input : List ℕ) : Result Bill LineRefusal → Type 0 where
  done : (bill : Bill) (line sheet : List ℕ) → FirstLine input line sheet → ListOf line (Ok bill.list) → BlockOf sheet (Ok bill.block) → Priced input (Ok bill)
  units : (e : Refusal) (line sheet : List ℕ) → FirstLine input line sheet → ListOf line (Err e) → Priced input (Err (record { refusal = e; line = 1 }))
  block : (l : PerBitList) (e : Refusal) (line sheet : List ℕ) → FirstLine input line sheet → ListOf line (Ok l) → BlockOf sheet (Err e) → Priced input (Err (record { refusal = e; line = input_line e }))

-- the parts, and the price under the count list and under the list of the unit prices
abbrev pub bill_text : Bill → List ℕ
bill_text bill = parts_text bill.block ++ (codes "count=" ++ (decimal (block_price count_list bill.block) ++ (codes "\nprice=" ++ decimal (block_price (per_bit_list bill.list) bill.block))))

abbrev pub report_text : Result Bill LineRefusal → List ℕ
report_text (Ok bill) = bill_text bill
report_text (Err e) = line_refusal_text e.refusal e.line
