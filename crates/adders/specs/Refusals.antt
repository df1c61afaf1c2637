-- The table of refusals: for each case its number and its place.
--   number  by which the cause is known outside
--   place   a byte of a line from 0, an adder from 1 with 0 for the output, a line from 1, a length, a step from 1,
--           a code, a tap from 0; 0 where there is none to give
use Rattle.std.specs.Prelude.{ℕ, List, ◌++◌, codes, decimal}
use Rattle.adders.specs.declared.refusals.Refusal.{Refusal}
use Rattle.adders.specs.declared.refusals.Refusal.TheVariants as R
use Rattle.adders.specs.declared.refusals.RowFault.{RowFault}
use Rattle.adders.specs.declared.refusals.RowFault.TheVariants.{NotAsRead, OutOfRange}

pub record Entry : Type 0 where
  pub number : ℕ
  pub place : ℕ

abbrev pub entry : ℕ → ℕ → Entry
entry n p = record { number = n; place = p }

-- what 45 carries besides its line
abbrev pub fault_entry : RowFault → Entry
fault_entry (NotAsRead adder) = entry 16 adder
fault_entry (OutOfRange adder) = entry 15 adder

abbrev pub refusal_entry : Refusal → Entry
refusal_entry R.LineTooLong = entry 11 200
refusal_entry (R.BrokenForm byte) = entry 11 byte
refusal_entry R.TooManyAdders = entry 12 9
refusal_entry (R.ShiftOutOfRange adder) = entry 13 adder
refusal_entry (R.SourceNotLower adder) = entry 14 adder
refusal_entry (R.ValueOutOfRange adder) = entry 15 adder
refusal_entry (R.AdderUnread adder) = entry 16 adder
refusal_entry (R.AdderNotAsRead adder) = entry 16 adder
refusal_entry R.CodeAboveFifteen = entry 20 0
refusal_entry R.CodeLive = entry 21 0
refusal_entry R.BlockTooSmall = entry 22 0
refusal_entry R.CodeIdle = entry 23 0
refusal_entry R.AdderUnused = entry 24 0
refusal_entry R.AmountOutOfRange = entry 25 0
refusal_entry R.WidthOutOfRange = entry 26 0
refusal_entry R.LengthsDiffer = entry 27 0
refusal_entry R.UnitTooHigh = entry 28 0
refusal_entry R.BothTooCheap = entry 29 0
refusal_entry (R.BufferTooShort bytes) = entry 31 bytes
refusal_entry R.SheetTooLong = entry 40 0
refusal_entry (R.SheetForm line) = entry 41 line
refusal_entry (R.SheetLimit line) = entry 42 line
refusal_entry (R.InputRepeated line) = entry 43 line
refusal_entry (R.InputAbsent line) = entry 44 line
refusal_entry (R.RowBroken line fault) = entry 45 line
refusal_entry (R.InputUnselected line) = entry 46 line
refusal_entry (R.StepTooHigh step) = entry 51 step
refusal_entry (R.StepFalls step) = entry 52 step
refusal_entry (R.StepBothTooCheap step) = entry 53 step
refusal_entry R.ConstantOutOfRange = entry 54 0
refusal_entry (R.ConstantTaken code) = entry 55 code
refusal_entry R.TapCountOutOfRange = entry 56 0
refusal_entry R.FilterLengthsDiffer = entry 57 0
refusal_entry (R.TapIdle tap) = entry 58 tap
refusal_entry R.PathSumChanged = entry 59 0
refusal_entry R.SampleOutOfRange = entry 60 0
refusal_entry R.CodeReserved = entry 61 0
refusal_entry R.CodeNotReserved = entry 62 0
refusal_entry R.PlaceReserved = entry 63 0

-- how a refusal is printed
abbrev pub refusal_text : Refusal → List ℕ
refusal_text r = codes "fault=" ++ (decimal (refusal_entry r).number ++ (codes "\nplace=" ++ decimal (refusal_entry r).place))

-- the same with the line of an input
abbrev pub line_refusal_text : Refusal → ℕ → List ℕ
line_refusal_text r line = codes "fault=" ++ (decimal (refusal_entry r).number ++ (codes "\nline=" ++ (decimal line ++ (codes "\nplace=" ++ decimal (refusal_entry r).place))))
