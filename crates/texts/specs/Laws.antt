-- The readers and the text belong together.
use Rattle.std.specs.Prelude.{◌≡◌, ℕ, ◌≤◌, List, ◌++◌, length, Some, Option}
use Rattle.adders.specs.declared.wiring.Operand.{Operand}
use Rattle.ports.specs.declared.port.Port.{Port}
use Rattle.ports.specs.declared.port.Port.TheVariants.{Left, Right, Output}
use Rattle.texts.specs.declared.selection.Selection.{Selection}
use Rattle.texts.specs.Text.{number_line, port_line, selections, AllSmall, AllSmallEntries}
use Rattle.texts.specs.Pieces.{number_line_at, port_line_at, selections_at}

-- an adder's number has two digits at most
abbrev pub SmallPort : Port → Type 0
SmallPort (Left j) = j ≤ 99
SmallPort (Right j) = j ≤ 99
SmallPort Output = Unit {0}

-- what is taken from the front is the text of what is answered
pub record Taken : Type 0 where
  pub numbers : (key text : List ℕ) (n : ℕ) (rest : List ℕ) → number_line_at key text ≡ Some (n, rest) → (text ≡ number_line key n ++ rest) × (n ≤ 99)
  pub ports : (p : Port) (text : List ℕ) (os : List Operand) (rest : List ℕ) → port_line_at p text ≡ Some (os, rest) → (text ≡ port_line p os ++ rest) × AllSmall os
  pub codes : (n : ℕ) (text : List ℕ) (es : List (Option Selection)) (out : ℕ) (rest : List ℕ) → selections_at n text ≡ Some ((es, out), rest)
      → (text ≡ selections es out ++ rest) × (length es ≡ n) × AllSmallEntries es × (out ≤ 99)

-- a text at the front is read, whatever follows it
pub record ReadAgain : Type 0 where
  pub numbers : (key : List ℕ) (n : ℕ) (rest : List ℕ) → n ≤ 99 → number_line_at key (number_line key n ++ rest) ≡ Some (n, rest)
  pub ports : (p : Port) (os : List Operand) (rest : List ℕ) → SmallPort p → AllSmall os → port_line_at p (port_line p os ++ rest) ≡ Some (os, rest)
  pub codes : (es : List (Option Selection)) (out : ℕ) (rest : List ℕ) → AllSmallEntries es → out ≤ 99 → selections_at (length es) (selections es out ++ rest) ≡ Some ((es, out), rest)
