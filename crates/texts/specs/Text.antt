-- The text of a wiring sheet, piece by piece, as bytes.
--   48 is the digit 0, 46 a dot, 32 a space, 10 a line feed, 43 plus, 45 minus, 61 an equals sign, 115 an s
use Rattle.std.specs.Prelude.{ℕ, ◌≤◌, List, [], ◌∷◌, ◌++◌, Some, None, Option, codes, decimal, nat_lt, if◌then◌else◌}
use Rattle.adders.specs.declared.wiring.Operand.{Operand}
use Rattle.adders.specs.declared.wiring.Sign.{Sign}
use Rattle.adders.specs.declared.wiring.Sign.TheVariants.{Plus, Minus}
use Rattle.ports.specs.declared.port.Port.{Port}
use Rattle.ports.specs.declared.port.Port.TheVariants.{Left, Right, Output}
use Rattle.texts.specs.declared.selection.Selection.{Selection}

-- a number, as it is printed
abbrev pub number : ℕ → List ℕ
number n = decimal n

-- a key, a number and a line feed
abbrev pub number_line : List ℕ → ℕ → List ℕ
number_line key n = key ++ (number n ++ 10 ∷ [])

-- the two numbers of an operand, with a dot between them
abbrev pub operand : Operand → List ℕ
operand o = number o.source ++ 46 ∷ number o.shift

-- inputs that follow another, each after one space
abbrev pub more_inputs : List Operand → List ℕ
more_inputs [] = []
more_inputs (o ∷ os) = 32 ∷ (operand o ++ more_inputs os)

-- the inputs of a port, parted by one space
abbrev pub input_list : List Operand → List ℕ
input_list [] = []
input_list (o ∷ os) = operand o ++ more_inputs os

-- 1L=, 1R=, 2L= and so on, out=
abbrev pub port_key : Port → List ℕ
port_key (Left j) = number j ++ codes "L="
port_key (Right j) = number j ++ codes "R="
port_key Output = codes "out="

abbrev pub port_line : Port → List Operand → List ℕ
port_line p os = port_key p ++ (input_list os ++ 10 ∷ [])

abbrev pub mark : Sign → ℕ
mark Plus = 43
mark Minus = 45

-- an adder in a code line, with a space after it: which input it takes on its left, its sign, and which on its right; one minus where the code has nothing there
abbrev pub entry : Option Selection → List ℕ
entry None = 45 ∷ 32 ∷ []
entry (Some s) = number s.left ++ (mark s.sign ∷ (number s.right ++ 32 ∷ []))

abbrev pub entries : List (Option Selection) → List ℕ
entries [] = []
entries (x ∷ xs) = entry x ++ entries xs

-- the digits of a code, with a leading zero below 10
abbrev pub code_digits : ℕ → List ℕ
code_digits c = if nat_lt c 10 then 48 ∷ number c else number c

-- s, the code's digits, =
abbrev pub code_key : ℕ → List ℕ
code_key c = 115 ∷ (code_digits c ++ 61 ∷ [])

-- what follows it: an entry for each adder, and the number of the output's input
abbrev pub selections : List (Option Selection) → ℕ → List ℕ
selections xs out = entries xs ++ (number out ++ 10 ∷ [])

abbrev pub code_line : ℕ → List (Option Selection) → ℕ → List ℕ
code_line c xs out = code_key c ++ selections xs out

-- What two digits can say.

abbrev pub Small : Operand → Type 0
Small o = (o.source ≤ 99) × (o.shift ≤ 99)

abbrev pub AllSmall : List Operand → Type 0
AllSmall [] = Unit {0}
AllSmall (o ∷ os) = Small o × AllSmall os

abbrev pub SmallEntry : Option Selection → Type 0
SmallEntry None = Unit {0}
SmallEntry (Some s) = (s.left ≤ 99) × (s.right ≤ 99)

abbrev pub AllSmallEntries : List (Option Selection) → Type 0
AllSmallEntries [] = Unit {0}
AllSmallEntries (x ∷ xs) = SmallEntry x × AllSmallEntries xs
