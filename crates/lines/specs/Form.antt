-- The form of a chain line, as a language of byte strings: which bytes say which adders and output shift.
--   Line xs out bs   the bytes bs say the adders xs and the output shift out
-- Ranges, the number of adders and the length of the line are no part of the form.
use Rattle.std.specs.Prelude.{◌≡◌, ℕ, ◌+◌, ◌*◌, ◌≤◌, List, [], ◌∷◌, ◌++◌, codes, decimal}
use Rattle.forms.specs.Breaking.{BrokenAt}
use Rattle.adders.specs.declared.wiring.Operand.{Operand}
use Rattle.adders.specs.declared.wiring.Adder.{Adder}
use Rattle.adders.specs.declared.wiring.Sign.{Sign}
use Rattle.adders.specs.declared.wiring.Sign.TheVariants.{Plus, Minus}

-- a number up to 99 in base ten: a digit, or two of which the first is not 0 (whose code is 48)
pub data Decimal : ℕ → List ℕ → Type 0 where
  one : {d : ℕ} → d ≤ 9 → Decimal d ((48 + d) ∷ [])
  two : {d e : ℕ} → 1 ≤ d → d ≤ 9 → e ≤ 9 → Decimal (10 * d + e) ((48 + d) ∷ (48 + e) ∷ [])

-- an operand is source, dot, shift
pub data OperandForm (o : Operand) : List ℕ → Type 0 where
  operand : {s h : List ℕ} → Decimal o.source s → Decimal o.shift h → OperandForm o (s ++ 46 ∷ h)

-- `+` or `-`
abbrev pub mark : Sign → ℕ
mark Plus = 43
mark Minus = 45

-- an adder is left operand, sign, right operand
pub data AdderForm (a : Adder) : List ℕ → Type 0 where
  adder : {l r : List ℕ} → OperandForm a.left l → OperandForm a.right r → AdderForm a (l ++ mark a.sign ∷ r)

-- each adder is followed by one space
pub data AddersForm : List Adder → List ℕ → Type 0 where
  none : AddersForm [] []
  more : {a : Adder} {xs : List Adder} {t ts : List ℕ} → AdderForm a t → AddersForm xs ts → AddersForm (a ∷ xs) (t ++ 32 ∷ ts)

abbrev pub key : List ℕ
key = codes "chain="

-- `chain=`, the adders, the output shift
pub data Line (xs : List Adder) (out : ℕ) : List ℕ → Type 0 where
  line : {ts n : List ℕ} → AddersForm xs ts → Decimal out n → Line xs out (key ++ (ts ++ n))

abbrev pub Form : List ℕ → Type 0
Form bs = (xs : List Adder) × (out : ℕ) × Line xs out bs

-- The line that adders and an output shift are written as.
abbrev pub operand_text : Operand → List ℕ
operand_text o = decimal o.source ++ 46 ∷ decimal o.shift

abbrev pub adder_text : Adder → List ℕ
adder_text a = operand_text a.left ++ mark a.sign ∷ operand_text a.right

abbrev pub adders_text : List Adder → List ℕ
adders_text [] = []
adders_text (a ∷ xs) = adder_text a ++ 32 ∷ adders_text xs

abbrev pub line_text : List Adder → ℕ → List ℕ
line_text xs out = key ++ (adders_text xs ++ decimal out)

-- A line is read in one way only.
pub record OneReading : Type 0 where
  pub says_one : {xs ys : List Adder} {m n : ℕ} {bs : List ℕ} → Line xs m bs → Line ys n bs → (xs ≡ ys) × (m ≡ n)
  pub written : {xs : List Adder} {out : ℕ} {bs : List ℕ} → Line xs out bs → bs ≡ line_text xs out
  pub breaks_once : (bs : List ℕ) (i j : ℕ) → BrokenAt Form bs i → BrokenAt Form bs j → i ≡ j
