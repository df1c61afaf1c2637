-- Reading the pieces of a sheet from the front of some bytes.
use Rattle.std.specs.Prelude.{ℕ, zero, suc, ◌+◌, ◌*◌, List, [], ◌∷◌, length, Some, None, Option, codes, ◌==◌, if◌then◌else◌}
use Rattle.forms.specs.Digits.{digit}
use Rattle.adders.specs.declared.wiring.Operand.{Operand}
use Rattle.adders.specs.declared.wiring.Sign.{Sign}
use Rattle.adders.specs.declared.wiring.Sign.TheVariants.{Plus, Minus}
use Rattle.ports.specs.declared.port.Port.{Port}
use Rattle.ports.specs.declared.port.Port.TheVariants.{Left, Right, Output}
use Rattle.texts.specs.declared.selection.Selection.{Selection}
use Rattle.texts.specs.Steps.{◌>>=◌, Read}

-- the bytes of a key
abbrev pub skip : List ℕ → List ℕ → Option (List ℕ)
skip [] text = Some text
skip (k ∷ ks) [] = None
skip (k ∷ ks) (b ∷ bs) = if k == b then skip ks bs else None

-- one digit
abbrev pub digit_at : List ℕ → Read ℕ
digit_at [] = None
digit_at (b ∷ bs) = do
  d ← digit b
  Some (d, bs)

-- a second digit, where one follows
abbrev pub second_digit : ℕ × List ℕ → Read ℕ → Read ℕ
second_digit tens None = Some tens
second_digit tens (Some ones) = Some (10 * tens.0 + ones.0, ones.1)

-- one or two digits, one where the first is 0
unfoldable pub number_at : List ℕ → Read ℕ
number_at text = do
  first ← digit_at text
  if first.0 == 0 then Some first else second_digit first (digit_at first.1)

unfoldable pub operand_at : List ℕ → Read Operand
operand_at text = do
  source ← number_at text
  rest ← skip (codes ".") source.1
  shift ← number_at rest
  Some (record { source = source.0; shift = shift.0 }, shift.1)

-- one of two ways to go on, by whether a key comes next
abbrev pub if_next : {A : Type 0} → Option (List ℕ) → A → (List ℕ → A) → A
if_next None otherwise found = otherwise
if_next (Some rest) otherwise found = found rest

-- the inputs that follow another, as long as a space comes, where these are no more than n
unfoldable pub more_within : ℕ → List ℕ → Read (List Operand)
more_within zero text = None
more_within (suc n) text = if_next (skip (codes " ") text) (Some ([], text)) (λ rest. do
  o ← operand_at rest
  os ← more_within n o.1
  Some (o.0 ∷ os.0, os.1))

-- there are no more than bytes, of which each takes one at least
abbrev pub more_at : List ℕ → Read (List Operand)
more_at text = more_within (suc (length text)) text

-- the inputs of a port and the line feed
unfoldable pub input_list_at : List ℕ → Read (List Operand)
input_list_at text = if_next (skip (codes "\n") text) (do
  o ← operand_at text
  os ← more_at o.1
  rest ← skip (codes "\n") os.1
  Some (o.0 ∷ os.0, rest)) (λ rest. Some ([], rest))

-- the number of an adder and the key of its left or right
unfoldable pub side_at : ℕ → List ℕ → List ℕ → Option (List ℕ)
side_at adder key text = do
  n ← number_at text
  if n.0 == adder then skip key n.1 else None

abbrev pub port_key_at : Port → List ℕ → Option (List ℕ)
port_key_at (Left j) text = side_at j (codes "L=") text
port_key_at (Right j) text = side_at j (codes "R=") text
port_key_at Output text = skip (codes "out=") text

-- the line of a port
unfoldable pub port_line_at : Port → List ℕ → Read (List Operand)
port_line_at p text = do
  rest ← port_key_at p text
  input_list_at rest

-- the line of a key and a number
unfoldable pub number_line_at : List ℕ → List ℕ → Read ℕ
number_line_at key text = do
  start ← skip key text
  n ← number_at start
  rest ← skip (codes "\n") n.1
  Some (n.0, rest)

abbrev pub sign_at : List ℕ → Read Sign
sign_at text = if_next (skip (codes "+") text) (do
  rest ← skip (codes "-") text
  Some (Minus, rest)) (λ rest. Some (Plus, rest))

-- what a code selects at an adder
unfoldable pub selection_at : List ℕ → Read Selection
selection_at text = do
  left ← number_at text
  sign ← sign_at left.1
  right ← number_at sign.1
  rest ← skip (codes " ") right.1
  Some (record { left = left.0; sign = sign.0; right = right.0 }, rest)

abbrev pub some_read : {A : Type 0} → Read A → Read (Option A)
some_read r = do
  x ← r
  Some (Some x.0, x.1)

abbrev pub entry_at : List ℕ → Read (Option Selection)
entry_at text = if_next (skip (codes "- ") text) (some_read (selection_at text)) (λ rest. Some (None, rest))

-- the entries of so many adders
unfoldable pub entries_at : ℕ → List ℕ → Read (List (Option Selection))
entries_at zero text = Some ([], text)
entries_at (suc n) text = do
  e ← entry_at text
  es ← entries_at n e.1
  Some (e.0 ∷ es.0, es.1)

-- what a code line has after its key
unfoldable pub selections_at : ℕ → List ℕ → Read (List (Option Selection) × ℕ)
selections_at n text = do
  es ← entries_at n text
  out ← number_at es.1
  rest ← skip (codes "\n") out.1
  Some ((es.0, out.0), rest)
