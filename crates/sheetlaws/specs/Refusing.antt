-- Why bytes are no sheet: the first cause, line by line.
--   n        the line, from 1
--   a w      the adder count and the width that the first two lines say
--   orders   for each port that has had its line the inputs there
--   rows     the rows of the codes so far, none where a code had no line
use Rattle.std.specs.Prelude.{◌≡◌, ◌≢◌, ℕ, ◌+◌, ◌*◌, ◌<◌, ◌≤◌, ◌⊎◌, false, true, List, [], ◌∷◌, ◌++◌, length, take, Some, None, Option, codes}
use Rattle.adders.specs.declared.refusals.Refusal.{Refusal}
use Rattle.adders.specs.declared.refusals.Refusal.TheVariants.{SheetTooLong, SheetForm, SheetLimit, InputRepeated, InputAbsent, RowBroken, InputUnselected}
use Rattle.adders.specs.declared.wiring.Operand.{Operand}
use Rattle.adders.specs.Rules.{first_broken}
use Rattle.rows.specs.Rules.{row_rules}
use Rattle.ports.specs.declared.port.Port.{Port}
use Rattle.ports.specs.Ports.{ports, nth_port}
use Rattle.texts.specs.declared.selection.Selection.{Selection}
use Rattle.texts.specs.Text.{number_line, port_line, code_line, AllSmall, AllSmallEntries}
use Rattle.texts.specs.Listings.{eight_places}
use Rattle.reading.specs.Orders.{Orders}
use Rattle.reading.specs.Data.{RowData}
use Rattle.reading.specs.Repeats.{Once, FirstRepeat}
use Rattle.reading.specs.Lookup.{row_data}
use Rattle.reading.specs.Limits.{InLimits}
use Rattle.reading.specs.Reader.{fault_of, all_selected}
use Rattle.sheetlaws.specs.Sheets.{port_lines}

-- The line of a key and a number: the text does not begin with one, or the number is not from low to high.
pub data NumberFault (key : List ℕ) (low high n : ℕ) (text : List ℕ) : Refusal → Type 0 where
  form : ((x : ℕ) (rest : List ℕ) → x ≤ 99 → text ≢ number_line key x ++ rest) → NumberFault key low high n text (SheetForm n)
  limit : (x : ℕ) (rest : List ℕ) → x ≤ 99 → text ≡ number_line key x ++ rest → (x < low) ⊎ (high < x) → NumberFault key low high n text (SheetLimit n)

-- The line of a port: the text does not begin with one, or an input or their count is past its limits, or an input comes twice.
pub data PortFault (a n : ℕ) (p : Port) (text : List ℕ) : Refusal → Type 0 where
  form : ((os : List Operand) (rest : List ℕ) → AllSmall os → text ≢ port_line p os ++ rest) → PortFault a n p text (SheetForm n)
  limit : (os : List Operand) (rest : List ℕ)
      → AllSmall os
      → text ≡ port_line p os ++ rest
      → (InLimits a p os → ⊥)
      → PortFault a n p text (SheetLimit n)
  repeat : (os : List Operand) (rest : List ℕ) (i j : ℕ)
      → AllSmall os
      → text ≡ port_line p os ++ rest
      → InLimits a p os
      → FirstRepeat os i j
      → PortFault a n p text (InputRepeated n)

-- no cause is met at it
pub record PortFine (a : ℕ) (p : Port) (os : List Operand) : Type 0 where
  pub small : AllSmall os
  pub limits : InLimits a p os
  pub once : Once os

-- the text begins with the line of a code: an entry for each adder, each number of two digits at most
pub record CodeLine (a c : ℕ) (text : List ℕ) (es : List (Option Selection)) (out : ℕ) (rest : List ℕ) : Type 0 where
  pub each : length es ≡ a
  pub small : AllSmallEntries es
  pub small_output : out ≤ 99
  pub text_is : text ≡ code_line c es out ++ rest

-- The line of a code from c on: there is more text, and it does not begin with one; or it names an input that its port lacks; or its row breaks a rule.
pub data CodeFault (orders : Orders) (a c n : ℕ) (text : List ℕ) : Refusal → Type 0 where
  form : text ≢ [] → ((d : ℕ) (es : List (Option Selection)) (out : ℕ) (rest : List ℕ) → c ≤ d → d ≤ 15 → CodeLine a d text es out rest → ⊥) → CodeFault orders a c n text (SheetForm n)
  absent : (d out : ℕ) (es : List (Option Selection)) (rest : List ℕ) → c ≤ d → d ≤ 15 → CodeLine a d text es out rest → row_data orders (eight_places es) out ≡ None → CodeFault orders a c n text (InputAbsent n)
  broken : (d out : ℕ) (es : List (Option Selection)) (rest : List ℕ) (r : RowData) (e : Refusal) → c ≤ d → d ≤ 15 → CodeLine a d text es out rest → row_data orders (eight_places es) out ≡ Some r
      → first_broken (row_rules r.slots r.output) ≡ Some e → CodeFault orders a c n text (RowBroken n (fault_of e))

-- no cause is met at it, and the row is what it selects
pub record CodeFine (orders : Orders) (a c : ℕ) (text : List ℕ) (r : RowData) (rest : List ℕ) : Type 0 where
  pub entries : List (Option Selection)
  pub output : ℕ
  pub line : CodeLine a c text entries output rest
  pub selects : row_data orders (eight_places entries) output ≡ Some r
  pub lawful : first_broken (row_rules r.slots r.output) ≡ None

-- The code lines before the one that is looked at: from code c and line n on they lead to code d and line m, with the rows that they select put before the others.
pub data CodesFine (orders : Orders) (a : ℕ) : ℕ → ℕ → List ℕ → ℕ → ℕ → List ℕ → Type 0 where
  none : {c n : ℕ} {text : List ℕ} → CodesFine orders a c n text c n text
  next : (c n d e m : ℕ) (text mid rest : List ℕ) (r : RowData) → c ≤ d → d ≤ 15 → CodeFine orders a d text r mid → CodesFine orders a (d + 1) (n + 1) mid e m rest → CodesFine orders a c n text e m rest

-- the first two lines are fine, and this is the text after them
pub record Begun (bytes : List ℕ) (a w : ℕ) (text : List ℕ) : Type 0 where
  pub short : length bytes ≤ 4096
  pub few : a ≤ 8
  pub some_bits : 1 ≤ w
  pub few_bits : w ≤ 32
  pub text_is : bytes ≡ number_line (codes "adders=") a ++ (number_line (codes "width=") w ++ text)

-- and the first k port lines
pub record PortsBegun (bytes : List ℕ) (a w : ℕ) (orders : Orders) (k : ℕ) (rest : List ℕ) : Type 0 where
  pub text : List ℕ
  pub begun : Begun bytes a w text
  pub lines : text ≡ port_lines orders (take k (ports a)) ++ rest
  pub fine : (i : ℕ) → i < k → PortFine a (nth_port a i) (orders (nth_port a i))

-- all ports have had their lines, and no other port has inputs
pub record AllPorts (bytes : List ℕ) (a w : ℕ) (orders : Orders) (rest : List ℕ) : Type 0 where
  pub begun : PortsBegun bytes a w orders (2 * a + 1) rest
  pub others : (p : Port) → ((i : ℕ) → i ≤ 2 * a → nth_port a i ≢ p) → orders p ≡ []

-- the rows that the code lines from c and n on select, up to the end of the text
pub data Rows (orders : Orders) (a : ℕ) : ℕ → List ℕ → List (Option RowData) → Type 0 where
  end : {text : List ℕ} → text ≡ [] → Rows orders a 16 text []
  idle : (c : ℕ) (text : List ℕ) (rows : List (Option RowData)) → c ≤ 15 → ((es : List (Option Selection)) (out : ℕ) (rest : List ℕ) → CodeLine a c text es out rest → ⊥) → Rows orders a (c + 1) text rows → Rows orders a c text (None ∷ rows)
  live : (c : ℕ) (text rest : List ℕ) (r : RowData) (rows : List (Option RowData)) → c ≤ 15 → CodeFine orders a c text r rest → Rows orders a (c + 1) rest rows → Rows orders a c text (Some r ∷ rows)

pub data Refused (bytes : List ℕ) : Refusal → Type 0 where
  too_long : 4096 < length bytes → Refused bytes SheetTooLong
  in_adders : (e : Refusal) → length bytes ≤ 4096 → NumberFault (codes "adders=") 0 8 1 bytes e → Refused bytes e
  in_width : (a : ℕ) (rest : List ℕ) (e : Refusal) → length bytes ≤ 4096 → a ≤ 8 → bytes ≡ number_line (codes "adders=") a ++ rest → NumberFault (codes "width=") 1 32 2 rest e → Refused bytes e
  in_port : (a w k : ℕ) (orders : Orders) (rest : List ℕ) (e : Refusal) → PortsBegun bytes a w orders k rest → k ≤ 2 * a → PortFault a (k + 3) (nth_port a k) rest e → Refused bytes e
  in_code : (a w d m : ℕ) (orders : Orders) (text rest : List ℕ) (e : Refusal) → AllPorts bytes a w orders text → CodesFine orders a 0 (2 * a + 4) text d m rest → CodeFault orders a d m rest e → Refused bytes e
  unselected : (a w k : ℕ) (orders : Orders) (text : List ℕ) (rows : List (Option RowData)) → AllPorts bytes a w orders text → Rows orders a 0 text rows → k ≤ 2 * a
      → ((i : ℕ) → i < k → all_selected rows (nth_port a i) (orders (nth_port a i)) ≡ true) → all_selected rows (nth_port a k) (orders (nth_port a k)) ≡ false → Refused bytes (InputUnselected (k + 3))
