-- What the readers of the code answer.
use Rattle.std.specs.Prelude.{◌≡◌, ℕ, List, Ok, Err, Result}
use Rattle.std.specs.Borrow.{Bor}
use Rattle.adders.specs.declared.refusals.Refusal.{Refusal}
use Rattle.adders.specs.declared.wiring.Operand.{Operand}
use Rattle.ports.specs.declared.port.Port.{Port}
use Rattle.reading.specs.declared.lists.PortLists.{PortLists}
use Rattle.reading.specs.Orders.{Orders, lists_of, with_line}

-- what was returned, seen by view, is what reading gives
abbrev pub Gives : {X Y : Type 0} → (X → Y) → Result X Refusal → Result Y Refusal → Type 0
Gives view (Ok x) read = read ≡ Ok (view x)
Gives view (Err e) read = read ≡ Err e

-- a port's line was read into the lists: they have it besides what they had
abbrev pub LineGiven : PortLists → Port → Result (List Operand × List ℕ) Refusal → Result (Bor (List ℕ)) Refusal → PortLists → Type 0
LineGiven before p read (Ok rest) after = (os : List Operand) × (read ≡ Ok (os, rest.now)) × (lists_of after ≡ with_line p os (lists_of before))
LineGiven before p read (Err e) after = read ≡ Err e

-- the lines of all ports were
abbrev pub LinesGiven : Result (Orders × List ℕ) Refusal → Result (Bor (List ℕ)) Refusal → PortLists → Type 0
LinesGiven read (Ok rest) after = read ≡ Ok (lists_of after, rest.now)
LinesGiven read (Err e) after = read ≡ Err e
