-- What a port's line may have, in plain facts.
--   a    the block's adder count, from the first line of the sheet
--   p    the port
--   os   the inputs of its line
use Rattle.std.specs.Prelude.{ℕ, ◌<◌, ◌≤◌, List, length, Decides}
use Rattle.adders.specs.declared.wiring.Operand.{Operand}
use Rattle.ports.specs.declared.port.Port.{Port}
use Rattle.ports.specs.declared.port.Port.TheVariants.{Left, Right, Output}
use Rattle.ports.specs.Inputs.{Among}
use Rattle.reading.specs.Reader.{bound, within_limits}

-- an adder takes the sample and the adders lower than itself, the output the sample and any adder of the block
abbrev pub MayRead : ℕ → Port → ℕ → Type 0
MayRead a (Left j) source = source < j
MayRead a (Right j) source = source < j
MayRead a Output source = source ≤ a

pub record InLimits (a : ℕ) (p : Port) (os : List Operand) : Type 0 where
  pub few : length os ≤ 16
  pub sources : (o : Operand) → Among o os → MayRead a p o.source
  pub shifts : (o : Operand) → Among o os → o.shift ≤ 30

-- a port's line passes the reader's test exactly if it is in its limits
abbrev pub LimitsAreTested : Type 0
LimitsAreTested = (a : ℕ) (p : Port) (os : List Operand) → Decides (within_limits (bound a p) os) (InLimits a p os)
