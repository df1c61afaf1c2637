-- The parts that a block takes: which adder stands at each number, and which multiplexer at each port.
--   b   a block
--   p   one of its ports
--   j   the number of an adder
--   r   the row at a code, None where the code is idle
use Rattle.std.specs.Prelude.{◌≡◌, ℕ, Bool, true, false, [], length, map, Some, None, Option}
use Rattle.std.specs.List.{list_any}
use Rattle.adders.specs.declared.wiring.Adder.{Adder}
use Rattle.adders.specs.declared.wiring.Sign.{Sign}
use Rattle.adders.specs.declared.wiring.Sign.TheVariants.{Plus, Minus}
use Rattle.rows.specs.declared.model.Row.{Row}
use Rattle.rows.specs.Rows.{adder_at}
use Rattle.blocks.specs.declared.model.Block.{Block}
use Rattle.ports.specs.declared.port.Port.{Port}
use Rattle.ports.specs.Inputs.{inputs}
use Rattle.prices.specs.declared.adder.AdderKind.{AdderKind}
use Rattle.prices.specs.declared.adder.AdderKind.TheVariants.{Adds, Subtracts, Both}
use Rattle.prices.specs.declared.adder.AdderPart.{AdderPart}
use Rattle.prices.specs.declared.multiplexer.Multiplexer.{Multiplexer}
use Rattle.pricing.specs.declared.parts.SignsMet.{SignsMet}
use Rattle.pricing.specs.declared.net.Net.TheVariants.{OfAdder, OfPort}
use Rattle.pricing.specs.Nets.{width_of}

-- the multiplexer of a port, none where no row puts an input
abbrev pub MuxAt : Block → Port → Option Multiplexer → Type 0
MuxAt b p None = inputs b p ≡ []
MuxAt b p (Some m) = (m.inputs ≡ length (inputs b p)) × (m.width ≡ width_of b (OfPort p))

abbrev pub sign_of : Option Adder → Option Sign
sign_of None = None
sign_of (Some a) = Some a.sign

-- the sign by which the row uses an adder
abbrev pub sign_used : Option Row → ℕ → Option Sign
sign_used None j = None
sign_used (Some r) j = sign_of (adder_at r j)

abbrev pub is_sign : Sign → Option Sign → Bool
is_sign Plus (Some Plus) = true
is_sign Minus (Some Minus) = true
is_sign s o = false

-- some live row uses the adder by this sign
abbrev pub met : Sign → Block → ℕ → Bool
met s b j = list_any (is_sign s) (map (λ r. sign_used r j) b.table.rows)

-- by which signs live rows use the adder
abbrev pub signs_at : Block → ℕ → SignsMet
signs_at b j = record { adds = met Plus b j; subtracts = met Minus b j }

abbrev pub with_sign : Sign → SignsMet → SignsMet
with_sign Plus m = record { adds = true; subtracts = m.subtracts }
with_sign Minus m = record { adds = m.adds; subtracts = true }

-- the kind of an adder that is met by plus, and by minus
abbrev pub kind_of : Bool → Bool → Option AdderKind
kind_of true true = Some Both
kind_of true false = Some Adds
kind_of false true = Some Subtracts
kind_of false false = None

abbrev pub kind_at : Block → ℕ → Option AdderKind
kind_at b j = kind_of (met Plus b j) (met Minus b j)

-- the adder of a number, none where no row uses it
abbrev pub AdderAt : Block → ℕ → Option AdderPart → Type 0
AdderAt b j None = kind_at b j ≡ None
AdderAt b j (Some a) = (kind_at b j ≡ Some a.kind) × (a.width ≡ width_of b (OfAdder j))
