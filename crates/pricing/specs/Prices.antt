-- What a block costs under the two tables of a price list.
--   b   a block
--   p   one of its ports
--   j   the number of an adder
use Rattle.std.specs.Prelude.{ℕ, zero, suc, ◌+◌, length, Some, None, Option}
use Rattle.blocks.specs.declared.model.Block.{Block}
use Rattle.ports.specs.declared.port.Port.{Port}
use Rattle.ports.specs.declared.port.Port.TheVariants.{Left, Right, Output}
use Rattle.ports.specs.Inputs.{inputs}
use Rattle.prices.specs.declared.adder.AdderKind.{AdderKind}
use Rattle.prices.specs.Tables.{AdderTable, MuxTable, Tables}
use Rattle.pricing.specs.declared.net.Net.TheVariants.{OfAdder, OfPort}
use Rattle.pricing.specs.Nets.{width_of}
use Rattle.pricing.specs.Parts.{kind_at}

-- a multiplexer, which there is where there are inputs
abbrev pub mux_price : MuxTable → ℕ → ℕ → ℕ
mux_price price zero width = 0
mux_price price (suc n) width = price (suc n) width

unfoldable pub port_price : MuxTable → Block → Port → ℕ
port_price price b p = mux_price price (length (inputs b p)) (width_of b (OfPort p))

-- an adder, which there is where a sign is met
abbrev pub kind_price : AdderTable → Option AdderKind → ℕ → ℕ
kind_price price None width = 0
kind_price price (Some kind) width = price kind width

unfoldable pub adder_price : AdderTable → Block → ℕ → ℕ
adder_price price b j = kind_price price (kind_at b j) (width_of b (OfAdder j))

-- an adder with its two ports
abbrev pub adder_with_ports : Tables → Block → ℕ → ℕ
adder_with_ports t b j = adder_price t.adders b j + (port_price t.muxes b (Left j) + port_price t.muxes b (Right j))

-- f 1 + f 2 + ... + f n
abbrev pub total : (ℕ → ℕ) → ℕ → ℕ
total f zero = 0
total f (suc n) = total f n + f (suc n)

abbrev pub block_price : Tables → Block → ℕ
block_price t b = total (adder_with_ports t b) b.adders + port_price t.muxes b Output
