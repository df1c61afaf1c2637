-- What one row more would cost, part by part.
--   b   a block, and w how many bits its samples have
--   p   one of its ports, and j the number of one of its adders
--   h   what the live rows have at a part
--   u   what one row more would put there
use Rattle.std.specs.Prelude.{ℕ, ◌+◌, ◌-◌, Bool, ◌&&◌, cond, length, max, nat_le, nat_lt}
use Rattle.blocks.specs.declared.model.Block.{Block}
use Rattle.bits.specs.Bits.{bits}
use Rattle.ports.specs.declared.port.Port.{Port}
use Rattle.ports.specs.declared.port.Port.TheVariants.{Left, Right}
use Rattle.ports.specs.Inputs.{insert, inputs}
use Rattle.prices.specs.Tables.{AdderTable, MuxTable, Tables}
use Rattle.pricing.specs.declared.net.Net.TheVariants.{OfAdder, OfPort}
use Rattle.pricing.specs.declared.parts.SignsMet.{SignsMet}
use Rattle.pricing.specs.Nets.{largest_on}
use Rattle.pricing.specs.Parts.{signs_at, with_sign, kind_of}
use Rattle.pricing.specs.Prices.{kind_price, adder_with_ports}
use Rattle.rises.specs.declared.held.HeldPort.{HeldPort}
use Rattle.rises.specs.declared.held.HeldAdder.{HeldAdder}
use Rattle.rises.specs.declared.held.Way.{Way}
use Rattle.rises.specs.declared.uses.ValuedOperand.{ValuedOperand}
use Rattle.rises.specs.declared.uses.ValuedAdder.{ValuedAdder}
use Rattle.rises.specs.Uses.{turned, is_plus}

abbrev pub port_of : Block → Port → HeldPort
port_of b p = record { inputs = inputs b p; bits = bits (largest_on b (OfPort p)) }

abbrev pub adder_of : Tables → Block → ℕ → HeldAdder
adder_of t b j = record { left = port_of b (Left j); right = port_of b (Right j); signs = signs_at b j; bits = bits (largest_on b (OfAdder j)); price = adder_with_ports t b j }

-- the width of a part with a value of so many bits more
abbrev pub width_with : ℕ → ℕ → ℕ → ℕ
width_with w more bits = w + max more bits

-- there are parts of these widths
abbrev pub has_width : ℕ → Bool
has_width width = nat_le 1 width && nat_le width 63

-- the multiplexer of a port with one operand more
unfoldable pub mux_with : MuxTable → ℕ → ℕ → ℕ
mux_with price n width = cond (nat_le 1 n && nat_le n 16 && has_width width) (price n width) 0

-- as it is
abbrev pub port_alone : MuxTable → ℕ → HeldPort → ℕ
port_alone price w h = mux_with price (length h.inputs) (w + h.bits)

abbrev pub port_with : MuxTable → ℕ → HeldPort → ValuedOperand → ℕ
port_with price w h u = mux_with price (length (insert u.operand h.inputs)) (width_with w u.bits h.bits)

-- an adder that a sign is met at
unfoldable pub kind_with : AdderTable → SignsMet → ℕ → ℕ
kind_with price signs width = cond (has_width width) (kind_price price (kind_of signs.adds signs.subtracts) width) 0

-- its two ports, with these operands on the left and on the right
unfoldable pub ports_with : MuxTable → ℕ → HeldAdder → ValuedOperand → ValuedOperand → ℕ
ports_with price w h l r = port_with price w h.left l + port_with price w h.right r

-- an adder with its two ports, if the row uses it so
abbrev pub adder_with : Tables → ℕ → HeldAdder → ValuedAdder → ℕ
adder_with t w h u = kind_with t.adders (with_sign u.sign h.signs) (width_with w u.bits h.bits) + ports_with t.muxes w h u.left u.right

-- The cheaper way round, as it is where both cost the same; a minus adder stays as it is.
abbrev pub better_turned : Tables → ℕ → HeldAdder → ValuedAdder → Bool
better_turned t w h u = is_plus u.sign && nat_lt (ports_with t.muxes w h u.right u.left) (ports_with t.muxes w h u.left u.right)

-- by how much the adder with its two ports is dearer then
abbrev pub way_of : Tables → ℕ → HeldAdder → ValuedAdder → Way
way_of t w h u = record { swapped = better_turned t w h u; rise = adder_with t w h (turned (better_turned t w h u) u) - h.price }
