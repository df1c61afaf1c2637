-- What is printed of the parts of a block.
--   b   a block
--   j   the number of an adder
--   p   a port
--   w   how many bits wide a part is
use Rattle.std.specs.Prelude.{ℕ, zero, suc, List, [], ◌++◌, length, Some, None, Option, codes, decimal}
use Rattle.blocks.specs.declared.model.Block.{Block}
use Rattle.ports.specs.declared.port.Port.{Port}
use Rattle.ports.specs.declared.port.Port.TheVariants.{Left, Right, Output}
use Rattle.ports.specs.Inputs.{inputs}
use Rattle.prices.specs.declared.adder.AdderKind.{AdderKind}
use Rattle.prices.specs.declared.adder.AdderKind.TheVariants.{Adds, Subtracts, Both}
use Rattle.pricing.specs.declared.net.Net.TheVariants.{OfAdder, OfPort}
use Rattle.pricing.specs.Nets.{width_of}
use Rattle.pricing.specs.Parts.{kind_at}

abbrev pub kind_word : AdderKind → List ℕ
kind_word Adds = codes "adds"
kind_word Subtracts = codes "subtracts"
kind_word Both = codes "both"

-- `-` stands for an adder that no row uses
abbrev pub adder_text : Option AdderKind → ℕ → List ℕ
adder_text None w = codes "-"
adder_text (Some kind) w = kind_word kind ++ (codes " " ++ decimal w)

-- and for a port without inputs
abbrev pub port_text : ℕ → ℕ → List ℕ
port_text zero w = codes "-"
port_text (suc n) w = decimal (suc n) ++ (codes " " ++ decimal w)

abbrev pub port_name : Port → List ℕ
port_name (Left j) = decimal j ++ codes "L"
port_name (Right j) = decimal j ++ codes "R"
port_name Output = codes "out"

abbrev pub adder_line : Block → ℕ → List ℕ
adder_line b j = codes "a" ++ (decimal j ++ (codes "=" ++ (adder_text (kind_at b j) (width_of b (OfAdder j)) ++ codes "\n")))

abbrev pub port_line : Block → Port → List ℕ
port_line b p = port_name p ++ (codes "=" ++ (port_text (length (inputs b p)) (width_of b (OfPort p)) ++ codes "\n"))

-- an adder, its left port and its right port
abbrev pub three_lines : Block → ℕ → List ℕ
three_lines b j = adder_line b j ++ (port_line b (Left j) ++ port_line b (Right j))

-- of so many adders from 1 on
abbrev pub adder_lines : Block → ℕ → List ℕ
adder_lines b zero = []
adder_lines b (suc j) = adder_lines b j ++ three_lines b (suc j)

-- and the output's port last
abbrev pub parts_text : Block → List ℕ
parts_text b = adder_lines b b.adders ++ port_line b Output
