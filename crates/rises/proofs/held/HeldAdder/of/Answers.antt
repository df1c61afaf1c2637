use Rattle.std.proofs.Common.{rules, ◌≡◌, ◌+◌, ap, ◌∙◌}
use Rattle.ports.specs.declared.port.Port.TheVariants.{Left, Right}
use Rattle.prices.specs.Tables.{tables}
use Rattle.bits.specs.Bits.{bits}
use Rattle.pricing.specs.declared.net.Net.TheVariants.{OfAdder}
use Rattle.pricing.specs.Nets.{largest_on}
use Rattle.pricing.specs.Parts.{signs_at}
use Rattle.rises.specs.Rises.{port_of, kind_with, port_alone}
use Rattle.rises.proofs.Parts.{priced}
use Rattle.rises.proofs.held.HeldAdder.of.Goals as goal

pub returns : goal.returns
returns g c =
    let t = tables (g.L.PriceList.adders c.args.list.now) (g.L.PriceList.muxes c.args.list.now) in
    let b = c.args.block.now in
    let j = c.args.adder in
    let l : c.of-left.result ≡ port_of b (Left j) = c.of-left.ensures in
    let r : c.of-right.result ≡ port_of b (Right j) = c.of-right.ensures in
    let s : c.at-signs.result ≡ signs_at b j = c.at-signs.ensures in
    let n : c.bits-bits.result ≡ bits (largest_on b (OfAdder j)) = c.bits-bits.ensures.count ∙ ap bits c.largest.ensures.value in
    let w : c.width-sample.result ≡ b.width = c.width-sample.ensures in
    let kind : c.kind_price.result ≡ kind_with t.adders c.at-signs.result (c.width-sample.result + c.bits-bits.result) = search rules in
    let left : c.price.result ≡ port_alone t.muxes c.width-sample.result c.of-left.result = search rules in
    let right : c.price-2.result ≡ port_alone t.muxes c.width-sample.result c.of-right.result = search rules in
    let sum = (λ i. kind i + left i + right i) ∙ (λ i. kind_with t.adders (s i) (w i + n i) + port_alone t.muxes (w i) (l i) + port_alone t.muxes (w i) (r i)) ∙ priced t b j in
    λ i. record { left = l i; right = r i; signs = s i; bits = n i; price = sum i }
