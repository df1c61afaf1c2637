use Rattle.std.proofs.Common.{arith}
use Rattle.bits.proofs.Least.{bits_few}
use Rattle.pricing.proofs.net.Net.width.Goals as goal

pub returns-clause-range : goal.returns-clause-range
returns-clause-range c =
    let b = c.args.block.now in (
      omega (arith, c.width.ensures, b.some_bits),
      omega (arith, c.width.ensures, b.few_bits, c.bits.ensures.count, bits_few c.largest.result c.largest.ensures.few),
    )
