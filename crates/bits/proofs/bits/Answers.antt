use Rattle.std.proofs.Common.{◌≡◌, ℕ, ◌^◌, ◌<◌, subst, arith}
use Rattle.bits.proofs.Least.{bits_found}
use Rattle.bits.proofs.bits.Goals as goal

pub returns-clause-count : goal.returns-clause-count
returns-clause-count c =
    let all : c.loop-count.count ≡ 32 = omega arith in
    bits_found c.args.value 32 (subst (λ n. (b : ℕ) → b < n → 2 ^ b < c.args.value) all c.loop-count.invariant) (omega (arith, c.ranges.value.fits))
