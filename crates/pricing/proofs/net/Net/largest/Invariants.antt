use Rattle.std.proofs.Common.{◌≡◌, ◌≤◌, drop, map}
use Rattle.pricing.specs.Nets.{largest, value_on}
use Rattle.pricing.proofs.net.Net.largest.Given as goal

abbrev pub invariant-loop-code : goal.invariant-loop-code
invariant-loop-code l = (l.largest ≡ largest (drop l.code (map (λ r. value_on r l.self) l.block.table.rows))) × (l.largest ≤ 2147483647)
