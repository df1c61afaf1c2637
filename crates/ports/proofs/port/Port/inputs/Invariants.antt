use Rattle.std.proofs.Common.{◌≡◌, drop, map}
use Rattle.ports.specs.Ports.{put_at}
use Rattle.ports.specs.Inputs.{different}
use Rattle.ports.proofs.port.Port.inputs.Given as goal

abbrev pub invariant-loop-code : goal.invariant-loop-code
invariant-loop-code l = l.list ≡ different (drop l.code (map (λ r. put_at r l.self) l.block.table.rows))
