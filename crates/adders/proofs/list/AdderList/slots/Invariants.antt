use Rattle.std.proofs.Common.{◌≡◌, ◌-◌, length, map, take, drop, replicate, Some, None}
use Rattle.adders.proofs.list.AdderList.slots.Given as goal

abbrev pub invariant-loop-i : goal.invariant-loop-i
invariant-loop-i g l = (length l.slots ≡ g.row.N) × (take l.i l.slots ≡ map Some (take l.i l.adders)) × (drop l.i l.slots ≡ replicate (g.row.N - l.i) None)
