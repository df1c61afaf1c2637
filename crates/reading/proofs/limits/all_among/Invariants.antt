use Rattle.std.proofs.Common.{◌≡◌, drop}
use Rattle.std.specs.List.{list_all, list_any}
use Rattle.ports.specs.Inputs.{same}
use Rattle.reading.proofs.limits.all_among.Given as goal

abbrev pub invariant-loop-input : goal.invariant-loop-input
invariant-loop-input l = list_all (λ o. list_any (same o) l.others) (drop l.input-index l.inputs) ≡ list_all (λ o. list_any (same o) l.fn.others) l.fn.inputs
