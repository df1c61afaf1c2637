use Rattle.std.proofs.Common.{◌≡◌, drop}
use Rattle.std.specs.List.{list_all}
use Rattle.reading.specs.Reader.{allowed}
use Rattle.reading.proofs.limits.all_allowed.Given as goal

abbrev pub invariant-loop-input : goal.invariant-loop-input
invariant-loop-input l = list_all (allowed l.bound) (drop l.input-index l.inputs) ≡ list_all (allowed l.fn.bound) l.fn.inputs
