-- A turn has steps.
use Rattle.std.specs.Prelude.{◌^◌, ◌<◌}
use Rattle.std.proofs.Common.{lit<}

pub turn_positive : 0 < 2 ^ 32
turn_positive = lit< tt
