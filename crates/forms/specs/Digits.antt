-- Digits and the bytes that they are written as.
use Rattle.std.specs.Prelude.{ℕ, ◌-◌, ◌&&◌, Some, None, Option, nat_le, if◌then◌else◌}

-- the digit that a byte is, from 48 for 0 to 57 for 9
abbrev pub digit : ℕ → Option ℕ
digit b = if nat_le 48 b && nat_le b 57 then Some (b - 48) else None
