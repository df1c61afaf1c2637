-- What it is to write bytes after a text in place, and to hand a text out.
use Rattle.std.specs.Prelude.{◌≡◌, ℕ, ◌<◌, ◌≤◌, List, ◌++◌, length, take, drop, Ok, Err, Result}
use Rattle.adders.specs.declared.refusals.Refusal.{Refusal}
use Rattle.adders.specs.declared.refusals.Refusal.TheVariants.{BufferTooShort}

-- the text old, having been written bs, is new: the first 4,096 bytes of the two together
abbrev pub Wrote : List ℕ → List ℕ → List ℕ → Type 0
Wrote old bs new = new ≡ take 4096 (old ++ bs)

-- a text that was handed out at the front of a buffer, or turned down where the buffer is shorter
abbrev pub Written : List ℕ → List ℕ → Result ℕ Refusal → List ℕ → Type 0
Written text out (Ok n) after = (n ≡ length text) × (length text ≤ length out) × (after ≡ text ++ drop (length text) out)
Written text out (Err e) after = (e ≡ BufferTooShort (length text)) × (length out < length text) × (after ≡ out)
