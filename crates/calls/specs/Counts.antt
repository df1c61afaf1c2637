-- Where some bytes stand at the end of a line.
--   Counts bs n   n is how many bytes bs are, as far as a word counts
--   Ends tail bs  the bytes bs end in tail
use Rattle.std.specs.Prelude.{◌≡◌, ℕ, ◌^◌, ◌<◌, List, ◌++◌, length}

abbrev pub Counts : List ℕ → ℕ → Type 0
Counts bs n = length bs < 2 ^ 64 → n ≡ length bs

abbrev pub Ends : List ℕ → List ℕ → Type 0
Ends tail bs = (front : List ℕ) × (bs ≡ front ++ tail)
