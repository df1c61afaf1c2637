-- Where bytes break a form, by what can follow them.
--   F                 a form: of which bytes it holds
--   Viable F bs       some bytes of the form begin with bs
--   BrokenAt F bs i   bs has not the form, and breaks it at byte i
use Rattle.std.specs.Prelude.{ℕ, ◌+◌, ◌<◌, ◌≤◌, List, ◌++◌, length, take}

abbrev pub Viable : (List ℕ → Type 0) → List ℕ → Type 0
Viable F bs = (rest : List ℕ) × F (bs ++ rest)

-- what stands before byte i can be continued to bytes of the form, what stands up to and with it cannot; i is the length where bs stops short
pub record BrokenAt (F : List ℕ → Type 0) (bs : List ℕ) (i : ℕ) : Type 0 where
  pub within : i ≤ length bs
  pub before : Viable F (take i bs)
  pub after : i < length bs → Viable F (take (i + 1) bs) → ⊥
  pub broken : F bs → ⊥
