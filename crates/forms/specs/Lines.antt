-- The first line of a text, and what follows it.
use Rattle.std.specs.Prelude.{◌≡◌, ℕ, ◌⊎◌, List, [], ◌∷◌, ◌++◌}

-- no byte is a line feed, which is the byte 10
abbrev pub NoLineFeed : List ℕ → Type 0
NoLineFeed [] = Unit {0}
NoLineFeed (b ∷ bs) = (b ≡ 10 → ⊥) × NoLineFeed bs

-- up to the first line feed, or all where there is none
pub record FirstLine (text line rest : List ℕ) : Type 0 where
  pub one_line : NoLineFeed line
  pub whole : (text ≡ line ++ 10 ∷ rest) ⊎ ((text ≡ line) × (rest ≡ []))
