-- A text is cut at its first line feed.
use Rattle.std.proofs.Common.{◌≢◌, ℕ, ◌+◌, ◌<◌, List, [], ◌∷◌, ◌++◌, length, take, get_or, sym, subst}
use Rattle.std.proofs.lemmas.List.{take_more}
use Rattle.forms.specs.Lines.{NoLineFeed}

free_push : (xs : List ℕ) (b : ℕ) → NoLineFeed xs → b ≢ 10 → NoLineFeed (xs ++ b ∷ [])
free_push [] b f g = (g, tt)
free_push (x ∷ xs) b f g = (f.0, free_push xs b f.1 g)

pub free_more : (text : List ℕ) (place : ℕ) → place < length text → NoLineFeed (take place text) → get_or text place 0 ≢ 10 → NoLineFeed (take (place + 1) text)
free_more text place h f g = subst NoLineFeed (sym (take_more text place 0 h)) (free_push (take place text) (get_or text place 0) f g)
