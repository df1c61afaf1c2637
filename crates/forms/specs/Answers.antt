-- What a call answers.
use Rattle.std.specs.Prelude.{◌≡◌}

-- r is the only answer of which P holds
abbrev pub Only : {A : Type 0} → (A → Type 0) → A → Type 0
Only {A} P r = (s : A) → P s → s ≡ r
