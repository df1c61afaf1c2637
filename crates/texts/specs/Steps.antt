-- One step of reading after another: what is read is a value with the bytes after it, or nothing where the bytes have not the form.
use Rattle.std.specs.Prelude.{List, ℕ, Some, None, Option, option_map}
use Rattle.std.specs.Borrow.{Bor}

infixl 10 ◌>>=◌
abbrev pub ◌>>=◌ : {A B : Type 0} → Option A → (A → Option B) → Option B
None >>= f = None
(Some x) >>= f = f x

abbrev pub Read : Type 0 → Type 0
Read A = Option (A × List ℕ)

-- what a reader of the code returned
abbrev pub read_of : {X : Type 0} → Option (X × Bor (List ℕ)) → Read X
read_of r = option_map (λ x. (x.0, x.1.now)) r
