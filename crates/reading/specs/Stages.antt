-- One stage of reading after another, up to the first that is turned down.
use Rattle.std.specs.Prelude.{Bool, Some, None, Option, Ok, Err, Result, if◌then◌else◌}
use Rattle.adders.specs.declared.refusals.Refusal.{Refusal}

infixl 10 ◌>>=◌
abbrev pub ◌>>=◌ : {A B : Type 0} → Result A Refusal → (A → Result B Refusal) → Result B Refusal
(Ok x) >>= f = f x
(Err e) >>= f = Err e

-- what there is, or the refusal
abbrev pub or_refused : {A : Type 0} → Refusal → Option A → Result A Refusal
or_refused e None = Err e
or_refused e (Some x) = Ok x

-- what passes a test, or the refusal
abbrev pub if_passed : {A : Type 0} → Bool → Refusal → A → Result A Refusal
if_passed b e x = if b then Ok x else Err e
