-- What a line says, computed: for lines that are written out.
use Rattle.std.proofs.Common.{◌≡◌, ℕ, List, Some, None, Option, refl, subst}
use Rattle.std.proofs.lemmas.Option.{none-some}
use Rattle.adders.specs.declared.wiring.Adder.{Adder}
use Rattle.lines.specs.declared.scan.Part.{Part}
use Rattle.lines.specs.Form.{Line}
use Rattle.lines.specs.Scan.{final, State, at, dead, run, start}
use Rattle.lines.proofs.Texts.{said}

abbrev at_end : List Adder → Option ℕ → Option (List Adder × ℕ)
at_end xs (Some out) = Some (xs, out)
at_end xs None = None

abbrev at_state : State → Option (List Adder × ℕ)
at_state (at xs p) = at_end xs (final p)
at_state dead = None

-- the adders and the output shift of a line of the form
abbrev pub says : List ℕ → Option (List Adder × ℕ)
says bs = at_state (run start bs)

pub says_right : (bs : List ℕ) (l : List Adder × ℕ) → says bs ≡ Some l → Line l.0 l.1 bs
says_right bs l e = by_state (run start bs) refl e
  where
    by_end : (xs : List Adder) (p : Part) → run start bs ≡ at xs p → (v : Option ℕ) → final p ≡ v → at_end xs v ≡ Some l → Line l.0 l.1 bs
    by_end xs p f (Some out) g h = subst (λ (k : List Adder × ℕ). Line k.0 k.1 bs) (cc h) (said bs xs p out f g)
    by_end xs p f None g h = absurd (none-some _ h)

    by_state : (s : State) → run start bs ≡ s → at_state s ≡ Some l → Line l.0 l.1 bs
    by_state (at xs p) f h = by_end xs p f (final p) refl h
    by_state dead f h = absurd (none-some _ h)
