-- The number of an input in its line, and the input of a number.
use Rattle.std.proofs.Common.{◌≡◌, ℕ, zero, suc, ◌≤◌, Bool, true, false, List, [], ◌∷◌, length, Some, sym, refl, ap, ◌∙◌, subst, inl, inr, ⊎_elim, arith}
use Rattle.std.specs.Prelude.{slice_get}
use Rattle.std.proofs.lemmas.Bool.{cond-true, cond-false, false≢true}
use Rattle.adders.specs.declared.wiring.Operand.{Operand}
use Rattle.adders.proofs.Broken.{some_none}
use Rattle.ports.specs.Inputs.{same, Among}
use Rattle.ports.proofs.Ascending.{same_one, same_self}
use Rattle.texts.proofs.Takes.{some_is}
use Rattle.reading.specs.Repeats.{Once}
use Rattle.sheetlaws.specs.Sheets.{place}

pub among_get : (os : List Operand) (k : ℕ) (o : Operand) → slice_get os k ≡ Some o → Among o os
among_get [] k o e = absurd (some_none (sym e))
among_get (x ∷ os) zero o e = inl (sym (some_is x o e))
among_get (x ∷ os) (suc k) o e = inr (among_get os k o e)

-- the test of two inputs, by what it says
by_same : (o x : Operand) (P : Type 0) → (same o x ≡ true → o ≡ x → P) → (same o x ≡ false → P) → P
by_same o x P f g = by (same o x) refl
  where
    by : (b : Bool) → same o x ≡ b → P
    by true e = f e (same_one o x e)
    by false e = g e

pub place_get : (os : List Operand) (k : ℕ) (o : Operand) → Once os → slice_get os k ≡ Some o → place o os ≡ k
place_get [] k o once e = absurd (some_none (sym e))
place_get (x ∷ os) zero o once e = cond-true (same o x) 0 (suc (place o os)) (subst (λ y. same o y ≡ true) (sym (some_is x o e)) (same_self o))
place_get (x ∷ os) (suc k) o once e =
    by_same o x (place o (x ∷ os) ≡ suc k) (λ _ f. absurd (once.0 (subst (λ y. Among y os) f (among_get os k o e))))
    (λ f. cond-false (same o x) 0 (suc (place o os)) f ∙ ap suc (place_get os k o once.1 e))

pub get_place : (os : List Operand) (o : Operand) → Among o os → slice_get os (place o os) ≡ Some o
get_place [] o h = absurd h
get_place (x ∷ os) o h =
    by_same o x (slice_get (x ∷ os) (place o (x ∷ os)) ≡ Some o) (λ t e. ap (slice_get (x ∷ os)) (cond-true (same o x) 0 (suc (place o os)) t) ∙ ap Some (sym e))
    (λ f. ap (slice_get (x ∷ os)) (cond-false (same o x) 0 (suc (place o os)) f)
    ∙ get_place os o (⊎_elim {C = Among o os} (λ e. absurd (false≢true (sym f ∙ subst (λ y. same o y ≡ true) e (same_self o)))) (λ k. k) h))

pub place_few : (os : List Operand) (o : Operand) → place o os ≤ length os
place_few [] o = omega arith
place_few (x ∷ os) o = by_same o x (place o (x ∷ os) ≤ length (x ∷ os)) (λ t _. subst (λ n. n ≤ length (x ∷ os)) (sym (cond-true (same o x) 0 (suc (place o os)) t)) (omega arith)) (λ f. subst (λ n. n ≤ length (x ∷ os)) (sym (cond-false (same o x) 0 (suc (place o os)) f)) (omega (arith, place_few os o)))
