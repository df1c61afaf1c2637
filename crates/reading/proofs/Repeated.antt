-- Inputs that come twice.
use Rattle.std.proofs.Common.{◌≡◌, ◌≢◌, ℕ, zero, suc, ◌<◌, Bool, true, false, ◌||◌, List, [], ◌∷◌, length, get_or, is_some, Some, None, Option, refl, ap, ◌∙◌, sym, inl, inr, ⊎_elim, arith}
use Rattle.std.specs.List.{list_any}
use Rattle.std.specs.Prelude.{MatchOption}
use Rattle.std.proofs.lemmas.Bool.{false≢true}
use Rattle.adders.specs.declared.wiring.Operand.{Operand}
use Rattle.adders.specs.Values.{spare_operand}
use Rattle.ports.specs.Inputs.{same, Among}
use Rattle.ports.proofs.Ascending.{same_one, same_self}
use Rattle.reading.specs.Repeats.{AllDiffer, FirstRepeat, repeats, Once}

or_true : (b c : Bool) → c ≡ true → (b || c) ≡ true
or_true true c e = refl
or_true false c e = e

or_false : (b c : Bool) → b ≡ false → c ≡ false → (b || c) ≡ false
or_false b c e f = ap (λ x. x || c) e ∙ f

any_at : (o : Operand) (os : List Operand) (k : ℕ) → k < length os → o ≡ get_or os k spare_operand → list_any (same o) os ≡ true
any_at o [] k h e = absurd (omega arith)
any_at o (x ∷ os) zero h e = ap (λ b. b || list_any (same o) os) (ap (same o) (sym e) ∙ same_self o)
any_at o (x ∷ os) (suc k) h e = or_true (same o x) (list_any (same o) os) (any_at o os k (omega arith) e)

none_at : (o : Operand) (os : List Operand) → ((k : ℕ) → k < length os → o ≢ get_or os k spare_operand) → list_any (same o) os ≡ false
none_at o [] f = refl
none_at o (x ∷ os) f = or_false (same o x) (list_any (same o) os) (differs (same o x) refl) (none_at o os (λ k h. f (suc k) (omega arith)))
  where
    differs : (b : Bool) → same o x ≡ b → same o x ≡ false
    differs true e = absurd (f 0 (omega arith) (same_one o x e))
    differs false e = e

repeated : (os : List Operand) (i j : ℕ) → i < j → j < length os → get_or os i spare_operand ≡ get_or os j spare_operand → repeats os ≡ true
repeated [] i j l h e = absurd (omega arith)
repeated (o ∷ os) zero zero l h e = absurd (omega arith)
repeated (o ∷ os) (suc i) zero l h e = absurd (omega arith)
repeated (o ∷ os) zero (suc j) l h e = ap (λ b. b || repeats os) (any_at o os j (omega arith) e)
repeated (o ∷ os) (suc i) (suc j) l h e = or_true (list_any (same o) os) (repeats os) (repeated os i j (omega arith) (omega arith) e)

first_repeats : (os : List Operand) (i j : ℕ) → FirstRepeat os i j → repeats os ≡ true
first_repeats os i j r = repeated os i j r.order r.within r.equal

none_repeats : (os : List Operand) → AllDiffer os → repeats os ≡ false
none_repeats [] f = refl
none_repeats (o ∷ os) f = or_false (list_any (same o) os) (repeats os) (none_at o os (λ k h. f 0 (suc k) (omega arith) (omega arith))) (none_repeats os (λ h k l g. f (suc h) (suc k) (omega arith) (omega arith)))

pub repeats_by : (os : List Operand) (r : Option (ℕ × ℕ)) → MatchOption r (AllDiffer os) (λ p. FirstRepeat os p.0 p.1) → repeats os ≡ is_some r
repeats_by os None h = none_repeats os h
repeats_by os (Some p) h = first_repeats os p.0 p.1 h

-- The test, and what it says.

pub any_among : (o : Operand) (os : List Operand) → list_any (same o) os ≡ true → Among o os
any_among o [] e = absurd (false≢true e)
any_among o (x ∷ os) e = by (same o x) refl e (any_among o os)
  where
    by : (b : Bool) → same o x ≡ b → (b || list_any (same o) os) ≡ true → (list_any (same o) os ≡ true → Among o os) → Among o (x ∷ os)
    by true s h f = inl (same_one o x s)
    by false s h f = inr (f h)

pub among_any : (o : Operand) (os : List Operand) → Among o os → list_any (same o) os ≡ true
among_any o [] h = absurd h
among_any o (x ∷ os) h =
    ⊎_elim {C = list_any (same o) (x ∷ os) ≡ true} (λ e. ap (λ b. b || list_any (same o) os) (ap (same o) (sym e) ∙ same_self o)) (λ k. or_true (same o x) (list_any (same o) os) (among_any o os k)) h

or_parts : (b c : Bool) → (b || c) ≡ false → (b ≡ false) × (c ≡ false)
or_parts true c e = absurd (false≢true (sym e))
or_parts false c e = (refl, e)

pub once_of : (os : List Operand) → repeats os ≡ false → Once os
once_of [] e = tt
once_of (o ∷ os) e = let p = or_parts (list_any (same o) os) (repeats os) e in (λ h. false≢true (sym p.0 ∙ among_any o os h), once_of os p.1)

pub of_once : (os : List Operand) → Once os → repeats os ≡ false
of_once [] h = refl
of_once (o ∷ os) h = or_false (list_any (same o) os) (repeats os) (not_among (list_any (same o) os) refl) (of_once os h.1)
  where
    not_among : (b : Bool) → list_any (same o) os ≡ b → list_any (same o) os ≡ false
    not_among true e = absurd (h.0 (any_among o os e))
    not_among false e = e
