-- Where an input comes twice, there is a first pair.
use Rattle.std.proofs.Common.{◌≡◌, ◌≢◌, ℕ, zero, suc, ◌<◌, Bool, true, false, ◌||◌, List, [], ◌∷◌, length, get_or, refl, ap, ◌∙◌, sym, arith}
use Rattle.std.specs.List.{list_any}
use Rattle.std.proofs.lemmas.Bool.{false≢true, or_parts}
use Rattle.adders.specs.declared.wiring.Operand.{Operand}
use Rattle.adders.specs.Values.{spare_operand}
use Rattle.ports.specs.Inputs.{same}
use Rattle.ports.proofs.Ascending.{same_one, same_self}
use Rattle.reading.specs.Repeats.{Differ, FirstRepeat, repeats}

-- the input is at none of the places
not_at : (o : Operand) (os : List Operand) → list_any (same o) os ≡ false → (k : ℕ) → k < length os → o ≢ get_or os k spare_operand
not_at o [] e k h this = absurd (omega arith)
not_at o (x ∷ os) e zero h this = let p = or_parts (same o x) (list_any (same o) os) e in false≢true (sym p.0 ∙ ap (same o) (sym this) ∙ same_self o)
not_at o (x ∷ os) e (suc k) h this = let p = or_parts (same o x) (list_any (same o) os) e in not_at o os p.1 k (omega arith) this

-- the first of the places that has the input
record FirstAt (o : Operand) (os : List Operand) (k : ℕ) : Type 0 where
  within : k < length os
  there : o ≡ get_or os k spare_operand
  before : (h : ℕ) → h < k → o ≢ get_or os h spare_operand

first_at : (o : Operand) (os : List Operand) → list_any (same o) os ≡ true → (k : ℕ) × FirstAt o os k
first_at o [] e = absurd (false≢true e)
first_at o (x ∷ os) e = by (same o x) refl e (first_at o os)
  where
    by : (b : Bool) → same o x ≡ b → (b || list_any (same o) os) ≡ true → (list_any (same o) os ≡ true → (k : ℕ) × FirstAt o os k) → (k : ℕ) × FirstAt o (x ∷ os) k
    by true s e next = (0, record { within = omega arith; there = same_one o x s; before = λ h l. absurd (omega arith) })
    by false s e next = let n = next e in (suc n.0, record { within = omega (arith, n.1.within); there = n.1.there; before = earlier n.0 n.1 })
      where
        earlier : (k : ℕ) → FirstAt o os k → (h : ℕ) → h < suc k → o ≢ get_or (x ∷ os) h spare_operand
        earlier k f zero l this = false≢true (sym s ∙ ap (same o) (sym this) ∙ same_self o)
        earlier k f (suc h) l this = f.before h (omega arith) this

pub first_pair : (os : List Operand) → repeats os ≡ true → (i : ℕ) × (j : ℕ) × FirstRepeat os i j
first_pair [] e = absurd (false≢true e)
first_pair (o ∷ os) e = by (list_any (same o) os) refl e (first_pair os)
  where
    by : (b : Bool) → list_any (same o) os ≡ b → (b || repeats os) ≡ true → (repeats os ≡ true → (i : ℕ) × (j : ℕ) × FirstRepeat os i j) → (i : ℕ) × (j : ℕ) × FirstRepeat (o ∷ os) i j
    by true s e next = let f = first_at o os s in (0, suc f.0, record { order = omega arith; within = omega (arith, f.1.within); equal = f.1.there; earlier = λ h k l. absurd (omega arith); before = below f.0 f.1 })
      where
        below : (n : ℕ) → FirstAt o os n → (k : ℕ) → k < suc n → Differ (o ∷ os) 0 k
        below n f zero l less h = absurd (omega arith)
        below n f (suc k) l less h = f.before k (omega arith)
    by false s e next = let n = next e in (suc n.0, suc n.1, record { order = omega (arith, n.2.order); within = omega (arith, n.2.within); equal = n.2.equal; earlier = earlier n.0 n.1 n.2; before = below n.0 n.1 n.2 })
      where
        earlier : (i j : ℕ) → FirstRepeat os i j → (h k : ℕ) → h < suc i → Differ (o ∷ os) h k
        earlier i j r zero zero l less w = absurd (omega arith)
        earlier i j r zero (suc k) l less w = not_at o os s k (omega arith)
        earlier i j r (suc h) zero l less w = absurd (omega arith)
        earlier i j r (suc h) (suc k) l less w = r.earlier h k (omega arith) (omega arith) (omega arith)

        below : (i j : ℕ) → FirstRepeat os i j → (k : ℕ) → k < suc j → Differ (o ∷ os) (suc i) k
        below i j r zero l less w = absurd (omega arith)
        below i j r (suc k) l less w = r.before k (omega arith) (omega arith) (omega arith)
