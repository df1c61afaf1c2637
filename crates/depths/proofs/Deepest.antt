-- The deepest source of a list of inputs.
use Rattle.std.proofs.Common.{◌≡◌, ◌≢◌, ℕ, ◌+◌, ◌≤◌, List, [], ◌∷◌, length, refl, ap, inl, inr, ⊎_elim, arith}
use Rattle.std.proofs.lemmas.Bool.{cases_lt}
use Rattle.adders.specs.declared.wiring.Operand.{Operand}
use Rattle.ports.specs.Inputs.{Among}
use Rattle.bits.specs.Bits.{bits}
use Rattle.depths.specs.Depths.{deepest, inputs_depth, if_any}
use Rattle.bits.proofs.Least.{least}

pub deepest_same : (d f : ℕ → ℕ) (os : List Operand) → ((o : Operand) → Among o os → d o.source ≡ f o.source) → deepest d os ≡ deepest f os
deepest_same d f [] h = refl
deepest_same d f (o ∷ os) h = let e = h o (inl refl) in let r = deepest_same d f os (λ x k. h x (inr k)) in cc

pub depth_same : (d f : ℕ → ℕ) (os : List Operand) → ((o : Operand) → Among o os → d o.source ≡ f o.source) → inputs_depth d os ≡ inputs_depth f os
depth_same d f [] h = refl
depth_same d f (o ∷ os) h = ap (λ n. bits (length (o ∷ os)) + n) (deepest_same d f (o ∷ os) h)

pub deepest_most : (d : ℕ → ℕ) (k : ℕ) (os : List Operand) → ((o : Operand) → Among o os → d o.source ≤ k) → deepest d os ≤ k
deepest_most d k [] h = omega arith
deepest_most d k (o ∷ os) h = omega (arith, h o (inl refl), deepest_most d k os (λ x m. h x (inr m)))

pub deepest_over : (d : ℕ → ℕ) (os : List Operand) (o : Operand) → Among o os → d o.source ≤ deepest d os
deepest_over d [] o h = absurd h
deepest_over d (x ∷ xs) o h =
    ⊎_elim {C = d o.source ≤ deepest d (x ∷ xs)} (λ (e : o ≡ x). let s = ap (λ (z : Operand). d z.source) e in omega arith) (λ (k : Among o xs). omega (arith, deepest_over d xs o k)) h

pub deepest_reached : (d : ℕ → ℕ) (o : Operand) (os : List Operand) → (x : Operand) × Among x (o ∷ os) × (d x.source ≡ deepest d (o ∷ os))
deepest_reached d o [] = (o, inl refl, omega arith)
deepest_reached d o (y ∷ ys) =
    let r = deepest_reached d y ys in
    elim (cases_lt (d o.source) (deepest d (y ∷ ys))) [
      | inl l ↦ (r.0, inr r.1, omega (arith, r.2))
      | inr l ↦ (o, inl refl, omega arith)
    ]

pub depth_few : (d : ℕ → ℕ) (k : ℕ) (os : List Operand) → length os ≤ 16 → ((s : ℕ) → d s ≤ k) → inputs_depth d os ≤ 4 + k
depth_few d k [] few h = omega arith
depth_few d k (o ∷ os) few h = omega (arith, least (length (o ∷ os)) 4 few, deepest_most d k (o ∷ os) (λ x _. h x.source))

-- without a look at whether there are inputs
pub depth_is : (d : ℕ → ℕ) (os : List Operand) → bits (length os) + deepest d os ≡ inputs_depth d os
depth_is d [] = omega (arith, least 0 0 (omega arith))
depth_is d (o ∷ os) = refl

pub any_at_most : (os : List Operand) (n k : ℕ) → n ≤ k → if_any os n ≤ k
any_at_most [] n k h = omega arith
any_at_most (o ∷ os) n k h = h

pub any_there : (o : Operand) (os : List Operand) (n : ℕ) → Among o os → if_any os n ≡ n
any_there o [] n h = absurd h
any_there o (x ∷ xs) n h = refl

pub any_never : (os : List Operand) (n : ℕ) → ((o : Operand) → Among o os → ⊥) → if_any os n ≡ 0
any_never [] n h = refl
any_never (o ∷ os) n h = absurd (h o (inl refl))

pub any_none : (os : List Operand) (n : ℕ) → length os ≡ 0 → if_any os n ≡ 0
any_none [] n h = refl
any_none (o ∷ os) n h = absurd (omega arith)

pub any_some : (os : List Operand) (n : ℕ) → length os ≢ 0 → if_any os n ≡ n
any_some [] n h = absurd (h refl)
any_some (o ∷ os) n h = refl
