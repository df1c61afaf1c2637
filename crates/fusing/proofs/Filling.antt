-- An array that is filled place by place.
use Rattle.std.proofs.Common.{◌≡◌, ℕ, zero, suc, ◌+◌, ◌<◌, ◌≢◌, List, [], ◌∷◌, length, set, Some, refl, ap, ◌∙◌, subst, ⊎_elim, arith}
use Rattle.std.specs.Prelude.{slice_get, slice_index_or}
use Rattle.std.proofs.lemmas.List.{get_or-set_same, get_or-set_other}
use Rattle.std.proofs.lemmas.Bool.{cases_lt}

pub filled_more : {A : Type 0} (f : ℕ → A) (d : A) (xs : List A) (i : ℕ) (y : A) → i < length xs → y ≡ f i → ((k : ℕ) → k < i → slice_index_or xs k d ≡ f k) → (k : ℕ) → k < i + 1 → slice_index_or (set xs i y) k d ≡ f k
filled_more f d xs i y h e old k l =
    ⊎_elim
    (λ m. get_or-set_other xs i k y d (λ q. absurd (omega (arith, q))) ∙ old k m)
    (λ m. let q : i ≡ k = omega arith in subst (λ n. slice_index_or (set xs i y) n d ≡ f n) q (get_or-set_same xs i y d h ∙ e))
    (cases_lt k i)

got_same : {A : Type 0} (xs : List A) (i : ℕ) (y : A) → i < length xs → slice_get (set xs i y) i ≡ Some y
got_same [] i y h = absurd (omega arith)
got_same (x ∷ xs) zero y h = refl
got_same (x ∷ xs) (suc i) y h = got_same xs i y (omega arith)

got_other : {A : Type 0} (xs : List A) (i k : ℕ) (y : A) → k ≢ i → slice_get (set xs i y) k ≡ slice_get xs k
got_other [] i k y ne = refl
got_other (x ∷ xs) zero zero y ne = absurd (ne refl)
got_other (x ∷ xs) zero (suc k) y ne = refl
got_other (x ∷ xs) (suc i) zero y ne = refl
got_other (x ∷ xs) (suc i) (suc k) y ne = got_other xs i k y (λ e. ne (ap suc e))

pub got_more : {A : Type 0} (f : ℕ → A) (xs : List A) (i : ℕ) (y : A) → i < length xs → y ≡ f i → ((k : ℕ) → k < i → slice_get xs k ≡ Some (f k)) → (k : ℕ) → k < i + 1 → slice_get (set xs i y) k ≡ Some (f k)
got_more f xs i y h e old k l =
    ⊎_elim
    (λ m. got_other xs i k y (λ q. absurd (omega (arith, q))) ∙ old k m)
    (λ m. let q : i ≡ k = omega arith in subst (λ n. slice_get (set xs i y) n ≡ Some (f n)) q (got_same xs i y h ∙ ap Some e))
    (cases_lt k i)
