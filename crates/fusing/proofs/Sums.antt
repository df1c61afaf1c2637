-- A sum over adders of which some are dearer than before.
use Rattle.std.proofs.Common.{◌≡◌, ℕ, zero, suc, ◌+◌, ◌-◌, ◌<◌, ◌≤◌, ◌≢◌, cond, List, [], ◌∷◌, length, get_or, sym, refl, ap, ◌∙◌, subst, ⊎_elim, arith, eqb}
use Rattle.std.proofs.lemmas.Bool.{cases_eq, cases_lt, eq-eqb, ne_eqb}
use Rattle.pricing.proofs.Comparing.{total_grows}
use Rattle.pricing.specs.Prices.{total}

-- sums of equal parts are equal
pub total_same : (f g : ℕ → ℕ) (n : ℕ) → ((j : ℕ) → 1 ≤ j → j ≤ n → f j ≡ g j) → total f n ≡ total g n
total_same f g zero h = refl
total_same f g (suc n) h = let a = total_same f g n (λ j l m. h j l (omega arith)) in let b = h (suc n) (omega arith) (omega arith) in λ i. a i + b i

pub total_less : (f g : ℕ → ℕ) (n k : ℕ) → ((j : ℕ) → f j ≤ g j) → 1 ≤ k → k ≤ n → f k < g k → total f n < total g n
total_less f g zero k h low high less = absurd (omega arith)
total_less f g (suc n) k h low high less =
    ⊎_elim
    (λ under. omega (arith, total_less f g n k h low (omega arith) less, h (suc n)))
    (λ top. let e : k ≡ suc n = omega arith in let l = subst (λ i. f i < g i) e less in omega (arith, total_grows f g n h))
    (cases_lt k (suc n))

-- f with x at p
abbrev pub with_at : (ℕ → ℕ) → ℕ → ℕ → ℕ → ℕ
with_at f p x j = cond (eqb j p) x (f j)

there : (f : ℕ → ℕ) (p x j : ℕ) → j ≡ p → with_at f p x j ≡ x
there f p x j e = ap (λ b. cond b x (f j)) (eq-eqb j p e)

elsewhere : (f : ℕ → ℕ) (p x j : ℕ) → j ≢ p → with_at f p x j ≡ f j
elsewhere f p x j ne = ap (λ b. cond b x (f j)) (ne_eqb j p ne)

past : (f : ℕ → ℕ) (p x n : ℕ) → n < p → total (with_at f p x) n ≡ total f n
past f p x n h = total_same (with_at f p x) f n (λ j low high. elsewhere f p x j (λ e. absurd (omega (arith, e))))

one_dearer : (f : ℕ → ℕ) (p x n : ℕ) → 1 ≤ p → p ≤ n → f p ≤ x → total (with_at f p x) n ≡ total f n + (x - f p)
one_dearer f p x zero low high less = absurd (omega arith)
one_dearer f p x (suc n) low high less =
    ⊎_elim
    (λ under. omega (arith, one_dearer f p x n low (omega arith) less, elsewhere f p x (suc n) (λ e. absurd (omega (arith, e)))))
    (λ top.
    let e : p ≡ suc n = omega arith in
    let same : f (suc n) ≡ f p = ap f (sym e) in
    omega (arith, past f p x n (omega arith), there f p x (suc n) (sym e), same))
    (cases_lt p (suc n))

-- by how much g is dearer at each of these
abbrev pub rises : (ℕ → ℕ) → (ℕ → ℕ) → List ℕ → ℕ
rises f g [] = 0
rises f g (p ∷ ps) = g p - f p + rises f g ps

-- adders of a block, each of its own
pub record Apart (n : ℕ) (ps : List ℕ) : Type 0 where
  pub inside : (d : ℕ) → d < length ps → (1 ≤ get_or ps d 0) × (get_or ps d 0 ≤ n)
  pub apart : (c d : ℕ) → c < d → d < length ps → get_or ps c 0 ≢ get_or ps d 0

abbrev pub NoneAt : List ℕ → ℕ → Type 0
NoneAt ps j = (d : ℕ) → d < length ps → get_or ps d 0 ≢ j

same_rises : (f h g : ℕ → ℕ) (ps : List ℕ) → ((d : ℕ) → d < length ps → f (get_or ps d 0) ≡ h (get_or ps d 0)) → rises f g ps ≡ rises h g ps
same_rises f h g [] e = refl
same_rises f h g (p ∷ ps) e = let a = e 0 (omega arith) in let b = same_rises f h g ps (λ d l. e (suc d) (omega arith)) in λ i. g p - a i + b i

pub total_dearer : (f g : ℕ → ℕ) (n : ℕ) (ps : List ℕ) → Apart n ps → ((j : ℕ) → NoneAt ps j → g j ≡ f j) → ((j : ℕ) → f j ≤ g j) → total g n ≡ total f n + rises f g ps
total_dearer f g n [] a same more = total_same g f n (λ j low high. same j (λ d l. absurd (omega arith))) ∙ (let z : total f n ≡ total f n + 0 = omega arith in z)
total_dearer f g n (p ∷ ps) a same more =
    let inside = a.inside 0 (omega arith) in
    let h : ℕ → ℕ = with_at f p (g p) in
    let rest : Apart n ps = record { inside = λ d l. a.inside (suc d) (omega arith); apart = λ c d l m. a.apart (suc c) (suc d) (omega arith) (omega arith) } in
    let later = total_dearer h g n ps rest same_with more_with in
    let first = one_dearer f p (g p) n inside.0 inside.1 (more p) in
    let kept = same_rises h f g ps (λ d l. elsewhere f p (g p) (get_or ps d 0) (λ e. absurd (a.apart 0 (suc d) (omega arith) (omega arith) (sym e)))) in
    omega arith
  where
    none_in : (j : ℕ) → j ≢ p → NoneAt ps j → NoneAt (p ∷ ps) j
    none_in j ne none zero l = λ e. ne (sym e)
    none_in j ne none (suc d) l = none d (omega arith)

    same_with : (j : ℕ) → NoneAt ps j → g j ≡ with_at f p (g p) j
    same_with j none = ⊎_elim (λ e. ap g e ∙ sym (there f p (g p) j e)) (λ ne. same j (none_in j ne none) ∙ sym (elsewhere f p (g p) j ne)) (cases_eq j p)

    more_with : (j : ℕ) → with_at f p (g p) j ≤ g j
    more_with j = ⊎_elim (λ e. omega (arith, there f p (g p) j e, ap g e)) (λ ne. omega (arith, elsewhere f p (g p) j ne, more j)) (cases_eq j p)
