-- Which port comes where.
use Rattle.std.proofs.Common.{◌≡◌, ℕ, zero, suc, ◌+◌, ◌*◌, ◌/◌, ◌%◌, ◌<◌, ◌≤◌, ◌≢◌, get_or, sym, refl, ap, ◌∙◌, arith}
use Rattle.ports.specs.declared.port.Port.TheVariants.{Left, Right, Output}
use Rattle.ports.specs.Ports.{ports_from, nth_port}

ports_left : (n j i : ℕ) → i < n → get_or (ports_from j n) (2 * i) Output ≡ Left (j + i)
ports_left zero j i h = absurd (omega arith)
ports_left (suc n) j zero h = let e : j ≡ j + 0 = omega arith in ap Left e
ports_left (suc n) j (suc i) h =
    let d : 2 * suc i ≡ suc (suc (2 * i)) = omega arith in
    let e : suc j + i ≡ j + suc i = omega arith in
    ap (λ k. get_or (ports_from j (suc n)) k Output) d ∙ ports_left n (suc j) i (omega arith) ∙ ap Left e

ports_right : (n j i : ℕ) → i < n → get_or (ports_from j n) (2 * i + 1) Output ≡ Right (j + i)
ports_right zero j i h = absurd (omega arith)
ports_right (suc n) j zero h = let e : j ≡ j + 0 = omega arith in ap Right e
ports_right (suc n) j (suc i) h =
    let d : 2 * suc i + 1 ≡ suc (suc (2 * i + 1)) = omega arith in
    let e : suc j + i ≡ j + suc i = omega arith in
    ap (λ k. get_or (ports_from j (suc n)) k Output) d ∙ ports_right n (suc j) i (omega arith) ∙ ap Right e

ports_output : (n j k : ℕ) → 2 * n ≤ k → get_or (ports_from j n) k Output ≡ Output
ports_output zero j zero h = refl
ports_output zero j (suc k) h = refl
ports_output (suc n) j zero h = absurd (omega arith)
ports_output (suc n) j (suc zero) h = absurd (omega arith)
ports_output (suc n) j (suc (suc k)) h = ports_output n (suc j) k (omega arith)

pub nth_output : (a k : ℕ) → a ≤ k / 2 → Output ≡ nth_port a k
nth_output a k h = sym (ports_output a 1 k (omega arith))

pub nth_left : (a k : ℕ) → k / 2 < a → k % 2 ≡ 0 → Left (k / 2 + 1) ≡ nth_port a k
nth_left a k h even =
    let e : 2 * (k / 2) ≡ k = omega arith in
    let f : 1 + k / 2 ≡ k / 2 + 1 = omega arith in
    ap Left (sym f) ∙ sym (ports_left a 1 (k / 2) h) ∙ ap (nth_port a) e

pub nth_right : (a k : ℕ) → k / 2 < a → k % 2 ≢ 0 → Right (k / 2 + 1) ≡ nth_port a k
nth_right a k h odd =
    let e : 2 * (k / 2) + 1 ≡ k = omega arith in
    let f : 1 + k / 2 ≡ k / 2 + 1 = omega arith in
    ap Right (sym f) ∙ sym (ports_right a 1 (k / 2) h) ∙ ap (nth_port a) e
