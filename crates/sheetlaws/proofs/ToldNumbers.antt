-- Stages that are turned down, and the lines of a key and a number.
use Rattle.std.proofs.Common.{◌≡◌, ℕ, ◌<◌, ◌≤◌, ◌⊎◌, inl, inr, Bool, true, false, ◌&&◌, leb, List, ◌++◌, Some, None, Option, Ok, Err, Result, refl, ap, ◌∙◌, sym, subst, ⊎_elim}
use Rattle.std.proofs.lemmas.Bool.{le-leb, lt-leb, leb-true, leb-false, and_parts, and_cases, and_from, and_left, and_right}
use Rattle.adders.specs.declared.refusals.Refusal.{Refusal}
use Rattle.adders.specs.declared.refusals.Refusal.TheVariants.{SheetForm, SheetLimit}
use Rattle.adders.proofs.Broken.{some_none}
use Rattle.texts.specs.Text.{number_line}
use Rattle.texts.specs.Steps.{Read}
use Rattle.texts.specs.Pieces.{number_line_at}
use Rattle.texts.proofs.Takes.{number_line_takes}
use Rattle.texts.proofs.Again.{number_line_again}
use Rattle.reading.specs.Stages.{◌>>=◌, or_refused, if_passed}
use Rattle.reading.specs.Reader.{read_number}
use Rattle.sheetlaws.specs.Refusing.{NumberFault, form, limit}
use Rattle.reading.proofs.Staged.{bind_ok, there, passed, ok_not_err}

pub err_is : {A : Type 0} (d e : Refusal) → ◌≡◌ {A = Result A Refusal} (Err d) (Err e) → d ≡ e
err_is d e h = cc

-- the stage itself is turned down, or the one after it
pub bind_err : {A B : Type 0} (r : Result A Refusal) (f : A → Result B Refusal) (e : Refusal) → (r >>= f) ≡ Err e → (r ≡ Err e) ⊎ ((x : A) × (r ≡ Ok x) × (f x ≡ Err e))
bind_err (Ok x) f e h = inr (x, refl, h)
bind_err {A} {B} (Err d) f e h = inl (ap Err (err_is {A = B} d e h))

-- there was nothing
pub not_there : {A : Type 0} (d e : Refusal) (o : Option A) → or_refused d o ≡ Err e → (o ≡ None) × (d ≡ e)
not_there {A} d e None h = (refl, err_is {A = A} d e h)
not_there d e (Some x) h = absurd (ok_not_err x e h)

-- the test failed
pub not_passed : {A : Type 0} (b : Bool) (d e : Refusal) (x : A) → if_passed b d x ≡ Err e → (b ≡ false) × (d ≡ e)
not_passed true d e x h = absurd (ok_not_err x e h)
not_passed {A} false d e x h = (refl, err_is {A = A} d e h)

module _ (key : List ℕ) (low high n : ℕ) (text : List ℕ) where
  abbrev inside : ℕ → Bool
  inside x = leb low x && leb x high

  outside : (x : ℕ) → inside x ≡ false → (x < low) ⊎ (high < x)
  outside x h = ⊎_elim {C = (x < low) ⊎ (high < x)} (λ l. inl (leb-false low x l)) (λ r. inr (leb-false x high r)) (and_cases (leb low x) (leb x high) h)

  not_inside : (x : ℕ) → (x < low) ⊎ (high < x) → inside x ≡ false
  not_inside x h = ⊎_elim {C = inside x ≡ false} (λ l. and_left (leb low x) (leb x high) (lt-leb low x l)) (λ r. and_right (leb low x) (leb x high) (lt-leb x high r)) h

  -- what comes of the line
  after_line : Read ℕ → Result (ℕ × List ℕ) Refusal
  after_line o = or_refused (SheetForm n) o >>= λ x. if_passed (inside x.0) (SheetLimit n) x

  pub number_told : (e : Refusal) → read_number key low high n text ≡ Err e → NumberFault key low high n text e
  unfolding read_number after_line
  number_told e h = by (number_line_at key text) refl h
    where
      by : (o : Read ℕ) → number_line_at key text ≡ o → after_line o ≡ Err e → NumberFault key low high n text e
      by None none h = subst (NumberFault key low high n text) (err_is {A = ℕ × List ℕ} (SheetForm n) e h) (form (λ x rest small t. some_none (sym (number_line_again key x rest small) ∙ ap (number_line_at key) (sym t) ∙ none)))
      by (Some x) some h =
          let t = number_line_takes key text x some in
          let p = not_passed (inside x.0) (SheetLimit n) e x h in
          subst (NumberFault key low high n text) p.1 (limit x.0 x.1 t.1 t.0 (outside x.0 p.0))

  pub number_refused : (e : Refusal) → NumberFault key low high n text e → read_number key low high n text ≡ Err e
  unfolding read_number after_line
  number_refused e (form none) = by (number_line_at key text) refl
    where
      by : (o : Read ℕ) → number_line_at key text ≡ o → after_line o ≡ Err (SheetForm n)
      by None came = refl
      by (Some x) came = let t = number_line_takes key text x came in absurd (none x.0 x.1 t.1 t.0)
  number_refused e (limit x rest small t out) = ap after_line (ap (number_line_at key) t ∙ number_line_again key x rest small) ∙ ap (λ b. if_passed b (SheetLimit n) (x, rest)) (not_inside x out)

  pub number_fine : (x : ℕ × List ℕ) → read_number key low high n text ≡ Ok x → (text ≡ number_line key x.0 ++ x.1) × (low ≤ x.0) × (x.0 ≤ high)
  unfolding read_number
  number_fine x h =
      let a = bind_ok _ _ x h in
      let p = passed (inside a.0.0) (SheetLimit n) a.0 x a.2 in
      let t = number_line_takes key text a.0 (there (SheetForm n) (number_line_at key text) a.0 a.1) in
      let bounds = and_parts (leb low a.0.0) (leb a.0.0 high) p.0 in
      subst (λ (y : ℕ × List ℕ). (text ≡ number_line key y.0 ++ y.1) × (low ≤ y.0) × (y.0 ≤ high)) p.1 (t.0, leb-true low a.0.0 bounds.0, leb-true a.0.0 high bounds.1)

  pub number_read : (x : ℕ) (rest : List ℕ) → x ≤ 99 → low ≤ x → x ≤ high → text ≡ number_line key x ++ rest → read_number key low high n text ≡ Ok (x, rest)
  unfolding read_number after_line
  number_read x rest small l r t = ap after_line (ap (number_line_at key) t ∙ number_line_again key x rest small) ∙ ap (λ b. if_passed b (SheetLimit n) (x, rest)) (and_from (leb low x) (leb x high) (le-leb low x l) (le-leb x high r))
