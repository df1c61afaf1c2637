-- The first port with an input that no row selects.
use Rattle.std.proofs.Common.{◌≡◌, ℕ, zero, suc, ◌+◌, ◌<◌, Bool, true, false, cond, List, [], ◌∷◌, length, get_or, Option, Err, refl, ap, ◌∙◌, arith}
use Rattle.adders.specs.declared.refusals.Refusal.{Refusal}
use Rattle.adders.specs.declared.refusals.Refusal.TheVariants.{InputUnselected}
use Rattle.ports.specs.declared.port.Port.{Port}
use Rattle.ports.specs.declared.port.Port.TheVariants.{Output}
use Rattle.reading.specs.Orders.{Orders}
use Rattle.reading.specs.Data.{RowData}
use Rattle.reading.specs.Reader.{all_selected, check_ports}
use Rattle.reading.proofs.Staged.{ok_not_err}
use Rattle.sheetlaws.proofs.ToldNumbers.{err_is}

module _ (rows : List (Option RowData)) (orders : Orders) where
  abbrev at : List Port → ℕ → Bool
  at ps i = all_selected rows (get_or ps i Output) (orders (get_or ps i Output))

  pub record Unselected (n : ℕ) (ps : List Port) (e : Refusal) : Type 0 where
    pub place : ℕ
    pub some : place < length ps
    pub before : (i : ℕ) → i < place → at ps i ≡ true
    pub here : at ps place ≡ false
    pub told : InputUnselected (place + n) ≡ e

  pub check_told : (n : ℕ) (ps : List Port) (e : Refusal) → check_ports rows orders n ps ≡ Err e → Unselected n ps e
  check_told n [] e h = absurd (ok_not_err tt e h)
  check_told n (p ∷ ps) e h = by (all_selected rows p (orders p)) refl h (check_told (suc n) ps e)
    where
      by : (b : Bool) → all_selected rows p (orders p) ≡ b → cond b (check_ports rows orders (suc n) ps) (Err (InputUnselected n)) ≡ Err e → (check_ports rows orders (suc n) ps ≡ Err e → Unselected (suc n) ps e) → Unselected n (p ∷ ps) e
      by true t h others =
          let s = others h in
          let line : suc s.place + n ≡ s.place + suc n = omega arith in
          record { place = suc s.place; some = omega (arith, s.some); before = earlier s.place s.before; here = s.here; told = ap InputUnselected line ∙ s.told }
        where
          earlier : (k : ℕ) → ((i : ℕ) → i < k → at ps i ≡ true) → (i : ℕ) → i < suc k → at (p ∷ ps) i ≡ true
          earlier k f zero l = t
          earlier k f (suc i) l = f i (omega arith)
      by false t h others = let line : 0 + n ≡ n = omega arith in record { place = 0; some = omega arith; before = λ i l. absurd (omega arith); here = t; told = ap InputUnselected line ∙ err_is {A = Unit {0}} (InputUnselected n) e h }

  pub check_refused : (k n : ℕ) (ps : List Port) → k < length ps → ((i : ℕ) → i < k → at ps i ≡ true) → at ps k ≡ false → check_ports rows orders n ps ≡ Err (InputUnselected (k + n))
  check_refused k n [] l f h = absurd (omega arith)
  check_refused zero n (p ∷ ps) l f h = let line : n ≡ 0 + n = omega arith in ap (λ b. cond b (check_ports rows orders (suc n) ps) (Err (InputUnselected n))) h ∙ ap (λ m. Err (InputUnselected m)) line
  check_refused (suc k) n (p ∷ ps) l f h =
      let line : k + suc n ≡ suc k + n = omega arith in
      ap (λ b. cond b (check_ports rows orders (suc n) ps) (Err (InputUnselected n))) (f 0 (omega arith)) ∙ check_refused k (suc n) ps (omega arith) (λ i g. f (suc i) (omega arith)) h ∙ ap (λ m. Err (InputUnselected m)) line
