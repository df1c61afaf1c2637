-- A place that is written, and the others.
use Rattle.std.proofs.Common.{◌≡◌, ℕ, ◌≤◌, ◌≢◌, Bool, true, false, cond, leb, length, get_or, set, Some, None, Option, sym, refl, ap, ◌∙◌, subst, ⊎_elim, arith}
use Rattle.std.proofs.lemmas.List.{get_or-set_same, get_or-set_other}
use Rattle.std.proofs.lemmas.Bool.{cases_eq, cond-true, le-leb, leb-true}
use Rattle.adders.proofs.Broken.{some_none}
use Rattle.tables.specs.declared.Table.{Table}
use Rattle.tables.specs.Tables.{row_at, with_place}

module _ {A : Type 0} (t : Table A) (code : ℕ) where
  -- only sixteen places hold something
  pub below_sixteen : (x : A) → row_at t code ≡ Some x → code ≤ 15
  below_sixteen x e = by (leb code 15) refl
    where
      by : (b : Bool) → leb code 15 ≡ b → code ≤ 15
      by true h = leb-true code 15 h
      by false h = absurd (some_none (sym e ∙ ap (λ b. cond b (get_or t.rows code None) None) h))

  module _ (w : Option A) where
    pub written : length t.rows ≡ 16 → code ≤ 15 → row_at (with_place t code w) code ≡ w
    written room h = cond-true (leb code 15) (get_or (set t.rows code w) code None) None (le-leb code 15 h) ∙ get_or-set_same t.rows code w None (omega arith)

    pub others_stay : (k : ℕ) → k ≢ code → row_at (with_place t code w) k ≡ row_at t k
    others_stay k ne = ap (λ o. cond (leb k 15) o None) (get_or-set_other t.rows code k w None ne)

    -- what holds of what is written, and of every place before, holds of every place after
    pub at_each : (P : ℕ → Option A → Type 0) → length t.rows ≡ 16 → code ≤ 15 → P code w → ((k : ℕ) → P k (row_at t k)) → (k : ℕ) → P k (row_at (with_place t code w) k)
    at_each P room h new old k =
        ⊎_elim
        (λ e. subst (λ i. P i (row_at (with_place t code w) i)) (sym e) (subst (P code) (sym (written room h)) new))
        (λ ne. subst (P k) (sym (others_stay k ne)) (old k))
        (cases_eq k code)
