-- An input that goes into an ascending list while the list is gone through.
use Rattle.std.proofs.Common.{◌≡◌, ◌<◌, ◌≤◌, Bool, true, false, List, [], ◌∷◌, ◌++◌, length, Some, None, Option, sym, ap, ◌∙◌, subst, append_assoc, arith}
use Rattle.std.proofs.lemmas.List.{length-append}
use Rattle.std.proofs.lemmas.Bool.{false≢true}
use Rattle.adders.specs.declared.wiring.Operand.{Operand}
use Rattle.ports.specs.Inputs.{precedes, insert}
use Rattle.ports.proofs.Ascending.{order, equal, under, over, before_irrefl, step_under, step_over, step_same}

-- what is still to come: the rest of the list, and the input unless it stands before it
abbrev pub left_in : Option Operand → List Operand → List Operand
left_in None xs = xs
left_in (Some o) xs = insert o xs

-- a push while there is room
abbrev pub Pushed : List Operand → Operand → List Operand → Type 0
Pushed old x new = length old < 16 → new ≡ old ++ x ∷ []

module _ (list whole : List Operand) (next : Operand) (rest : List Operand) (few : length whole ≤ 16) where
  pub pushed : list ++ (next ∷ rest) ≡ whole → (more : List Operand) → Pushed list next more → more ++ rest ≡ whole
  pushed e more p =
      let n = length-append list (next ∷ rest) in
      let m = ap length e in
      ap (λ l. l ++ rest) (p (omega arith)) ∙ append_assoc list (next ∷ []) rest ∙ e

module _ (list whole : List Operand) (o next : Operand) (rest : List Operand) (few : length whole ≤ 16) (e : list ++ insert o (next ∷ rest) ≡ whole) where
  -- the input comes before the next of the list
  pub comes_before : precedes o next ≡ true → (mid more : List Operand) → Pushed list o mid → Pushed mid next more → more ++ rest ≡ whole
  comes_before h mid more p q =
      pushed mid whole next rest few (pushed list whole o (next ∷ rest) few (ap (λ l. list ++ l) (sym (step_under o next rest h)) ∙ e) mid p) more q

  -- it stands there
  pub stands_there : o ≡ next → (more : List Operand) → Pushed list next more → more ++ rest ≡ whole
  stands_there h more p =
      let no : precedes next next ≡ true → ⊥ = before_irrefl next in
      pushed list whole next rest few (ap (λ l. list ++ l) (sym (subst (λ z. insert z (next ∷ rest) ≡ next ∷ rest) (sym h) (step_same next next rest (not_true (precedes next next) no) (not_true (precedes next next) no)))) ∙ e) more p
    where
      not_true : (b : Bool) → (b ≡ true → ⊥) → b ≡ false
      not_true true f = absurd (f cc)
      not_true false f = cc

  -- it comes later
  pub comes_later : precedes o next ≡ false → (o ≡ next → ⊥) → (more : List Operand) → Pushed list next more → more ++ insert o rest ≡ whole
  comes_later h ne more p = pushed list whole next (insert o rest) few (ap (λ l. list ++ l) (sym later) ∙ e) more p
    where
      later : insert o (next ∷ rest) ≡ next ∷ insert o rest
      later =
          elim (order o next) [
            | equal d p q ↦ absurd (ne d)
            | under p q ↦ absurd (false≢true (sym h ∙ p))
            | over p q ↦ step_over o next rest p q
          ]
