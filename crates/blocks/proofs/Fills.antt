-- A row that uses no adder past a count.
use Rattle.std.proofs.Common.{◌≡◌, ℕ, zero, suc, ◌-◌, ◌<◌, ◌≤◌, Bool, true, false, cond, leb, List, [], ◌∷◌, drop, get_or, is_some, Some, None, Option, refl, ap, ◌∙◌, arith}
use Rattle.std.specs.List.{list_all}
use Rattle.std.specs.Prelude.{is_none}
use Rattle.std.proofs.lemmas.Bool.{false≢true}
use Rattle.adders.specs.declared.wiring.Adder.{Adder}
use Rattle.rows.specs.declared.model.Row.{Row}
use Rattle.blocks.specs.Uses.{row_uses}
use Rattle.blocks.specs.Filling.{uses_none_past}

none_behind : (xs : List (Option Adder)) (a k : ℕ) → list_all is_none (drop a xs) ≡ true → a ≤ k → get_or xs k None ≡ None
none_behind [] a k h l = refl
none_behind (None ∷ xs) zero zero h l = refl
none_behind (Some x ∷ xs) zero k h l = absurd (false≢true h)
none_behind (None ∷ xs) zero (suc k) h l = none_behind xs zero k h (omega arith)
none_behind (x ∷ xs) (suc a) zero h l = absurd (omega arith)
none_behind (x ∷ xs) (suc a) (suc k) h l = none_behind xs a k h (omega arith)

pub fits : (r : Row) (a j : ℕ) → uses_none_past a r ≡ true → a < j → row_uses (Some r) j ≡ false
fits r a j h l = ap (λ o. is_some (cond (leb 1 j) o None)) (none_behind r.slots a (j - 1) h (omega arith)) ∙ either (leb 1 j)
  where
    either : (b : Bool) → is_some (cond {A = Option Adder} b None None) ≡ false
    either true = refl
    either false = refl
