-- What the largest value and the signs that are met come to.
use Rattle.std.proofs.Common.{◌≡◌, ℕ, zero, suc, ◌≤◌, Bool, true, false, ◌||◌, ◌⊎◌, List, [], ◌∷◌, map, get_or, Some, None, Option, max, sym, refl, ap, ◌∙◌, inl, inr, arith}
use Rattle.std.specs.List.{list_any}
use Rattle.std.proofs.lemmas.Bool.{cases_lt, or_right, false≢true}
use Rattle.adders.specs.declared.wiring.Sign.{Sign}
use Rattle.adders.specs.declared.wiring.Sign.TheVariants.{Plus, Minus}
use Rattle.adders.proofs.Broken.{some_none}
use Rattle.blocks.specs.declared.model.Block.{Block}
use Rattle.blocks.specs.Blocks.{row_of}
use Rattle.ports.proofs.Columns.{column_at}
use Rattle.pricing.specs.declared.net.Net.{Net}
use Rattle.pricing.specs.Nets.{largest, value_on, largest_on}
use Rattle.pricing.specs.Parts.{sign_used, is_sign}
use Rattle.pricing.proofs.Operands.{some_same}
use Rattle.pricing.specs.Laws.{IsLargest, IsMet, PartsLaw}

largest_least : (vs : List (Option ℕ)) (k v : ℕ) → get_or vs k None ≡ Some v → v ≤ largest vs
largest_least [] k v e = absurd (some_none (sym e))
largest_least (None ∷ vs) zero v e = absurd (some_none (sym e))
largest_least (None ∷ vs) (suc k) v e = largest_least vs k v e
largest_least (Some u ∷ vs) zero v e = let same : u ≡ v = some_same e in omega arith
largest_least (Some u ∷ vs) (suc k) v e = omega (arith, largest_least vs k v e)

largest_reached : (vs : List (Option ℕ)) → (largest vs ≡ 0) ⊎ ((k : ℕ) × (get_or vs k None ≡ Some (largest vs)))
largest_reached [] = inl refl
largest_reached (None ∷ vs) =
    elim (largest_reached vs) [
      | inl e ↦ inl e
      | inr h ↦ inr (suc h.0, h.1)
    ]
largest_reached (Some u ∷ vs) =
    elim (cases_lt u (largest vs)) [
      | inl under ↦ elim (largest_reached vs) [
        | inl e ↦ absurd (omega arith)
        | inr h ↦ (let same : largest vs ≡ max u (largest vs) = omega arith in inr (suc h.0, h.1 ∙ ap Some same))
      ]
      | inr over ↦ (let same : u ≡ max u (largest vs) = omega arith in inr (0, ap Some same))
    ]

pub values_law : (b : Block) (n : Net) → IsLargest (λ code. value_on (row_of b code) n) (largest_on b n)
values_law b n = record {
  least = λ code v e. largest_least (map (λ r. value_on r n) b.table.rows) code v (column_at (λ r. value_on r n) b code ∙ e);
  reached =
      elim (largest_reached (map (λ r. value_on r n) b.table.rows)) [
        | inl e ↦ inl e
        | inr h ↦ inr (h.0, sym (column_at (λ r. value_on r n) b h.0) ∙ h.1)
      ];
}

pub same_sign : (s : Sign) (o : Option Sign) → is_sign s o ≡ true → o ≡ Some s
same_sign Plus (Some Plus) e = refl
same_sign Minus (Some Minus) e = refl
same_sign Plus (Some Minus) e = absurd (false≢true e)
same_sign Minus (Some Plus) e = absurd (false≢true e)
same_sign Plus None e = absurd (false≢true e)
same_sign Minus None e = absurd (false≢true e)

pub own_sign : (s : Sign) → is_sign s (Some s) ≡ true
own_sign Plus = refl
own_sign Minus = refl

met_found : (s : Sign) (os : List (Option Sign)) → list_any (is_sign s) os ≡ true → (k : ℕ) × (get_or os k None ≡ Some s)
met_found s [] e = absurd (false≢true e)
met_found s (o ∷ os) e = here (met_found s os) (is_sign s o) refl e
  where
    here : (list_any (is_sign s) os ≡ true → (k : ℕ) × (get_or os k None ≡ Some s)) → (b : Bool) → is_sign s o ≡ b → (b || list_any (is_sign s) os) ≡ true → (k : ℕ) × (get_or (o ∷ os) k None ≡ Some s)
    here later true is f = (0, same_sign s o is)
    here later false is f = let r = later f in (suc r.0, r.1)

met_counted : (s : Sign) (os : List (Option Sign)) (k : ℕ) → get_or os k None ≡ Some s → list_any (is_sign s) os ≡ true
met_counted s [] k e = absurd (some_none (sym e))
met_counted s (o ∷ os) zero e = let own : is_sign s o ≡ true = ap (is_sign s) e ∙ own_sign s in rw own refl
met_counted s (o ∷ os) (suc k) e = or_right (is_sign s o) (list_any (is_sign s) os) (met_counted s os k e)

pub signs_law : (s : Sign) (b : Block) (j : ℕ) → IsMet s b j
signs_law s b j = record {
  found = λ e. let r = met_found s (map (λ r. sign_used r j) b.table.rows) e in (r.0, sym (column_at (λ r. sign_used r j) b r.0) ∙ r.1);
  counted = λ code e. met_counted s (map (λ r. sign_used r j) b.table.rows) code (column_at (λ r. sign_used r j) b code ∙ e);
}

pub parts_law : PartsLaw
parts_law = record { values = values_law; signs = signs_law }
