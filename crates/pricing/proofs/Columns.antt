-- What the rows of a block have, read from the last code down.
use Rattle.std.proofs.Common.{◌≡◌, ℕ, ◌-◌, ◌<◌, ◌≤◌, false, ◌||◌, List, ◌∷◌, map, drop, Some, None, Option, sym, ap, ◌∙◌, max}
use Rattle.std.specs.List.{list_any}
use Rattle.adders.specs.declared.wiring.Sign.{Sign}
use Rattle.blocks.specs.declared.model.Block.{Block}
use Rattle.blocks.specs.Blocks.{row_of}
use Rattle.ports.proofs.Columns.{column_end, column_turn}
use Rattle.pricing.specs.declared.net.Net.{Net}
use Rattle.pricing.specs.Nets.{largest, value_on}
use Rattle.pricing.specs.Parts.{sign_used, is_sign}

module _ (b : Block) (n : Net) where
  abbrev values : List (Option ℕ)
  values = map (λ r. value_on r n) b.table.rows

  pub none_yet : 0 ≡ largest (drop 16 values)
  none_yet = sym (ap largest (column_end (λ r. value_on r n) b))

  module _ (c : ℕ) (some : 0 < c) (most : c ≤ 16) where
    -- the column has one value more
    pub value_more : (v so_far : ℕ) → Some v ≡ value_on (row_of b (c - 1)) n → so_far ≡ largest (drop c values) → max v so_far ≡ largest (drop (c - 1) values)
    value_more v so_far e same = ap (max v) same ∙ sym (ap largest (column_turn (λ r. value_on r n) b c some most ∙ ap (λ o. o ∷ drop c values) (sym e)))

    pub no_value : (so_far : ℕ) → None ≡ value_on (row_of b (c - 1)) n → so_far ≡ largest (drop c values) → so_far ≡ largest (drop (c - 1) values)
    no_value so_far e same = same ∙ sym (ap largest (column_turn (λ r. value_on r n) b c some most ∙ ap (λ o. o ∷ drop c values) (sym e)))

module _ (b : Block) (j : ℕ) where
  abbrev signs : List (Option Sign)
  signs = map (λ r. sign_used r j) b.table.rows

  pub no_sign_yet : (s : Sign) → false ≡ list_any (is_sign s) (drop 16 signs)
  no_sign_yet s = sym (ap (list_any (is_sign s)) (column_end (λ r. sign_used r j) b))

  pub sign_more : (c : ℕ) (o : Option Sign) → 0 < c → c ≤ 16 → o ≡ sign_used (row_of b (c - 1)) j → (s : Sign) → (is_sign s o || list_any (is_sign s) (drop c signs)) ≡ list_any (is_sign s) (drop (c - 1) signs)
  sign_more c o some most used s = sym (ap (list_any (is_sign s)) (column_turn (λ r. sign_used r j) b c some most ∙ ap (λ x. x ∷ drop c signs) (sym used)))
