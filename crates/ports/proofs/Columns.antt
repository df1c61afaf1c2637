-- What the rows of a block have, code by code.
use Rattle.std.proofs.Common.{◌≡◌, ℕ, zero, suc, ◌+◌, ◌-◌, ◌<◌, ◌≤◌, List, [], ◌∷◌, length, map, drop, get_or, leb, None, Option, sym, refl, ap, ◌∙◌, ⊎_elim, arith}
use Rattle.std.proofs.lemmas.List.{get_or_past, length-map, drop_more, drop_all}
use Rattle.std.proofs.lemmas.Bool.{cases_lt, cond-true, cond-false, le-leb, lt-leb}
use Rattle.rows.specs.declared.model.Row.{Row}
use Rattle.blocks.specs.declared.model.Block.{Block}
use Rattle.blocks.specs.Blocks.{row_of}

-- no row stands past the sixteenth place
pub row_is : (b : Block) (k : ℕ) → row_of b k ≡ get_or b.table.rows k None
row_is b k =
    ⊎_elim (λ h. cond-true (leb k 15) (get_or b.table.rows k None) None (le-leb k 15 (omega arith))) (λ h. cond-false (leb k 15) (get_or b.table.rows k None) None (lt-leb k 15 (omega arith)) ∙ sym (get_or_past b.table.rows k None (omega (arith, b.room))))
    (cases_lt k 16)

module _ {X : Type 0} (f : Option Row → X) where
  mapped_at : (rows : List (Option Row)) (k : ℕ) → get_or (map f rows) k (f None) ≡ f (get_or rows k None)
  mapped_at [] k = refl
  mapped_at (r ∷ rows) zero = refl
  mapped_at (r ∷ rows) (suc k) = mapped_at rows k

  module _ (b : Block) where
    abbrev pub column : List X
    column = map f b.table.rows

    pub column_at : (k : ℕ) → get_or column k (f None) ≡ f (row_of b k)
    column_at k = mapped_at b.table.rows k ∙ ap f (sym (row_is b k))

    pub column_length : length column ≡ 16
    column_length = length-map b.table.rows f ∙ b.room

    pub column_end : drop 16 column ≡ []
    column_end = drop_all 16 column (omega (arith, column_length))

    -- the column from the code before on
    pub column_turn : (c : ℕ) → 0 < c → c ≤ 16 → drop (c - 1) column ≡ f (row_of b (c - 1)) ∷ drop c column
    column_turn c some most =
        let next : c - 1 + 1 ≡ c = omega arith in
        drop_more column (c - 1) (f None) (omega (arith, column_length)) ∙ ap (λ n. get_or column (c - 1) (f None) ∷ drop n column) next ∙ ap (λ x. x ∷ drop c column) (column_at (c - 1))
