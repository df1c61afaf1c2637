-- A table with the row of a chain at one code.
use Rattle.std.proofs.Common.{◌≡◌, ℕ, zero, suc, ◌-◌, ◌<◌, ◌≤◌, ◌≢◌, Bool, true, false, cond, leb, List, [], ◌∷◌, ◌++◌, length, get_or, replicate, is_some, Some, None, Option, refl, ap, ◌∙◌, arith}
use Rattle.std.proofs.lemmas.List.{length-set}
use Rattle.adders.specs.declared.wiring.Adder.{Adder}
use Rattle.adders.specs.Values.{wired}
use Rattle.chains.specs.declared.model.Chain.{Chain}
use Rattle.chains.specs.Chains.{chain_adders}
use Rattle.rows.specs.declared.model.Row.{Row}
use Rattle.rows.specs.Rows.{adder_at, RowOf}
use Rattle.tables.specs.declared.Table.{Table}
use Rattle.tables.specs.Tables.{row_at, with_place}
use Rattle.blocks.specs.Uses.{row_uses, uses}
use Rattle.blocks.proofs.Placing.{written, others_stay, at_each}

nones : {A : Type 0} (n k : ℕ) → get_or {A = Option A} (replicate n None) k None ≡ None
nones zero k = refl
nones (suc n) zero = refl
nones (suc n) (suc k) = nones n k

-- a table without a live code
pub all_idle : {A : Type 0} (t : Table A) → t.rows ≡ replicate 16 None → (k : ℕ) → row_at t k ≡ None
all_idle {A = A} t e k = ap (λ rows. cond (leb k 15) (get_or rows k None) None) e ∙ ap (λ o. cond (leb k 15) o None) (nones 16 k) ∙ either (leb k 15)
  where
    either : (b : Bool) → cond {A = Option A} b None None ≡ None
    either true = refl
    either false = refl

past : (xs : List Adder) (n i : ℕ) → length xs ≤ i → get_or (wired xs ++ replicate n None) i None ≡ None
past [] n i h = nones n i
past (x ∷ xs) n zero h = absurd (omega arith)
past (x ∷ xs) n (suc i) h = past xs n i (omega arith)

-- the row of a chain uses no adder past the chain's last
pub past_last : (c : Chain) (r : Row) → RowOf c r → (j : ℕ) → length (chain_adders c) < j → is_some (adder_at r j) ≡ false
past_last c r of j h =
    ap (λ xs. is_some (cond (leb 1 j) (get_or xs (j - 1) None) None)) of.slots
    ∙ ap (λ o. is_some (cond (leb 1 j) o None)) (past (chain_adders c) _ (j - 1) (omega arith))
    ∙ either (leb 1 j)
  where
    either : (b : Bool) → is_some (cond {A = Option Adder} b None None) ≡ false
    either true = refl
    either false = refl

-- a table with one row, which is the chain's
module _ (t after : Table Row) (code : ℕ) (r : Row) (none : t.rows ≡ replicate 16 None) (h : code ≤ 15) (put : after ≡ with_place t code (Some r)) where
  sixteen : length t.rows ≡ 16
  sixteen = ap length none

  pub room_founded : length after.rows ≡ 16
  room_founded = ap (λ t. length t.rows) put ∙ length-set t.rows code (Some r) ∙ sixteen

  pub there_founded : row_at after code ≡ Some r
  there_founded = ap (λ t. row_at t code) put ∙ written t code (Some r) sixteen h

  pub others_founded : (k : ℕ) → k ≢ code → row_at after k ≡ None
  others_founded k ne = ap (λ t. row_at t k) put ∙ others_stay t code (Some r) k ne ∙ all_idle t none k

  pub within_founded : (c : Chain) → RowOf c r → (k j : ℕ) → length (chain_adders c) < j → uses after k j ≡ false
  within_founded c of k j l =
      ap (λ t. uses t k j) put
      ∙ at_each t code (Some r) (λ i o. row_uses o j ≡ false) sixteen h (past_last c r of j l) (λ i. ap (λ o. row_uses o j) (all_idle t none i)) k
