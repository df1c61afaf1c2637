-- One answer to each call, and what its sign says.
use Rattle.std.proofs.Common.{◌≡◌, ℕ, zero, suc, ◌≤◌, Bool, cond, List, [], ◌∷◌, Some, None, Ok, Err, Option, Result, sym, refl, ap, ◌∙◌, subst, arith}
use Rattle.std.specs.Prelude.{true, false, Decides, ℤ, pos, negsuc, ◌-ℤ◌, is_some, nat_le, slice_index_or}
use Rattle.std.proofs.lemmas.Bool.{false≢true}
use Rattle.std.proofs.lemmas.Int.{ints}
use Rattle.adders.specs.declared.refusals.Refusal.{Refusal}
use Rattle.adders.specs.Refusals.{refusal_entry}
use Rattle.adders.specs.declared.refusals.Refusal.TheVariants.{CodeAboveFifteen, CodeIdle}
use Rattle.adders.specs.Rules.{rule, first_broken}
use Rattle.adders.proofs.Broken.{some_none}
use Rattle.tables.specs.Tables.{live_rules}
use Rattle.chains.specs.Chains.{Accepted}
use Rattle.chains.proofs.Answering.{reading_one, reading_exactly, chain_keeps}
use Rattle.rows.specs.declared.model.Row.{Row}
use Rattle.rows.proofs.Answering.{row_keeps}
use Rattle.blocks.specs.declared.model.Block.{Block}
use Rattle.blocks.specs.Blocks.{row_of, row_constant_of, constant_at, Live}
use Rattle.forms.specs.Answers.{Only}
use Rattle.sheetlaws.specs.Sheets.{IsSheet}
use Rattle.sheetlaws.specs.Refusing.{Refused}
use Rattle.sheetlaws.proofs.Told.{refusals_told}
use Rattle.sheetlaws.proofs.ToldNumbers.{err_is}
use Rattle.sheetlaws.proofs.Complete.{complete}
use Rattle.reading.proofs.Staged.{ok_not_err}
use Rattle.reading.specs.Data.{said}
use Rattle.sheets.proofs.ReadOver.{one_block}
use Rattle.kundrevez.specs.Host.{told, positive, LineConstant, of_chain, turned_down, SheetConstant, no_sheet, no_constant, at_code, Told}

-- the sign tells a constant from a refusal

positive_constant : (n : ℕ) → 1 ≤ n → positive (pos n) ≡ true
positive_constant zero h = absurd (omega arith)
positive_constant (suc n) h = refl

negative_refusal : (n : ℕ) → positive (pos 0 -ℤ pos n) ≡ false
negative_refusal zero = refl
negative_refusal (suc n) = let e : pos 0 -ℤ pos (suc n) ≡ negsuc n = omega (arith, ints) in ap positive e

module _ (P : Result ℕ Refusal → Type 0) (Q : Type 0)
    (some : (n : ℕ) → P (Ok n) → (1 ≤ n) × Q)
    (none : (e : Refusal) → P (Err e) → Q → ⊥)
    (one : (r s : Result ℕ Refusal) → P r → P s → s ≡ r) where
  told_by : (r : Result ℕ Refusal) → P r → Decides (positive (told r)) Q
  told_by (Ok n) p = let s = some n p in (λ _. s.1, λ _. positive_constant n s.0)
  told_by (Err e) p = (λ h. absurd (false≢true (sym (negative_refusal (refusal_entry e).number) ∙ h)), λ q. absurd (none e p q))

  -- the clauses of a call
  pub told_all : (r : Result ℕ Refusal) → P r → (z : ℤ) → z ≡ told r → record { answer : Told P z; only : Only (Told P) z; exactly : Decides (positive z) Q }
  told_all r p z e = record { answer = (r, p, e); only = λ m t. t.2 ∙ ap told (one r t.0 p t.1) ∙ sym e; exactly = subst (λ y. Decides (positive y) Q) (sym e) (told_by r p) }

-- A chain line.
module _ (line : List ℕ) where
  line_some : (n : ℕ) → LineConstant line (Ok n) → (1 ≤ n) × Accepted line
  line_some n (of_chain {c = c} h) = ((chain_keeps c).range.0, (reading_exactly h).0 refl)

  line_none : (e : Refusal) → LineConstant line (Err e) → Accepted line → ⊥
  line_none e (turned_down h) a = false≢true ((reading_exactly h).1 a)

  line_one : (r s : Result ℕ Refusal) → LineConstant line r → LineConstant line s → s ≡ r
  line_one r s (of_chain h) (of_chain k) = let e = reading_one h k in cc
  line_one r s (of_chain h) (turned_down k) = let e = reading_one h k in cc
  line_one r s (turned_down h) (of_chain k) = let e = reading_one h k in cc
  line_one r s (turned_down h) (turned_down k) = let e = reading_one h k in cc

  pub line_told : (r : Result ℕ Refusal) → LineConstant line r → (z : ℤ) → z ≡ told r → record { answer : Told (LineConstant line) z; only : Only (Told (LineConstant line)) z; exactly : Decides (positive z) (Accepted line) }
  line_told = told_all (LineConstant line) (Accepted line) line_some line_none line_one

-- A sheet at a code.

row_positive : (o : Option Row) (n : ℕ) → row_constant_of o ≡ Some n → 1 ≤ n
row_positive None n e = absurd (some_none (sym e))
row_positive (Some r) n e = subst (λ k. 1 ≤ k) (some_is e) (row_keeps r).range.0
  where
    some_is : {m : ℕ} → Some m ≡ Some n → m ≡ n
    some_is e = cc

row_live : (o : Option Row) (n : ℕ) → row_constant_of o ≡ Some n → is_some o ≡ true
row_live None n e = absurd (some_none (sym e))
row_live (Some r) n e = refl

-- a live code has a constant, so that no cause is met
live_answered : (b : Block) (code : ℕ) → Live b code → first_broken (live_rules code (constant_at b code)) ≡ None
live_answered b code h = by (nat_le code 15) (slice_index_or b.table.rows code None) h
  where
    by : (few : Bool) (o : Option Row) → is_some (cond few o None) ≡ true → first_broken (rule few CodeAboveFifteen ∷ rule (is_some (row_constant_of (cond few o None))) CodeIdle ∷ []) ≡ None
    by true (Some r) e = refl
    by true None e = absurd (false≢true e)
    by false o e = absurd (false≢true e)

constant_answered : (b : Block) (code n : ℕ) → constant_at b code ≡ Some n → first_broken (live_rules code (constant_at b code)) ≡ None
constant_answered b code n e = live_answered b code (row_live (row_of b code) n e)

module _ (sheet : List ℕ) (code : ℕ) where
  abbrev pub LiveThere : Type 0
  LiveThere = (b : Block) × IsSheet sheet b × Live b code

  sheet_some : (n : ℕ) → SheetConstant sheet code (Ok n) → (1 ≤ n) × LiveThere
  sheet_some n (at_code {b = b} h k) = (row_positive (row_of b code) n k, (b, h, row_live (row_of b code) n k))

  none_refused : (b : Block) (e : Refusal) → Refused sheet e → IsSheet sheet b → ⊥
  none_refused b e h k = ok_not_err (said b) e (sym (complete sheet b k) ∙ (refusals_told sheet e).1 h)

  sheet_none : (e : Refusal) → SheetConstant sheet code (Err e) → LiveThere → ⊥
  sheet_none e (no_sheet h) t = none_refused t.0 e h t.1
  sheet_none e (no_constant {b = b} h k) t =
      let same = one_block sheet t.0 b t.1 h in
      some_none (sym k ∙ live_answered b code (subst (λ c. Live c code) same t.2))

  -- what a block answers at the code
  abbrev Answer : Block → Result ℕ Refusal → Type 0
  Answer b (Ok n) = constant_at b code ≡ Some n
  Answer b (Err e) = first_broken (live_rules code (constant_at b code)) ≡ Some e

  sheet_one : (r s : Result ℕ Refusal) → SheetConstant sheet code r → SheetConstant sheet code s → s ≡ r
  sheet_one r s (no_sheet {e = d} h) (no_sheet {e = e} k) = ap Err (err_is e d (sym ((refusals_told sheet e).1 k) ∙ (refusals_told sheet d).1 h))
  sheet_one r s (no_sheet h) (no_constant {b = b} k l) = absurd (none_refused b _ h k)
  sheet_one r s (no_sheet h) (at_code {b = b} k l) = absurd (none_refused b _ h k)
  sheet_one r s (no_constant {b = b} k l) (no_sheet h) = absurd (none_refused b _ h k)
  sheet_one r s (at_code {b = b} k l) (no_sheet h) = absurd (none_refused b _ h k)
  sheet_one r s (no_constant {b = b} h k) (no_constant {b = c} l m) =
      let same = one_block sheet c b l h in
      let e = sym (subst (λ d. Answer d s) same m) ∙ k in cc
  sheet_one r s (at_code {b = b} h k) (at_code {b = c} l m) =
      let same = one_block sheet c b l h in
      let e = sym (subst (λ d. Answer d s) same m) ∙ k in cc
  sheet_one r s (no_constant {b = b} h k) (at_code {b = c} {n = n} l m) =
      let same = one_block sheet c b l h in
      absurd (some_none (sym k ∙ constant_answered b code n (subst (λ d. Answer d s) same m)))
  sheet_one r s (at_code {b = b} {n = n} h k) (no_constant {b = c} l m) =
      let same = one_block sheet c b l h in
      absurd (some_none (sym (subst (λ d. Answer d s) same m) ∙ constant_answered b code n k))

  pub sheet_told : (r : Result ℕ Refusal) → SheetConstant sheet code r → (z : ℤ) → z ≡ told r → record { answer : Told (SheetConstant sheet code) z; only : Only (Told (SheetConstant sheet code)) z; exactly : Decides (positive z) LiveThere }
  sheet_told = told_all (SheetConstant sheet code) LiveThere sheet_some sheet_none sheet_one
