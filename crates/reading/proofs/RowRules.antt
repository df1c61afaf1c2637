-- The rules of a row that is selected.
use Rattle.std.proofs.Common.{◌≡◌, ℕ, List, Some, Option, Ok, Err, ap, ◌∙◌, sym}
use Rattle.adders.specs.declared.refusals.Refusal.{Refusal}
use Rattle.adders.specs.declared.refusals.Refusal.TheVariants.{InputAbsent, RowBroken}
use Rattle.adders.specs.declared.wiring.Operand.{Operand}
use Rattle.adders.specs.Values.{Slots}
use Rattle.adders.specs.Rules.{first_broken}
use Rattle.rows.specs.declared.model.Row.{Row}
use Rattle.rows.specs.Rules.{row_rules}
use Rattle.rows.specs.Rows.{RowJudged, kept, broken}
use Rattle.texts.specs.declared.selection.Selection.{Selection}
use Rattle.reading.specs.Orders.{Orders}
use Rattle.reading.specs.Data.{data_of}
use Rattle.reading.specs.Stages.{◌>>=◌, or_refused}
use Rattle.reading.specs.Lookup.{row_data}
use Rattle.reading.specs.Reader.{fault_of, judged_by, select_row}

module _ (orders : Orders) (n : ℕ) (xs : List (Option Selection)) (out : ℕ) (slots : Slots) (output : Operand) (read : row_data orders xs out ≡ Some (record { slots = slots; output = output })) where
  judged : select_row orders n xs out ≡ judged_by n (record { slots = slots; output = output }) (first_broken (row_rules slots output))
  unfolding select_row
  judged = ap (λ r. or_refused (InputAbsent n) r >>= λ r. judged_by n r (first_broken (row_rules r.slots r.output))) read

  pub row_kept : (r : Row) → RowJudged slots output (Ok r) → select_row orders n xs out ≡ Ok (data_of r)
  row_kept r (kept e s o) = judged ∙ ap (judged_by n (record { slots = slots; output = output })) e ∙ ap (λ s. Ok (record { slots = s; output = output })) (sym s) ∙ ap (λ o. Ok (record { slots = r.slots; output = o })) (sym o)

  pub row_broken : (e : Refusal) → RowJudged slots output (Err e) → select_row orders n xs out ≡ Err (RowBroken n (fault_of e))
  row_broken e (broken h) = judged ∙ ap (judged_by n (record { slots = slots; output = output })) h
