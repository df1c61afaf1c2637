-- What making a row answers, that it answers nothing else, and what the calls on a row tell.
use Rattle.std.proofs.Common.{◌≡◌, ℕ, suc, ◌-◌, ◌<◌, ◌≤◌, cond, leb, List, get_or, is_some, is_ok, Some, None, Ok, Err, Decides, Result, sym, refl, ap, ◌∙◌, subst, ⊎_elim, arith}
use denote.Struct.Record.{values_one}
use Rattle.std.proofs.lemmas.Bool.{cases_lt, cond-true, cond-false, le-leb, lt-leb, false≢true}
use Rattle.std.specs.contracts.option.Option as option
use Rattle.adders.specs.contracts.wiring.Adder as adder
use Rattle.adders.specs.contracts.wiring.Operand as operand
use Rattle.adders.specs.declared.wiring.Adder.{Adder}
use Rattle.adders.specs.declared.wiring.Operand.{Operand}
use Rattle.adders.specs.declared.refusals.Refusal.{Refusal}
use Rattle.adders.specs.Values.{Slots, sample, value, values_from}
use Rattle.std.specs.Prelude.{IsOk}
use Rattle.adders.specs.Rules.{first_broken, rules_from, Tried, InRange}
use Rattle.adders.proofs.Broken.{some_none, none_from}
use Rattle.adders.proofs.Follow.{within, follow}
use Rattle.adders.proofs.Sounds as sounds
use Rattle.rows.specs.contracts.model.Row.{struct, the_propositions}
use Rattle.rows.specs.declared.model.Row.{Row}
use Rattle.rows.specs.Rules.{row_rules, KeepsRow}
use Rattle.rows.specs.Rows.{adder_at, row_value_at, ShiftAndAdd, RowJudged, kept, broken}
use Rattle.rows.proofs.Keeping.{keeps_from, rules_from_keeps, sound_lower}

-- two rows of the same slots and output are the same
pub same_row : (r s : Row) → r.slots ≡ s.slots → r.output ≡ s.output → r ≡ s
same_row r s e f = values_one struct (the_propositions (option.the_row adder.the_row).coded (adder.the_row).coded (operand.the_row).coded) r s (λ i. (e i, (f i, tt)))

pub unbroken : (r : Row) → first_broken (row_rules r.slots r.output) ≡ None
unbroken r = none_from _ r.lawful

pub row_keeps : (r : Row) → KeepsRow r.slots r.output
row_keeps r = keeps_from r.slots r.output (unbroken r)

module _ {xs : Slots} {out : Operand} where
  judged_one : {r s : Result Row Refusal} → RowJudged xs out r → RowJudged xs out s → s ≡ r
  judged_one (kept {r = r} h e f) (kept {r = s} k g i) = ap Ok (same_row s r (g ∙ sym e) (i ∙ sym f))
  judged_one (kept h e f) (broken k) = absurd (some_none (sym k ∙ h))
  judged_one (broken h) (kept k g i) = absurd (some_none (sym h ∙ k))
  judged_one (broken h) (broken k) = let e = sym k ∙ h in cc

  judged_exactly : {r : Result Row Refusal} → RowJudged xs out r → Decides (is_ok r) (KeepsRow xs out)
  judged_exactly (kept h e f) = (λ _. keeps_from xs out h, λ _. refl)
  judged_exactly (broken h) = (λ e. absurd (false≢true e), λ k. absurd (some_none (sym h ∙ rules_from_keeps xs out k)))

  -- the clauses of `Row::new`
  pub told_new : {r : Result Row Refusal} → RowJudged xs out r → record { answer : RowJudged xs out r; only : (s : Result Row Refusal) → RowJudged xs out s → s ≡ r; exactly : Decides (is_ok r) (KeepsRow xs out) }
  told_new j = record { answer = j; only = λ s. judged_one j; exactly = judged_exactly j }

-- the values of a row are told
pub valued_ok : (r : Row) (v : Result (List ℕ) Refusal) → Tried (rules_from sample r.slots) (values_from sample r.slots) v → IsOk v
valued_ok r (Ok at) t = refl
valued_ok r (Err e) t = absurd (some_none (sym t ∙ (sounds.say r.slots).1 (row_keeps r).adders))

pub valued : (r : Row) (v : Result (List ℕ) Refusal) (at : List ℕ) → Tried (rules_from sample r.slots) (values_from sample r.slots) v → v ≡ Ok at → at ≡ values_from sample r.slots
valued r v at t e = (subst (Tried (rules_from sample r.slots) (values_from sample r.slots)) e t).1

-- an adder that the row uses
pub record There (r : Row) (j : ℕ) (a : Adder) : Type 0 where
  pub low : 1 ≤ j
  pub high : j < 9
  pub slot : get_or r.slots (j - 1) None ≡ Some a

pub there : (r : Row) (j : ℕ) (a : Adder) → adder_at r j ≡ Some a → There r j a
there r j a e =
    ⊎_elim
    (λ low.
    let slot = sym (cond-true (leb 1 j) (get_or r.slots (j - 1) None) None (le-leb 1 j low)) ∙ e in
    let room = r.room in
    let inside = within r.slots (j - 1) a slot in
    record { low = low; high = omega arith; slot = slot })
    (λ none. absurd (some_none (sym e ∙ cond-false (leb 1 j) (get_or r.slots (j - 1) None) None (lt-leb 1 j (omega arith)))))
    (cases_lt 0 j)

-- the clauses of `Row::value`
pub told_value : (r : Row) (j : ℕ) (a : Adder) (at : List ℕ) → Some a ≡ adder_at r j → at ≡ values_from sample r.slots → record { value : Some (get_or at j 0) ≡ row_value_at r j; rule : ShiftAndAdd r j (Some (get_or at j 0)); range : InRange (get_or at j 0) }
told_value r j a at e all =
    let is : Some (get_or at j 0) ≡ Some (value r.slots j) = ap (λ vs. Some (get_or vs j 0)) all in
    record {
      value = is ∙ ap (λ o. cond (is_some o) (Some (value r.slots j)) None) e;
      rule = λ b p.
          let t = there r j b p in
          let up : j ≡ suc (j - 1) = omega (arith, t.low) in
          let l = sound_lower r.slots (row_keeps r).adders (j - 1) b t.slot in
          is ∙ ap (λ i. Some (value r.slots i)) up ∙ ap Some (follow.adder_is r.slots (j - 1) b t.slot l.0 l.1);
      range =
          let t = there r j a (sym e) in
          let up : suc (j - 1) ≡ j = omega (arith, t.low) in
          subst InRange (ap (value r.slots) up ∙ sym (ap (λ vs. get_or vs j 0) all)) ((row_keeps r).adders (j - 1) a t.slot).range;
    }
