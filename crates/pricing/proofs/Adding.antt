-- What one row more changes.
use Rattle.std.proofs.Common.{◌≡◌, ℕ, ◌≤◌, Bool, true, false, ◌||◌, ◌⊎◌, Some, None, Option, max, sym, refl, ap, ◌∙◌, subst, inl, inr, arith}
use Rattle.std.proofs.lemmas.Bool.{cases_order, cases_lt, or_right}
use Rattle.adders.specs.declared.wiring.Operand.{Operand}
use Rattle.adders.specs.declared.wiring.Sign.{Sign}
use Rattle.adders.proofs.Broken.{some_none}
use Rattle.rows.specs.declared.model.Row.{Row}
use Rattle.blocks.specs.declared.model.Block.{Block}
use Rattle.blocks.specs.Blocks.{row_of, Rewritten}
use Rattle.ports.specs.declared.port.Port.{Port}
use Rattle.ports.specs.Ports.{operand_at, put_at}
use Rattle.ports.specs.Inputs.{insert, inputs, Among}
use Rattle.ports.specs.InputLaws.{InputsOf}
use Rattle.ports.proofs.Ascending.{inputs_law, has_new, has_kept, has_only, insert_ascends}
use Rattle.pricing.specs.declared.net.Net.{Net}
use Rattle.pricing.specs.Nets.{value_on, largest_on}
use Rattle.pricing.specs.Parts.{sign_used, is_sign, met}
use Rattle.pricing.specs.Laws.{IsLargest, with_input, with_value, OneRowMore}
use Rattle.pricing.proofs.Operands.{some_same}
use Rattle.pricing.proofs.Meanings.{values_law, signs_law, same_sign, own_sign}

-- there is one largest value
largest_one : (vs : ℕ → Option ℕ) (m n : ℕ) → IsLargest vs m → IsLargest vs n → m ≤ n
largest_one vs m n a b =
    elim a.reached [
      | inl e ↦ omega arith
      | inr h ↦ b.least h.0 m h.1
    ]

both_ways : (a b : Bool) → (a ≡ true → b ≡ true) → (b ≡ true → a ≡ true) → a ≡ b
both_ways true true f g = refl
both_ways false false f g = refl
both_ways true false f g = sym (f refl)
both_ways false true f g = g refl

or_parts : (a b : Bool) → (a || b) ≡ true → (a ≡ true) ⊎ (b ≡ true)
or_parts true b e = inl refl
or_parts false b e = inr e

module _ (code : ℕ) (row : Row) (before after : Block) (idle : row_of before code ≡ None) (w : Rewritten before code (Some row) after) where
  -- what stands at a code afterwards: the new row at its own, and elsewhere what stood there
  at_code : (k : ℕ) → (k ≡ code) ⊎ (row_of after k ≡ row_of before k)
  at_code k =
      elim (cases_order k code) [
        | inl e ↦ inl e
        | inr (inl l) ↦ inr (w.others k (λ e. absurd (omega (arith, e))))
        | inr (inr l) ↦ inr (w.others k (λ e. absurd (omega (arith, e))))
      ]

  module _ {X : Type 0} (f : Option Row → Option X) (none : f None ≡ None) where
    -- what was there stays there
    stays : (k : ℕ) (x : X) → f (row_of before k) ≡ Some x → f (row_of after k) ≡ Some x
    stays k x e =
        elim (at_code k) [
          | inl here ↦ absurd (some_none (sym e ∙ ap (λ i. f (row_of before i)) here ∙ ap f idle ∙ none))
          | inr same ↦ ap f same ∙ e
        ]

    new_there : f (row_of after code) ≡ f (Some row)
    new_there = ap f w.there

    -- what is there was there, or is of the new row
    from : (k : ℕ) (x : X) → f (row_of after k) ≡ Some x → (f (Some row) ≡ Some x) ⊎ (f (row_of before k) ≡ Some x)
    from k x e =
        elim (at_code k) [
          | inl here ↦ inl (sym new_there ∙ ap (λ i. f (row_of after i)) (sym here) ∙ e)
          | inr same ↦ inr (ap f (sym same) ∙ e)
        ]

  module _ (p : Port) where
    was : InputsOf before p (inputs before p)
    was = inputs_law.these before p

    inputs_with : (o : Option Operand) → operand_at row p ≡ o → InputsOf after p (with_input o (inputs before p))
    inputs_with None e = record {
      ascending = was.ascending;
      only = λ x h. let s = was.only x h in (s.0, stays (λ r. put_at r p) refl s.0 x s.1);
      all = λ x s.
          elim (from (λ r. put_at r p) refl s.0 x s.1) [
            | inl new ↦ absurd (some_none (sym new ∙ e))
            | inr old ↦ was.all x (s.0, old)
          ];
    }
    inputs_with (Some y) e = record {
      ascending = insert_ascends y (inputs before p) was.ascending;
      only = λ x h.
          elim (has_only y x (inputs before p) h) [
            | inl same ↦ (code, new_there (λ r. put_at r p) refl ∙ e ∙ ap Some (sym same))
            | inr old ↦ (let s = was.only x old in (s.0, stays (λ r. put_at r p) refl s.0 x s.1))
          ];
      all = λ x s.
          elim (from (λ r. put_at r p) refl s.0 x s.1) [
            | inl new ↦ subst (λ z. Among z (insert y (inputs before p))) (some_same (sym e ∙ new)) (has_new y (inputs before p))
            | inr old ↦ has_kept y x (inputs before p) (was.all x (s.0, old))
          ];
    }

    more_inputs : inputs after p ≡ with_input (operand_at row p) (inputs before p)
    more_inputs = sym (inputs_law.alone after p (with_input (operand_at row p) (inputs before p)) (inputs_with (operand_at row p) refl))

  module _ (n : Net) where
    abbrev values : Block → ℕ → Option ℕ
    values b k = value_on (row_of b k) n

    largest_with : (o : Option ℕ) → value_on (Some row) n ≡ o → IsLargest (values after) (with_value o (largest_on before n))
    largest_with None e = record {
      least = λ k v h.
          elim (from (λ r. value_on r n) refl k v h) [
            | inl new ↦ absurd (some_none (sym new ∙ e))
            | inr old ↦ (values_law before n).least k v old
          ];
      reached =
          elim (values_law before n).reached [
            | inl z ↦ inl z
            | inr h ↦ inr (h.0, stays (λ r. value_on r n) refl h.0 (largest_on before n) h.1)
          ];
    }
    largest_with (Some u) e = record {
      least = λ k v h.
          elim (from (λ r. value_on r n) refl k v h) [
            | inl new ↦ (let same : u ≡ v = some_same (sym e ∙ new) in omega arith)
            | inr old ↦ omega (arith, (values_law before n).least k v old)
          ];
      reached =
          elim (cases_lt u (largest_on before n)) [
            | inl under ↦ elim (values_law before n).reached [
              | inl z ↦ absurd (omega arith)
              | inr h ↦ (let same : largest_on before n ≡ max u (largest_on before n) = omega arith in inr (h.0, stays (λ r. value_on r n) refl h.0 (largest_on before n) h.1 ∙ ap Some same))
            ]
            | inr over ↦ (let same : u ≡ max u (largest_on before n) = omega arith in inr (code, new_there (λ r. value_on r n) refl ∙ e ∙ ap Some same))
          ];
    }

    more_values : largest_on after n ≡ with_value (value_on (Some row) n) (largest_on before n)
    more_values =
        let a = values_law after n in
        let b = largest_with (value_on (Some row) n) refl in
        omega (arith, largest_one (values after) _ _ a b, largest_one (values after) _ _ b a)

  more_signs : (s : Sign) (j : ℕ) → met s after j ≡ (is_sign s (sign_used (Some row) j) || met s before j)
  more_signs s j = both_ways _ _ told back
    where
      told : met s after j ≡ true → (is_sign s (sign_used (Some row) j) || met s before j) ≡ true
      told e =
          let r = (signs_law s after j).found e in
          elim (from (λ x. sign_used x j) refl r.0 s r.1) [
            | inl new ↦ (let own : is_sign s (sign_used (Some row) j) ≡ true = ap (is_sign s) new ∙ own_sign s in rw own refl)
            | inr old ↦ or_right (is_sign s (sign_used (Some row) j)) (met s before j) ((signs_law s before j).counted r.0 old)
          ]

      back : (is_sign s (sign_used (Some row) j) || met s before j) ≡ true → met s after j ≡ true
      back e =
          elim (or_parts (is_sign s (sign_used (Some row) j)) (met s before j) e) [
            | inl own ↦ (signs_law s after j).counted code (new_there (λ x. sign_used x j) refl ∙ same_sign s (sign_used (Some row) j) own)
            | inr old ↦ (let r = (signs_law s before j).found old in (signs_law s after j).counted r.0 (stays (λ x. sign_used x j) refl r.0 s r.1))
          ]

pub one_row_more : OneRowMore
one_row_more code row before after idle w = record {
  inputs = more_inputs code row before after idle w;
  values = more_values code row before after idle w;
  signs = more_signs code row before after idle w;
}
