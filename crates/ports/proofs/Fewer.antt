-- A block with some of the rows of another, and which calls make such blocks.
use Rattle.std.proofs.Common.{◌≡◌, ℕ, ◌≤◌, length, Some, None, Option, sym, refl, ap, ◌∙◌, inl, inr, arith}
use Rattle.std.proofs.lemmas.Bool.{cases_order}
use Rattle.adders.specs.declared.wiring.Operand.{Operand}
use Rattle.adders.proofs.Broken.{some_none}
use Rattle.rows.specs.declared.model.Row.{Row}
use Rattle.blocks.specs.declared.model.Block.{Block}
use Rattle.blocks.specs.Blocks.{row_of, Rewritten}
use Rattle.ports.specs.declared.port.Port.{Port}
use Rattle.ports.specs.Ports.{put_at}
use Rattle.ports.specs.Inputs.{inputs, Among}
use Rattle.ports.specs.Fewer.{SomeRows, SomeInputs}
use Rattle.ports.proofs.Ascending.{inputs_law, ascending_fewer}

module _ (a b : Block) (some : SomeRows a b) where
  -- what stands at a code of a stands there in b
  pub there_too : {X : Type 0} (f : Option Row → Option X) (code : ℕ) (x : X) → f None ≡ None → f (row_of a code) ≡ Some x → f (row_of b code) ≡ Some x
  there_too f code x none e =
      elim (some code) [
        | inl idle ↦ absurd (some_none (sym e ∙ ap f idle ∙ none))
        | inr same ↦ ap f (sym same) ∙ e
      ]

  input_too : (p : Port) (o : Operand) → Among o (inputs a p) → Among o (inputs b p)
  input_too p o h = let s = (inputs_law.these a p).only o h in (inputs_law.these b p).all o (s.0, there_too (λ r. put_at r p) s.0 o refl s.1)

  pub more_inputs : (p : Port) → length (inputs a p) ≤ length (inputs b p)
  more_inputs p = ascending_fewer (inputs a p) (inputs b p) (inputs_law.these a p).ascending (inputs_law.these b p).ascending (input_too p)

pub some_inputs : SomeInputs
some_inputs = input_too

module _ (before after : Block) (code : ℕ) where
  pub row_less : Rewritten before code None after → SomeRows after before
  row_less w k =
      elim (cases_order k code) [
        | inl e ↦ inl (ap (row_of after) e ∙ w.there)
        | inr (inl l) ↦ inr (w.others k (λ e. absurd (omega (arith, e))))
        | inr (inr l) ↦ inr (w.others k (λ e. absurd (omega (arith, e))))
      ]

  pub row_more : (row : Row) → row_of before code ≡ None → Rewritten before code (Some row) after → SomeRows before after
  row_more row idle w k =
      elim (cases_order k code) [
        | inl e ↦ inl (ap (row_of before) e ∙ idle)
        | inr (inl l) ↦ inr (sym (w.others k (λ e. absurd (omega (arith, e)))))
        | inr (inr l) ↦ inr (sym (w.others k (λ e. absurd (omega (arith, e)))))
      ]
