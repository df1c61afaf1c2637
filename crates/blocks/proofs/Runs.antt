-- What running rests on.
use Rattle.std.proofs.Common.{ℕ, sym, subst}
use Rattle.arith.specs.Operations.{Operations}
use Rattle.blocks.specs.Runs.{RunAt, RunAllAt, ConstantsDecide}

pub constants_decide : {X M : Type 0} (means : X → M) (ops : Operations M) (Product : ℕ → X → X → Type 0) → ConstantsDecide means ops Product
constants_decide means ops Product b after same = record {
  samples = λ code x r. subst (λ o. RunAt means ops Product code o x r) (sym (same code));
  buffers = λ code input output filled r. subst (λ o. RunAllAt means ops Product code o input output r filled) (sym (same code));
}
