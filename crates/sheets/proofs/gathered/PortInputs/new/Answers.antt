use Rattle.std.proofs.Common.{[], refl, ap, ◌≡◌, ◌∙◌, arith, Bor}
use Rattle.adders.proofs.Places.{places}
use Rattle.blocks.specs.declared.model.Block.{Block}
use Rattle.ports.specs.declared.port.Port.TheVariants.{Left, Right}
use Rattle.ports.specs.Inputs.{inputs}
use Rattle.sheets.proofs.Gathering.{left_past, right_past, at_each}
use Rattle.sheets.proofs.gathered.PortInputs.new.Goals as goal

pub invariant_of-result-clause-lefts : goal.invariant_of-result-clause-lefts
invariant_of-result-clause-lefts c =
    let b = c.args.block in
    let made = c.from_fn.ensures.items in
    at_each (λ j. inputs b.now (Left j)) c.from_fn.result made.long (λ j h. left_past b.now j (omega (arith, b.now.few)))
    (λ j h. places _ (λ s. s.0 ≡ b) (λ i y. y ≡ inputs b.now (Left i)) (λ s i y q kept called. (called.met.1 ∙ ap (λ (x : Bor Block). inputs x.now (Left i)) kept, called.met.0 ∙ kept)) _ c.from_fn.result 0 9 j [] refl made.each (omega arith) h)

pub invariant_of-result-clause-rights : goal.invariant_of-result-clause-rights
invariant_of-result-clause-rights c =
    let b = c.args.block in
    let made = c.from_fn-2.ensures.items in
    at_each (λ j. inputs b.now (Right j)) c.from_fn-2.result made.long (λ j h. right_past b.now j (omega (arith, b.now.few)))
    (λ j h. places _ (λ s. s.0 ≡ b) (λ i y. y ≡ inputs b.now (Right i)) (λ s i y q kept called. (called.met.1 ∙ ap (λ (x : Bor Block). inputs x.now (Right i)) kept, called.met.0 ∙ kept)) _ c.from_fn-2.result 0 9 j [] refl made.each (omega arith) h)
