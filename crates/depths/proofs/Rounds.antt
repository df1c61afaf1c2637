-- Eight rounds are enough for every adder, and more change nothing.
use Rattle.std.proofs.Common.{◌≡◌, ◌≢◌, ℕ, zero, suc, ◌+◌, ◌*◌, ◌<◌, ◌≤◌, max, List, length, refl, sym, ◌∙◌, inl, inr, arith}
use Rattle.std.proofs.lemmas.Bool.{cases_lt}
use Rattle.adders.specs.declared.wiring.Operand.{Operand}
use Rattle.blocks.specs.declared.model.Block.{Block}
use Rattle.ports.specs.declared.port.Port.{Port}
use Rattle.ports.specs.declared.port.Port.TheVariants.{Left, Right}
use Rattle.ports.specs.Inputs.{inputs}
use Rattle.ports.proofs.Ascending.{inputs_law}
use Rattle.depths.specs.Depths.{deepest, inputs_depth, if_any, adder_depth_within, adder_depth, port_depth}
use Rattle.depths.proofs.Sources.{input_low}
use Rattle.depths.proofs.Deepest.{deepest_most, depth_same, depth_few, any_at_most, any_never, any_none, any_some}

module _ (b : Block) where
  -- what an adder's depth is, from its sources' depths
  abbrev pub from_sources : (ℕ → ℕ) → ℕ → ℕ
  from_sources d j = if_any (inputs b (Left j)) (1 + max (inputs_depth d (inputs b (Left j))) (inputs_depth d (inputs b (Right j))))

  pub sources_same : (d f : ℕ → ℕ) (j : ℕ) → ((s : ℕ) → s < j → d s ≡ f s) → from_sources d j ≡ from_sources f j
  sources_same d f j h =
      let l = depth_same d f (inputs b (Left j)) (λ o k. h o.source (input_low b (Left j) o k).lower) in
      let r = depth_same d f (inputs b (Right j)) (λ o k. h o.source (input_low b (Right j) o k).lower) in
      λ i. if_any (inputs b (Left j)) (1 + max (l i) (r i))

  -- an adder that no block can have has no inputs
  pub none_past : (d : ℕ → ℕ) (j : ℕ) → 8 < j → from_sources d j ≡ 0
  none_past d j past = any_never (inputs b (Left j)) _ (λ o h. let k : j ≤ 8 = (input_low b (Left j) o h).possible in omega arith)

  rounds_same : (m n j : ℕ) → j ≤ m → j ≤ n → adder_depth_within m b j ≡ adder_depth_within n b j
  rounds_same m n zero h k = refl
  rounds_same zero n (suc j) h k = absurd (omega arith)
  rounds_same (suc m) zero (suc j) h k = absurd (omega arith)
  rounds_same (suc m) (suc n) (suc j) h k = sources_same (adder_depth_within m b) (adder_depth_within n b) (suc j) (λ s l. rounds_same m n s (omega arith) (omega arith))

  within_few : (m j : ℕ) → adder_depth_within m b j ≤ 5 * m
  within_few m zero = omega arith
  within_few zero (suc j) = omega arith
  within_few (suc m) (suc j) =
      let l = depth_few (adder_depth_within m b) (5 * m) (inputs b (Left (suc j))) (inputs_law.few b (Left (suc j))) (within_few m) in
      let r = depth_few (adder_depth_within m b) (5 * m) (inputs b (Right (suc j))) (inputs_law.few b (Right (suc j))) (within_few m) in
      any_at_most (inputs b (Left (suc j))) _ (5 * suc m) (omega arith)

  pub depths_few : (j : ℕ) → adder_depth b j ≤ 40
  unfolding adder_depth
  depths_few j = within_few 8 j

  pub port_few : (p : Port) → port_depth b p ≤ 44
  port_few p = depth_few (adder_depth b) 40 (inputs b p) (inputs_law.few b p) depths_few

  -- adders past the eighth have no inputs, and neither has the sample
  pub adder_is : (j : ℕ) → adder_depth b j ≡ from_sources (adder_depth b) j
  unfolding adder_depth
  adder_is zero = sym (any_never (inputs b (Left zero)) _ (λ o h. let k : o.source < 0 = (input_low b (Left zero) o h).lower in omega arith))
  adder_is (suc j) =
      elim (cases_lt j 8) [
        | inl l ↦ sources_same (adder_depth_within 7 b) (adder_depth_within 8 b) (suc j) (λ s k. rounds_same 7 8 s (omega arith) (omega arith))
        | inr l ↦ none_past (adder_depth_within 7 b) (suc j) (omega arith) ∙ sym (none_past (adder_depth_within 8 b) (suc j) (omega arith))
      ]

  pub unused_is : (j : ℕ) → length (inputs b (Left j)) ≡ 0 → adder_depth b j ≡ 0
  unused_is j h = adder_is j ∙ any_none (inputs b (Left j)) _ h

  pub used_is : (j : ℕ) → length (inputs b (Left j)) ≢ 0 → adder_depth b j ≡ 1 + max (port_depth b (Left j)) (port_depth b (Right j))
  used_is j h = adder_is j ∙ any_some (inputs b (Left j)) _ h

  pub deepest_few : (os : List Operand) → deepest (adder_depth b) os ≤ 40
  deepest_few os = deepest_most (adder_depth b) 40 os (λ o _. depths_few o.source)
