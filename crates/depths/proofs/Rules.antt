-- The depths follow their rules, and no others do.
use Rattle.std.proofs.Common.{◌≡◌, ℕ, zero, suc, ◌+◌, ◌<◌, max, true, List, [], ◌∷◌, length, is_some, Some, None, Option, refl, sym, ap, ◌∙◌, subst, inl, arith}
use Rattle.std.proofs.lemmas.Bool.{false≢true}
use Rattle.adders.specs.declared.wiring.Adder.{Adder}
use Rattle.adders.specs.declared.wiring.Operand.{Operand}
use Rattle.adders.proofs.Broken.{some_none}
use Rattle.rows.specs.declared.model.Row.{Row}
use Rattle.rows.specs.Rows.{adder_at}
use Rattle.blocks.specs.declared.model.Block.{Block}
use Rattle.blocks.specs.Blocks.{row_of}
use Rattle.blocks.specs.Uses.{row_uses}
use Rattle.ports.specs.declared.port.Port.{Port}
use Rattle.ports.specs.declared.port.Port.TheVariants.{Left, Right}
use Rattle.ports.specs.Ports.{left_of, put_at}
use Rattle.ports.specs.Inputs.{inputs, Among}
use Rattle.ports.proofs.Ascending.{inputs_law}
use Rattle.bits.specs.Bits.{bits}
use Rattle.depths.specs.Depths.{deepest, inputs_depth, if_any, adder_depth, port_depth}
use Rattle.depths.specs.DepthLaws.{IsUsed, IsDeepest, FollowsRules, DepthsFollow}
use Rattle.depths.proofs.Sources.{input_low}
use Rattle.depths.proofs.Deepest.{depth_same, deepest_most, deepest_over, deepest_reached, depth_is, any_there, any_never}
use Rattle.depths.proofs.Rounds.{from_sources, sources_same, adder_is}

-- an adder that a row uses has its left operand there
used_left : (a : Option Adder) → is_some a ≡ true → (o : Operand) × (left_of a ≡ Some o)
used_left None e = absurd (false≢true e)
used_left (Some x) e = (x.left, refl)

left_used : (a : Option Adder) (o : Operand) → left_of a ≡ Some o → is_some a ≡ true
left_used None o e = absurd (some_none (sym e))
left_used (Some x) o e = refl

row_used_left : (r : Option Row) (j : ℕ) → row_uses r j ≡ true → (o : Operand) × (put_at r (Left j) ≡ Some o)
row_used_left None j e = absurd (false≢true e)
row_used_left (Some r) j e = used_left (adder_at r j) e

row_left_used : (r : Option Row) (j : ℕ) (o : Operand) → put_at r (Left j) ≡ Some o → row_uses r j ≡ true
row_left_used None j o e = absurd (some_none (sym e))
row_left_used (Some r) j o e = left_used (adder_at r j) o e

module _ (b : Block) (j : ℕ) where
  used_input : IsUsed b j → (o : Operand) × Among o (inputs b (Left j))
  used_input u =
      let l = row_used_left (row_of b u.0) j u.1 in
      (l.0, (inputs_law.these b (Left j)).all l.0 (u.0, l.1))

  input_used : (o : Operand) → Among o (inputs b (Left j)) → IsUsed b j
  input_used o h =
      let s = (inputs_law.these b (Left j)).only o h in
      (s.0, row_left_used (row_of b s.0) j o s.1)

-- the deepest source, as a relation and as a value
deepest_one : (b : Block) (d : ℕ → ℕ) (p : Port) (m : ℕ) → IsDeepest b d p m → deepest d (inputs b p) ≡ m
deepest_one b d p m h = omega (arith, h.reached, deepest_over d (inputs b p) h.input h.among, deepest_most d m (inputs b p) h.most)

these : (b : Block) → FollowsRules b (adder_depth b) (port_depth b)
these b = record {
  sample = adder_is b 0 ∙ any_never (inputs b (Left 0)) _ (λ o h. let k : o.source < 0 = (input_low b (Left 0) o h).lower in omega arith);
  unused = λ j h. adder_is b j ∙ any_never (inputs b (Left j)) _ (λ o k. h (input_used b j o k));
  used = λ j u. let i = used_input b j u in adder_is b j ∙ any_there i.0 (inputs b (Left j)) _ i.1;
  no_inputs = λ p e. ap (inputs_depth (adder_depth b)) e;
  some_inputs = λ p m h. sym (depth_is (adder_depth b) (inputs b p)) ∙ ap (λ n. bits (length (inputs b p)) + n) (deepest_one b (adder_depth b) p m h);
}

module _ (b : Block) (d : ℕ → ℕ) (e : Port → ℕ) (follows : FollowsRules b d e) where
  -- a port's depth is what its sources' depths make it
  port_from : (p : Port) (os : List Operand) → inputs b p ≡ os → e p ≡ inputs_depth d os
  port_from p [] is = follows.no_inputs p is
  port_from p (o ∷ os) is =
      let r = deepest_reached d o os in
      follows.some_inputs p (deepest d (o ∷ os)) (record {
        input = r.0;
        among = subst (Among r.0) (sym is) r.1;
        reached = r.2;
        most = λ x h. deepest_over d (o ∷ os) x (subst (Among x) is h);
      })
      ∙ ap (λ xs. bits (length xs) + deepest d (o ∷ os)) is

  adder_from : (j : ℕ) (os : List Operand) → inputs b (Left j) ≡ os → d j ≡ from_sources b d j
  adder_from j [] is =
      follows.unused j (λ u. let i = used_input b j u in absurd (subst (Among i.0) is i.1)) ∙ sym (ap (λ xs. if_any xs (1 + max (inputs_depth d (inputs b (Left j))) (inputs_depth d (inputs b (Right j))))) is)
  adder_from j (o ∷ os) is =
      let among : Among o (inputs b (Left j)) = subst (Among o) (sym is) (inl refl) in
      follows.used j (input_used b j o among)
      ∙ (λ i. 1 + max (port_from (Left j) (inputs b (Left j)) refl i) (port_from (Right j) (inputs b (Right j)) refl i))
      ∙ sym (any_there o (inputs b (Left j)) _ among)

  below : (n j : ℕ) → j < n → d j ≡ adder_depth b j
  below zero j h = absurd (omega arith)
  below (suc n) j h = adder_from j (inputs b (Left j)) refl ∙ sources_same b d (adder_depth b) j (λ s k. below n s (omega arith)) ∙ sym (adder_is b j)

  alone : ((j : ℕ) → d j ≡ adder_depth b j) × ((p : Port) → e p ≡ port_depth b p)
  alone =
      let each : (j : ℕ) → d j ≡ adder_depth b j = λ j. below (j + 1) j (omega arith) in
      (each, λ p. port_from p (inputs b p) refl ∙ depth_same d (adder_depth b) (inputs b p) (λ o h. each o.source))

pub depths_follow : DepthsFollow
depths_follow = record { these = these; alone = alone; block = λ b. refl }
