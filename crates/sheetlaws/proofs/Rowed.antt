-- What the live rows of a block put at its ports.
use Rattle.std.proofs.Common.{get_or, ◌≡◌, ℕ, zero, suc, ◌+◌, ◌-◌, ◌*◌, ◌<◌, ◌≤◌, true, length, is_some, Some, None, Option, sym, refl, ap, ◌∙◌, subst, ⊎_elim, arith}
use Rattle.std.proofs.lemmas.Bool.{cases_lt, cases_eq, false≢true}
use Rattle.adders.specs.declared.wiring.Adder.{Adder}
use Rattle.adders.specs.declared.wiring.Operand.{Operand}
use Rattle.adders.proofs.Broken.{some_none}
use Rattle.adders.specs.Rules.{SoundOperand}
use Rattle.rows.specs.declared.model.Row.{Row}
use Rattle.rows.specs.Reading.{Reads, directly}
use Rattle.rows.specs.Rows.{adder_at}
use Rattle.rows.proofs.Answering.{There, there, row_keeps}
use Rattle.blocks.specs.declared.model.Block.{Block}
use Rattle.blocks.specs.Uses.{row_uses}
use Rattle.blocks.specs.Blocks.{row_of}
use Rattle.ports.specs.declared.port.Port.{Port}
use Rattle.ports.specs.declared.port.Port.TheVariants.{Left, Right, Output}
use Rattle.ports.specs.Ports.{ports_from, nth_port, put_at}
use Rattle.ports.specs.Inputs.{Selected}
use Rattle.ports.proofs.Sides.{left_is, right_is}
use Rattle.texts.proofs.Takes.{some_is}
use Rattle.reading.specs.Limits.{MayRead}
use Rattle.sheetlaws.proofs.RowsRead.{slot_is}

-- the ports of an adder that the block has
sides_there : (n j i : ℕ) → j ≤ i → i < j + n → ((k : ℕ) × (k < 2 * n + 1) × (get_or (ports_from j n) k Output ≡ Left i)) × ((k : ℕ) × (k < 2 * n + 1) × (get_or (ports_from j n) k Output ≡ Right i))
sides_there zero j i low high = absurd (omega arith)
sides_there (suc n) j i low high =
    ⊎_elim {C = ((k : ℕ) × (k < 2 * suc n + 1) × (get_or (ports_from j (suc n)) k Output ≡ Left i)) × ((k : ℕ) × (k < 2 * suc n + 1) × (get_or (ports_from j (suc n)) k Output ≡ Right i))}
    (λ e. ((0, omega arith, ap Left (sym e)), (1, omega arith, ap Right (sym e))))
    (λ ne. let l = sides_there n (suc j) i (omega (arith, ne)) (omega arith) in ((suc (suc l.0.0), omega (arith, l.0.1), l.0.2), (suc (suc l.1.0), omega (arith, l.1.1), l.1.2)))
    (cases_eq i j)

output_there : (n j : ℕ) → get_or (ports_from j n) (2 * n) Output ≡ Output
output_there zero j = refl
output_there (suc n) j = let e : 2 * suc n ≡ suc (suc (2 * n)) = omega arith in ap (λ k. get_or (ports_from j (suc n)) k Output) e ∙ output_there n (suc j)

-- an operand that a live row puts at a port
pub record PutThere (b : Block) (p : Port) (o : Operand) : Type 0 where
  pub listed : (k : ℕ) × (k < 2 * b.adders + 1) × (nth_port b.adders k ≡ p)
  pub lower : MayRead b.adders p o.source
  pub low : o.source ≤ 8
  pub shift : o.shift ≤ 30

module _ (b : Block) (code : ℕ) (r : Row) (here : row_of b code ≡ Some r) where
  -- no adder past the block's is used
  within : (j : ℕ) → is_some (adder_at r j) ≡ true → j ≤ b.adders
  within j used = ⊎_elim {C = j ≤ b.adders} (λ past. absurd (false≢true (sym (sym (ap (λ o. row_uses o j) here) ∙ b.within code j past) ∙ used))) (λ le. le) (cases_lt b.adders j)

  output_within : r.output.source ≤ b.adders
  output_within = by r.output.source refl
    where
      by : (s : ℕ) → r.output.source ≡ s → r.output.source ≤ b.adders
      by zero e = omega arith
      by (suc k) e =
          let few : k < length r.slots = omega (arith, (row_keeps r).source) in
          let read : Reads r.slots r.output.source (suc k) = subst (λ s. Reads r.slots s (suc k)) (sym e) directly in
          let used = (row_keeps r).filled k few read in
          omega (arith, within (suc k) (ap is_some (slot_is r.slots k) ∙ used))

  -- at one side of an adder
  side : (j : ℕ) (p : Port) → ((s : ℕ) → s < j → MayRead b.adders p s) → ((k : ℕ) × (k < 2 * b.adders + 1) × (nth_port b.adders k ≡ p)) → (x : Adder) → There r j x → (o : Operand) → SoundOperand r.slots (suc (j - 1)) o → PutThere b p o
  side j p reads listed x t o s = record { listed = listed; lower = reads o.source (omega (arith, s.lower, t.low)); low = omega (arith, s.lower, t.low, t.high); shift = s.shift }

  put : (p : Port) (o : Operand) → put_at (Some r) p ≡ Some o → PutThere b p o
  put (Left j) o e =
      let x = left_is (adder_at r j) o e in
      let t = there r j x.0 x.1 in
      let few = within j (ap is_some x.1) in
      subst (PutThere b (Left j)) x.2 (side j (Left j) (λ s l. l) (sides_there b.adders 1 j t.low (omega arith)).0 x.0 t x.0.left ((row_keeps r).adders (j - 1) x.0 t.slot).left)
  put (Right j) o e =
      let x = right_is (adder_at r j) o e in
      let t = there r j x.0 x.1 in
      let few = within j (ap is_some x.1) in
      subst (PutThere b (Right j)) x.2 (side j (Right j) (λ s l. l) (sides_there b.adders 1 j t.low (omega arith)).1 x.0 t x.0.right ((row_keeps r).adders (j - 1) x.0 t.slot).right)
  put Output o e =
      subst (PutThere b Output) (some_is r.output o e)
      (record { listed = (2 * b.adders, omega arith, output_there b.adders 1); lower = output_within; low = omega (arith, (row_keeps r).source, r.room); shift = (row_keeps r).shift })

pub put_there : (b : Block) (p : Port) (o : Operand) → Selected b p o → PutThere b p o
put_there b p o s = by (row_of b s.0) refl s.1
  where
    by : (r : Option Row) → row_of b s.0 ≡ r → put_at r p ≡ Some o → PutThere b p o
    by None here e = absurd (some_none (sym e))
    by (Some r) here e = put b s.0 r here p o e
