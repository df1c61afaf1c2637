-- What the parts of a block cost once a row stands at an idle code.
use Rattle.std.proofs.Common.{◌≡◌, ℕ, zero, suc, ◌+◌, ◌*◌, ◌^◌, ◌≤◌, true, ◌||◌, cond, List, [], ◌∷◌, length, is_some, Some, None, sym, refl, ap, ◌∙◌, inl, inr, max, arith}
use Rattle.std.proofs.lemmas.Bool.{le-leb, cases_lt}
use Rattle.adders.specs.declared.wiring.Adder.{Adder}
use Rattle.adders.specs.declared.wiring.Operand.{Operand}
use Rattle.adders.specs.declared.wiring.Sign.{Sign}
use Rattle.adders.specs.declared.wiring.Sign.TheVariants.{Plus, Minus}
use Rattle.adders.specs.Values.{value}
use Rattle.rows.specs.declared.model.Row.{Row}
use Rattle.rows.specs.Rows.{adder_at, row_value_at}
use Rattle.blocks.specs.declared.model.Block.{Block}
use Rattle.blocks.specs.Blocks.{row_of, Rewritten}
use Rattle.bits.specs.Bits.{bits}
use Rattle.bits.proofs.Least.{bits_more}
use Rattle.ports.specs.declared.port.Port.{Port}
use Rattle.ports.specs.declared.port.Port.TheVariants.{Left, Right}
use Rattle.ports.specs.Ports.{operand_at, left_of, right_of}
use Rattle.ports.specs.Inputs.{insert, inputs, Among}
use Rattle.ports.proofs.Ascending.{inputs_law, has_new}
use Rattle.prices.specs.Tables.{AdderTable, MuxTable, Tables, Lawful}
use Rattle.pricing.specs.declared.net.Net.{Net}
use Rattle.pricing.specs.declared.net.Net.TheVariants.{OfAdder, OfPort}
use Rattle.pricing.specs.declared.parts.SignsMet.{SignsMet}
use Rattle.pricing.specs.Nets.{operand_value, value_on, largest_on, width_of}
use Rattle.pricing.specs.Parts.{sign_of, is_sign, met, signs_at, with_sign, kind_of, kind_at}
use Rattle.pricing.specs.Prices.{mux_price, port_price, kind_price, adder_price, adder_with_ports}
use Rattle.pricing.specs.Laws.{OneMore, with_input, with_value}
use Rattle.pricing.proofs.Adding.{one_row_more}
use Rattle.pricing.proofs.Comparing.{width_some, width_few, one_more, part_grows}
use Rattle.rises.specs.Uses.{valued_operand, valued_adder}
use Rattle.rises.specs.Rises.{port_of, adder_of, width_with, has_width, mux_with, port_alone, port_with, kind_with, ports_with, adder_with}

has : (w : ℕ) → 1 ≤ w → w ≤ 63 → has_width w ≡ true
has w a b = rw (le-leb 1 w a) (le-leb w 63 b)

-- a multiplexer that exists costs what the table says
mux_is : (price : MuxTable) (n w : ℕ) → 1 ≤ n → n ≤ 16 → 1 ≤ w → w ≤ 63 → mux_with price n w ≡ mux_price price n w
unfolding mux_with
mux_is price zero w a b c d = absurd (omega arith)
mux_is price (suc n) w a b c d = rw (le-leb 1 (suc n) a, le-leb (suc n) 16 b, has w c d) refl

kind_is : (price : AdderTable) (s : SignsMet) (w : ℕ) → 1 ≤ w → w ≤ 63 → kind_with price s w ≡ kind_price price (kind_of s.adds s.subtracts) w
unfolding kind_with
kind_is price s w a b = rw (has w a b) refl

mux_alone : (price : MuxTable) (n w : ℕ) → n ≤ 16 → 1 ≤ w → w ≤ 63 → mux_with price n w ≡ mux_price price n w
unfolding mux_with
mux_alone price zero w a b c = refl
mux_alone price (suc n) w a b c = mux_is price (suc n) w (omega arith) a b c

-- an adder with its ports costs what is reckoned from what is held
pub priced : (t : Tables) (b : Block) (j : ℕ) → kind_with t.adders (signs_at b j) (b.width + bits (largest_on b (OfAdder j))) + port_alone t.muxes b.width (port_of b (Left j)) + port_alone t.muxes b.width (port_of b (Right j)) ≡ adder_with_ports t b j
unfolding port_price adder_price
priced t b j =
    let a = kind_is t.adders (signs_at b j) (width_of b (OfAdder j)) (width_some b (OfAdder j)) (width_few b (OfAdder j)) in
    let l = mux_alone t.muxes (length (inputs b (Left j))) (width_of b (OfPort (Left j))) (inputs_law.few b (Left j)) (width_some b (OfPort (Left j))) (width_few b (OfPort (Left j))) in
    let r = mux_alone t.muxes (length (inputs b (Right j))) (width_of b (OfPort (Right j))) (inputs_law.few b (Right j)) (width_some b (OfPort (Right j))) (width_few b (OfPort (Right j))) in
    omega arith

some_input : (o : Operand) (os : List Operand) → 1 ≤ length (insert o os)
some_input o os = by (insert o os) (has_new o os)
  where
    by : (xs : List Operand) → Among o xs → 1 ≤ length xs
    by [] h = absurd h
    by (x ∷ xs) h = omega arith

-- the bits of the larger are the larger bits
bits_max : (v m : ℕ) → bits (max v m) ≡ max (bits v) (bits m)
bits_max v m =
    elim (cases_lt v m) [
      | inl less ↦ (let e : max v m ≡ m = omega arith in let more = bits_more v m (omega arith) in ap bits e ∙ (let f : bits m ≡ max (bits v) (bits m) = omega arith in f))
      | inr more ↦ (let e : max v m ≡ v = omega arith in let less = bits_more m v more in ap bits e ∙ (let f : bits v ≡ max (bits v) (bits m) = omega arith in f))
    ]

-- the kind by one sign more
signs_with : (s : Sign) (b after : Block) (j : ℕ) → ((t : Sign) → met t after j ≡ (is_sign t (Some s) || met t b j)) → kind_at after j ≡ kind_of (with_sign s (signs_at b j)).adds (with_sign s (signs_at b j)).subtracts
signs_with Plus b after j h = λ i. kind_of (h Plus i) (h Minus i)
signs_with Minus b after j h = λ i. kind_of (h Plus i) (h Minus i)

module _ (code : ℕ) (row : Row) (before after : Block) (idle : row_of before code ≡ None) (w : Rewritten before code (Some row) after) where
  changes : OneMore row before after
  changes = one_row_more code row before after idle w

  -- the width of a net that the row has a value on
  width_after : (n : Net) (v : ℕ) → value_on (Some row) n ≡ Some v → width_of after n ≡ width_with before.width (bits v) (bits (largest_on before n))
  width_after n v e = (λ i. w.width i + bits ((changes.values n ∙ ap (λ o. with_value o (largest_on before n)) e) i)) ∙ ap (λ x. before.width + x) (bits_max v (largest_on before n))

  width_same : (n : Net) → value_on (Some row) n ≡ None → width_of after n ≡ width_of before n
  width_same n e = λ i. w.width i + bits ((changes.values n ∙ ap (λ o. with_value o (largest_on before n)) e) i)

  module _ (t : Tables) where
    pub port_after : (p : Port) (o : Operand) → operand_at row p ≡ Some o → port_price t.muxes after p ≡ port_with t.muxes before.width (port_of before p) (valued_operand row o)
    unfolding port_price
    port_after p o e =
        let v = value row.slots o.source * 2 ^ o.shift in
        let same : inputs after p ≡ insert o (inputs before p) = changes.inputs p ∙ ap (λ x. with_input x (inputs before p)) e in
        let wide = width_after (OfPort p) v (ap (operand_value row) e) in
        let few : length (insert o (inputs before p)) ≤ 16 = omega (arith, inputs_law.few after p, ap length same) in
        let some : 1 ≤ width_with before.width (bits v) (bits (largest_on before (OfPort p))) = omega (arith, width_some after (OfPort p), wide) in
        let narrow : width_with before.width (bits v) (bits (largest_on before (OfPort p))) ≤ 63 = omega (arith, width_few after (OfPort p), wide) in
        (λ i. mux_price t.muxes (length (same i)) (wide i)) ∙ sym (mux_is t.muxes (length (insert o (inputs before p))) _ (some_input o (inputs before p)) few some narrow)

    port_same : (p : Port) → operand_at row p ≡ None → port_price t.muxes after p ≡ port_price t.muxes before p
    unfolding port_price
    port_same p e =
        let same : inputs after p ≡ inputs before p = changes.inputs p ∙ ap (λ x. with_input x (inputs before p)) e in
        let wide = width_same (OfPort p) (ap (operand_value row) e) in λ i. mux_price t.muxes (length (same i)) (wide i)

    adder_same : (j : ℕ) → adder_at row j ≡ None → adder_price t.adders after j ≡ adder_price t.adders before j
    unfolding adder_price
    adder_same j e =
        let plus : met Plus after j ≡ met Plus before j = changes.signs Plus j ∙ ap (λ x. is_sign Plus (sign_of x) || met Plus before j) e in
        let minus : met Minus after j ≡ met Minus before j = changes.signs Minus j ∙ ap (λ x. is_sign Minus (sign_of x) || met Minus before j) e in
        let none : row_value_at row j ≡ None = ap (λ x. cond (is_some x) (Some (value row.slots j)) None) e in
        let wide = width_same (OfAdder j) none in λ i. kind_price t.adders (kind_of (plus i) (minus i)) (wide i)

    -- an adder that the row does not use
    pub unused : (j : ℕ) → adder_at row j ≡ None → adder_with_ports t after j ≡ adder_with_ports t before j
    unused j e =
        let a = adder_same j e in
        let l = port_same (Left j) (ap left_of e) in
        let r = port_same (Right j) (ap right_of e) in
        λ i. a i + (l i + r i)

    adder_after : (j : ℕ) (a : Adder) → adder_at row j ≡ Some a → adder_price t.adders after j ≡ kind_with t.adders (with_sign a.sign (signs_at before j)) (width_with before.width (bits (value row.slots j)) (bits (largest_on before (OfAdder j))))
    unfolding adder_price
    adder_after j a e =
        let kind = signs_with a.sign before after j (λ s. changes.signs s j ∙ ap (λ x. is_sign s (sign_of x) || met s before j) e) in
        let some : row_value_at row j ≡ Some (value row.slots j) = ap (λ x. cond (is_some x) (Some (value row.slots j)) None) e in
        let wide = width_after (OfAdder j) (value row.slots j) some in
        let low : 1 ≤ width_with before.width (bits (value row.slots j)) (bits (largest_on before (OfAdder j))) = omega (arith, width_some after (OfAdder j), wide) in
        let narrow : width_with before.width (bits (value row.slots j)) (bits (largest_on before (OfAdder j))) ≤ 63 = omega (arith, width_few after (OfAdder j), wide) in
        (λ i. kind_price t.adders (kind i) (wide i)) ∙ sym (kind_is t.adders (with_sign a.sign (signs_at before j)) _ low narrow)

    -- an adder that the row uses
    pub used : (j : ℕ) (a : Adder) → adder_at row j ≡ Some a → adder_with_ports t after j ≡ adder_with t before.width (adder_of t before j) (valued_adder row j a)
    unfolding ports_with
    used j a e =
        let x = adder_after j a e in
        let l = port_after (Left j) a.left (ap left_of e) in
        let r = port_after (Right j) a.right (ap right_of e) in
        λ i. x i + (l i + r i)

    pub no_less : Lawful t → (j : ℕ) → adder_with_ports t before j ≤ adder_with_ports t after j
    no_less law j = part_grows before after (one_more before after code row idle w) t law j
