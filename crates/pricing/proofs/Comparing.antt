-- A block with some of the rows of another costs no more.
use Rattle.std.proofs.Common.{◌≡◌, ℕ, zero, suc, ◌-◌, ◌≤◌, Bool, true, false, length, Some, None, Ok, Err, Option, Result, sym, refl, ap, inl, inr, arith}
use Rattle.adders.specs.declared.refusals.Refusal.{Refusal}
use Rattle.adders.specs.declared.wiring.Sign.{Sign}
use Rattle.adders.specs.declared.wiring.Sign.TheVariants.{Plus, Minus}
use Rattle.rows.specs.declared.model.Row.{Row}
use Rattle.blocks.specs.declared.model.Block.{Block}
use Rattle.blocks.specs.Blocks.{row_of, Rewritten}
use Rattle.blocks.specs.Calls.{retiring, Step}
use Rattle.ports.specs.declared.port.Port.{Port}
use Rattle.ports.specs.declared.port.Port.TheVariants.{Left, Right, Output}
use Rattle.ports.specs.Inputs.{inputs}
use Rattle.ports.proofs.Ascending.{inputs_law}
use Rattle.ports.proofs.Fewer.{there_too, more_inputs, row_less, row_more}
use Rattle.bits.proofs.Least.{bits_more, bits_few}
use Rattle.prices.specs.declared.adder.AdderKind.{AdderKind}
use Rattle.prices.specs.declared.adder.AdderKind.TheVariants.{Adds, Subtracts}
use Rattle.prices.specs.Tables.{AdderTable, MuxTable, LawfulAdders, LawfulMuxes, Tables, Lawful}
use Rattle.pricing.specs.declared.net.Net.{Net}
use Rattle.pricing.specs.declared.net.Net.TheVariants.{OfAdder, OfPort}
use Rattle.pricing.specs.Nets.{value_on, largest_on, width_of}
use Rattle.pricing.specs.Parts.{sign_used, met, kind_of, kind_at}
use Rattle.pricing.specs.Prices.{mux_price, port_price, kind_price, adder_price, adder_with_ports, total, block_price}
use Rattle.pricing.specs.Laws.{NeverDearer, SomeRowsOf, Saved, RowsNeverCheapen, CallsNeverCheapen}
use Rattle.pricing.proofs.Operands.{value_small}
use Rattle.pricing.proofs.Meanings.{values_law, signs_law}

-- Widths.

pub largest_small : (b : Block) (n : Net) → largest_on b n ≤ 2147483647
largest_small b n =
    elim (values_law b n).reached [
      | inl e ↦ omega arith
      | inr h ↦ value_small (row_of b h.0) n (largest_on b n) h.1
    ]

pub width_some : (b : Block) (n : Net) → 1 ≤ width_of b n
width_some b n = omega (arith, b.some_bits)

pub width_few : (b : Block) (n : Net) → width_of b n ≤ 63
width_few b n = omega (arith, b.few_bits, bits_few (largest_on b n) (largest_small b n))

-- Parts of two blocks, of which one has some of the other's rows.

module _ (a b : Block) (some : SomeRowsOf a b) where
  wider : (n : Net) → width_of a n ≤ width_of b n
  wider n = let larger = bits_more (largest_on a n) (largest_on b n) under in omega (arith, some.width, larger)
    where
      under : largest_on a n ≤ largest_on b n
      under =
          elim (values_law a n).reached [
            | inl e ↦ omega arith
            | inr h ↦ (values_law b n).least h.0 (largest_on a n) (there_too a b some.rows (λ r. value_on r n) h.0 (largest_on a n) refl h.1)
          ]

  more_signs : (s : Sign) (j : ℕ) → met s a j ≡ true → met s b j ≡ true
  more_signs s j e = let r = (signs_law s a j).found e in (signs_law s b j).counted r.0 (there_too a b some.rows (λ r. sign_used r j) r.0 s refl r.1)

-- Prices.

mux_grows : (price : MuxTable) → LawfulMuxes price → (m n v w : ℕ) → m ≤ n → n ≤ 16 → 1 ≤ v → v ≤ w → w ≤ 63 → mux_price price m v ≤ mux_price price n w
mux_grows price law zero n v w h few some more most = omega arith
mux_grows price law (suc m) zero v w h few some more most = absurd (omega arith)
mux_grows price law (suc m) (suc n) v w h few some more most =
    let x : price (suc m) v ≤ price (suc n) v = law.more (suc m) (suc n) v (omega arith) h few some (omega arith) in
    let y : price (suc n) v ≤ price (suc n) w = law.wider (suc n) v w (omega arith) few some more most in omega arith

module _ (price : AdderTable) (law : LawfulAdders price) where
  kind_wider : (k : Option AdderKind) (v w : ℕ) → 1 ≤ v → v ≤ w → w ≤ 63 → kind_price price k v ≤ kind_price price k w
  kind_wider None v w a b c = omega arith
  kind_wider (Some k) v w a b c = law.wider k v w a b c

  kind_more : (w : ℕ) → 1 ≤ w → w ≤ 63 → (p q r s : Bool) → (p ≡ true → r ≡ true) → (q ≡ true → s ≡ true) → kind_price price (kind_of p q) w ≤ kind_price price (kind_of r s) w
  kind_more w a b false false r s f g = omega arith
  kind_more w a b true true r s f g = rw (f refl, g refl) (omega arith)
  kind_more w a b true false r true f g = rw (f refl) (law.both Adds w a b)
  kind_more w a b true false r false f g = rw (f refl) (omega arith)
  kind_more w a b false true true s f g = rw (g refl) (law.both Subtracts w a b)
  kind_more w a b false true false s f g = rw (g refl) (omega arith)

pub total_grows : (f g : ℕ → ℕ) (n : ℕ) → ((j : ℕ) → f j ≤ g j) → total f n ≤ total g n
total_grows f g zero h = omega arith
total_grows f g (suc n) h = omega (arith, total_grows f g n h, h (suc n))

module _ (a b : Block) (some : SomeRowsOf a b) where
  pub ports_grow : (price : MuxTable) → LawfulMuxes price → (p : Port) → port_price price a p ≤ port_price price b p
  unfolding port_price
  ports_grow price law p =
      let n : Net = OfPort p in
      mux_grows price law (length (inputs a p)) (length (inputs b p)) (width_of a n) (width_of b n) (more_inputs a b some.rows p) (inputs_law.few b p) (width_some a n) (wider a b some n) (width_few b n)

  adders_grow : (price : AdderTable) → LawfulAdders price → (j : ℕ) → adder_price price a j ≤ adder_price price b j
  unfolding adder_price
  adders_grow price law j =
      let n : Net = OfAdder j in
      let wide : kind_price price (kind_at a j) (width_of a n) ≤ kind_price price (kind_at a j) (width_of b n) = kind_wider price law (kind_at a j) (width_of a n) (width_of b n) (width_some a n) (wider a b some n) (width_few b n) in
      let more : kind_price price (kind_at a j) (width_of b n) ≤ kind_price price (kind_at b j) (width_of b n) =
      kind_more price law (width_of b n) (width_some b n) (width_few b n) (met Plus a j) (met Minus a j) (met Plus b j) (met Minus b j) (more_signs a b some Plus j) (more_signs a b some Minus j) in
      omega arith

  pub part_grows : (t : Tables) → Lawful t → (j : ℕ) → adder_with_ports t a j ≤ adder_with_ports t b j
  part_grows t law j =
      let x = adders_grow t.adders law.adders j in
      let y = ports_grow t.muxes law.muxes (Left j) in
      let z = ports_grow t.muxes law.muxes (Right j) in omega arith

  pub never_cheapen : NeverDearer a b
  never_cheapen t law =
      let sum = total_grows (adder_with_ports t a) (adder_with_ports t b) a.adders (part_grows t law) in
      let out = ports_grow t.muxes law.muxes Output in
      let same : total (adder_with_ports t b) a.adders ≡ total (adder_with_ports t b) b.adders = ap (total (adder_with_ports t b)) some.adders in
      omega arith

pub rows_never_cheapen : RowsNeverCheapen
rows_never_cheapen = never_cheapen

-- Calls.

module _ (before after : Block) (code : ℕ) where
  pub one_less : Rewritten before code None after → SomeRowsOf after before
  one_less w = record { adders = w.adders; width = w.width; rows = row_less before after code w }

  pub one_more : (row : Row) → row_of before code ≡ None → Rewritten before code (Some row) after → SomeRowsOf before after
  one_more row idle w = record { adders = sym w.adders; width = sym w.width; rows = row_more before after code row idle w }

pub same_never_dearer : (a b : Block) → a ≡ b → NeverDearer a b
same_never_dearer a b e t law = let same = ap (block_price t) e in omega arith

retired : (code : ℕ) (before after : Block) (r : Result Unit Refusal) → Step (retiring code) before r after → NeverDearer after before
retired code before after (Ok u) step = never_cheapen after before (one_less before after code step.1)
retired code before after (Err e) step = same_never_dearer after before step.1

pub calls_never_cheapen : CallsNeverCheapen
calls_never_cheapen = record {
  retired = retired;
  added = λ code row before after idle w. never_cheapen before after (one_more before after code row idle w);
}

-- A retiring that tells what it saves.

module _ (t : Tables) (law : Lawful t) (before after : Block) (code p q : ℕ) (w : Rewritten before code None after) (was : p ≡ block_price t before) (is : q ≡ block_price t after) where
  pub no_more : q ≤ p
  no_more = let less = never_cheapen after before (one_less before after code w) t law in omega arith

  pub saves : Saved t before code (p - q) after
  saves = record { rest = w; saved = omega (arith, no_more) }
