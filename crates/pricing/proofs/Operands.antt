-- The operands that a row puts at its ports.
use Rattle.std.proofs.Common.{◌≡◌, ℕ, ◌-◌, ◌*◌, ◌^◌, ◌%◌, ◌<◌, ◌≤◌, List, get_or, Some, None, Option, is_some, cond, sym, refl, ap, ◌∙◌, subst, arith}
use Rattle.adders.specs.declared.wiring.Adder.{Adder}
use Rattle.adders.specs.declared.wiring.Operand.{Operand}
use Rattle.adders.proofs.Broken.{some_none}
use Rattle.adders.specs.Values.{sample, value, values_from}
use Rattle.adders.specs.Rules.{InRange}
use Rattle.rows.specs.declared.model.Row.{Row}
use Rattle.rows.specs.Rows.{adder_at}
use Rattle.rows.proofs.Answering.{row_keeps, there, told_value}
use Rattle.ports.specs.declared.port.Port.{Port}
use Rattle.ports.specs.declared.port.Port.TheVariants.{Left, Right, Output}
use Rattle.ports.specs.Ports.{operand_at}
use Rattle.pricing.specs.declared.net.Net.{Net}
use Rattle.pricing.specs.declared.net.Net.TheVariants.{OfAdder, OfPort}
use Rattle.pricing.specs.Nets.{operand_value, value_on}
use Rattle.ports.proofs.Sides.{left_is, right_is}

pub some_same : {A : Type 0} {x y : A} → Some x ≡ Some y → x ≡ y
some_same {A} {x} e = ap (λ o. of x o) e
  where
    of : A → Option A → A
    of d None = d
    of d (Some z) = z

record Within (r : Row) (o : Operand) : Type 0 where
  pub source : o.source < 9
  pub shift : o.shift ≤ 30
  pub range : InRange (value r.slots o.source * 2 ^ o.shift)

put_within : (r : Row) (p : Port) (o : Operand) → operand_at r p ≡ Some o → Within r o
put_within r (Left j) o e =
    let a = left_is (adder_at r j) o e in
    let t = there r j a.0 a.1 in
    let s = ((row_keeps r).adders (j - 1) a.0 t.slot).left in
    subst (Within r) a.2 (record { source = omega (arith, s.lower, t.high); shift = s.shift; range = s.range })
put_within r (Right j) o e =
    let a = right_is (adder_at r j) o e in
    let t = there r j a.0 a.1 in
    let s = ((row_keeps r).adders (j - 1) a.0 t.slot).right in
    subst (Within r) a.2 (record { source = omega (arith, s.lower, t.high); shift = s.shift; range = s.range })
put_within r Output o e =
    let k = row_keeps r in
    let same : r.output ≡ o = some_same e in
    subst (Within r) same (record { source = omega (arith, k.source, r.room); shift = k.shift; range = k.range })

module _ (r : Row) (p : Port) (o : Operand) (put : Some o ≡ operand_at r p) where
  pub put_low : o.source < 9
  put_low = (put_within r p o (sym put)).source

  pub put_shift : o.shift < 32
  put_shift = omega (arith, (put_within r p o (sym put)).shift)

  module _ (vs : List ℕ) (all : vs ≡ values_from sample r.slots) where
    put_is : get_or vs o.source 0 * 2 ^ o.shift % 4294967296 ≡ value r.slots o.source * 2 ^ o.shift
    put_is =
        let w = (put_within r p o (sym put)).range in
        ap (λ us. get_or us o.source 0 * 2 ^ o.shift % 4294967296) all ∙ omega (arith, w.1)

    pub put_value : Some (get_or vs o.source 0 * 2 ^ o.shift % 4294967296) ≡ operand_value r (operand_at r p)
    put_value = ap Some put_is ∙ ap (operand_value r) put

    pub put_range : InRange (get_or vs o.source 0 * 2 ^ o.shift % 4294967296)
    put_range = subst InRange (sym put_is) (put_within r p o (sym put)).range

-- every value that a live row has somewhere is in range
pub value_small : (r : Option Row) (n : Net) (v : ℕ) → value_on r n ≡ Some v → v ≤ 2147483647
value_small None n v e = absurd (some_none (sym e))
value_small (Some r) (OfAdder j) v e = by_adder (adder_at r j) refl e
  where
    by_adder : (a : Option Adder) → adder_at r j ≡ a → cond (is_some a) (Some (value r.slots j)) None ≡ Some v → v ≤ 2147483647
    by_adder None is f = absurd (some_none (sym f))
    by_adder (Some a) is f = let small = (told_value r j a (values_from sample r.slots) (sym is) refl).range in let same : value r.slots j ≡ v = some_same f in omega (arith, small.1)
value_small (Some r) (OfPort p) v e = by_operand (operand_at r p) refl e
  where
    by_operand : (o : Option Operand) → operand_at r p ≡ o → operand_value r o ≡ Some v → v ≤ 2147483647
    by_operand None is f = absurd (some_none (sym f))
    by_operand (Some o) is f = let small = (put_within r p o is).range in let same : value r.slots o.source * 2 ^ o.shift ≡ v = some_same f in omega (arith, small.1)
