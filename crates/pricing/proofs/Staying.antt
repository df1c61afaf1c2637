-- An operand that stands at its port already changes nothing there, as long as its value needs no more bits.
use Rattle.std.proofs.Common.{◌≡◌, ℕ, ◌*◌, ◌^◌, ◌<◌, ◌≤◌, List, sym, ap, ◌∙◌, max, arith, subst, ⊎_elim}
use Rattle.std.proofs.lemmas.Bool.{cases_lt}
use Rattle.adders.specs.declared.wiring.Operand.{Operand}
use Rattle.adders.specs.Values.{value}
use Rattle.bits.specs.Bits.{bits}
use Rattle.bits.proofs.Least.{bits_more}
use Rattle.ports.specs.Inputs.{insert, inputs, Among, Ascends}
use Rattle.ports.proofs.Ascending.{inputs_law, has_only, has_kept, insert_ascends, ascending_same}
use Rattle.pricing.specs.declared.net.Net.TheVariants.{OfPort}
use Rattle.pricing.specs.Nets.{operand_value, largest_on}
use Rattle.pricing.specs.Laws.{with_input, with_value, PortStays}
use Rattle.pricing.proofs.Adding.{one_row_more}

-- one that is in the list is not put in again
there_already : (o : Operand) (os : List Operand) → Ascends os → Among o os → insert o os ≡ os
there_already o os a h =
    ascending_same (insert o os) os (insert_ascends o os a) a
    (λ y k. ⊎_elim {C = Among y os} (λ (e : y ≡ o). subst (λ (z : Operand). Among z os) (sym e) h) (λ (m : Among y os). m) (has_only o y os k))
    (λ y k. has_kept o y os k)

bits_of_larger : (v m : ℕ) → bits v ≤ bits m → bits (max v m) ≡ bits m
bits_of_larger v m h =
    ⊎_elim {C = bits (max v m) ≡ bits m}
    (λ (l : v < m). let e : max v m ≡ m = omega arith in ap bits e)
    (λ (l : m ≤ v). let e : max v m ≡ v = omega arith in let g = bits_more m v l in ap bits e ∙ (let same : bits v ≡ bits m = omega arith in same))
    (cases_lt v m)

pub port_stays : PortStays
port_stays code row before after p idle w i =
    let more = one_row_more code row before after idle w in
    let o = i.operand in
    let v = value row.slots o.source * 2 ^ o.shift in
    let was = largest_on before (OfPort p) in
    let largest : largest_on after (OfPort p) ≡ max v was = more.values (OfPort p) ∙ ap (λ x. with_value (operand_value row x) was) i.put in
    let same : bits (largest_on after (OfPort p)) ≡ bits was = ap bits largest ∙ bits_of_larger v was i.no_wider in
    record {
      inputs = more.inputs p ∙ ap (λ x. with_input x (inputs before p)) i.put ∙ there_already o (inputs before p) (inputs_law.these before p).ascending i.there;
      width = omega (arith, w.width, same);
    }
