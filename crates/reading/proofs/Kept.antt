-- The lists of the ports.
use Rattle.std.proofs.Common.{◌≡◌, ℕ, zero, suc, List, [], replicate, get_or, refl, ap, ◌∙◌}
use Rattle.adders.specs.declared.wiring.Operand.{Operand}
use Rattle.reading.specs.declared.lists.PortLists.{PortLists}
use Rattle.reading.specs.Orders.{lists_of, place_of, no_lines}

empty_at : (n k : ℕ) → get_or {A = List Operand} (replicate n []) k [] ≡ []
empty_at zero k = refl
empty_at (suc n) zero = refl
empty_at (suc n) (suc k) = empty_at n k

pub none_listed : (l : PortLists) → l.lists ≡ replicate 17 [] → lists_of l ≡ no_lines
none_listed l e = λ i p. (ap (λ ls. get_or ls (place_of p) []) e ∙ empty_at 17 (place_of p)) i
