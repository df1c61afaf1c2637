-- The inputs that rows select, port by port.
use Rattle.std.proofs.Common.{◌≡◌, ℕ, suc, ◌+◌, ◌*◌, ◌<◌, ◌≤◌, Bool, true, false, cond, List, [], ◌∷◌, map, drop, Some, None, Option, Ok, Err, sym, refl, ap, ◌∙◌, arith}
use Rattle.std.specs.List.{list_all, list_any}
use Rattle.std.specs.Prelude.{option_map}
use Rattle.adders.specs.declared.refusals.Refusal.TheVariants.{InputUnselected}
use Rattle.adders.specs.declared.wiring.Operand.{Operand}
use Rattle.rows.specs.declared.model.Row.{Row}
use Rattle.blocks.specs.declared.model.Block.{Block}
use Rattle.ports.specs.declared.port.Port.{Port}
use Rattle.ports.specs.declared.port.Port.TheVariants.{Left, Right, Output}
use Rattle.ports.specs.Ports.{ports, nth_port, put_at}
use Rattle.ports.specs.Inputs.{same, different, inputs}
use Rattle.reading.specs.Orders.{Orders}
use Rattle.reading.specs.Data.{data_of, rows_of, put_data}
use Rattle.reading.specs.Reader.{data_inputs, all_selected, check_ports}
use Rattle.reading.proofs.PortOrder.{next_port, no_port}

-- a row puts the same at a port as its data
pub same_put : (r : Option Row) (p : Port) → put_data (option_map data_of r) p ≡ put_at r p
same_put None p = refl
same_put (Some r) (Left j) = refl
same_put (Some r) (Right j) = refl
same_put (Some r) Output = refl

same_column : (rows : List (Option Row)) (p : Port) → map (λ r. put_data r p) (map (option_map data_of) rows) ≡ map (λ r. put_at r p) rows
same_column [] p = refl
same_column (r ∷ rows) p = ap (λ x. x ∷ map (λ r. put_data r p) (map (option_map data_of) rows)) (same_put r p) ∙ ap (λ xs. put_at r p ∷ xs) (same_column rows p)

pub same_inputs : (b : Block) (p : Port) → data_inputs (rows_of b) p ≡ inputs b p
same_inputs b p = ap different (same_column b.table.rows p)

-- the test of one port
tested : (b : Block) (p : Port) (os : List Operand) → all_selected (rows_of b) p os ≡ list_all (λ o. list_any (same o) (inputs b p)) os
tested b p os = ap (λ ys. list_all (λ o. list_any (same o) ys) os) (same_inputs b p)

module _ (b : Block) (orders : Orders) (a k : ℕ) where
  module _ (some : k < 2 * a + 1) (p : Port) (this : p ≡ nth_port a k) (os : List Operand) (lists : os ≡ orders p) where
    here : (t : Bool) → list_all (λ o. list_any (same o) (inputs b p)) os ≡ t → all_selected (rows_of b) (nth_port a k) (orders (nth_port a k)) ≡ t
    here t e = ap (λ q. all_selected (rows_of b) q (orders q)) (sym this) ∙ tested b p (orders p) ∙ ap (list_all (λ o. list_any (same o) (inputs b p))) (sym lists) ∙ e

    pub not_selected : list_all (λ o. list_any (same o) (inputs b p)) os ≡ false → check_ports (rows_of b) orders (3 + k) (drop k (ports a)) ≡ Err (InputUnselected (3 + k))
    not_selected e = ap (check_ports (rows_of b) orders (3 + k)) (next_port a k some) ∙ ap (λ t. cond t (check_ports (rows_of b) orders (suc (3 + k)) (drop (k + 1) (ports a))) (Err (InputUnselected (3 + k)))) (here false e)

    pub selected_there : list_all (λ o. list_any (same o) (inputs b p)) os ≡ true → check_ports (rows_of b) orders (3 + (k + 1)) (drop (k + 1) (ports a)) ≡ check_ports (rows_of b) orders (3 + k) (drop k (ports a))
    selected_there e =
        let n : suc (3 + k) ≡ 3 + (k + 1) = omega arith in
        ap (λ m. check_ports (rows_of b) orders m (drop (k + 1) (ports a))) (sym n)
        ∙ sym (ap (check_ports (rows_of b) orders (3 + k)) (next_port a k some) ∙ ap (λ t. cond t (check_ports (rows_of b) orders (suc (3 + k)) (drop (k + 1) (ports a))) (Err (InputUnselected (3 + k)))) (here true e))

  pub all_checked : 2 * a + 1 ≤ k → check_ports (rows_of b) orders (3 + k) (drop k (ports a)) ≡ Ok tt
  all_checked all = ap (check_ports (rows_of b) orders (3 + k)) (no_port a k all)
