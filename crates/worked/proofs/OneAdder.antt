-- The worked block of one adder.
use Rattle.std.proofs.Common.{◌≡◌, ℕ, ◌<◌, ◌≤◌, Bool, true, false, List, [], ◌∷◌, length, get_or, sym, refl, ap, subst, lit≤, pos, codes, arith}
use Rattle.std.specs.List.{AllByRecursion}
use Rattle.adders.specs.declared.wiring.Adder.{Adder}
use Rattle.adders.specs.declared.wiring.Sign.TheVariants.{Plus}
use Rattle.chains.specs.declared.model.Chain.{Chain}
use Rattle.chains.specs.Chains.{chain_adders}
use Rattle.chains.specs.Rules.{eight_slots}
use Rattle.moves.specs.Moves.{moved_from, moved_operand}
use Rattle.rows.specs.declared.model.Row.{Row}
use Rattle.rows.specs.Rows.{RowOf}
use Rattle.blocks.specs.declared.model.Block.{Block}
use Rattle.blocks.specs.Calls.{moving, Done}
use Rattle.blocks.specs.Filling.{uses_none_past}
use Rattle.ports.specs.Inputs.{precedes}
use Rattle.prices.specs.Supplied.{count_list}
use Rattle.pricing.specs.Prices.{block_price, port_price, adder_price}
use Rattle.placing.specs.Placements.{Placement, Admissible, Placed}
use Rattle.placing.specs.Slots.{at_places, placed_slots, placed_output}
use Rattle.fusing.specs.Fusing.{Chosen}
use Rattle.worked.specs.Blocks.{Fact, count, costs, shows, multiplies, Holds, Built, TwoRows}
use Rattle.worked.specs.Cases.{six_and_ten, Stands}
use Rattle.worked.proofs.Lines.{chain, is_read}
use Rattle.worked.proofs.Pairs.{laid, alone, pair, moved}
use Rattle.worked.proofs.Building.{facts_of, no_cheaper, own_chosen, built, stands_at, has_rows, one}

abbrev pub add : (i s j t : ℕ) → Adder
add i s j t = record { left = record { source = i; shift = s }; sign = Plus; right = record { source = j; shift = t } }

abbrev first : Chain
first = chain (add 0 1 0 2 ∷ []) 0 refl

abbrev second : Chain
second = chain (add 0 0 0 2 ∷ []) 1 refl

-- the second once it is moved
abbrev third : Chain
third = chain (add 0 1 0 3 ∷ []) 0 refl

abbrev at : Bool → Placement
at s = at_places (1 ∷ []) (s ∷ [])

abbrev row : Row
row = laid (eight_slots (chain_adders first)) (record { source = 1; shift = 0 }) refl refl

abbrev placed_at : Bool → Row
placed_at false = laid (placed_slots (at false) (chain_adders second)) (placed_output (at false) second) refl refl
placed_at true = laid (placed_slots (at true) (chain_adders second)) (placed_output (at true) second) refl refl

module _ (w : ℕ) (some : 1 ≤ w) (most : w ≤ 32) where
  abbrev before : Block
  before = alone 1 w (lit≤ tt) some most row refl

  -- there is one place, and the operands may be swapped
  forced : (q : Placement) → Admissible before second q → (s : Bool) × (q ≡ at s)
  forced q adm = by q.places q.swaps adm.each_placed adm.each_told adm.inside
    where
      by : (ps : List ℕ) (ss : List Bool) → length ps ≡ 1 → length ss ≡ 1 → ((d : ℕ) → d < length ps → (1 ≤ get_or ps d 0) × (get_or ps d 0 ≤ 1)) → (s : Bool) × (at_places ps ss ≡ at s)
      by (p ∷ []) (s ∷ []) e f inside = let i = inside 0 (omega arith) in let one : p ≡ 1 = omega arith in (s, λ i. at_places (one i ∷ []) (s ∷ []))
      by [] ss e f inside = absurd (omega arith)
      by (p ∷ q ∷ ps) ss e f inside = absurd (omega arith)
      by (p ∷ []) [] e f inside = absurd (omega arith)
      by (p ∷ []) (s ∷ t ∷ ss) e f inside = absurd (omega arith)

  abbrev with_row : (s : Row) → uses_none_past 1 s ≡ true → Block
  with_row s h = pair 1 w (lit≤ tt) some most row refl s h

  abbrev left : Block
  left = with_row (placed_at false) refl

  price_left : block_price count_list left ≡ 2
  unfolding port_price adder_price precedes
  price_left = refl

  dearer : (s : Bool) (q : Placement) → at s ≡ q → (other : Block) → Admissible before second q → Placed before 1 second q other → 2 ≤ block_price count_list other
  unfolding port_price adder_price precedes
  dearer false q = no_cheaper 1 w (lit≤ tt) some most row refl (placed_at false) refl second 2 (lit≤ tt) (at false) q refl refl
  dearer true q = no_cheaper 1 w (lit≤ tt) some most row refl (placed_at true) refl second 2 (lit≤ tt) (at true) q refl refl

  least : (q : Placement) (other : Block) → Admissible before second q → Placed before 1 second q other → block_price count_list left ≤ block_price count_list other
  least q other adm p = let f = forced q adm in subst (λ n. n ≤ block_price count_list other) (sym price_left) (dearer f.0 q (sym f.1) other adm p)

  places : (q : Placement) → Admissible before second q → q.places ≡ (1 ∷ [])
  places q adm = ap (λ x. x.places) (forced q adm).1

  of_first : RowOf first row
  of_first = record { slots = refl; source = refl; shift = refl }

  chosen : Chosen (block_price count_list) before 1 second (at false) left
  chosen = own_chosen 1 w (lit≤ tt) some most row refl (placed_at false) refl second (lit≤ tt) refl refl places least

  made : Built first second w left
  made = built 1 w (lit≤ tt) some most row refl (placed_at false) refl second (at false) refl refl chosen first refl of_first refl refl

  there : (b : Block) (u : Built first second w b) → u.fused.1.placement ≡ at false
  there = stands_at 1 w (lit≤ tt) some most row refl (placed_at false) refl second (at false) refl refl chosen first refl of_first refl refl

  has : (b : Block) → Built first second w b → TwoRows first second (at false) w b
  has = has_rows 1 w (lit≤ tt) some most row refl (placed_at false) refl second (at false) refl refl chosen first refl of_first refl refl

  is : (b : Block) → TwoRows first second (at false) w b → b ≡ left
  is = one 1 w (lit≤ tt) some most row refl (placed_at false) refl second (at false) refl refl chosen first refl of_first refl refl

  abbrev moved_row : Row
  moved_row = laid (moved_from 1 (pos 1) 1 (placed_at false).slots) (moved_operand 1 (pos 1) 0 (placed_at false).output) refl refl

  -- once adder 1 is moved at code 1
  abbrev after_move : Block
  after_move = with_row moved_row refl

  moved_price : block_price count_list after_move ≡ 1
  unfolding port_price adder_price precedes
  moved_price = refl

  whatever : (fact : Fact) → Holds after_move fact → (b : Block) → Done (moving 1 1 (pos 1)) left b → Holds b fact
  whatever fact h b d = subst (λ c. Holds c fact) (sym (moved 1 w (lit≤ tt) some most row refl (placed_at false) refl moved_row refl 1 (pos 1) refl refl b d)) h

  facts : AllByRecursion (Holds left) (facts_of six_and_ten)
  facts = (
    record { chain = second; reads = is_read _ _ _ refl refl refl; row = placed_at false; there = refl; of_chain = record { slots = refl; source = refl; shift = refl } },
    (
      refl,
      (
        refl,
        (
          price_left,
          (
            (refl, whatever (shows 1 (codes "chain=0.1+0.3 0")) (record { chain = third; reads = is_read _ _ _ refl refl refl; row = moved_row; there = refl; of_chain = record { slots = refl; source = refl; shift = refl } })),
            (
              (refl, whatever (multiplies 1 10) refl),
              (
                (refl, whatever (costs count 1) moved_price),
                (refl, tt),
              ),
            ),
          ),
        ),
      ),
    ),
  )

pub stands : Stands six_and_ten
stands = record {
  first = first;
  reads_first = is_read _ _ _ refl refl refl;
  second = second;
  reads_second = is_read _ _ _ refl refl refl;
  some = λ w h. (left w h.0 h.1, made w h.0 h.1);
  stands = λ w b h u. there w h.0 h.1 b u;
  rows = λ w b h u. has w h.0 h.1 b u;
  all = λ w b h u. subst (λ c. AllByRecursion (Holds c) (facts_of six_and_ten)) (sym (is w h.0 h.1 b u)) (facts w h.0 h.1);
}
