-- The worked block of two adders.
use Rattle.std.proofs.Common.{◌≡◌, ℕ, ◌<◌, ◌≤◌, Bool, true, false, List, [], ◌∷◌, length, get_or, sym, refl, ap, subst, inl, lit≤, arith}
use Rattle.std.proofs.lemmas.Int.{ints}
use Rattle.std.specs.List.{AllByRecursion}
use Rattle.chains.specs.declared.model.Chain.{Chain}
use Rattle.chains.specs.Chains.{chain_adders}
use Rattle.chains.specs.Rules.{eight_slots}
use Rattle.rows.specs.declared.model.Row.{Row}
use Rattle.rows.specs.Rows.{RowOf}
use Rattle.blocks.specs.declared.model.Block.{Block}
use Rattle.ports.specs.Inputs.{precedes}
use Rattle.bits.specs.Bits.{bits}
use Rattle.depths.specs.Depths.{block_depth, adder_depth}
use Rattle.prices.specs.declared.per_bit.PerBitList.{PerBitList}
use Rattle.prices.specs.Supplied.{count_list, per_bit_list}
use Rattle.pricing.specs.Prices.{block_price, port_price, adder_price}
use Rattle.placing.specs.Placements.{Placement, Admissible, Placed}
use Rattle.placing.specs.Slots.{at_places, placed_slots, placed_output}
use Rattle.fusing.specs.Fusing.{Chosen}
use Rattle.worked.specs.Blocks.{units, Costs, Holds, Built, TwoRows}
use Rattle.worked.specs.Cases.{forty_five_and_nineteen, Stands}
use Rattle.worked.proofs.Lines.{chain, is_read, whole}
use Rattle.worked.proofs.Pairs.{laid, alone, pair, retired}
use Rattle.worked.proofs.Running.{runs_word, runs_mod_255}
use Rattle.worked.proofs.Building.{facts_of, no_cheaper, own_chosen, built, stands_at, has_rows, one}
use Rattle.worked.proofs.OneAdder.{add}

abbrev first : Chain
first = chain (add 0 0 0 2 ∷ add 1 0 1 3 ∷ []) 0 refl

abbrev second : Chain
second = chain (add 0 0 0 1 ∷ add 1 0 0 4 ∷ []) 0 refl

abbrev at : Bool → Bool → Placement
at s t = at_places (1 ∷ 2 ∷ []) (s ∷ t ∷ [])

abbrev row : Row
row = laid (eight_slots (chain_adders first)) (record { source = 2; shift = 0 }) refl refl

abbrev placed_at : Bool → Bool → Row
placed_at false false = laid (placed_slots (at false false) (chain_adders second)) (placed_output (at false false) second) refl refl
placed_at false true = laid (placed_slots (at false true) (chain_adders second)) (placed_output (at false true) second) refl refl
placed_at true false = laid (placed_slots (at true false) (chain_adders second)) (placed_output (at true false) second) refl refl
placed_at true true = laid (placed_slots (at true true) (chain_adders second)) (placed_output (at true true) second) refl refl

abbrev before : Block
before = alone 2 16 (lit≤ tt) (lit≤ tt) (lit≤ tt) row refl

-- adder 2 reads adder 1, so that their places are 1 and 2; the operands of each may be swapped
forced : (q : Placement) → Admissible before second q → (s : Bool) × (t : Bool) × (q ≡ at s t)
forced q adm = by q.places q.swaps adm.each_placed adm.each_told adm.inside (adm.fed 0 1 (add 1 0 0 4) refl (inl refl))
  where
    by : (ps : List ℕ) (ss : List Bool) → length ps ≡ 2 → length ss ≡ 2 → ((d : ℕ) → d < length ps → (1 ≤ get_or ps d 0) × (get_or ps d 0 ≤ 2)) → get_or ps 0 0 < get_or ps 1 0 → (s : Bool) × (t : Bool) × (at_places ps ss ≡ at s t)
    by (p ∷ q ∷ []) (s ∷ t ∷ []) e f inside less =
        let lower = inside 0 (omega arith) in
        let upper = inside 1 (omega arith) in
        let one : p ≡ 1 = omega arith in
        let two : q ≡ 2 = omega arith in
        (s, t, λ i. at_places (one i ∷ two i ∷ []) (s ∷ t ∷ []))
    by [] ss e f inside less = absurd (omega arith)
    by (p ∷ []) ss e f inside less = absurd (omega arith)
    by (p ∷ q ∷ r ∷ ps) ss e f inside less = absurd (omega arith)
    by (p ∷ q ∷ []) [] e f inside less = absurd (omega arith)
    by (p ∷ q ∷ []) (s ∷ []) e f inside less = absurd (omega arith)
    by (p ∷ q ∷ []) (s ∷ t ∷ u ∷ ss) e f inside less = absurd (omega arith)

abbrev left : Block
left = pair 2 16 (lit≤ tt) (lit≤ tt) (lit≤ tt) row refl (placed_at false false) refl

price_left : block_price count_list left ≡ 2
unfolding port_price adder_price precedes
price_left = refl

dearer : (s t : Bool) (q : Placement) → at s t ≡ q → (other : Block) → Admissible before second q → Placed before 1 second q other → 2 ≤ block_price count_list other
unfolding port_price adder_price precedes
dearer false false q = no_cheaper 2 16 (lit≤ tt) (lit≤ tt) (lit≤ tt) row refl (placed_at false false) refl second 2 (lit≤ tt) (at false false) q refl refl
dearer false true q = no_cheaper 2 16 (lit≤ tt) (lit≤ tt) (lit≤ tt) row refl (placed_at false true) refl second 2 (lit≤ tt) (at false true) q refl refl
dearer true false q = no_cheaper 2 16 (lit≤ tt) (lit≤ tt) (lit≤ tt) row refl (placed_at true false) refl second 2 (lit≤ tt) (at true false) q refl refl
dearer true true q = no_cheaper 2 16 (lit≤ tt) (lit≤ tt) (lit≤ tt) row refl (placed_at true true) refl second 2 (lit≤ tt) (at true true) q refl refl

least : (q : Placement) (other : Block) → Admissible before second q → Placed before 1 second q other → block_price count_list left ≤ block_price count_list other
least q other adm p = let f = forced q adm in subst (λ n. n ≤ block_price count_list other) (sym price_left) (dearer f.0 f.1 q (sym f.2) other adm p)

places : (q : Placement) → Admissible before second q → q.places ≡ (1 ∷ 2 ∷ [])
places q adm = ap (λ x. x.places) (forced q adm).2

of_first : RowOf first row
of_first = record { slots = refl; source = refl; shift = refl }

chosen : Chosen (block_price count_list) before 1 second (at false false) left
chosen = own_chosen 2 16 (lit≤ tt) (lit≤ tt) (lit≤ tt) row refl (placed_at false false) refl second (lit≤ tt) refl refl places least

made : Built first second 16 left
made = built 2 16 (lit≤ tt) (lit≤ tt) (lit≤ tt) row refl (placed_at false false) refl second (at false false) refl refl chosen first refl of_first refl refl

there : (b : Block) (u : Built first second 16 b) → u.fused.1.placement ≡ at false false
there = stands_at 2 16 (lit≤ tt) (lit≤ tt) (lit≤ tt) row refl (placed_at false false) refl second (at false false) refl refl chosen first refl of_first refl refl

has : (b : Block) → Built first second 16 b → TwoRows first second (at false false) 16 b
has = has_rows 2 16 (lit≤ tt) (lit≤ tt) (lit≤ tt) row refl (placed_at false false) refl second (at false false) refl refl chosen first refl of_first refl refl

is : (b : Block) → TwoRows first second (at false false) 16 b → b ≡ left
is = one 2 16 (lit≤ tt) (lit≤ tt) (lit≤ tt) row refl (placed_at false false) refl second (at false false) refl refl chosen first refl of_first refl refl

-- the per-bit list
abbrev pub list : PerBitList
list = record { units = record { adds = 4; subtracts = 5; both = 6; two_to_one = 2 }; both_most = lit≤ tt; mux_most = lit≤ tt; adds_less = lit≤ tt; subtracts_less = lit≤ tt }

price : block_price (per_bit_list list) left ≡ 244
unfolding port_price adder_price precedes bits
price = refl

retired_price : block_price (per_bit_list list) before ≡ 164
unfolding port_price adder_price precedes bits
retired_price = refl

four_deep : block_depth left ≡ 4
unfolding adder_depth precedes bits
four_deep = refl

facts : AllByRecursion (Holds left) (facts_of forty_five_and_nineteen)
facts = (
  record { chain = second; reads = is_read _ _ _ refl refl refl; row = placed_at false false; there = refl; of_chain = record { slots = refl; source = refl; shift = refl } },
  (
    refl,
    (
      refl,
      (
        four_deep,
        (
          price_left,
          (
            record { list = list; has = refl; price = price },
            (
              (refl, λ b d. subst (Costs (units 4 5 6 2) 164) (sym (retired 2 16 (lit≤ tt) (lit≤ tt) (lit≤ tt) row refl (placed_at false false) refl b d)) (record { list = list; has = refl; price = retired_price })),
              (
                runs_word left 0 45 refl refl _ _ (whole 45 _ _ (record { least = omega (arith, ints); most = omega (arith, ints) }) refl),
                (
                  runs_word left 1 19 refl refl _ _ (whole 19 _ _ (record { least = omega (arith, ints); most = omega (arith, ints) }) refl),
                  (runs_mod_255 left 0 45 refl refl _ _ refl, tt),
                ),
              ),
            ),
          ),
        ),
      ),
    ),
  ),
)

pub stands : Stands forty_five_and_nineteen
stands = record {
  first = first;
  reads_first = is_read _ _ _ refl refl refl;
  second = second;
  reads_second = is_read _ _ _ refl refl refl;
  some = λ w h. subst (λ n. (b : Block) × Built first second n b) (sym h) (left, made);
  stands = λ w b h. subst (λ n. (u : Built first second n b) → u.fused.1.placement ≡ at false false) (sym h) (there b);
  rows = λ w b h. subst (λ n. Built first second n b → TwoRows first second (at false false) n b) (sym h) (has b);
  all = λ w b h u. subst (λ c. AllByRecursion (Holds c) (facts_of forty_five_and_nineteen)) (sym (is b (subst (λ n. TwoRows first second (at false false) n b) h u))) facts;
}
