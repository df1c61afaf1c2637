-- The worked block of three adders, in which the second chain stands out of order and swapped.
use Rattle.std.proofs.Common.{◌≡◌, ℕ, zero, suc, ◌<◌, ◌≤◌, ◌≢◌, Bool, true, false, ◌⊎◌, List, [], ◌∷◌, length, get_or, is_some, Some, sym, refl, ap, ◌∙◌, subst, inl, inr, lit≤, lit<, arith}
use Rattle.std.proofs.lemmas.Bool.{cases_lt, false≢true}
use Rattle.std.specs.List.{AllByRecursion}
use Rattle.adders.specs.declared.wiring.Adder.{Adder}
use Rattle.adders.specs.declared.wiring.Sign.TheVariants.{Plus, Minus}
use Rattle.adders.specs.Rules.{first_broken}
use Rattle.adders.proofs.Broken.{some_none}
use Rattle.chains.specs.declared.model.Chain.{Chain}
use Rattle.chains.specs.Chains.{chain_adders}
use Rattle.chains.specs.Rules.{eight_slots}
use Rattle.rows.specs.declared.model.Row.{Row}
use Rattle.rows.specs.Reading.{HasSource}
use Rattle.rows.specs.Rules.{row_rules}
use Rattle.rows.specs.Rows.{RowOf}
use Rattle.blocks.specs.declared.model.Block.{Block}
use Rattle.blocks.specs.Filling.{uses_none_past}
use Rattle.ports.specs.Inputs.{precedes}
use Rattle.bits.specs.Bits.{bits}
use Rattle.depths.specs.Depths.{block_depth, adder_depth}
use Rattle.prices.specs.Supplied.{count_list, per_bit_list}
use Rattle.pricing.specs.Prices.{block_price, port_price, adder_price}
use Rattle.placing.specs.Placements.{Placement, nth_adder, place, swap, Admissible, Placed}
use Rattle.placing.specs.Slots.{at_places, placed_slots, placed_output}
use Rattle.placing.proofs.Laid.{some_one}
use Rattle.fusing.specs.Fusing.{Unswapped, Before, Chosen}
use Rattle.worked.specs.Blocks.{Holds, Built, TwoRows}
use Rattle.worked.specs.Cases.{twice_twenty_nine, Stands}
use Rattle.worked.proofs.Lines.{chain, is_read}
use Rattle.worked.proofs.Pairs.{laid, alone, pair, placed}
use Rattle.worked.proofs.Building.{facts_of, never_lower, no_cheaper, built, stands_at, has_rows, one}
use Rattle.worked.proofs.OneAdder.{add}
use Rattle.worked.proofs.TwoAdders.{list}

abbrev first : Chain
first = chain (add 0 0 0 2 ∷ add 0 0 0 1 ∷ add 1 0 2 3 ∷ []) 0 refl

abbrev second : Chain
second = chain (add 0 0 0 1 ∷ add 0 0 0 2 ∷ add 1 3 2 0 ∷ []) 0 refl

-- in order, and with adders 1 and 2 exchanged
abbrev in_order : Bool → Bool → Bool → Placement
in_order s t u = at_places (1 ∷ 2 ∷ 3 ∷ []) (s ∷ t ∷ u ∷ [])

abbrev crossed : Bool → Bool → Bool → Placement
crossed s t u = at_places (2 ∷ 1 ∷ 3 ∷ []) (s ∷ t ∷ u ∷ [])

abbrev p : Placement
p = crossed false false true

abbrev row : Row
row = laid (eight_slots (chain_adders first)) (record { source = 3; shift = 0 }) refl refl

abbrev placed_at : (c : Placement) → is_some (first_broken (row_rules (placed_slots c (chain_adders second)) (placed_output c second))) ≡ false → Row
placed_at c h = laid (placed_slots c (chain_adders second)) (placed_output c second) refl h

abbrev before : Block
before = alone 3 16 (lit≤ tt) (lit≤ tt) (lit≤ tt) row refl

abbrev with_row : (s : Row) → uses_none_past 3 s ≡ true → Block
with_row s f = pair 3 16 (lit≤ tt) (lit≤ tt) (lit≤ tt) row refl s f

abbrev left : Block
left = with_row (placed_at p refl) refl

-- Which placements are admissible.

-- adder 3 reads both others, so that it is above them; these two may stand either way
forced : (q : Placement) → Admissible before second q → (s : Bool) × (t : Bool) × (u : Bool) × ((in_order s t u ≡ q) ⊎ (crossed s t u ≡ q))
forced q adm = by q.places q.swaps adm.each_placed adm.each_told adm.inside (adm.apart 0 1 (lit< tt) (omega (arith, adm.each_placed))) (adm.fed 0 2 (add 1 3 2 0) refl (inl refl)) (adm.fed 1 2 (add 1 3 2 0) refl (inr refl))
  where
    by : (ps : List ℕ) (ss : List Bool) → length ps ≡ 3 → length ss ≡ 3 → ((d : ℕ) → d < length ps → (1 ≤ get_or ps d 0) × (get_or ps d 0 ≤ 3)) → get_or ps 0 0 ≢ get_or ps 1 0 → get_or ps 0 0 < get_or ps 2 0 → get_or ps 1 0 < get_or ps 2 0
        → (s : Bool) × (t : Bool) × (u : Bool) × ((in_order s t u ≡ at_places ps ss) ⊎ (crossed s t u ≡ at_places ps ss))
    by (x ∷ y ∷ z ∷ []) (s ∷ t ∷ u ∷ []) e f inside apart l m =
        let i = inside 0 (omega arith) in
        let j = inside 1 (omega arith) in
        let k = inside 2 (omega arith) in
        elim (cases_lt x y) [
          | inl lower ↦ (let a : 1 ≡ x = omega arith in let b : 2 ≡ y = omega arith in let c : 3 ≡ z = omega arith in (s, t, u, inl (λ n. at_places (a n ∷ b n ∷ c n ∷ []) (s ∷ t ∷ u ∷ []))))
          | inr upper ↦ (let a : 2 ≡ x = omega arith in let b : 1 ≡ y = omega arith in let c : 3 ≡ z = omega arith in (s, t, u, inr (λ n. at_places (a n ∷ b n ∷ c n ∷ []) (s ∷ t ∷ u ∷ []))))
        ]
    by [] ss e f inside apart l m = absurd (omega arith)
    by (x ∷ []) ss e f inside apart l m = absurd (omega arith)
    by (x ∷ y ∷ []) ss e f inside apart l m = absurd (omega arith)
    by (x ∷ y ∷ z ∷ n ∷ ps) ss e f inside apart l m = absurd (omega arith)
    by (x ∷ y ∷ z ∷ []) [] e f inside apart l m = absurd (omega arith)
    by (x ∷ y ∷ z ∷ []) (s ∷ []) e f inside apart l m = absurd (omega arith)
    by (x ∷ y ∷ z ∷ []) (s ∷ t ∷ []) e f inside apart l m = absurd (omega arith)
    by (x ∷ y ∷ z ∷ []) (s ∷ t ∷ u ∷ v ∷ ss) e f inside apart l m = absurd (omega arith)

admissible : Admissible before second p
admissible = record { each_placed = refl; each_told = refl; inside = inside; apart = apart; fed = fed; kept = kept }
  where
    inside : (d : ℕ) → d < 3 → (1 ≤ place p d) × (place p d ≤ 3)
    inside zero h = (lit≤ tt, lit≤ tt)
    inside (suc zero) h = (lit≤ tt, lit≤ tt)
    inside (suc (suc zero)) h = (lit≤ tt, lit≤ tt)
    inside (suc (suc (suc d))) h = absurd (omega arith)

    apart : (c d : ℕ) → c < d → d < 3 → place p c ≢ place p d
    apart zero (suc zero) l h e = omega arith
    apart zero (suc (suc zero)) l h e = omega arith
    apart (suc zero) (suc (suc zero)) l h e = omega arith
    apart c zero l h e = omega arith
    apart (suc c) (suc zero) l h e = omega arith
    apart (suc (suc c)) (suc (suc zero)) l h e = omega arith
    apart c (suc (suc (suc d))) l h e = omega arith

    -- adder 3 alone reads others
    fed : (c d : ℕ) (a : Adder) → nth_adder second d ≡ Some a → HasSource a (suc c) → place p c < place p d
    fed c zero a e h =
        elim (subst (λ x. HasSource x (suc c)) (sym (some_one e)) h) [
          | inl i ↦ absurd (omega arith)
          | inr i ↦ absurd (omega arith)
        ]
    fed c (suc zero) a e h =
        elim (subst (λ x. HasSource x (suc c)) (sym (some_one e)) h) [
          | inl i ↦ absurd (omega arith)
          | inr i ↦ absurd (omega arith)
        ]
    fed c (suc (suc zero)) a e h =
        elim (subst (λ x. HasSource x (suc c)) (sym (some_one e)) h) [
          | inl i ↦ (let k : 0 ≡ c = omega arith in subst (λ n. place p n < 3) k (lit< tt))
          | inr i ↦ (let k : 1 ≡ c = omega arith in subst (λ n. place p n < 3) k (lit< tt))
        ]
    fed c (suc (suc (suc d))) a e h = absurd (some_none (sym e))

    -- no adder is a minus
    kept : (d : ℕ) (a : Adder) → nth_adder second d ≡ Some a → a.sign ≡ Minus → swap p d ≡ false
    kept zero a e m = refl
    kept (suc zero) a e m = refl
    kept (suc (suc zero)) a e m = let no : Plus ≡ Minus = ap (λ (x : Adder). x.sign) (some_one e) ∙ m in cc
    kept (suc (suc (suc d))) a e m = absurd (some_none (sym e))

-- What each costs.

price_left : block_price count_list left ≡ 0
unfolding port_price adder_price precedes
price_left = refl

dearer : (c : Placement) (h : is_some (first_broken (row_rules (placed_slots c (chain_adders second)) (placed_output c second))) ≡ false) (f : uses_none_past 3 (placed_at c h) ≡ true) → 1 ≤ block_price count_list (with_row (placed_at c h) f)
    → (q : Placement) → c ≡ q → (other : Block) → Admissible before second q → Placed before 1 second q other → 1 ≤ block_price count_list other
dearer c h f more q = no_cheaper 3 16 (lit≤ tt) (lit≤ tt) (lit≤ tt) row refl (placed_at c h) f second 1 more c q refl refl

in_order_dearer : (s t u : Bool) (q : Placement) → in_order s t u ≡ q → (other : Block) → Admissible before second q → Placed before 1 second q other → 1 ≤ block_price count_list other
unfolding port_price adder_price precedes
in_order_dearer false false false = dearer (in_order false false false) refl refl (lit≤ tt)
in_order_dearer false false true = dearer (in_order false false true) refl refl (lit≤ tt)
in_order_dearer false true false = dearer (in_order false true false) refl refl (lit≤ tt)
in_order_dearer false true true = dearer (in_order false true true) refl refl (lit≤ tt)
in_order_dearer true false false = dearer (in_order true false false) refl refl (lit≤ tt)
in_order_dearer true false true = dearer (in_order true false true) refl refl (lit≤ tt)
in_order_dearer true true false = dearer (in_order true true false) refl refl (lit≤ tt)
in_order_dearer true true true = dearer (in_order true true true) refl refl (lit≤ tt)

unswapped_dearer : (q : Placement) → crossed false false false ≡ q → (other : Block) → Admissible before second q → Placed before 1 second q other → 1 ≤ block_price count_list other
unfolding port_price adder_price precedes
unswapped_dearer = dearer (crossed false false false) refl refl (lit≤ tt)

-- only with nothing swapped does one at the same places come before
before_swap : (s t u : Bool) → Unswapped (s ∷ t ∷ u ∷ []) (false ∷ false ∷ true ∷ []) → (s ≡ false) × (t ≡ false) × (u ≡ false)
before_swap s t u (inl h) = absurd (false≢true h.1)
before_swap s t u (inr (a, inl h)) = absurd (false≢true h.1)
before_swap s t u (inr (a, inr (b, inl h))) = (a, b, h.0)
before_swap s t u (inr (a, inr (b, inr h))) = absurd h.1

first_of : (q : Placement) (other : Block) → Admissible before second q → Placed before 1 second q other → Before q p → 1 ≤ block_price count_list other
first_of q other adm of b =
    let f = forced q adm in
    elim f.3 [
      | inl e ↦ in_order_dearer f.0 f.1 f.2 q e other adm of
      | inr e ↦ (
          elim (subst (λ x. Before x p) (sym e) b) [
            | inl l ↦ absurd (never_lower p.places l)
            | inr u ↦ (let k = before_swap f.0 f.1 f.2 u.1 in unswapped_dearer q ((λ i. crossed (sym k.0 i) (sym k.1 i) (sym k.2 i)) ∙ e) other adm of)
          ]
          )
    ]

chosen : Chosen (block_price count_list) before 1 second p left
chosen = record {
  admissible = admissible;
  placed = placed 3 16 (lit≤ tt) (lit≤ tt) (lit≤ tt) row refl (placed_at p refl) refl second p admissible refl refl;
  least = λ q other adm of. omega (arith, price_left);
  first = λ q other adm of b. omega (arith, price_left, first_of q other adm of b);
}

-- What is built.

of_first : RowOf first row
of_first = record { slots = refl; source = refl; shift = refl }

made : Built first second 16 left
made = built 3 16 (lit≤ tt) (lit≤ tt) (lit≤ tt) row refl (placed_at p refl) refl second p refl refl chosen first refl of_first refl refl

there : (b : Block) (u : Built first second 16 b) → u.fused.1.placement ≡ p
there = stands_at 3 16 (lit≤ tt) (lit≤ tt) (lit≤ tt) row refl (placed_at p refl) refl second p refl refl chosen first refl of_first refl refl

has : (b : Block) → Built first second 16 b → TwoRows first second p 16 b
has = has_rows 3 16 (lit≤ tt) (lit≤ tt) (lit≤ tt) row refl (placed_at p refl) refl second p refl refl chosen first refl of_first refl refl

is : (b : Block) → TwoRows first second p 16 b → b ≡ left
is = one 3 16 (lit≤ tt) (lit≤ tt) (lit≤ tt) row refl (placed_at p refl) refl second p refl refl chosen first refl of_first refl refl

price : block_price (per_bit_list list) left ≡ 232
unfolding port_price adder_price precedes bits
price = refl

two_deep : block_depth left ≡ 2
unfolding adder_depth precedes bits
two_deep = refl

facts : AllByRecursion (Holds left) (facts_of twice_twenty_nine)
facts = (
  record { chain = first; reads = is_read _ _ _ refl refl refl; row = placed_at p refl; there = refl; of_chain = record { slots = refl; source = refl; shift = refl } },
  (refl, (refl, (two_deep, (price_left, (record { list = list; has = refl; price = price }, tt))))),
)

pub stands : Stands twice_twenty_nine
stands = record {
  first = first;
  reads_first = is_read _ _ _ refl refl refl;
  second = second;
  reads_second = is_read _ _ _ refl refl refl;
  some = λ w h. subst (λ n. (b : Block) × Built first second n b) (sym h) (left, made);
  stands = λ w b h. subst (λ n. (u : Built first second n b) → u.fused.1.placement ≡ p) (sym h) (there b);
  rows = λ w b h. subst (λ n. Built first second n b → TwoRows first second p n b) (sym h) (has b);
  all = λ w b h u. subst (λ c. AllByRecursion (Holds c) (facts_of twice_twenty_nine)) (sym (is b (subst (λ n. TwoRows first second p n b) h u))) facts;
}
