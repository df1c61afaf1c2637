-- The row that a placement makes of a chain: that there is one, that it is one, and its constant and values.
use Rattle.std.proofs.Common.{◌≡◌, ℕ, zero, suc, ◌+◌, ◌-◌, ◌<◌, ◌≤◌, ◌≢◌, cond, leb, ◌⊎◌, List, [], ◌∷◌, map, length, get_or, drop, is_some, Some, None, Ok, Err, Option, Result, refl, sym, ap, ◌∙◌, inl, inr, ⊎_elim, arith}
use Rattle.std.proofs.lemmas.List.{at_drop_more, get_or_past}
use Rattle.std.proofs.lemmas.Bool.{cases_lt, cond-true, le-leb, eq-eqb, ne_eqb}
use Rattle.adders.specs.declared.wiring.Adder.{Adder}
use Rattle.adders.specs.declared.refusals.Refusal.{Refusal}
use Rattle.adders.specs.Values.{spare_adder, value, wired}
use Rattle.adders.proofs.Broken.{some_none}
use Rattle.adders.proofs.Places.{same_list}
use Rattle.chains.specs.declared.model.Chain.{Chain}
use Rattle.chains.specs.Chains.{chain_adders, chain_constant}
use Rattle.rows.specs.declared.model.Row.{Row}
use Rattle.rows.specs.Rules.{KeepsRow}
use Rattle.rows.specs.Rows.{adder_at, row_value_at, constant_of, RowJudged, kept, broken}
use Rattle.rows.proofs.Keeping.{rules_from_keeps}
use Rattle.rows.proofs.Answering.{same_row}
use Rattle.blocks.specs.declared.model.Block.{Block}
use Rattle.placing.specs.Placements.{Placement, nth_adder, place, swap, Admissible, placed_source, placed_adder, PlacedRow}
use Rattle.placing.specs.Slots.{first_at, placed_slots, placed_output, IsPlaced}
use Rattle.placing.proofs.Standing.{nth_there, nth_within, NoneAt, stands}
use Rattle.placing.proofs.Laid.{Laid, stander, some_one, keeps_row, constant_laid, value_laid}

-- the adder at a number, by its slot
pub at_slot : (r : Row) (k : ℕ) → adder_at r (suc k) ≡ get_or r.slots k None
at_slot r k =
    cond-true (leb 1 (suc k)) (get_or r.slots (suc k - 1) None) None (le-leb 1 (suc k) (omega arith))
    ∙ ap (λ i. get_or r.slots i None) (let e : suc k - 1 ≡ k = omega arith in e)

module _ (chain : Chain) (p : Placement) (r : Row) (placed : PlacedRow chain p r) where
  pub laid_row : Laid chain p r.slots
  laid_row = record {
    there = λ d k a e s. sym (at_slot r k) ∙ ap (adder_at r) (sym s) ∙ placed.there d a e;
    others = λ k none. sym (at_slot r k) ∙ placed.others (suc k) none;
  }

  -- each adder of the row is one of the chain's, or there is none
  pub used_or_not : (j : ℕ) → ((d : ℕ) × (d < length p.places) × (place p d ≡ j)) ⊎ (adder_at r j ≡ None)
  used_or_not j = ⊎_elim (λ s. inl (s.adder, s.within, s.is)) (λ none. inr (placed.others j none)) (stands p.places j)

  module _ (before : Block) (adm : Admissible before chain p) where
    pub value_placed : (j : ℕ) → j ≤ length (chain_adders chain) → value r.slots (placed_source p j) ≡ value (wired (chain_adders chain)) j
    value_placed = value_laid before chain p adm r.slots laid_row

    pub row_value_placed : (d : ℕ) (a : Adder) → nth_adder chain d ≡ Some a → row_value_at r (place p d) ≡ Some (value (wired (chain_adders chain)) (suc d))
    row_value_placed d a e =
        ap (λ o. cond (is_some o) (Some (value r.slots (place p d))) None) (placed.there d a e)
        ∙ ap Some (value_placed (suc d) (omega (arith, nth_within chain d a e)))

    pub constant_placed : constant_of r ≡ chain_constant chain
    constant_placed = constant_laid before chain p adm r.slots laid_row r.output placed.source placed.shift

-- two rows of the chain at the same places are the same
module _ (before : Block) (chain : Chain) (p : Placement) (r s : Row) (adm : Admissible before chain p) (of_r : PlacedRow chain p r) (of_s : PlacedRow chain p s) where
  same_slot : (k : ℕ) → get_or r.slots k None ≡ get_or s.slots k None
  same_slot k =
      let lr = laid_row chain p r of_r in
      let ls = laid_row chain p s of_s in
      ⊎_elim
      (λ t.
      let a = nth_there chain t.adder (omega (arith, t.within, adm.each_placed)) in
      lr.there t.adder k a.0 a.1 t.is ∙ sym (ls.there t.adder k a.0 a.1 t.is))
      (λ none. lr.others k none ∙ sym (ls.others k none))
      (stands p.places (suc k))

  pub row_one : r ≡ s
  row_one =
      same_row r s (same_list None r.slots s.slots (r.room ∙ sym s.room) (λ k h. same_slot k))
      (λ i. record { source = (of_r.source ∙ sym of_s.source) i; shift = (of_r.shift ∙ sym of_s.shift) i })

-- The slots that are computed.

module _ (p : Placement) (j : ℕ) where
  first_there : (xs : List Adder) (d i : ℕ) (a : Adder) → get_or (wired xs) i None ≡ Some a → place p (d + i) ≡ j → ((c : ℕ) → d ≤ c → c < d + i → place p c ≢ j) → first_at p j d xs ≡ Some (placed_adder p (swap p (d + i)) a)
  first_there [] d i a e s before = absurd (some_none (sym e))
  first_there (x ∷ xs) d zero a e s before =
      let z : d + 0 ≡ d = omega arith in
      let own : place p d ≡ j = ap (place p) (sym z) ∙ s in
      ap (λ b. cond b (Some (placed_adder p (swap p d) x)) (first_at p j (d + 1) xs)) (eq-eqb (place p d) j own)
      ∙ ap (λ y. Some (placed_adder p (swap p d) y)) (some_one e)
      ∙ ap (λ m. Some (placed_adder p (swap p m) a)) (sym z)
  first_there (x ∷ xs) d (suc i) a e s before =
      let z : d + 1 + i ≡ d + suc i = omega arith in
      ap (λ b. cond b (Some (placed_adder p (swap p d) x)) (first_at p j (d + 1) xs)) (ne_eqb (place p d) j (before d (omega arith) (omega arith)))
      ∙ first_there xs (d + 1) i a e (ap (place p) z ∙ s) (λ c low high. before c (omega arith) (omega arith))
      ∙ ap (λ m. Some (placed_adder p (swap p m) a)) z

  first_none : (xs : List Adder) (d : ℕ) → ((c : ℕ) → d ≤ c → c < d + length xs → place p c ≢ j) → first_at p j d xs ≡ None
  first_none [] d none = refl
  first_none (x ∷ xs) d none =
      ap (λ b. cond b (Some (placed_adder p (swap p d) x)) (first_at p j (d + 1) xs)) (ne_eqb (place p d) j (none d (omega arith) (omega arith)))
      ∙ first_none xs (d + 1) (λ c low high. none c (omega arith) (omega arith))

-- slot k is for adder k + 1
pub slot_at : (f : ℕ → Option Adder) (k : ℕ) → k < 8 → get_or (map f (1 ∷ 2 ∷ 3 ∷ 4 ∷ 5 ∷ 6 ∷ 7 ∷ 8 ∷ [])) k None ≡ f (suc k)
slot_at f zero h = refl
slot_at f (suc zero) h = refl
slot_at f (suc (suc zero)) h = refl
slot_at f (suc (suc (suc zero))) h = refl
slot_at f (suc (suc (suc (suc zero)))) h = refl
slot_at f (suc (suc (suc (suc (suc zero))))) h = refl
slot_at f (suc (suc (suc (suc (suc (suc zero)))))) h = refl
slot_at f (suc (suc (suc (suc (suc (suc (suc zero))))))) h = refl
slot_at f (suc (suc (suc (suc (suc (suc (suc (suc k)))))))) h = absurd (omega arith)

-- none past the eighth
slot_past : (f : ℕ → Option Adder) (k : ℕ) → 8 ≤ k → get_or (map f (1 ∷ 2 ∷ 3 ∷ 4 ∷ 5 ∷ 6 ∷ 7 ∷ 8 ∷ [])) k None ≡ None
slot_past f k h = get_or_past (map f (1 ∷ 2 ∷ 3 ∷ 4 ∷ 5 ∷ 6 ∷ 7 ∷ 8 ∷ [])) k None h

module _ (before : Block) (chain : Chain) (p : Placement) (adm : Admissible before chain p) where
  laid_slots : Laid chain p (placed_slots p (chain_adders chain))
  laid_slots = record {
    there = λ d k a e s.
        let h = nth_within chain d a e in
        let z : 0 + d ≡ d = omega arith in
        slot_at (λ j. first_at p j 0 (chain_adders chain)) k (omega (arith, adm.each_placed, adm.inside d, before.few, s))
        ∙ first_there p (suc k) (chain_adders chain) 0 d a e (ap (place p) z ∙ s) (λ c low high q. adm.apart c d (omega arith) (omega (arith, adm.each_placed)) (q ∙ sym s))
        ∙ ap (λ m. Some (placed_adder p (swap p m) a)) z;
    others = λ k none.
        ⊎_elim
        (λ low. slot_at (λ j. first_at p j 0 (chain_adders chain)) k low ∙ first_none p (suc k) (chain_adders chain) 0 (λ c l h. none c (omega (arith, adm.each_placed))))
        (λ high. slot_past (λ j. first_at p j 0 (chain_adders chain)) k (omega arith))
        (cases_lt k 8);
  }

  pub keeps_placed : KeepsRow (placed_slots p (chain_adders chain)) (placed_output p chain)
  keeps_placed = keeps_row before chain p adm (placed_slots p (chain_adders chain)) laid_slots (placed_output p chain) before.few refl refl

  -- what is answered of these slots and this output is the row of the chain
  placed_of : (r : Row) → r.slots ≡ placed_slots p (chain_adders chain) → r.output ≡ placed_output p chain → PlacedRow chain p r
  placed_of r e f = record {
    there = λ d a t.
        let s = stander before chain p adm d (nth_within chain d a t) in
        ap (adder_at r) s.stands ∙ at_slot r s.slot ∙ ap (λ xs. get_or xs s.slot None) e ∙ laid_slots.there d s.slot a t s.stands;
    others = λ j none. no_other j none;
    source = ap (λ o. o.source) f;
    shift = ap (λ o. o.shift) f;
  }
    where
      no_other : (j : ℕ) → NoneAt p.places j → adder_at r j ≡ None
      no_other zero none = refl
      no_other (suc k) none = at_slot r k ∙ ap (λ xs. get_or xs k None) e ∙ laid_slots.others k none

  pub row_made : (row : Row) × PlacedRow chain p row
  row_made =
      let r : Row = record { slots = placed_slots p (chain_adders chain); output = placed_output p chain; room = refl; lawful = ap is_some (rules_from_keeps (placed_slots p (chain_adders chain)) (placed_output p chain) keeps_placed) } in
      (r, placed_of r refl refl)

  pub is_placed : (a : Result Row Refusal) → RowJudged (placed_slots p (chain_adders chain)) (placed_output p chain) a → IsPlaced chain p a
  is_placed (Ok r) (kept h e f) = let of = placed_of r e f in (of, constant_placed chain p r of before adm)
  is_placed (Err x) (broken h) = some_none (sym h ∙ rules_from_keeps (placed_slots p (chain_adders chain)) (placed_output p chain) keeps_placed)

-- one that stands elsewhere is passed over
pub first_passed : (p : Placement) (j d : ℕ) (xs : List Adder) → d < length xs → place p d ≢ j → first_at p j d (drop d xs) ≡ first_at p j (d + 1) (drop (d + 1) xs)
first_passed p j d xs h ne =
    at_drop_more (first_at p j d) xs d spare_adder h
    ∙ ap (λ b. cond b (Some (placed_adder p (swap p d) (get_or xs d spare_adder))) (first_at p j (d + 1) (drop (d + 1) xs))) (ne_eqb (place p d) j ne)
