-- A block with a row at code 0 and another at code 1, and that what is built of two chains is such a block.
--   a, w    its adders, its width
--   r, s    the rows
use Rattle.std.proofs.Common.{◌≡◌, ℕ, ◌<◌, ◌≤◌, ◌≢◌, true, false, length, replicate, is_some, Some, None, Ok, Option, sym, refl, ap, ◌∙◌, subst, ⊎_elim, lit≤, ℤ}
use Rattle.std.proofs.lemmas.Bool.{cases_eq}
use Rattle.adders.specs.declared.wiring.Operand.{Operand}
use Rattle.adders.specs.Values.{Slots}
use Rattle.adders.specs.Rules.{first_broken}
use Rattle.chains.specs.declared.model.Chain.{Chain}
use Rattle.chains.specs.Chains.{chain_adders}
use Rattle.moves.specs.Moves.{moved_from, moved_operand}
use Rattle.rows.specs.declared.model.Row.{Row}
use Rattle.rows.specs.Rules.{row_rules}
use Rattle.rows.specs.Rows.{kept}
use Rattle.rows.specs.Moving.{MovedRow}
use Rattle.rows.proofs.Answering.{same_row, unbroken}
use Rattle.tables.specs.declared.Table.{Table}
use Rattle.tables.specs.Tables.{with_place}
use Rattle.blocks.specs.declared.model.Block.{Block}
use Rattle.blocks.specs.Blocks.{row_of, Rewritten}
use Rattle.blocks.specs.Calls.{Moved}
use Rattle.blocks.specs.Uses.{row_uses, uses}
use Rattle.blocks.specs.Filling.{uses_none_past}
use Rattle.blocks.proofs.Placing.{others_stay, at_each}
use Rattle.blocks.proofs.Founding.{all_idle}
use Rattle.blocks.proofs.Fills.{fits}
use Rattle.blocks.proofs.Same.{all_that_a_block_has}
use Rattle.placing.specs.Placements.{Placement, Admissible, Placed, PlacedRow}
use Rattle.placing.specs.Slots.{placed_slots, placed_output}
use Rattle.placing.proofs.Made.{is_placed}
use Rattle.placing.proofs.Left.{block_one}
use Rattle.placing.proofs.Laid.{some_one}

-- a row by its slots and its output
abbrev pub laid : (xs : Slots) (out : Operand) → length xs ≡ 8 → is_some (first_broken (row_rules xs out)) ≡ false → Row
laid xs out room lawful = record { slots = xs; output = out; room = room; lawful = lawful }

-- one block comes of another where one code is rewritten
pub one_rewritten : (b : Block) (code : ℕ) (row : Option Row) (c d : Block) → Rewritten b code row c → Rewritten b code row d → c ≡ d
one_rewritten b code row c d p q =
    all_that_a_block_has c d (p.adders ∙ sym q.adders) (p.width ∙ sym q.width)
    (λ k. ⊎_elim (λ e. ap (row_of c) e ∙ p.there ∙ sym q.there ∙ ap (row_of d) (sym e)) (λ ne. p.others k ne ∙ sym (q.others k ne)) (cases_eq k code))

abbrev pub idle : Table Row
idle = record { rows = replicate 16 None }

module _ (a w : ℕ) (few : a ≤ 8) (some : 1 ≤ w) (most : w ≤ 32) (r : Row) (fits_r : uses_none_past a r ≡ true) where
  abbrev pub one_row : Table Row
  one_row = with_place idle 0 (Some r)

  pub one_within : (k j : ℕ) → a < j → uses one_row k j ≡ false
  one_within k j h = at_each idle 0 (Some r) (λ i o. row_uses o j ≡ false) refl (lit≤ tt) (fits r a j fits_r h) (λ i. ap (λ o. row_uses o j) (all_idle idle refl i)) k

  -- with one row alone
  abbrev pub alone : Block
  alone = record { adders = a; width = w; table = one_row; few = few; some_bits = some; few_bits = most; room = refl; within = one_within }

  pub elsewhere : (k : ℕ) → k ≢ 0 → row_of alone k ≡ None
  elsewhere k ne = others_stay idle 0 (Some r) k ne ∙ all_idle idle refl k

  pub is_alone : (b : Block) → b.adders ≡ a → b.width ≡ w → row_of b 0 ≡ Some r → ((k : ℕ) → k ≢ 0 → row_of b k ≡ None) → b ≡ alone
  is_alone b adders width there others =
      all_that_a_block_has b alone adders width
      (λ k. ⊎_elim (λ e. ap (row_of b) e ∙ there ∙ ap (row_of alone) (sym e)) (λ ne. others k ne ∙ sym (elsewhere k ne)) (cases_eq k 0))

  module _ (s : Row) (fits_s : uses_none_past a s ≡ true) where
    abbrev pub two_rows : Table Row
    two_rows = with_place one_row 1 (Some s)

    pub two_within : (k j : ℕ) → a < j → uses two_rows k j ≡ false
    two_within k j h = at_each one_row 1 (Some s) (λ i o. row_uses o j ≡ false) refl (lit≤ tt) (fits s a j fits_s h) (λ i. one_within i j h) k

    abbrev pub pair : Block
    pair = record { adders = a; width = w; table = two_rows; few = few; some_bits = some; few_bits = most; room = refl; within = two_within }

    pub none_else : (k : ℕ) → k ≢ 0 → k ≢ 1 → row_of pair k ≡ None
    none_else k not_0 not_1 = others_stay one_row 1 (Some s) k not_1 ∙ elsewhere k not_0

    pub is_written : Rewritten alone 1 (Some s) pair
    is_written = record { adders = refl; width = refl; there = refl; others = others_stay one_row 1 (Some s) }

    pub is_pair : (b : Block) → b.adders ≡ a → b.width ≡ w → row_of b 0 ≡ Some r → row_of b 1 ≡ Some s → ((k : ℕ) → k ≢ 0 → k ≢ 1 → row_of b k ≡ None) → b ≡ pair
    is_pair b adders width at_0 at_1 others =
        all_that_a_block_has b pair adders width
        (λ k. ⊎_elim
        (λ e. ap (row_of b) e ∙ at_0 ∙ ap (row_of pair) (sym e))
        (λ not_0. ⊎_elim (λ e. ap (row_of b) e ∙ at_1 ∙ ap (row_of pair) (sym e)) (λ not_1. others k not_0 not_1 ∙ sym (none_else k not_0 not_1)) (cases_eq k 1))
        (cases_eq k 0))

    pub retired : (b : Block) → Rewritten pair 1 None b → b ≡ alone
    retired b p = one_rewritten pair 1 None b alone p (record { adders = refl; width = refl; there = refl; others = λ k ne. sym (others_stay one_row 1 (Some s) k ne) })

    -- the chain stands there at some placement, and then the block is this one
    module _ (chain : Chain) (q : Placement) (adm : Admissible alone chain q) (slots : s.slots ≡ placed_slots q (chain_adders chain)) (output : s.output ≡ placed_output q chain) where
      pub placed_row : PlacedRow chain q s
      placed_row = (is_placed alone chain q adm (Ok s) (kept (subst (λ xs. first_broken (row_rules xs (placed_output q chain)) ≡ None) slots (subst (λ o. first_broken (row_rules s.slots o) ≡ None) output (unbroken s))) slots output)).0

      pub placed : Placed alone 1 chain q pair
      placed = record { row = s; of_chain = placed_row; rest = is_written }

      pub is_left : (b : Block) → Placed alone 1 chain q b → b ≡ pair
      is_left b p = block_one alone 1 chain q adm b pair p placed

  module _ (s : Row) (fits_s : uses_none_past a s ≡ true) (t : Row) (fits_t : uses_none_past a t ≡ true) (adder : ℕ) (amount : ℤ) (slots : t.slots ≡ moved_from adder amount 1 s.slots) (output : t.output ≡ moved_operand adder amount 0 s.output) where
    same_moved : (before row : Row) → s ≡ before → MovedRow before adder amount row → row ≡ t
    same_moved before row e m =
        same_row row t
        (m.slots ∙ ap (λ (x : Row). moved_from adder amount 1 x.slots) (sym e) ∙ sym slots)
        (m.output ∙ ap (λ (x : Row). moved_operand adder amount 0 x.output) (sym e) ∙ sym output)

    pub moved : (b : Block) → Moved (pair s fits_s) 1 adder amount b → b ≡ pair t fits_t
    moved b m =
        one_rewritten (pair s fits_s) 1 (Some t) b (pair t fits_t)
        (subst (λ x. Rewritten (pair s fits_s) 1 (Some x) b) (same_moved m.before m.row (some_one m.was) m.moved) m.rest)
        (record { adders = refl; width = refl; there = refl; others = λ k ne. others_stay one_row 1 (Some t) k ne ∙ sym (others_stay one_row 1 (Some s) k ne) })
