-- The block that is left: there is one, and one alone.
use Rattle.std.proofs.Common.{◌≡◌, ℕ, ◌<◌, ◌≤◌, false, is_some, Some, refl, sym, ap, ◌∙◌, ⊎_elim, arith}
use Rattle.std.proofs.lemmas.List.{length-set}
use Rattle.std.proofs.lemmas.Bool.{cases_eq}
use Rattle.chains.specs.declared.model.Chain.{Chain}
use Rattle.rows.specs.declared.model.Row.{Row}
use Rattle.tables.specs.Tables.{with_place}
use Rattle.blocks.specs.declared.model.Block.{Block}
use Rattle.blocks.specs.Blocks.{row_of}
use Rattle.blocks.specs.Uses.{row_uses}
use Rattle.blocks.proofs.Placing.{written, others_stay, at_each}
use Rattle.blocks.proofs.Same.{all_that_a_block_has}
use Rattle.placing.specs.Placements.{Placement, Admissible, PlacedRow, Placed}
use Rattle.placing.proofs.Made.{row_made, row_one}

-- the chain's row uses no adder that the block has not
pub within_block : (before : Block) (chain : Chain) (p : Placement) (r : Row) → Admissible before chain p → PlacedRow chain p r → (j : ℕ) → before.adders < j → row_uses (Some r) j ≡ false
within_block before chain p r adm placed j h = ap is_some (placed.others j (λ d l e. omega (arith, adm.inside d l)))

module _ (before : Block) (code : ℕ) (chain : Chain) (p : Placement) (adm : Admissible before chain p) where
  pub block_left : code ≤ 15 → (after : Block) × Placed before code chain p after
  block_left low =
      let made = row_made before chain p adm in
      let r = made.0 in
      let t = before.table in
      let after : Block = record {
        adders = before.adders;
        width = before.width;
        table = with_place t code (Some r);
        few = before.few;
        some_bits = before.some_bits;
        few_bits = before.few_bits;
        room = length-set t.rows code (Some r) ∙ before.room;
        within = λ k j l. at_each t code (Some r) (λ i o. row_uses o j ≡ false) before.room low (within_block before chain p r adm made.1 j l) (λ i. before.within i j l) k;
      } in (
        after,
        record {
          row = r;
          of_chain = made.1;
          rest = record { adders = refl; width = refl; there = written t code (Some r) before.room low; others = others_stay t code (Some r) };
        },
      )

  pub block_one : (a b : Block) → Placed before code chain p a → Placed before code chain p b → a ≡ b
  block_one a b of_a of_b =
      all_that_a_block_has a b (of_a.rest.adders ∙ sym of_b.rest.adders) (of_a.rest.width ∙ sym of_b.rest.width)
      (λ k. ⊎_elim
      (λ e. ap (row_of a) e ∙ of_a.rest.there ∙ ap Some (row_one before chain p of_a.row of_b.row adm of_a.of_chain of_b.of_chain) ∙ sym of_b.rest.there ∙ ap (row_of b) (sym e))
      (λ ne. of_a.rest.others k ne ∙ sym (of_b.rest.others k ne))
      (cases_eq k code))
