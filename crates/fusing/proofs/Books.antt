-- What a fusing leaves at the codes, and that it follows the plain book.
use Rattle.std.proofs.Common.{◌≡◌, ℕ, is_some, Some, None, Ok, Err, Option, Result, sym, refl, ap, ◌∙◌, subst}
use Rattle.adders.specs.declared.refusals.Refusal.{Refusal}
use Rattle.adders.specs.Rules.{first_broken}
use Rattle.chains.specs.declared.model.Chain.{Chain}
use Rattle.chains.specs.Chains.{chain_constant}
use Rattle.rows.specs.declared.model.Row.{Row}
use Rattle.blocks.specs.declared.model.Block.{Block}
use Rattle.blocks.specs.Blocks.{row_of, row_constant_of, constant_at}
use Rattle.blocks.specs.Books.{Book, unless_refused, Tells}
use Rattle.blocks.proofs.Books.{entry}
use Rattle.placing.proofs.Made.{constant_placed}
use Rattle.fusing.specs.Fusing.{fusing_rules, Fused, Fusing}
use Rattle.fusing.specs.Books.{fusing_causes, entered, FollowsBook}

-- a code has a constant where it has a row
pub same_live : (b : Block) (code : ℕ) → is_some (constant_at b code) ≡ is_some (row_of b code)
same_live b code = by (row_of b code)
  where
    by : (o : Option Row) → is_some (row_constant_of o) ≡ is_some o
    by None = refl
    by (Some r) = refl

-- the book has the causes of a fusing that the block has
same_causes : (k : Book) (b : Block) → Tells k b → (chain : Chain) (code : ℕ) → first_broken (fusing_causes k chain code) ≡ first_broken (fusing_rules b.adders (constant_at b) chain code)
same_causes k b t chain code = sym (λ i. first_broken (fusing_rules (t.adders i) (λ j. t.constants j i) chain code))

module _ (cost : Block → ℕ) (chain : Chain) (code : ℕ) (before : Block) where
  -- the code has the chain's constant
  pub there : (price : ℕ) (after : Block) → Fused cost before code chain price after → constant_at after code ≡ Some (chain_constant chain)
  there price after f =
      let placed = f.chosen.placed in
      ap row_constant_of placed.rest.there ∙ ap Some (constant_placed chain f.placement placed.row placed.of_chain before f.chosen.admissible)

  -- and every other what it had
  fused_told : (k : Book) (price : ℕ) (after : Block) → Tells k before → Fused cost before code chain price after → Tells (entered k chain code) after
  fused_told k price after told f =
      let rest = f.chosen.placed.rest in
      record {
        adders = rest.adders ∙ told.adders;
        constants = entry code (constant_at after) k.entries (Some (chain_constant chain)) (there price after f) (λ j ne. ap row_constant_of (rest.others j ne) ∙ told.constants j);
      }

  pub follows_book : (r : Result ℕ Refusal) (after : Block) → Fusing cost chain code before r after → FollowsBook chain code before r after
  follows_book (Ok price) after f k told =
      let none = same_causes k before told chain code ∙ f.0 in
      (none, subst (λ o. Tells (unless_refused o (entered k chain code) k) after) (sym none) (fused_told k price after told f.1))
  follows_book (Err e) after f k told =
      let cause = same_causes k before told chain code ∙ f.0 in
      (cause, subst (λ o. Tells (unless_refused o (entered k chain code) k) after) (sym cause) (subst (Tells k) (sym f.1) told))
