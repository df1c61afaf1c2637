-- Which cause a fusing is turned down for.
use Rattle.std.proofs.Common.{◌≡◌, ℕ, Bool, true, false, not, List, [], ◌∷◌, length, is_some, leb, Some, None, Option, sym, refl, ◌∙◌, subst, arith}
use Rattle.std.proofs.lemmas.Bool.{leb-true, leb-false, false≢true}
use Rattle.adders.specs.declared.refusals.Refusal.{Refusal}
use Rattle.adders.specs.declared.refusals.Refusal.TheVariants.{CodeAboveFifteen, CodeLive, BlockTooSmall}
use Rattle.adders.specs.Rules.{rule, first_broken}
use Rattle.adders.proofs.Broken.{some_none}
use Rattle.chains.specs.declared.model.Chain.{Chain}
use Rattle.chains.specs.Chains.{chain_adders}
use Rattle.rows.specs.declared.model.Row.{Row}
use Rattle.blocks.specs.declared.model.Block.{Block}
use Rattle.blocks.specs.Blocks.{row_of, constant_at}
use Rattle.placing.proofs.Laid.{some_one}
use Rattle.fusing.specs.Causes.{Cause, no_code, live, too_small, CausesInOrder}
use Rattle.fusing.proofs.Books.{same_live}

nothing_there : (o : Option Row) → is_some o ≡ false → o ≡ None
nothing_there None h = refl
nothing_there (Some r) h = absurd (false≢true (sym h))

module _ (before : Block) (code : ℕ) (chain : Chain) (e : Refusal) where
  by : (x y z : Bool) → leb code 15 ≡ x → is_some (row_of before code) ≡ y → leb (length (chain_adders chain)) before.adders ≡ z
      → first_broken (rule x CodeAboveFifteen ∷ rule (not y) CodeLive ∷ rule z BlockTooSmall ∷ []) ≡ Some e → Cause before code chain e
  by false y z h g k m = subst (Cause before code chain) (some_one m) (no_code (leb-false code 15 h))
  by true true z h g k m = subst (Cause before code chain) (some_one m) (live (leb-true code 15 h) g)
  by true false false h g k m = subst (Cause before code chain) (some_one m) (too_small (leb-true code 15 h) (nothing_there (row_of before code) g) (leb-false (length (chain_adders chain)) before.adders k))
  by true false true h g k m = absurd (some_none (sym m))

pub causes_in_order : CausesInOrder
causes_in_order before code chain e m =
    by before code chain e (leb code 15) (is_some (row_of before code)) (leb (length (chain_adders chain)) before.adders) refl refl refl
    (subst (λ live. first_broken (rule (leb code 15) CodeAboveFifteen ∷ rule (not live) CodeLive ∷ rule (leb (length (chain_adders chain)) before.adders) BlockTooSmall ∷ []) ≡ Some e) (same_live before code) m)
