-- What running may answer, where the constant is known.
use Rattle.std.proofs.Common.{◌≡◌, ℕ, ◌*◌, ◌%◌, Some, None, Ok, Err, Result, sym, refl, ap, ◌∙◌, subst, ℤ}
use Rattle.adders.specs.declared.refusals.Refusal.{Refusal}
use Rattle.adders.specs.Rules.{first_broken}
use Rattle.adders.proofs.Broken.{some_none}
use Rattle.arith.specs.declared.word.Word.{Word}
use Rattle.arith.specs.declared.residue.Residue.{Residue}
use Rattle.arith.specs.declared.residue.Mod255.{Mod255}
use Rattle.arith.specs.Words.{WordProduct, word_meaning, words}
use Rattle.arith.specs.Remainders.{residue, residues}
use Rattle.arith.proofs.WordLemmas.{one_product}
use Rattle.tables.specs.Tables.{live_rules}
use Rattle.blocks.specs.declared.model.Block.{Block}
use Rattle.blocks.specs.Blocks.{constant_at}
use Rattle.blocks.specs.Runs.{RunAt}
use Rattle.worked.specs.Blocks.{RunsWord, IsResidue, RunsMod255}

module _ (b : Block) (code n : ℕ) (e : constant_at b code ≡ Some n) (live : first_broken (live_rules code (Some n)) ≡ None) where
  pub runs_word : (x r : ℤ) → WordProduct n x r → RunsWord b code x r
  runs_word x r g a h = by a (subst (λ o. RunAt (λ (w : Word). word_meaning w.value) words (λ n w p. WordProduct n w.value p.value) code o (record { value = x }) a) e h)
    where
      by : (a : Result Word Refusal) → RunAt (λ (w : Word). word_meaning w.value) words (λ n w p. WordProduct n w.value p.value) code (Some n) (record { value = x }) a → a ≡ Ok (record { value = r })
      by (Ok y) h = λ i. Ok (record { value = one_product n x y.value r h.1.product g i })
      by (Err f) h = absurd (some_none (sym h ∙ live))

  pub runs_mod_255 : (x r : ℕ) → (n * x) % 255 ≡ r → RunsMod255 b code x r
  runs_mod_255 x r g bounds w a is h = by a (subst (λ o. RunAt (λ (w : Residue Mod255). residue bounds w.number) (residues bounds) (λ n w p. p.number ≡ (n * w.number) % 255) code o w a) e h)
    where
      by : (a : Result (Residue Mod255) Refusal) → RunAt (λ (w : Residue Mod255). residue bounds w.number) (residues bounds) (λ n w p. p.number ≡ (n * w.number) % 255) code (Some n) w a → IsResidue a r
      by (Ok y) h = record { product = y; is = refl; number = h.1.product ∙ ap (λ k. (n * k) % 255) is ∙ g }
      by (Err f) h = absurd (some_none (sym h ∙ live))
