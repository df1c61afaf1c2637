-- The bytes of a key.
use Rattle.std.proofs.Common.{◌≡◌, ℕ, Bool, true, false, cond, eqb, List, [], ◌∷◌, ◌++◌, Some, None, Option, Bor, ◌≢◌, sym, refl, ap, ◌∙◌}
use Rattle.std.specs.Prelude.{option_map, MatchOption}
use Rattle.std.proofs.lemmas.Bool.{eqb-true, eq-eqb}
use Rattle.adders.proofs.Broken.{some_none}
use Rattle.texts.specs.Pieces.{skip}

-- what begins with the key is left without it
pub skip_again : (key rest : List ℕ) → skip key (key ++ rest) ≡ Some rest
skip_again [] rest = refl
skip_again (k ∷ ks) rest = ap (λ b. cond b (skip ks (ks ++ rest)) None) (eq-eqb k k refl) ∙ skip_again ks rest

pub skip_takes : (key text rest : List ℕ) → skip key text ≡ Some rest → text ≡ key ++ rest
skip_takes [] text rest e = cc
skip_takes (k ∷ ks) [] rest e = absurd (some_none (sym e))
skip_takes (k ∷ ks) (b ∷ bs) rest e = by (eqb k b) refl e (skip_takes ks bs rest)
  where
    by : (t : Bool) → eqb k b ≡ t → cond t (skip ks bs) None ≡ Some rest → (skip ks bs ≡ Some rest → bs ≡ ks ++ rest) → b ∷ bs ≡ k ∷ (ks ++ rest)
    by true same h f = let e = f h in let g = eqb-true k b same in cc
    by false same h f = absurd (some_none (sym h))

-- a prefix that is stripped, or is not there
pub stripped : (key text : List ℕ) (r : Option (Bor (List ℕ))) → MatchOption r ((rest : List ℕ) → text ≢ key ++ rest) (λ x. text ≡ key ++ x.now) → option_map (λ x. x.now) r ≡ skip key text
stripped key text (Some x) h = sym (ap (skip key) h ∙ skip_again key x.now)
stripped key text None h = by (skip key text) refl
  where
    by : (o : Option (List ℕ)) → skip key text ≡ o → None ≡ skip key text
    by (Some rest) e = absurd (h rest (skip_takes key text rest e))
    by None e = sym e
