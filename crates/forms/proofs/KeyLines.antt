-- What does not begin with a key, or does not go on behind it.
use Rattle.std.proofs.Common.{◌≡◌, ℕ, ◌<◌, ◌≤◌, List, [], ◌∷◌, ◌++◌, length, get_or, Option, Some, None, sym, ap, ◌∙◌, subst, append_assoc, length-append, arith}
use Rattle.std.proofs.lemmas.List.{append_cancel_left, get_or_append_left, length-take-le}
use Rattle.std.proofs.Math.Seq.{get_or-append_seam}
use Rattle.std.specs.Prelude.{MatchOption}
use Rattle.forms.specs.Breaking.{Viable}
use Rattle.forms.specs.Keys.{KeyThen, Along, along_early, along_late}

module _ (key : List ℕ) (F R : List ℕ → Type 0) (place : ℕ) (bs : List ℕ) (read : Along key R place bs) where
  early_length : place < length key → length bs ≡ place
  early_length h = ap length (along_early key R place bs read h) ∙ length-take-le place key (omega arith)

  -- a byte that is not the key's next one
  pub key_off : (byte : ℕ) → place < length key → (get_or key place 0 ≡ byte → ⊥) → ¬ Viable (KeyThen key F) (bs ++ byte ∷ [])
  key_off byte h other (more, is) =
      let joined : bs ++ byte ∷ more ≡ key ++ is.rest = sym (append_assoc bs (byte ∷ []) more) ∙ is.whole in
      other (sym (get_or_append_left key is.rest 0 place h)
      ∙ ap (λ l. get_or l place 0) (sym joined)
      ∙ ap (λ i. get_or (bs ++ byte ∷ more) i 0) (sym (early_length h))
      ∙ get_or-append_seam bs byte more 0)

  -- a byte after which what stands behind the key cannot go on
  pub behind_off : (byte : ℕ) → length key ≤ place → ¬ Viable F (read.rest ++ byte ∷ []) → ¬ Viable (KeyThen key F) (bs ++ byte ∷ [])
  behind_off byte h off (more, is) =
      let joined : key ++ ((read.rest ++ byte ∷ []) ++ more) ≡ key ++ is.rest =
      sym (
      ap (λ l. (l ++ byte ∷ []) ++ more) (along_late key R place bs read h)
      ∙ ap (λ l. l ++ more) (append_assoc key read.rest (byte ∷ []))
      ∙ append_assoc key (read.rest ++ byte ∷ []) more
      ) ∙ is.whole in
      off (more, subst F (sym (append_cancel_left key _ _ joined)) is.holds)

  pub short_off : place < length key → ¬ KeyThen key F bs
  short_off h is = let l = ap length is.whole ∙ length-append key is.rest in let m = early_length h in omega arith

  -- what is answered where the bytes end, behind a whole key
  module _ {V : Type 0} (Says : List ℕ → V → Type 0) where
    pub ended_behind : (said : Option V) → length key ≤ place → MatchOption said (¬ F read.rest) (Says read.rest) → MatchOption said (¬ KeyThen key F bs) (λ v. KeyThen key (λ rest. Says rest v) bs)
    ended_behind (Some v) h says = record { rest = read.rest; whole = along_late key R place bs read h; holds = says }
    ended_behind None h off = λ is. off (subst F (append_cancel_left key _ _ (sym is.whole ∙ along_late key R place bs read h)) is.holds)
