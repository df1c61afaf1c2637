-- What does not go on to two parts with a space between them.
use Rattle.std.proofs.Common.{◌≡◌, ℕ, ◌⊎◌, inl, inr, List, [], ◌∷◌, ◌++◌, sym, refl, ap, ◌∙◌, subst, ⊎_elim, append-nil, append_assoc}
use Rattle.forms.specs.Breaking.{Viable}
use Rattle.forms.specs.Parts.{SpaceBetween}

-- the first part of one splitting of a list goes past that of another
abbrev Past : List ℕ → List ℕ → ℕ → Type 0
Past x u b = (z : List ℕ) × (x ≡ u ++ b ∷ z)

record Same (x y u v : List ℕ) (a b : ℕ) : Type 0 where
  front : x ≡ u
  byte : a ≡ b
  back : y ≡ v

-- how two splittings of a list stand to each other
abbrev Seams : List ℕ → List ℕ → List ℕ → List ℕ → ℕ → ℕ → Type 0
Seams x y u v a b = Past x u b ⊎ (Past u x a ⊎ Same x y u v a b)

longer : (x y u v : List ℕ) (a b c d : ℕ) → c ≡ d → Seams x y u v a b → Seams (c ∷ x) y (d ∷ u) v a b
longer x y u v a b c d e (inl p) = inl (p.0, let f = p.1 in cc)
longer x y u v a b c d e (inr (inl p)) = inr (inl (p.0, let f = p.1 in cc))
longer x y u v a b c d e (inr (inr s)) = inr (inr (record { front = cc; byte = s.byte; back = s.back }))

seam : (x y u v : List ℕ) (a b : ℕ) → x ++ a ∷ y ≡ u ++ b ∷ v → Seams x y u v a b
seam [] y [] v a b e = inr (inr (record { front = refl; byte = cc; back = cc }))
seam [] y (d ∷ u) v a b e = inr (inl (u, cc))
seam (c ∷ x) y [] v a b e = inl (x, cc)
seam (c ∷ x) y (d ∷ u) v a b e = longer x y u v a b c d (cc) (seam x y u v a b (cc))

module _ (F : List ℕ → Type 0) (unspaced : (bs : List ℕ) → ¬ Viable F (bs ++ 32 ∷ [])) where
  -- what goes on to a word has no space in it
  no_space : (bs x z : List ℕ) → bs ≡ x ++ 32 ∷ z → Viable F bs → ⊥
  no_space bs x z e v = unspaced x (z ++ v.0, subst F (ap (λ l. l ++ v.0) e ∙ append_assoc x (32 ∷ z) v.0 ∙ sym (append_assoc x (32 ∷ []) (z ++ v.0))) v.1)

  -- what goes on to a word, and a word, are the same where a space follows both
  pub one_seam : (x y u v : List ℕ) → F x → Viable F u → x ++ 32 ∷ y ≡ u ++ 32 ∷ v → (x ≡ u) × (y ≡ v)
  one_seam x y u v is goes e =
      ⊎_elim
      (λ p. absurd (unspaced u (p.0, subst F (p.1 ∙ sym (append_assoc u (32 ∷ []) p.0)) is)))
      (λ q. ⊎_elim (λ p. absurd (no_space u x p.0 p.1 goes)) (λ s. (s.front, s.back)) q)
      (seam x y u v 32 32 e)

  module _ (G : List ℕ → Type 0) (bs : List ℕ) where
    joined : (byte : ℕ) (more : List ℕ) → (is : SpaceBetween F G ((bs ++ byte ∷ []) ++ more)) → is.front ++ 32 ∷ is.back ≡ bs ++ byte ∷ more
    joined byte more is = sym is.whole ∙ append_assoc bs (byte ∷ []) more

    pub first_off : (byte : ℕ) → (byte ≡ 32 → ⊥) → Viable F bs → ¬ Viable F (bs ++ byte ∷ []) → ¬ Viable (SpaceBetween F G) (bs ++ byte ∷ [])
    first_off byte other goes off (more, is) =
        ⊎_elim
        (λ p. off (p.0, subst F (p.1 ∙ sym (append_assoc bs (byte ∷ []) p.0)) is.before))
        (λ q. ⊎_elim (λ p. no_space bs is.front p.0 p.1 goes) (λ s. other (sym s.byte)) q)
        (seam is.front is.back bs more 32 byte (joined byte more is))

    pub space_off : Viable F bs → ¬ F bs → ¬ Viable (SpaceBetween F G) (bs ++ 32 ∷ [])
    space_off goes off (more, is) = off (subst F (one_seam is.front is.back bs more is.before goes (joined 32 more is)).0 is.before)

    pub first_short : Viable F bs → ¬ SpaceBetween F G bs
    first_short goes is = no_space bs is.front is.back is.whole goes

    module _ (x y : List ℕ) (whole : bs ≡ x ++ 32 ∷ y) (before : F x) where
      itself : Viable F x
      itself = ([], subst F (sym (append-nil x)) before)

      pub second_off : (byte : ℕ) → ¬ Viable G (y ++ byte ∷ []) → ¬ Viable (SpaceBetween F G) (bs ++ byte ∷ [])
      second_off byte off (more, is) =
          let e : is.front ++ 32 ∷ is.back ≡ x ++ 32 ∷ ((y ++ byte ∷ []) ++ more) =
          joined byte more is
          ∙ ap (λ l. l ++ byte ∷ more) whole
          ∙ append_assoc x (32 ∷ y) (byte ∷ more)
          ∙ ap (λ l. x ++ 32 ∷ l) (sym (append_assoc y (byte ∷ []) more)) in
          off (more, subst G (one_seam is.front is.back x ((y ++ byte ∷ []) ++ more) is.before itself e).1 is.behind)

      pub second_short : ¬ G y → ¬ SpaceBetween F G bs
      second_short off is = off (subst G (one_seam is.front is.back x y is.before itself (sym is.whole ∙ whole)).1 is.behind)
