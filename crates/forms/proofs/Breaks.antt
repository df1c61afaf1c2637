-- Bytes break a form at one place.
use Rattle.std.proofs.Common.{◌≡◌, ℕ, ◌+◌, ◌<◌, ◌≤◌, List, [], ◌∷◌, ◌++◌, length, get_or, take, drop, Some, None, Option, sym, ap, ◌∙◌, subst, ⊎_elim, append_assoc, arith}
use Rattle.std.proofs.lemmas.List.{take_more, take_all, take-append-drop, take-take}
use Rattle.std.proofs.lemmas.Bool.{cases_order}
use Rattle.std.specs.Prelude.{MatchOption, MatchResult}
use Rattle.std.specs.Option.{ok_or}
use Rattle.forms.specs.declared.error.FormError.{FormError}
use Rattle.forms.specs.Breaking.{Viable, BrokenAt}

module _ (F : List ℕ → Type 0) where
  -- a front of what some bytes of the form begin with is one too
  viable_front : (bs : List ℕ) (i j : ℕ) → i ≤ j → Viable F (take j bs) → Viable F (take i bs)
  viable_front bs i j h v =
      let same : take j bs ++ v.0 ≡ take i bs ++ (drop i (take j bs) ++ v.0) =
      ap (λ l. l ++ v.0) (sym (take-append-drop i (take j bs)) ∙ ap (λ l. l ++ drop i (take j bs)) (take-take i j bs h)) ∙ append_assoc (take i bs) (drop i (take j bs)) v.0 in
      (drop i (take j bs) ++ v.0, subst F same v.1)

  -- bytes do not break before the place where they break
  not_earlier : (bs : List ℕ) (i j : ℕ) → BrokenAt F bs i → BrokenAt F bs j → i < j → ⊥
  not_earlier bs i j a b h = a.after (omega (arith, b.within)) (viable_front bs (i + 1) j (omega arith) b.before)

  pub breaks_once : (bs : List ℕ) (i j : ℕ) → BrokenAt F bs i → BrokenAt F bs j → i ≡ j
  breaks_once bs i j a b = ⊎_elim (λ e. e) (⊎_elim (λ h. absurd (not_earlier bs i j a b h)) (λ h. absurd (not_earlier bs j i b a h))) (cases_order i j)

  -- bytes that can be continued up to byte i, and no further
  pub breaks_at : (bs : List ℕ) (i : ℕ) → i < length bs → Viable F (take i bs) → ¬ Viable F (take i bs ++ get_or bs i 0 ∷ []) → BrokenAt F bs i
  breaks_at bs i h v off =
      let gone : ¬ Viable F (take (i + 1) bs) = λ w. off (subst (Viable F) (take_more bs i 0 h) w) in
      record {
        within = omega arith;
        before = v;
        after = λ _. gone;
        broken = λ w. gone (drop (i + 1) bs, subst F (sym (take-append-drop (i + 1) bs)) w);
      }

  -- bytes that can be continued, and have not the form
  pub stops_short : (bs : List ℕ) → Viable F bs → ¬ F bs → BrokenAt F bs (length bs)
  stops_short bs v off = record {
    within = omega arith;
    before = subst (Viable F) (sym (take_all (length bs) bs (omega arith))) v;
    after = λ h. absurd (omega arith);
    broken = off;
  }

  -- what is answered of bytes that can be continued, where they end
  pub ended : {V : Type 0} (Says : List ℕ → V → Type 0) (bs : List ℕ) (said : Option V) → Viable F bs → MatchOption said (¬ F bs) (Says bs) → MatchResult (ok_or said (record { place = length bs })) (Says bs) (λ (e : FormError). BrokenAt F bs e.place)
  ended Says bs (Some v) h is = is
  ended Says bs None h is = stops_short bs h is

-- two forms that hold of the same bytes are broken at the same places
pub broken_alike : (F G : List ℕ → Type 0) → ((bs : List ℕ) → F bs → G bs) → ((bs : List ℕ) → G bs → F bs) → (bs : List ℕ) (i : ℕ) → BrokenAt F bs i → BrokenAt G bs i
broken_alike F G there back bs i b = record {
  within = b.within;
  before = (b.before.0, there _ b.before.1);
  after = λ h v. b.after h (v.0, back _ v.1);
  broken = λ g. b.broken (back bs g);
}
