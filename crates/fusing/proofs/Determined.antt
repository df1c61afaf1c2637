-- There is one chosen placement.
use Rattle.std.proofs.Common.{◌≡◌, ℕ, ◌<◌, Bool, true, false, ◌⊎◌, List, [], ◌∷◌, length, sym, refl, ap, ◌∙◌, subst, inl, inr, ⊎_elim, arith}
use Rattle.std.proofs.lemmas.Bool.{cases_order}
use Rattle.chains.specs.declared.model.Chain.{Chain}
use Rattle.blocks.specs.declared.model.Block.{Block}
use Rattle.search.specs.Choosing.{Lower}
use Rattle.placing.specs.Placements.{Placement, Placed}
use Rattle.placing.proofs.Left.{block_one}
use Rattle.fusing.specs.Fusing.{Unswapped, Before, Chosen, FusingIsDetermined}

-- of two lists of a length one is lower, or they are the same
ordered : (ps qs : List ℕ) → length ps ≡ length qs → (ps ≡ qs) ⊎ (Lower ps qs ⊎ Lower qs ps)
ordered [] [] e = inl refl
ordered [] (q ∷ qs) e = absurd (omega arith)
ordered (p ∷ ps) [] e = absurd (omega arith)
ordered (p ∷ ps) (q ∷ qs) e = by (cases_order p q) (ordered ps qs (omega arith))
  where
    by : (p ≡ q) ⊎ ((p < q) ⊎ (q < p)) → (ps ≡ qs) ⊎ (Lower ps qs ⊎ Lower qs ps) → ((p ∷ ps) ≡ (q ∷ qs)) ⊎ (Lower (p ∷ ps) (q ∷ qs) ⊎ Lower (q ∷ qs) (p ∷ ps))
    by (inl h) (inl t) = inl (λ i. h i ∷ t i)
    by (inl h) (inr (inl t)) = inr (inl (inr (h, t)))
    by (inl h) (inr (inr t)) = inr (inr (inr (sym h, t)))
    by (inr (inl h)) t = inr (inl (inl h))
    by (inr (inr h)) t = inr (inr (inl h))

swaps_ordered : (rs ss : List Bool) → length rs ≡ length ss → (rs ≡ ss) ⊎ (Unswapped rs ss ⊎ Unswapped ss rs)
swaps_ordered [] [] e = inl refl
swaps_ordered [] (s ∷ ss) e = absurd (omega arith)
swaps_ordered (r ∷ rs) [] e = absurd (omega arith)
swaps_ordered (r ∷ rs) (s ∷ ss) e = by r s (swaps_ordered rs ss (omega arith))
  where
    same : (r : Bool) → (rs ≡ ss) ⊎ (Unswapped rs ss ⊎ Unswapped ss rs) → ((r ∷ rs) ≡ (r ∷ ss)) ⊎ (Unswapped (r ∷ rs) (r ∷ ss) ⊎ Unswapped (r ∷ ss) (r ∷ rs))
    same r (inl t) = inl (λ i. r ∷ t i)
    same r (inr (inl t)) = inr (inl (inr (refl, t)))
    same r (inr (inr t)) = inr (inr (inr (refl, t)))

    by : (r s : Bool) → (rs ≡ ss) ⊎ (Unswapped rs ss ⊎ Unswapped ss rs) → ((r ∷ rs) ≡ (s ∷ ss)) ⊎ (Unswapped (r ∷ rs) (s ∷ ss) ⊎ Unswapped (s ∷ ss) (r ∷ rs))
    by false false t = same false t
    by true true t = same true t
    by false true t = inr (inl (inl (refl, refl)))
    by true false t = inr (inr (inl (refl, refl)))

module _ (cost : Block → ℕ) (before : Block) (code : ℕ) (chain : Chain) (p q : Placement) (a b : Block) (f : Chosen cost before code chain p a) (g : Chosen cost before code chain q b) where
  not_before : Before p q → ⊥
  not_before h = omega (arith, g.first p a f.admissible f.placed h, f.least q b g.admissible g.placed)

  not_after : Before q p → ⊥
  not_after h = omega (arith, f.first q b g.admissible g.placed h, g.least p a f.admissible f.placed)

  one_placement : p ≡ q
  one_placement =
      ⊎_elim
      (λ same. ⊎_elim
      (λ alike. λ i. record { places = same i; swaps = alike i })
      (λ differ. ⊎_elim (λ u. absurd (not_before (inr (same, u)))) (λ u. absurd (not_after (inr (sym same, u)))) differ)
      (swaps_ordered p.swaps q.swaps (f.admissible.each_told ∙ sym g.admissible.each_told)))
      (λ differ. ⊎_elim (λ l. absurd (not_before (inl l))) (λ l. absurd (not_after (inl l))) differ)
      (ordered p.places q.places (f.admissible.each_placed ∙ sym g.admissible.each_placed))

  one_block : a ≡ b
  one_block = block_one before code chain p f.admissible a b f.placed (subst (λ x. Placed before code chain x b) (sym one_placement) g.placed)

pub determined : FusingIsDetermined
determined cost before code chain m n a b f g =
    let one = one_block cost before code chain f.placement g.placement a b f.chosen g.chosen in
    (one_placement cost before code chain f.placement g.placement a b f.chosen g.chosen, f.priced ∙ ap cost one ∙ sym g.priced, one)
