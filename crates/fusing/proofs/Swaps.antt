-- A swap pays.
use Rattle.std.proofs.Common.{◌≡◌, ℕ, zero, suc, ◌≢◌, Bool, true, false, List, [], ◌∷◌, length, get_or, refl, ap, ◌∙◌, inl, inr}
use Rattle.std.proofs.lemmas.Bool.{false≢true}
use Rattle.placing.specs.Placements.{Placement, Admissible}
use Rattle.chains.specs.declared.model.Chain.{Chain}
use Rattle.blocks.specs.declared.model.Block.{Block}
use Rattle.fusing.specs.Fusing.{Unswapped}
use Rattle.fusing.specs.Swaps.{kept_at, as_it_is, SwapsPay}

kept_length : (d : ℕ) (ss : List Bool) → length (kept_at d ss) ≡ length ss
kept_length d [] = refl
kept_length zero (s ∷ ss) = refl
kept_length (suc d) (s ∷ ss) = ap suc (kept_length d ss)

pub kept_own : (d : ℕ) (ss : List Bool) → get_or (kept_at d ss) d false ≡ false
kept_own d [] = refl
kept_own zero (s ∷ ss) = refl
kept_own (suc d) (s ∷ ss) = kept_own d ss

pub kept_other : (d e : ℕ) (ss : List Bool) → e ≢ d → get_or (kept_at d ss) e false ≡ get_or ss e false
kept_other d e [] ne = refl
kept_other zero zero (s ∷ ss) ne = absurd (ne refl)
kept_other zero (suc e) (s ∷ ss) ne = refl
kept_other (suc d) zero (s ∷ ss) ne = refl
kept_other (suc d) (suc e) (s ∷ ss) ne = kept_other d e ss (λ same. ne (ap suc same))

kept_false : (d e : ℕ) (ss : List Bool) → get_or ss e false ≡ false → get_or (kept_at d ss) e false ≡ false
kept_false d e [] h = h
kept_false zero zero (s ∷ ss) h = refl
kept_false zero (suc e) (s ∷ ss) h = h
kept_false (suc d) zero (s ∷ ss) h = h
kept_false (suc d) (suc e) (s ∷ ss) h = kept_false d e ss h

kept_before : (d : ℕ) (ss : List Bool) → get_or ss d false ≡ true → Unswapped (kept_at d ss) ss
kept_before d [] h = absurd (false≢true h)
kept_before zero (s ∷ ss) h = inl (refl, h)
kept_before (suc d) (s ∷ ss) h = inr (refl, kept_before d ss h)

pub kept_admissible : (before : Block) (chain : Chain) (p : Placement) (d : ℕ) → Admissible before chain p → Admissible before chain (as_it_is d p)
kept_admissible before chain p d a = record {
  each_placed = a.each_placed;
  each_told = kept_length d p.swaps ∙ a.each_told;
  inside = a.inside;
  apart = a.apart;
  fed = a.fed;
  kept = λ e x there minus. kept_false d e p.swaps (a.kept e x there minus);
}

pub swaps_pay : SwapsPay
swaps_pay cost before code chain p d after other c turned placed =
    c.first (as_it_is d p) other (kept_admissible before chain p d c.admissible) placed (inr (refl, kept_before d p.swaps turned))
