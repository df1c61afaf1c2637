-- The adders of a chain, and which of them stands at a number.
use Rattle.std.proofs.Common.{◌≡◌, ℕ, zero, suc, ◌<◌, ◌≤◌, ◌≢◌, Bool, false, ◌⊎◌, List, [], ◌∷◌, length, get_or, Some, None, inl, inr, ⊎_elim, ◌∙◌, arith}
use Rattle.std.proofs.lemmas.List.{get_or-map, length-map}
use Rattle.std.proofs.lemmas.Bool.{cases_eq}
use Rattle.adders.specs.declared.wiring.Adder.{Adder}
use Rattle.adders.specs.declared.wiring.Sign.TheVariants.{Minus}
use Rattle.adders.specs.Values.{spare_adder, wired}
use Rattle.adders.specs.Rules.{SoundAdder}
use Rattle.adders.proofs.Follow.{within}
use Rattle.chains.specs.declared.model.Chain.{Chain}
use Rattle.chains.specs.Chains.{chain_adders}
use Rattle.chains.proofs.Answering.{chain_keeps}
use Rattle.blocks.specs.declared.model.Block.{Block}
use Rattle.placing.specs.Placements.{Placement, nth_adder, Admissible}

module _ (chain : Chain) where
  pub nth_there : (d : ℕ) → d < length (chain_adders chain) → (a : Adder) × (nth_adder chain d ≡ Some a)
  nth_there d h = (get_or (chain_adders chain) d spare_adder, get_or-map Some (chain_adders chain) d spare_adder None h)

  pub nth_within : (d : ℕ) (a : Adder) → nth_adder chain d ≡ Some a → d < length (chain_adders chain)
  nth_within d a e = let n = length-map (chain_adders chain) Some in let h = within (wired (chain_adders chain)) d a e in omega arith

  -- its sources are lower, its shifts at most 30, its operands and its value in range
  pub nth_sound : (d : ℕ) (a : Adder) → nth_adder chain d ≡ Some a → SoundAdder (wired (chain_adders chain)) (suc d) a
  nth_sound d a e = (chain_keeps chain).adders d a e

  pub nth_lower : (d : ℕ) (a : Adder) → nth_adder chain d ≡ Some a → (a.left.source ≤ d) × (a.right.source ≤ d)
  nth_lower d a e = let s = nth_sound d a e in (omega (arith, s.left.lower), omega (arith, s.right.lower))

  pub nth_shifts : (d : ℕ) (a : Adder) → nth_adder chain d ≡ Some a → (a.left.shift ≤ 30) × (a.right.shift ≤ 30)
  nth_shifts d a e = let s = nth_sound d a e in (s.left.shift, s.right.shift)

-- an adder that stands at j, if there is one
pub record StandsAt (ps : List ℕ) (j : ℕ) : Type 0 where
  pub adder : ℕ
  pub within : adder < length ps
  pub is : get_or ps adder 0 ≡ j

abbrev pub NoneAt : List ℕ → ℕ → Type 0
NoneAt ps j = (d : ℕ) → d < length ps → get_or ps d 0 ≢ j

later : (q : ℕ) (ps : List ℕ) (j : ℕ) → q ≢ j → StandsAt ps j ⊎ NoneAt ps j → StandsAt (q ∷ ps) j ⊎ NoneAt (q ∷ ps) j
later q ps j ne (inl s) = let h = s.within in inl (record { adder = suc s.adder; within = omega arith; is = s.is })
later q ps j ne (inr none) = inr all
  where
    all : NoneAt (q ∷ ps) j
    all zero h = ne
    all (suc d) h = none d (omega arith)

pub stands : (ps : List ℕ) (j : ℕ) → StandsAt ps j ⊎ NoneAt ps j
stands [] j = inr (λ d h. absurd (omega arith))
stands (q ∷ ps) j =
    ⊎_elim
    (λ e. inl (record { adder = 0; within = omega arith; is = e }))
    (λ ne. later q ps j ne (stands ps j))
    (cases_eq q j)

-- other swaps, none of them of a minus adder
pub swapped_otherwise : (before : Block) (chain : Chain) (p : Placement) (ss : List Bool) → Admissible before chain p → length ss ≡ length p.swaps
    → ((d : ℕ) (a : Adder) → nth_adder chain d ≡ Some a → a.sign ≡ Minus → get_or ss d false ≡ false) → Admissible before chain (record { places = p.places; swaps = ss })
swapped_otherwise before chain p ss adm same kept = record {
  each_placed = adm.each_placed;
  each_told = same ∙ adm.each_told;
  inside = adm.inside;
  apart = adm.apart;
  fed = adm.fed;
  kept = kept;
}
