-- That there is a placement where the block has adders enough, and none where it has not.
use Rattle.std.proofs.Common.{◌≡◌, ℕ, zero, suc, ◌+◌, ◌<◌, ◌≤◌, ◌≢◌, false, cond, eqb, List, [], ◌∷◌, length, get_or, replicate, refl, sym, ap, ◌∙◌, ⊎_elim, arith}
use Rattle.std.proofs.lemmas.List.{length-replicate}
use Rattle.std.proofs.lemmas.Bool.{cases_eq, eq-eqb, ne_eqb}
use Rattle.chains.specs.declared.model.Chain.{Chain}
use Rattle.chains.specs.Chains.{chain_adders}
use Rattle.blocks.specs.declared.model.Block.{Block}
use Rattle.placing.specs.Placements.{Placement, place, Admissible}
use Rattle.placing.proofs.Standing.{nth_within, nth_lower}
use Rattle.placing.proofs.Laid.{place_one}

-- n numbers from j on
abbrev pub numbers : ℕ → ℕ → List ℕ
numbers j zero = []
numbers j (suc n) = j ∷ numbers (suc j) n

length_numbers : (j n : ℕ) → length (numbers j n) ≡ n
length_numbers j zero = refl
length_numbers j (suc n) = ap suc (length_numbers (suc j) n)

number_at : (j n d : ℕ) → d < n → get_or (numbers j n) d 0 ≡ j + d
number_at j zero d h = absurd (omega arith)
number_at j (suc n) zero h = omega arith
number_at j (suc n) (suc d) h = number_at (suc j) n d (omega arith) ∙ (let e : suc j + d ≡ j + suc d = omega arith in e)

false_at : (n d : ℕ) → get_or (replicate n false) d false ≡ false
false_at zero d = refl
false_at (suc n) zero = refl
false_at (suc n) (suc d) = false_at n d

-- each of n adders at its own number, none swapped
abbrev pub own_numbers : ℕ → Placement
own_numbers n = record { places = numbers 1 n; swaps = replicate n false }

pub own_admissible : (before : Block) (chain : Chain) → length (chain_adders chain) ≤ before.adders → Admissible before chain (own_numbers (length (chain_adders chain)))
own_admissible before chain enough =
    let n = length (chain_adders chain) in
    let whole = length_numbers 1 n in
    let own : (d : ℕ) → d < n → place (own_numbers n) d ≡ 1 + d = λ d h. number_at 1 n d h in
    record {
      each_placed = whole;
      each_told = length-replicate n false;
      inside = λ d h. let e = own d (omega arith) in (omega arith, omega arith);
      apart = λ c d less h e. let i = own c (omega arith) in let k = own d (omega arith) in omega arith;
      fed = λ c d a e has.
          let h = nth_within chain d a e in
          let low = nth_lower chain d a e in
          let below : suc c ≤ d = ⊎_elim (λ l. omega (arith, low.0)) (λ r. omega (arith, low.1)) has in
          let i = own c (omega arith) in let k = own d (omega arith) in omega arith;
      kept = λ d a e m. false_at n d;
    }

pub at_own_numbers : (before : Block) (chain : Chain) → length (chain_adders chain) ≤ before.adders → (p : Placement) × Admissible before chain p
at_own_numbers before chain enough = (own_numbers (length (chain_adders chain)), own_admissible before chain enough)

-- Different numbers from 1 to a bound: the last takes the place of the one that has the bound itself.
module _ (bound n : ℕ) (f : ℕ → ℕ) (inside : (d : ℕ) → d < suc n → (1 ≤ f d) × (f d ≤ suc bound)) (one : (c d : ℕ) → c < suc n → d < suc n → f c ≡ f d → c ≡ d) where
  lowered : ℕ → ℕ
  lowered d = cond (eqb (f d) (suc bound)) (f n) (f d)

  at_bound : (d : ℕ) → f d ≡ suc bound → lowered d ≡ f n
  unfolding lowered
  at_bound d e = ap (λ b. cond b (f n) (f d)) (eq-eqb (f d) (suc bound) e)

  elsewhere : (d : ℕ) → f d ≢ suc bound → lowered d ≡ f d
  unfolding lowered
  elsewhere d ne = ap (λ b. cond b (f n) (f d)) (ne_eqb (f d) (suc bound) ne)

  lowered_inside : (d : ℕ) → d < n → (1 ≤ lowered d) × (lowered d ≤ bound)
  lowered_inside d h =
      let last = inside n (omega arith) in
      let own = inside d (omega arith) in
      ⊎_elim
      (λ e. let s = at_bound d e in let ne : f n ≢ suc bound = λ q. omega (arith, one d n (omega arith) (omega arith) (e ∙ sym q)) in (omega arith, omega arith))
      (λ ne. let s = elsewhere d ne in (omega arith, omega arith))
      (cases_eq (f d) (suc bound))

  lowered_one : (c d : ℕ) → c < n → d < n → lowered c ≡ lowered d → c ≡ d
  lowered_one c d hc hd e =
      ⊎_elim
      (λ ec. ⊎_elim
      (λ ed. one c d (omega arith) (omega arith) (ec ∙ sym ed))
      (λ nd. absurd (omega (arith, one n d (omega arith) (omega arith) (sym (at_bound c ec) ∙ e ∙ elsewhere d nd))))
      (cases_eq (f d) (suc bound)))
      (λ nc. ⊎_elim
      (λ ed. absurd (omega (arith, one c n (omega arith) (omega arith) (sym (elsewhere c nc) ∙ e ∙ at_bound d ed))))
      (λ nd. one c d (omega arith) (omega arith) (sym (elsewhere c nc) ∙ e ∙ elsewhere d nd))
      (cases_eq (f d) (suc bound)))
      (cases_eq (f c) (suc bound))

-- they are no more than the bound
few_numbers : (bound n : ℕ) (f : ℕ → ℕ) → ((d : ℕ) → d < n → (1 ≤ f d) × (f d ≤ bound)) → ((c d : ℕ) → c < n → d < n → f c ≡ f d → c ≡ d) → n ≤ bound
few_numbers bound zero f inside one = omega arith
few_numbers zero (suc n) f inside one = absurd (omega (arith, inside 0 (omega arith)))
few_numbers (suc bound) (suc n) f inside one = let h = few_numbers bound n (lowered bound n f inside one) (lowered_inside bound n f inside one) (lowered_one bound n f inside one) in omega arith

pub adders_enough : (before : Block) (chain : Chain) (p : Placement) → Admissible before chain p → length (chain_adders chain) ≤ before.adders
adders_enough before chain p adm = few_numbers before.adders (length (chain_adders chain)) (place p) (λ d h. adm.inside d (omega (arith, adm.each_placed))) (place_one before chain p adm)
