-- The adders of a chain at their places: they keep their values, are sound, and are read as in the chain.
use Rattle.std.proofs.Common.{◌≡◌, ℕ, zero, suc, ◌+◌, ◌*◌, ◌^◌, ◌<◌, ◌≤◌, ◌≢◌, Bool, true, false, length, get_or, is_some, Some, None, Option, refl, sym, ap, ◌∙◌, subst, inl, inr, ⊎_elim, arith}
use Rattle.std.proofs.Math.Nat.{add_comm}
use Rattle.std.proofs.lemmas.Bool.{cases_lt, false≢true}
use Rattle.adders.specs.declared.wiring.Adder.{Adder}
use Rattle.adders.specs.declared.wiring.Operand.{Operand}
use Rattle.adders.specs.declared.wiring.Sign.{Sign}
use Rattle.adders.specs.declared.wiring.Sign.TheVariants.{Plus, Minus}
use Rattle.adders.specs.Values.{Slots, combined, value, wired, by_rule}
use Rattle.adders.specs.Rules.{InRange, SoundOperand, SoundAdder, Sound}
use Rattle.adders.proofs.Broken.{some_none}
use Rattle.adders.proofs.Follow.{follow}
use Rattle.chains.specs.declared.model.Chain.{Chain}
use Rattle.chains.specs.Chains.{chain_adders, chain_constant}
use Rattle.chains.proofs.Answering.{chain_keeps}
use Rattle.rows.specs.Reading.{HasSource, Reads, directly, through}
use Rattle.rows.specs.Rules.{row_constant, Used, KeepsRow}
use Rattle.blocks.specs.declared.model.Block.{Block}
use Rattle.placing.specs.Placements.{Placement, nth_adder, place, swap, Admissible, placed_source, placed_operand, placed_adder}
use Rattle.placing.proofs.Standing.{nth_there, nth_within, nth_sound, nth_lower, NoneAt, stands}

-- slots with the chain's adders at their places and no others
pub record Laid (chain : Chain) (p : Placement) (xs : Slots) : Type 0 where
  pub there : (d k : ℕ) (a : Adder) → nth_adder chain d ≡ Some a → place p d ≡ suc k → get_or xs k None ≡ Some (placed_adder p (swap p d) a)
  pub others : (k : ℕ) → NoneAt p.places (suc k) → get_or xs k None ≡ None

-- an adder of the chain and where it stands
pub record Stander (chain : Chain) (p : Placement) (d : ℕ) : Type 0 where
  pub adder : Adder
  pub is : nth_adder chain d ≡ Some adder
  pub slot : ℕ
  pub stands : place p d ≡ suc slot

swap_values : (s : Sign) (l r : ℕ) → s ≢ Minus → combined s r l ≡ combined s l r
swap_values Plus l r h = add_comm r l
swap_values Minus l r h = absurd (h refl)

pub some_one : {A : Type 0} {x y : A} → Some x ≡ Some y → x ≡ y
some_one e = cc

module _ (before : Block) (chain : Chain) (p : Placement) (adm : Admissible before chain p) where
  abbrev cs : Slots
  cs = wired (chain_adders chain)

  abbrev n : ℕ
  n = length (chain_adders chain)

  pub stander : (d : ℕ) → d < n → Stander chain p d
  stander d h = by (place p d) refl
    where
      by : (j : ℕ) → place p d ≡ j → Stander chain p d
      by zero e = absurd (omega (arith, adm.each_placed, adm.inside d))
      by (suc k) e = let t = nth_there chain d h in record { adder = t.0; is = t.1; slot = k; stands = e }

  -- what an adder reads stands below it
  pub source_below : (d : ℕ) (a : Adder) (i : ℕ) → nth_adder chain d ≡ Some a → HasSource a i → placed_source p i < place p d
  source_below d a zero e has = omega (arith, adm.each_placed, adm.inside d, nth_within chain d a e)
  source_below d a (suc c) e has = adm.fed c d a e has

  pub source_inside : (i : ℕ) → i ≤ n → placed_source p i ≤ before.adders
  source_inside zero h = omega arith
  source_inside (suc d) h = omega (arith, adm.each_placed, adm.inside d)

  -- adders stand apart
  pub place_one : (c d : ℕ) → c < n → d < n → place p c ≡ place p d → c ≡ d
  place_one c d h g e =
      ⊎_elim
      (λ less. absurd (adm.apart c d less (omega (arith, adm.each_placed)) e))
      (λ not_less. ⊎_elim (λ more. absurd (adm.apart d c more (omega (arith, adm.each_placed)) (sym e))) (λ not_more. omega arith) (cases_lt d c))
      (cases_lt c d)

  module _ (xs : Slots) (laid : Laid chain p xs) where
    -- the rule gives an adder that is swapped what it gave before
    by_rule_placed : (d : ℕ) (a : Adder) (b : Bool) → swap p d ≡ b → nth_adder chain d ≡ Some a → value xs (placed_source p a.left.source) ≡ value cs a.left.source → value xs (placed_source p a.right.source) ≡ value cs a.right.source
        → by_rule xs (placed_adder p b a) ≡ by_rule cs a
    by_rule_placed d a false s e l r = λ i. combined a.sign (l i * 2 ^ a.left.shift) (r i * 2 ^ a.right.shift)
    by_rule_placed d a true s e l r =
        (λ i. combined a.sign (r i * 2 ^ a.right.shift) (l i * 2 ^ a.left.shift))
        ∙ swap_values a.sign (value cs a.left.source * 2 ^ a.left.shift) (value cs a.right.source * 2 ^ a.right.shift) (λ m. false≢true (sym (adm.kept d a e m) ∙ s))

    operand_lower : (d k : ℕ) (a : Adder) (b : Bool) → nth_adder chain d ≡ Some a → place p d ≡ suc k → ((placed_adder p b a).left.source ≤ k) × ((placed_adder p b a).right.source ≤ k)
    operand_lower d k a false e s = (omega (arith, source_below d a a.left.source e (inl refl)), omega (arith, source_below d a a.right.source e (inr refl)))
    operand_lower d k a true e s = (omega (arith, source_below d a a.right.source e (inr refl)), omega (arith, source_below d a a.left.source e (inl refl)))

    values_upto : (fuel j : ℕ) → j ≤ fuel → j ≤ n → value xs (placed_source p j) ≡ value cs j
    values_upto fuel zero h g = follow.sample_is xs ∙ sym (follow.sample_is cs)
    values_upto zero (suc d) h g = absurd (omega arith)
    values_upto (suc fuel) (suc d) h g =
        let s = stander d (omega arith) in
        let a = s.adder in
        let low = nth_lower chain d a s.is in
        let below = operand_lower d s.slot a (swap p d) s.is s.stands in
        ap (value xs) s.stands
        ∙ follow.adder_is xs s.slot (placed_adder p (swap p d) a) (laid.there d s.slot a s.is s.stands) below.0 below.1
        ∙ by_rule_placed d a (swap p d) refl s.is (values_upto fuel a.left.source (omega arith) (omega arith)) (values_upto fuel a.right.source (omega arith) (omega arith))
        ∙ sym (follow.adder_is cs d a s.is low.0 low.1)

    -- an adder keeps its value at its place
    pub value_laid : (j : ℕ) → j ≤ n → value xs (placed_source p j) ≡ value cs j
    value_laid j h = values_upto j j (omega arith) h

    -- what a slot holds is an adder of the chain, placed
    pub record Filled (k : ℕ) (x : Adder) : Type 0 where
      pub number : ℕ
      pub adder : Adder
      pub is : nth_adder chain number ≡ Some adder
      pub stands : place p number ≡ suc k
      pub placed : x ≡ placed_adder p (swap p number) adder

    pub filled : (k : ℕ) (x : Adder) → get_or xs k None ≡ Some x → Filled k x
    filled k x e =
        ⊎_elim
        (λ s.
        let t = nth_there chain s.adder (omega (arith, s.within, adm.each_placed)) in
        record { number = s.adder; adder = t.0; is = t.1; stands = s.is; placed = some_one (sym e ∙ laid.there s.adder k t.0 t.1 s.is) })
        (λ none. absurd (some_none (sym e ∙ laid.others k none)))
        (stands p.places (suc k))

    operand_sound : (d k : ℕ) (a : Adder) (o : Operand) → nth_adder chain d ≡ Some a → place p d ≡ suc k → HasSource a o.source → SoundOperand cs (suc d) o → SoundOperand xs (suc k) (placed_operand p o)
    operand_sound d k a o e s has t =
        let h = nth_within chain d a e in
        record {
          lower = omega (arith, source_below d a o.source e has);
          shift = t.shift;
          range = subst (λ v. InRange (v * 2 ^ o.shift)) (sym (value_laid o.source (omega (arith, t.lower)))) t.range;
        }

    placed_sound : (d k : ℕ) (a : Adder) (b : Bool) → nth_adder chain d ≡ Some a → place p d ≡ suc k → SoundAdder xs (suc k) (placed_adder p b a)
    placed_sound d k a false e s =
        let t = nth_sound chain d a e in
        record {
          left = operand_sound d k a a.left e s (inl refl) t.left;
          right = operand_sound d k a a.right e s (inr refl) t.right;
          range = subst InRange (sym (ap (value xs) (sym s) ∙ value_laid (suc d) (omega (arith, nth_within chain d a e)))) t.range;
        }
    placed_sound d k a true e s =
        let t = nth_sound chain d a e in
        record {
          left = operand_sound d k a a.right e s (inr refl) t.right;
          right = operand_sound d k a a.left e s (inl refl) t.left;
          range = subst InRange (sym (ap (value xs) (sym s) ∙ value_laid (suc d) (omega (arith, nth_within chain d a e)))) t.range;
        }

    pub sound : Sound xs
    sound k x e = let f = filled k x e in subst (SoundAdder xs (suc k)) (sym f.placed) (placed_sound f.number k f.adder (swap p f.number) f.is f.stands)

    -- a placed adder reads the places of its sources, and nothing else
    has_placed : (a : Adder) (b : Bool) (i : ℕ) → HasSource a i → HasSource (placed_adder p b a) (placed_source p i)
    has_placed a false i (inl e) = inl (ap (placed_source p) e)
    has_placed a false i (inr e) = inr (ap (placed_source p) e)
    has_placed a true i (inl e) = inr (ap (placed_source p) e)
    has_placed a true i (inr e) = inl (ap (placed_source p) e)

    -- a source that is the place of one of the chain's
    record FromChain (j : ℕ) : Type 0 where
      source : ℕ
      low : source ≤ n
      is : placed_source p source ≡ j

    placed_has : (d : ℕ) (a : Adder) (b : Bool) (j : ℕ) → nth_adder chain d ≡ Some a → HasSource (placed_adder p b a) j → FromChain j
    placed_has d a b j e has =
        let h = nth_within chain d a e in
        let low = nth_lower chain d a e in
        by b has (record { source = a.left.source; low = omega arith; is = refl }) (record { source = a.right.source; low = omega arith; is = refl })
      where
        by : (b : Bool) → HasSource (placed_adder p b a) j → FromChain (placed_source p a.left.source) → FromChain (placed_source p a.right.source) → FromChain j
        by false (inl f) l r = subst FromChain f l
        by false (inr f) l r = subst FromChain f r
        by true (inl f) l r = subst FromChain f r
        by true (inr f) l r = subst FromChain f l

    -- from the last adder down: each is read by a later one
    reached : (fuel d : ℕ) → d < n → n ≤ suc d + fuel → Reads xs (placed_source p n) (place p d)
    reached zero d h near = subst (λ i. Reads xs (placed_source p i) (place p d)) (let e : suc d ≡ n = omega arith in e) directly
    reached (suc fuel) d h near =
        ⊎_elim
        (λ less.
        let r = (chain_keeps chain).read (suc d) (omega arith) less in
        let room = nth_within chain r.place r.reader r.there in
        let s = stander r.place room in
        let later = r.later in
        through (subst (Reads xs (placed_source p n)) s.stands (reached fuel r.place room (omega arith)))
        (laid.there r.place s.slot r.reader r.there s.stands)
        (has_placed r.reader (swap p r.place) (suc d) r.reads_it))
        (λ last. subst (λ i. Reads xs (placed_source p i) (place p d)) (let e : suc d ≡ n = omega arith in e) directly)
        (cases_lt (suc d) n)

    -- only places of the chain's sources are read
    read_from : (j : ℕ) → Reads xs (placed_source p n) j → FromChain j
    read_from j directly = record { source = n; low = omega arith; is = refl }
    read_from j (through {k = k} {a = x} r e has) =
        let f = filled k x e in
        placed_has f.number f.adder (swap p f.number) j f.is (subst (λ y. HasSource y j) f.placed has)

    used_there : (k i : ℕ) → i ≤ n → placed_source p i ≡ suc k → Used xs k
    used_there k zero h e = absurd (omega arith)
    used_there k (suc d) h e = let t = nth_there chain d (omega arith) in ap is_some (laid.there d k t.0 t.1 e)

    used_some : (k : ℕ) (o : Option Adder) → get_or xs k None ≡ o → is_some o ≡ true → (x : Adder) × (get_or xs k None ≡ Some x)
    used_some k None e u = absurd (false≢true u)
    used_some k (Some x) e u = (x, e)

    pub constant_laid : (o : Operand) → o.source ≡ placed_source p n → o.shift ≡ chain.shift → row_constant xs o ≡ chain_constant chain
    constant_laid o s t = (λ i. value xs (s i) * 2 ^ t i) ∙ ap (λ v. v * 2 ^ chain.shift) (value_laid n (omega arith))

    pub keeps_row : (o : Operand) → before.adders ≤ length xs → o.source ≡ placed_source p n → o.shift ≡ chain.shift → KeepsRow xs o
    keeps_row o room s t = record {
      adders = sound;
      source = omega (arith, source_inside n (omega arith));
      shift = subst (λ v. v ≤ 30) (sym t) (chain_keeps chain).shift;
      range = subst InRange (sym (constant_laid o s t)) (chain_keeps chain).range;
      read = λ k l u.
          let x = used_some k (get_or xs k None) refl u in
          let f = filled k x.0 x.1 in
          let h = nth_within chain f.number f.adder f.is in
          subst (λ v. Reads xs v (suc k)) (sym s) (subst (Reads xs (placed_source p n)) f.stands (reached n f.number h (omega arith)));
      filled = λ k l r. let f = read_from (suc k) (subst (λ v. Reads xs v (suc k)) s r) in used_there k f.source f.low f.is;
    }
