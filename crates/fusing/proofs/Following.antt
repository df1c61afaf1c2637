-- Admissible placements are what the search goes through.
use Rattle.std.proofs.Common.{◌≡◌, ℕ, zero, suc, ◌-◌, ◌<◌, ◌≤◌, ◌≢◌, Bool, true, false, not, ◌&&◌, ◌||◌, ltb, eqb, List, [], ◌∷◌, ◌++◌, length, take, get_or, Some, None, Option, sym, refl, ap, ◌∙◌, subst, inl, inr, ⊎_elim, arith}
use Rattle.std.specs.Prelude.{slice_get, slice_index_or}
use Rattle.std.specs.List.{list_any}
use Rattle.std.proofs.Math.Seq.{get_or-append_seam}
use Rattle.std.proofs.lemmas.List.{append_assoc, append-nil, get_or-take, get_or_append_left, length-append, length-take}
use Rattle.std.proofs.lemmas.Bool.{false≢true, lt-ltb, ltb-true, ne_eqb, eq-eqb}
use Rattle.adders.specs.declared.wiring.Adder.{Adder}
use Rattle.adders.specs.declared.wiring.Sign.TheVariants.{Minus}
use Rattle.chains.specs.declared.model.Chain.{Chain}
use Rattle.chains.specs.Chains.{chain_adders}
use Rattle.rows.specs.Reading.{HasSource}
use Rattle.blocks.specs.declared.model.Block.{Block}
use Rattle.prices.specs.Tables.{Tables}
use Rattle.rises.specs.Rises.{port_with}
use Rattle.rises.specs.declared.uses.ValuedAdder.{ValuedAdder}
use Rattle.rises.specs.Uses.{valued_adder}
use Rattle.search.specs.Choosing.{Follows}
use Rattle.placing.specs.Placements.{Placement, nth_adder, place, Admissible, placed_source}
use Rattle.placing.proofs.Standing.{nth_there, nth_within, nth_lower}
use Rattle.placing.proofs.Laid.{source_below}
use Rattle.fusing.specs.declared.task.Task.{Task}
use Rattle.fusing.specs.Tasks.{at, moved, stands_above, opens_at, way_at, rise_of, TaskOf}
use Rattle.fusing.proofs.Parts.{use_at}

free : (xs : List ℕ) (q : ℕ) → ((i : ℕ) → i < length xs → get_or xs i 0 ≢ q) → list_any (λ x. eqb x q) xs ≡ false
free [] q h = refl
free (x ∷ xs) q h = rw (ne_eqb x q (h 0 (omega arith))) (free xs q (λ i l. h (suc i) (omega arith)))

not_among : (xs : List ℕ) (q i : ℕ) → list_any (λ x. eqb x q) xs ≡ false → i < length xs → get_or xs i 0 ≢ q
not_among [] q i h l = absurd (omega arith)
not_among (x ∷ xs) q zero h l = λ e. false≢true (sym h ∙ ap (λ b. b || list_any (λ y. eqb y q) xs) (eq-eqb x q e))
not_among (x ∷ xs) q (suc i) h l = not_among xs q i (right_false (eqb x q) (list_any (λ y. eqb y q) xs) h) (omega arith)
  where
    right_false : (a b : Bool) → (a || b) ≡ false → b ≡ false
    right_false true b e = absurd (false≢true (sym e))
    right_false false b e = e

both : (a b : Bool) → (a && b) ≡ true → (a ≡ true) × (b ≡ true)
both true b e = (refl, e)
both false b e = absurd (false≢true e)

not_true : (a : Bool) → not a ≡ true → a ≡ false
not_true true e = absurd (false≢true e)
not_true false e = refl

module _ {L : Type 0} (t : Tables) (b : Block) (chain : Chain) (task : Task L) (is : TaskOf t b chain task) where
  abbrev n : ℕ
  n = length (chain_adders chain)

  abbrev pub uses : ℕ → Option ValuedAdder
  uses d = slice_index_or task.uses d None

  abbrev pub opens : List ℕ → ℕ → Bool
  opens before q = opens_at uses before q

  abbrev pub rise : List ℕ → ℕ → ℕ
  rise before q = rise_of (way_at t task.sample before (slice_get task.held (q - 1)) (uses (length before)))

  abbrev pub last : List ℕ → ℕ
  last all = port_with t.muxes task.sample task.held_output (moved all task.output)

  abbrev pub Goes : ℕ → List ℕ → List ℕ → Type 0
  Goes = Follows task.count opens rise last

  module _ (p : Placement) (adm : Admissible b chain p) where
    lower : (before : List ℕ) (d j : ℕ) (a : Adder) → ((i : ℕ) → i < d → get_or before i 0 ≡ place p i) → nth_adder chain d ≡ Some a → HasSource a j → j ≤ d → placed_source (at before) j < place p d
    lower before d zero a g e has low = source_below b chain p adm d a zero e has
    lower before d (suc i) a g e has low = omega (arith, g i, source_below b chain p adm d a (suc i) e has)

    -- the next place of a placement is open
    open_next : (before : List ℕ) (d : ℕ) → length before ≡ d → d < n → ((i : ℕ) → i < d → get_or before i 0 ≡ place p i) → opens before (place p d) ≡ true
    open_next before d long h g =
        let a = nth_there chain d h in
        let low = nth_lower chain d a.0 a.1 in
        let some : uses (length before) ≡ Some (valued_adder is.row (suc d) a.0) = ap uses long ∙ use_at t b chain task is d a.0 a.1 in
        let l = lt-ltb (placed_source (at before) a.0.left.source) (place p d) (lower before d a.0.left.source a.0 g a.1 (inl refl) low.0) in
        let r = lt-ltb (placed_source (at before) a.0.right.source) (place p d) (lower before d a.0.right.source a.0 g a.1 (inr refl) low.1) in
        let apart = free before (place p d) (λ i k. λ e. adm.apart i d (omega arith) (omega (arith, adm.each_placed)) (sym (g i (omega arith)) ∙ e)) in
        let above : stands_above before (uses (length before)) (place p d) ≡ true = ap (λ u. stands_above before u (place p d)) some ∙ (λ i. l i && r i) in
        λ i. above i && not (apart i)

    goes : (m : ℕ) (before rest : List ℕ) → before ++ rest ≡ p.places → length rest ≡ m → Goes m before rest
    goes zero before [] e h = tt
    goes zero before (q ∷ rest) e h = absurd (omega arith)
    goes (suc m) before [] e h = absurd (omega arith)
    goes (suc m) before (q ∷ rest) e h =
        let long = length-append before (q ∷ rest) in
        let d = length before in
        let is_q : place p d ≡ q = ap (λ xs. get_or xs d 0) (sym e) ∙ get_or-append_seam before q rest 0 in
        let size = ap length e in
        let inside = adm.inside d (omega arith) in
        let free_q = open_next before d refl (omega (arith, adm.each_placed)) (λ i k. sym (get_or_append_left before (q ∷ rest) 0 i k) ∙ ap (λ xs. get_or xs i 0) e) in
        (omega arith, omega (arith, is.count), ap (opens before) (sym is_q) ∙ free_q, goes m (before ++ q ∷ []) rest (append_assoc before (q ∷ []) rest ∙ e) (omega arith))

    pub gone_through : Goes n [] p.places
    gone_through = goes n [] p.places refl adm.each_placed

  pub follows_length : (m : ℕ) (before rest : List ℕ) → Goes m before rest → length rest ≡ m
  follows_length zero before [] g = refl
  follows_length zero before (q ∷ rest) g = absurd g
  follows_length (suc m) before [] g = absurd g
  follows_length (suc m) before (q ∷ rest) g = ap suc (follows_length m (before ++ q ∷ []) rest g.3)

  abbrev Opened : List ℕ → ℕ → Type 0
  Opened before q = (1 ≤ q) × (q ≤ task.count) × (opens before q ≡ true)

  follows_at : (m : ℕ) (before rest : List ℕ) (k : ℕ) → Goes m before rest → k < length rest → Opened (before ++ take k rest) (get_or rest k 0)
  follows_at zero before [] k g h = absurd (omega arith)
  follows_at zero before (q ∷ rest) k g h = absurd g
  follows_at (suc m) before [] k g h = absurd g
  follows_at (suc m) before (q ∷ rest) zero g h = (g.0, g.1, ap (λ xs. opens xs q) (append-nil before) ∙ g.2)
  follows_at (suc m) before (q ∷ rest) (suc k) g h = subst (λ xs. Opened xs (get_or rest k 0)) (append_assoc before (q ∷ []) (take k rest)) (follows_at m (before ++ q ∷ []) rest k g.3 (omega arith))

  pub opened_inside : (ps : List ℕ) → Goes n [] ps → (d : ℕ) → d < n → (1 ≤ get_or ps d 0) × (get_or ps d 0 ≤ b.adders)
  opened_inside ps g d h = let o = follows_at n [] ps d g (omega (arith, follows_length n [] ps g)) in (o.0, omega (arith, is.count, o.1))

  -- what the search finds is admissible, with any swaps of plus adders
  module _ (ps : List ℕ) (g : Goes n [] ps) (ss : List Bool) (told : length ss ≡ n) (minus : (d : ℕ) (a : Adder) → nth_adder chain d ≡ Some a → a.sign ≡ Minus → get_or ss d false ≡ false) where
    size : length ps ≡ n
    size = follows_length n [] ps g

    opened : (d : ℕ) → d < length ps → Opened (take d ps) (get_or ps d 0)
    opened d h = follows_at n [] ps d g h

    taken : (d : ℕ) → d < length ps → list_any (λ x. eqb x (get_or ps d 0)) (take d ps) ≡ false
    taken d h = not_true _ (both _ _ (opened d h).2).1

    fed_at : (c d : ℕ) (a : Adder) → nth_adder chain d ≡ Some a → HasSource a (suc c) → get_or ps c 0 < get_or ps d 0
    fed_at c d a e has =
        let h = nth_within chain d a e in
        let low = nth_lower chain d a e in
        let long : length (take d ps) ≡ d = omega (arith, length-take d ps, size) in
        let some : uses (length (take d ps)) ≡ Some (valued_adder is.row (suc d) a) = ap uses long ∙ use_at t b chain task is d a e in
        let q = get_or ps d 0 in
        let above = (both (stands_above (take d ps) (uses (length (take d ps))) q) (not (list_any (λ x. eqb x q) (take d ps))) (opened d (omega (arith, size))).2).0 in
        let two = both (ltb (placed_source (at (take d ps)) a.left.source) q) (ltb (placed_source (at (take d ps)) a.right.source) q) (ap (λ o. stands_above (take d ps) o q) (sym some) ∙ above) in
        ⊎_elim
        (λ l. omega (arith, get_or-take d ps c 0, low.0, l, ltb-true (get_or (take d ps) c 0) q (ap (λ j. ltb (placed_source (at (take d ps)) j) q) (sym l) ∙ two.0)))
        (λ r. omega (arith, get_or-take d ps c 0, low.1, r, ltb-true (get_or (take d ps) c 0) q (ap (λ j. ltb (placed_source (at (take d ps)) j) q) (sym r) ∙ two.1)))
        has

    pub found_admissible : Admissible b chain (record { places = ps; swaps = ss })
    found_admissible = record {
      each_placed = size;
      each_told = told;
      inside = λ d h. ((opened d h).0, omega (arith, is.count, (opened d h).1));
      apart = λ c d l h e. not_among (take d ps) (get_or ps d 0) c (taken d h) (omega (arith, length-take d ps)) (get_or-take d ps c 0 l ∙ e);
      fed = fed_at;
      kept = minus;
    }
