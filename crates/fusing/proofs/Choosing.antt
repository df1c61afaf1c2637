-- The placement that the search finds, with each adder the cheaper way round, is the chosen one.
use Rattle.std.proofs.Common.{◌≡◌, ℕ, zero, suc, ◌+◌, ◌-◌, ◌<◌, ◌≤◌, Bool, true, false, ◌&&◌, ltb, List, [], ◌∷◌, ◌++◌, length, take, drop, get_or, is_some, Some, None, Ok, Err, Option, Result, sym, refl, ap, ◌∙◌, subst, inl, inr, ⊎_elim, arith}
use Rattle.std.specs.Prelude.{slice_get, slice_index_or, is_none}
use Rattle.std.specs.List.{list_all}
use Rattle.std.proofs.Math.Seq.{get_or-append_seam, take-append_seam}
use Rattle.std.proofs.lemmas.List.{append_assoc, append-nil, get_or-take, length-append, length-take}
use Rattle.std.proofs.lemmas.Bool.{false≢true, ltb-true, ltb-false, cases_lt}
use Rattle.adders.specs.declared.refusals.Refusal.{Refusal}
use Rattle.adders.specs.declared.wiring.Adder.{Adder}
use Rattle.adders.specs.declared.wiring.Sign.{Sign}
use Rattle.adders.specs.declared.wiring.Sign.TheVariants.{Plus, Minus}
use Rattle.chains.specs.declared.model.Chain.{Chain}
use Rattle.chains.specs.Chains.{chain_adders}
use Rattle.rows.specs.declared.model.Row.{Row}
use Rattle.blocks.specs.declared.model.Block.{Block}
use Rattle.blocks.specs.Uses.{row_uses}
use Rattle.blocks.specs.Blocks.{row_of}
use Rattle.ports.specs.declared.port.Port.TheVariants.{Output}
use Rattle.prices.specs.Tables.{Tables, Lawful}
use Rattle.pricing.specs.Prices.{adder_with_ports, total, block_price}
use Rattle.pricing.proofs.Comparing.{total_grows}
use Rattle.rises.specs.declared.held.HeldAdder.{HeldAdder}
use Rattle.rises.specs.declared.uses.ValuedAdder.{ValuedAdder}
use Rattle.rises.specs.Uses.{valued_adder, turned, is_plus}
use Rattle.rises.specs.Rises.{adder_of, port_of, port_with, ports_with, adder_with, better_turned, way_of}
use Rattle.rises.proofs.Parts.{unused, no_less}
use Rattle.search.specs.Choosing.{cost, Cheapest, Choice}
use Rattle.search.specs.declared.found.Found.{Found}
use Rattle.placing.specs.Placements.{Placement, nth_adder, place, swap, Admissible, Placed}
use Rattle.placing.proofs.Standing.{nth_there, nth_within, swapped_otherwise}
use Rattle.placing.proofs.Made.{at_slot, used_or_not}
use Rattle.placing.proofs.Left.{within_block, block_left}
use Rattle.placing.proofs.Existing.{at_own_numbers}
use Rattle.placing.specs.Slots.{IsPlaced}
use Rattle.fusing.specs.declared.task.Task.{Task}
use Rattle.fusing.specs.Fusing.{Unswapped, Chosen}
use Rattle.fusing.specs.Tasks.{moved, moved_adder, way_at, rise_of, swap_of, TaskOf, SwapsOf, ChosenRow}
use Rattle.fusing.proofs.Sums.{rises, total_less}
use Rattle.fusing.proofs.Parts.{few, use_at, held_at, part_after, output_after, price_after}
use Rattle.fusing.proofs.Following.{opens, rise, last, Goes, gone_through, follows_length, opened_inside, found_admissible}

-- The cheaper way round.

module _ (t : Tables) (w : ℕ) (h : HeldAdder) (u : ValuedAdder) where
  abbrev as_is : ℕ
  as_is = ports_with t.muxes w h u.left u.right

  abbrev over : ℕ
  over = ports_with t.muxes w h u.right u.left

  -- it is never dearer than what may be
  least_turned : (s : Bool) → (u.sign ≡ Minus → s ≡ false) → adder_with t w h (turned (better_turned t w h u) u) ≤ adder_with t w h (turned s u)
  least_turned s minus = by (is_plus u.sign) refl (ltb over as_is) refl s minus
    where
      is_minus : (g : Sign) → is_plus g ≡ false → g ≡ Minus
      is_minus Plus e = absurd (false≢true (sym e))
      is_minus Minus e = refl

      by : (g : Bool) → is_plus u.sign ≡ g → (l : Bool) → ltb over as_is ≡ l → (s : Bool) → (u.sign ≡ Minus → s ≡ false) → adder_with t w h (turned (g && l) u) ≤ adder_with t w h (turned s u)
      by true e true f false m = omega (arith, ltb-true over as_is f)
      by true e true f true m = omega arith
      by true e false f false m = omega arith
      by true e false f true m = omega (arith, ltb-false over as_is f)
      by false e l f false m = omega arith
      by false e l f true m = absurd (false≢true (sym (m (is_minus u.sign e))))

  -- and where it is turned, it is cheaper
  turned_less : better_turned t w h u ≡ true → adder_with t w h (turned (better_turned t w h u) u) < adder_with t w h (turned false u)
  turned_less e = subst (λ s. adder_with t w h (turned s u) < adder_with t w h (turned false u)) (sym e) (by (is_plus u.sign) e)
    where
      by : (g : Bool) → (g && ltb over as_is) ≡ true → adder_with t w h (turned true u) < adder_with t w h (turned false u)
      by true e = omega (arith, ltb-true over as_is e)
      by false e = absurd (false≢true e)

-- the first difference of swaps
record Differs (rs ss : List Bool) : Type 0 where
  pub at : ℕ
  pub within : at < length ss
  pub stays : get_or rs at false ≡ false
  pub swaps : get_or ss at false ≡ true

differs : (rs ss : List Bool) → Unswapped rs ss → Differs rs ss
differs [] ss u = absurd u
differs (r ∷ rs) [] u = absurd u
differs (r ∷ rs) (s ∷ ss) (inl h) = record { at = 0; within = omega arith; stays = h.0; swaps = h.1 }
differs (r ∷ rs) (s ∷ ss) (inr h) = let d = differs rs ss h.1 in record { at = suc d.at; within = omega (arith, d.within); stays = d.stays; swaps = d.swaps }

-- a list of so many values
abbrev listed : (ℕ → Bool) → ℕ → ℕ → List Bool
listed f d zero = []
listed f d (suc m) = f d ∷ listed f (suc d) m

length_listed : (f : ℕ → Bool) (d m : ℕ) → length (listed f d m) ≡ m
length_listed f d zero = refl
length_listed f d (suc m) = ap suc (length_listed f (suc d) m)

listed_at : (f : ℕ → Bool) (d m k : ℕ) → k < m → get_or (listed f d m) k false ≡ f (d + k)
listed_at f d zero k h = absurd (omega arith)
listed_at f d (suc m) zero h = ap f (let e : d ≡ d + 0 = omega arith in e)
listed_at f d (suc m) (suc k) h = listed_at f (suc d) m k (omega arith) ∙ ap f (let e : suc d + k ≡ d + suc k = omega arith in e)

-- a row that uses no adder past a count
past_block : (xs : List (Option Adder)) (a : ℕ) → ((k : ℕ) → a ≤ k → get_or xs k None ≡ None) → list_all is_none (drop a xs) ≡ true
past_block [] zero h = refl
past_block [] (suc a) h = refl
past_block (x ∷ xs) (suc a) h = past_block xs a (λ k l. h (suc k) (omega arith))
past_block (x ∷ xs) zero h = rw (h 0 (omega arith)) (past_block xs zero (λ k l. h (suc k) (omega arith)))

used_none : (r : Row) (k : ℕ) → row_uses (Some r) (suc k) ≡ false → get_or r.slots k None ≡ None
used_none r k e = by (get_or r.slots k None) (ap is_some (sym (at_slot r k)) ∙ e)
  where
    by : (o : Option Adder) → is_some o ≡ false → o ≡ None
    by None e = refl
    by (Some a) e = absurd (false≢true (sym e))

module _ {L : Type 0} (t : Tables) (law : Lawful t) (b : Block) (chain : Chain) (task : Task L) (is : TaskOf t b chain task) where
  abbrev n : ℕ
  n = length (chain_adders chain)

  abbrev costs : List ℕ → List ℕ → ℕ
  costs = cost task.count (opens t b chain task is) (rise t b chain task is) (last t b chain task is)

  abbrev base : ℕ → ℕ
  base = adder_with_ports t b

  -- how adder d + 1 is used after those before it
  abbrev use_after : List ℕ → ℕ → Adder → ValuedAdder
  use_after before d a = moved_adder before (valued_adder is.row (suc d) a)

  -- whether it is better turned there
  abbrev pub best_swap : List ℕ → ℕ → Bool
  best_swap ps d = swap_of (way_at t task.sample (take d ps) (slice_get task.held (get_or ps d 0 - 1)) (slice_index_or task.uses d None))

  way_is : (before : List ℕ) (d q : ℕ) (a : Adder) → 1 ≤ q → q ≤ b.adders → nth_adder chain d ≡ Some a
      → way_at t task.sample before (slice_get task.held (q - 1)) (slice_index_or task.uses d None) ≡ Some (way_of t b.width (adder_of t b q) (use_after before d a))
  way_is before d q a low high e =
      (λ i. way_at t (is.sample i) before (held_at t b chain task is q low high i) (use_at t b chain task is d a e i))

  -- the swaps of plus adders alone
  best_minus : (ps : List ℕ) (d : ℕ) (a : Adder) → 1 ≤ get_or ps d 0 → get_or ps d 0 ≤ b.adders → nth_adder chain d ≡ Some a → a.sign ≡ Minus → best_swap ps d ≡ false
  best_minus ps d a low high e minus =
      let u = use_after (take d ps) d a in
      let h = adder_of t b (get_or ps d 0) in
      ap swap_of (way_is (take d ps) d (get_or ps d 0) a low high e) ∙ ap (λ g. is_plus g && ltb (ports_with t.muxes b.width h u.right u.left) (ports_with t.muxes b.width h u.left u.right)) minus

  -- A placement with each adder the cheaper way round.
  module _ (code : ℕ) (idle : row_of b code ≡ None) (p : Placement) (adm : Admissible b chain p) (best : (d : ℕ) → d < n → swap p d ≡ best_swap p.places d) (after : Block) (placed : Placed b code chain p after) where
    parts : (before : List ℕ) (d : ℕ) (a : Adder) → ((i : ℕ) → i < d → get_or before i 0 ≡ place p i) → nth_adder chain d ≡ Some a
        → adder_with_ports t after (place p d) ≡ adder_with t b.width (adder_of t b (place p d)) (turned (swap p d) (use_after before d a))
    parts before d a g e = part_after t b chain task is p adm placed.row placed.of_chain code after idle placed.rest before d a g e

    best_is : (d : ℕ) (a : Adder) → nth_adder chain d ≡ Some a → swap p d ≡ better_turned t b.width (adder_of t b (place p d)) (use_after (take d p.places) d a)
    best_is d a e =
        let h = nth_within chain d a e in
        let i = adm.inside d (omega (arith, adm.each_placed)) in
        best d h ∙ ap swap_of (way_is (take d p.places) d (place p d) a i.0 i.1 e)

    at_d : (before : List ℕ) → before ≡ take (length before) p.places → length before < n → rise t b chain task is before (place p (length before)) ≡ adder_with_ports t after (place p (length before)) - base (place p (length before))
    at_d before front h =
        let d = length before in
        let a = nth_there chain d h in
        let i = adm.inside d (omega (arith, adm.each_placed)) in
        let turn = best_is d a.0 a.1 ∙ ap (λ xs. better_turned t b.width (adder_of t b (place p d)) (use_after xs d a.0)) (sym front) in
        let now = parts before d a.0 (λ k l. ap (λ xs. get_or xs k 0) front ∙ get_or-take d p.places k 0 l) a.1 ∙ ap (λ s. adder_with t b.width (adder_of t b (place p d)) (turned s (use_after before d a.0))) turn in
        ap rise_of (way_is before d (place p d) a.0 i.0 i.1 a.1) ∙ ap (λ x. x - base (place p d)) (sym now)

    rising : (before rest : List ℕ) → before ++ rest ≡ p.places → costs before rest ≡ rises base (adder_with_ports t after) rest + last t b chain task is p.places
    rising before [] e = omega (arith, ap (last t b chain task is) (sym (append-nil before) ∙ e))
    rising before (q ∷ rest) e =
        let long = length-append before (q ∷ rest) in
        let size = ap length e in
        let d = length before in
        let is_q : place p d ≡ q = ap (λ xs. get_or xs d 0) (sym e) ∙ get_or-append_seam before q rest 0 in
        let one = subst (λ x. rise t b chain task is before x ≡ adder_with_ports t after x - base x) is_q (at_d before (sym (take-append_seam before (q ∷ rest)) ∙ ap (take d) e) (omega (arith, adm.each_placed))) in
        omega (arith, rising (before ++ q ∷ []) rest (append_assoc before (q ∷ []) rest ∙ e))

    pub price_is : block_price t after ≡ total base b.adders + costs [] p.places
    price_is =
        let out : last t b chain task is p.places ≡ port_with t.muxes b.width (port_of b Output) (moved p.places task.output) = λ i. port_with t.muxes (is.sample i) (is.held_output i) (moved p.places task.output) in
        omega (arith, price_after t b chain task is p adm placed.row placed.of_chain code after idle placed.rest law, rising [] p.places refl)

    -- Against the same places with other swaps.
    module _ (q : Placement) (other_adm : Admissible b chain q) (same : q.places ≡ p.places) (other : Block) (placed_other : Placed b code chain q other) where
      same_place : (d : ℕ) → place q d ≡ place p d
      same_place d = ap (λ xs. get_or xs d 0) same

      other_part : (d : ℕ) (a : Adder) → nth_adder chain d ≡ Some a → adder_with_ports t other (place p d) ≡ adder_with t b.width (adder_of t b (place p d)) (turned (swap q d) (use_after (take d p.places) d a))
      other_part d a e =
          subst (λ j. adder_with_ports t other j ≡ adder_with t b.width (adder_of t b j) (turned (swap q d) (use_after (take d p.places) d a))) (same_place d)
          (part_after t b chain task is q other_adm placed_other.row placed_other.of_chain code other idle placed_other.rest (take d p.places) d a (λ i l. get_or-take d p.places i 0 l ∙ sym (same_place i)) e)

      own_part : (d : ℕ) (a : Adder) → nth_adder chain d ≡ Some a
          → adder_with_ports t after (place p d) ≡ adder_with t b.width (adder_of t b (place p d)) (turned (better_turned t b.width (adder_of t b (place p d)) (use_after (take d p.places) d a)) (use_after (take d p.places) d a))
      own_part d a e =
          parts (take d p.places) d a (λ i l. get_or-take d p.places i 0 l) e ∙ ap (λ s. adder_with t b.width (adder_of t b (place p d)) (turned s (use_after (take d p.places) d a))) (best_is d a e)

      part_no_dearer : (j : ℕ) → adder_with_ports t after j ≤ adder_with_ports t other j
      part_no_dearer j =
          ⊎_elim
          (λ h.
          let a = nth_there chain h.0 (omega (arith, h.1, adm.each_placed)) in
          let u = use_after (take h.0 p.places) h.0 a.0 in
          let less = least_turned t b.width (adder_of t b (place p h.0)) u (swap q h.0) (λ m. other_adm.kept h.0 a.0 a.1 m) in
          subst (λ i. adder_with_ports t after i ≤ adder_with_ports t other i) h.2 (omega (arith, own_part h.0 a.0 a.1, other_part h.0 a.0 a.1)))
          (λ none.
          let old = unused code placed.row b after idle placed.rest t j none in
          omega (arith, no_less code placed_other.row b other idle placed_other.rest t law j))
          (used_or_not chain p placed.row placed.of_chain j)

      sums : (x : Block) → (y : Placement) → (Admissible b chain y) → Placed b code chain y x → y.places ≡ p.places → block_price t x ≡ total (adder_with_ports t x) b.adders + port_with t.muxes b.width (port_of b Output) (moved p.places task.output)
      sums x y ok at_x e =
          let out = output_after t b chain task is y ok at_x.row at_x.of_chain code x idle at_x.rest ∙ ap (λ xs. port_with t.muxes b.width (port_of b Output) (moved xs task.output)) e in
          λ i. total (adder_with_ports t x) (at_x.rest.adders i) + out i

      pub no_dearer : block_price t after ≤ block_price t other
      no_dearer =
          let a = sums after p adm placed refl in
          let o = sums other q other_adm placed_other same in
          omega (arith, total_grows (adder_with_ports t after) (adder_with_ports t other) b.adders part_no_dearer)

      pub dearer : Unswapped q.swaps p.swaps → block_price t after < block_price t other
      dearer un =
          let f = differs q.swaps p.swaps un in
          let d = f.at in
          let h : d < n = omega (arith, f.within, adm.each_told) in
          let a = nth_there chain d h in
          let u = use_after (take d p.places) d a.0 in
          let i = adm.inside d (omega (arith, adm.each_placed)) in
          let less = turned_less t b.width (adder_of t b (place p d)) u (sym (best_is d a.0 a.1) ∙ f.swaps) in
          let left = other_part d a.0 a.1 ∙ ap (λ s. adder_with t b.width (adder_of t b (place p d)) (turned s u)) f.stays in
          let x = sums after p adm placed refl in
          let y = sums other q other_adm placed_other same in
          omega (arith, total_less (adder_with_ports t after) (adder_with_ports t other) b.adders (place p d) part_no_dearer i.0 i.1 (omega (arith, own_part d a.0 a.1)))

  -- Each placement has one at its places with each adder the cheaper way round.
  module _ (q : Placement) (adm : Admissible b chain q) where
    abbrev better : Placement
    better = record { places = q.places; swaps = listed (best_swap q.places) 0 n }

    better_swaps : (d : ℕ) → d < n → swap better d ≡ best_swap q.places d
    better_swaps d h = listed_at (best_swap q.places) 0 n d h ∙ ap (best_swap q.places) (let e : 0 + d ≡ d = omega arith in e)

    better_admissible : Admissible b chain better
    better_admissible =
        swapped_otherwise b chain q (listed (best_swap q.places) 0 n) adm (length_listed (best_swap q.places) 0 n ∙ sym adm.each_told)
        (λ d a e minus.
        let h = nth_within chain d a e in
        let i = adm.inside d (omega (arith, adm.each_placed)) in
        better_swaps d h ∙ best_minus q.places d a i.0 i.1 e minus)

    -- which costs what the search says, and no more than the placement itself
    pub at_least : (code : ℕ) → row_of b code ≡ None → code ≤ 15 → (other : Block) → Placed b code chain q other → total base b.adders + costs [] q.places ≤ block_price t other
    at_least code idle low other placed =
        let x = block_left b code chain better better_admissible low in
        let same = price_is code idle better better_admissible better_swaps x.0 x.1 in
        omega (arith, no_dearer code idle better better_admissible better_swaps x.0 x.1 q adm refl other placed)

  -- What the search finds.
  module _ (ps : List ℕ) (best : Cheapest task.count (opens t b chain task is) (rise t b chain task is) (last t b chain task is) n ps) (ss : List Bool) (told : length ss ≡ n) (swaps : (d : ℕ) → d < n → get_or ss d false ≡ best_swap ps d) where
    abbrev found : Placement
    found = record { places = ps; swaps = ss }

    -- swaps of minus adders are none, wherever they stand
    minus : (d : ℕ) (a : Adder) → nth_adder chain d ≡ Some a → a.sign ≡ Minus → get_or ss d false ≡ false
    minus d a e m =
        let h = nth_within chain d a e in
        let i = (opened_inside t b chain task is ps best.follows) d h in
        swaps d h ∙ best_minus ps d a i.0 i.1 e m

    pub admissible : Admissible b chain found
    admissible = found_admissible t b chain task is ps best.follows ss told minus

    pub is_chosen : (code : ℕ) (after : Block) → code ≤ 15 → row_of b code ≡ None → Placed b code chain found after → Chosen (block_price t) b code chain found after
    is_chosen code after low idle placed =
        let paid = price_is code idle found admissible swaps after placed in
        record {
          admissible = admissible;
          placed = placed;
          least = λ q other adm at_other. omega (arith, at_least q adm code idle low other at_other, best.least q.places (gone_through t b chain task is q adm));
          first = λ q other adm at_other before.
              ⊎_elim
              (λ lower. omega (arith, at_least q adm code idle low other at_other, best.first q.places (gone_through t b chain task is q adm) lower))
              (λ un. dearer code idle found admissible swaps after placed q adm un.0 other at_other un.1)
              before;
        }

    pub row_chosen : (r : Result Row Refusal) → IsPlaced chain found r → ChosenRow t b chain r
    row_chosen (Ok row) of = (
      past_block row.slots b.adders (λ k h. used_none row k (within_block b chain found row admissible of.0 (suc k) (omega arith))),
      found,
      λ code after low idle w. is_chosen code after low idle (record { row = row; of_chain = of.0; rest = w }),
    )
    row_chosen (Err e) of = absurd of

  -- the swaps that are told are those of the first places of an array
  pub answered : (m : ℕ) → m ≡ n → (f : Found) → Choice task.count (opens t b chain task is) (rise t b chain task is) (last t b chain task is) m (Some f) → (ss : List Bool) → length ss ≡ 8 → SwapsOf t task f.choices ss
      → (r : Result Row Refusal) → ((before : Block) → Admissible before chain (record { places = f.choices; swaps = take (length f.choices) ss }) → IsPlaced chain (record { places = f.choices; swaps = take (length f.choices) ss }) r) → ChosenRow t b chain r
  answered m e f choice ss eight swaps r made =
      let best : Cheapest task.count (opens t b chain task is) (rise t b chain task is) (last t b chain task is) n f.choices = subst (λ i. Cheapest task.count (opens t b chain task is) (rise t b chain task is) (last t b chain task is) i f.choices) e choice.0 in
      let size : length f.choices ≡ n = follows_length t b chain task is n [] f.choices best.follows in
      let told : length (take (length f.choices) ss) ≡ n = omega (arith, length-take (length f.choices) ss, few t b chain task is) in
      let turns : (d : ℕ) → d < n → get_or (take (length f.choices) ss) d false ≡ best_swap f.choices d = λ d h. get_or-take (length f.choices) ss d false (omega arith) ∙ swaps d (omega arith) in
      let ok = admissible f.choices best (take (length f.choices) ss) told turns in
      row_chosen f.choices best (take (length f.choices) ss) told turns r (made b ok)

  -- nothing is found only where the block has too few adders
  pub none_found : (m : ℕ) → m ≡ n → ((ps : List ℕ) → Goes t b chain task is m [] ps → ⊥) → b.adders < n
  none_found m e none = ⊎_elim (λ l. l) (λ more. let x = at_own_numbers b chain more in absurd (none x.0.places (subst (λ i. Goes t b chain task is i [] x.0.places) (sym e) (gone_through t b chain task is x.0 x.1)))) (cases_lt b.adders n)
