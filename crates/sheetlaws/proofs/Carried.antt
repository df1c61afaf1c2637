-- A row that breaks a rule is told with the number and the place of its own refusal, and the place is a part of the sheet's block.
use Rattle.std.proofs.Common.{◌≡◌, ◌≢◌, ℕ, zero, suc, ◌+◌, ◌-◌, ◌<◌, ◌≤◌, ◌⊎◌, inl, inr, List, [], ◌∷◌, ◌++◌, length, replicate, get_or, Some, None, Option, refl, ap, sym, subst, arith}
use Rattle.std.specs.Prelude.{option_map, codes}
use Rattle.std.proofs.lemmas.List.{length-append, length-replicate}
use Rattle.std.proofs.lemmas.Bool.Decides.{nat_tests}
use Rattle.adders.specs.declared.refusals.Refusal.{Refusal}
use Rattle.adders.specs.declared.refusals.Refusal.TheVariants.{RowBroken}
use Rattle.adders.specs.declared.refusals.RowFault.{RowFault}
use Rattle.adders.specs.declared.wiring.Adder.{Adder}
use Rattle.adders.specs.declared.wiring.Operand.{Operand}
use Rattle.adders.specs.Refusals.{refusal_entry, fault_entry}
use Rattle.adders.specs.Values.{Slots}
use Rattle.adders.specs.Rules.{first_broken, reading_rules, wiring_rules}
use Rattle.adders.proofs.Broken.{some_none, whole_from}
use Rattle.rows.specs.Rules.{slot_wiring, wiring_from}
use Rattle.ports.specs.declared.port.Port.{Port}
use Rattle.ports.specs.declared.port.Port.TheVariants.{Left, Right, Output}
use Rattle.ports.specs.Ports.{ports_from, ports, nth_port}
use Rattle.ports.specs.Inputs.{Among}
use Rattle.texts.specs.declared.selection.Selection.{Selection}
use Rattle.texts.specs.Text.{number_line}
use Rattle.texts.specs.Listings.{eight_places}
use Rattle.texts.proofs.Takes.{bind_some, some_is}
use Rattle.reading.specs.Orders.{Orders}
use Rattle.reading.specs.Lookup.{wired, slot_of, slots_of}
use Rattle.reading.specs.Limits.{MayRead, InLimits}
use Rattle.reading.specs.Reader.{fault_of}
use Rattle.sheetlaws.specs.Refusing.{NumberFault, PortFault, form, limit, repeat, CodeFault, absent, broken, AllPorts, Refused, too_long, in_adders, in_width, in_port, in_code, unselected}
use Rattle.sheetlaws.specs.FaultLaw.{UseOrRange, OfTheBlock, FaultsAreCarried, FaultsAreOfTheBlock}
use Rattle.sheetlaws.proofs.Placed.{among_get}
use Rattle.sheetlaws.proofs.RowsRead.{wired_by, then_rest, slots_wired, row_parts}
use Rattle.sheetlaws.proofs.ToldOrder.{find_port}
use Rattle.sheetlaws.proofs.ToldStages.{places}
use Rattle.sheetlaws.proofs.Told.{refusals_told}
use Rattle.sheetlaws.proofs.RowFaults.{InBlock, AnyUnread, AnyOut, use_or_range}

-- The inputs of the ports have been judged.

-- an operand that a port may have
abbrev Allowed : ℕ → Port → Operand → Type 0
Allowed a p o = MayRead a p o.source × (o.shift ≤ 30)

-- those of every port, where others than the block's have none
abbrev AllAllowed : ℕ → Orders → Type 0
AllAllowed a orders = (p : Port) (o : Operand) → Among o (orders p) → Allowed a p o

-- a port with an input is one of the block's
listed : (bytes : List ℕ) (a w : ℕ) (orders : Orders) (text : List ℕ) → AllPorts bytes a w orders text → (p : Port) (o : Operand) → Among o (orders p) → (k : ℕ) × (k < length (ports a)) × (get_or (ports a) k Output ≡ p)
listed bytes a w orders text h p o m = by (find_port p (ports a))
  where
    by : ((k : ℕ) × (k < length (ports a)) × (get_or (ports a) k Output ≡ p)) ⊎ ((k : ℕ) → k < length (ports a) → get_or (ports a) k Output ≢ p) → (k : ℕ) × (k < length (ports a)) × (get_or (ports a) k Output ≡ p)
    by (inl found) = found
    by (inr nowhere) = absurd (subst (Among o) (h.others p (λ i l. nowhere i (omega (arith, places a)))) m)

all_allowed : (bytes : List ℕ) (a w : ℕ) (orders : Orders) (text : List ℕ) → AllPorts bytes a w orders text → AllAllowed a orders
all_allowed bytes a w orders text h p o m =
    let found = listed bytes a w orders text h p o m in
    let fine = h.begun.fine found.0 (omega (arith, found.1, places a)) in
    let limits = subst (λ q. InLimits a q (orders q)) found.2 fine.limits in
    (limits.sources o m, limits.shifts o m)

-- the number of a left port
left_number : (n j i k : ℕ) → get_or (ports_from j n) k Output ≡ Left i → i < j + n
left_number zero j i zero e = absurd cc
left_number zero j i (suc k) e = absurd cc
left_number (suc n) j i zero e = let s : j ≡ i = cc in omega arith
left_number (suc n) j i (suc zero) e = absurd cc
left_number (suc n) j i (suc (suc k)) e = let l = left_number n (suc j) i k e in omega (arith, l)

-- an adder with a left input is one of the block's
abbrev LeftNumbered : ℕ → Orders → Type 0
LeftNumbered a orders = (j : ℕ) (o : Operand) → Among o (orders (Left j)) → j ≤ a

left_numbered : (bytes : List ℕ) (a w : ℕ) (orders : Orders) (text : List ℕ) → AllPorts bytes a w orders text → LeftNumbered a orders
left_numbered bytes a w orders text h j o m = let found = listed bytes a w orders text h (Left j) o m in let l = left_number a 1 j found.0 found.2 in omega (arith, l)

-- So a row that is looked up has fine sources and shifts.

wired_at : (n : ℕ) (x : Adder) → (x.left.source < n) × (x.left.shift ≤ 30) → (x.right.source < n) × (x.right.shift ≤ 30) → first_broken (wiring_rules n x) ≡ None
wired_at n x l r = let a = l.0 in let b = l.1 in let c = r.0 in let d = r.1 in grind (arith, nat_tests)

output_at : (n : ℕ) (o : Operand) → o.source < n → o.shift ≤ 30 → first_broken (reading_rules n 0 o) ≡ None
output_at n o p q = grind (arith, nat_tests)

module _ (a : ℕ) (orders : Orders) (fine : AllAllowed a orders) where
  slot_fine : (j : ℕ) (s : Option Selection) (y : Option Adder) → slot_of orders j s ≡ Some y → first_broken (slot_wiring j y) ≡ None
  slot_fine j None y h = ap (λ x. first_broken (slot_wiring j x)) (sym (some_is None y h))
  slot_fine j (Some s) y h = by (wired orders j s) refl h
    where
      by : (o : Option Adder) → wired orders j s ≡ o → option_map Some o ≡ Some y → first_broken (slot_wiring j y) ≡ None
      by None w k = absurd (some_none (sym k))
      by (Some x) w k =
          let p = wired_by orders j s x w in
          let left = fine (Left j) x.left (among_get (orders (Left j)) s.left x.left p.0) in
          let right = fine (Right j) x.right (among_get (orders (Right j)) s.right x.right p.2) in
          subst (λ z. first_broken (slot_wiring j z) ≡ None) (some_is (Some x) y k) (wired_at j x left right)

  slots_fine : (j : ℕ) (xs : List (Option Selection)) (slots : Slots) → slots_of orders j xs ≡ Some slots → (first_broken (wiring_from j slots) ≡ None) × (length slots ≡ length xs)
  unfolding slots_of
  slots_fine j [] slots h = subst (λ ys. (first_broken (wiring_from j ys) ≡ None) × (length ys ≡ 0)) (some_is [] slots h) (refl, refl)
  slots_fine j (x ∷ xs) slots h =
      let s = bind_some (slot_of orders j x) (then_rest orders j xs) slots h in
      let t = bind_some (slots_of orders (suc j) xs) (λ ys. Some (s.0 ∷ ys)) slots s.2 in
      let later = slots_fine (suc j) xs t.0 t.1 in
      let n : suc j ≡ j + 1 = omega arith in
      let rest = subst (λ m. first_broken (wiring_from m t.0) ≡ None) n later.0 in
      subst (λ ys. (first_broken (wiring_from j ys) ≡ None) × (length ys ≡ suc (length xs))) (some_is (s.0 ∷ t.0) slots t.2)
      (whole_from (slot_wiring j s.0) (wiring_from (j + 1) t.0) (slot_fine j x s.0 s.1) rest, ap suc later.1)

-- and uses and reads the block's adders alone
in_block : (a : ℕ) (orders : Orders) → AllAllowed a orders → LeftNumbered a orders → (xs : List (Option Selection)) (slots : Slots) → slots_of orders 1 xs ≡ Some slots → InBlock a 1 slots
in_block a orders fine numbered xs slots h = record { number = λ k x g. (at k x g).0; left = λ k x g. (at k x g).1; right = λ k x g. (at k x g).2 }
  where
    at : (k : ℕ) (x : Adder) → get_or slots k None ≡ Some x → (1 + k ≤ a) × (x.left.source ≤ a) × (x.right.source ≤ a)
    at k x g =
        let s = slots_wired orders 1 k xs slots x h g in
        let p = wired_by orders (1 + k) s.0 x s.1 in
        let m = among_get (orders (Left (1 + k))) s.0.left x.left p.0 in
        let few = numbered (1 + k) x.left m in
        let left = (fine (Left (1 + k)) x.left m).0 in
        let right = (fine (Right (1 + k)) x.right (among_get (orders (Right (1 + k))) s.0.right x.right p.2)).0 in
        (few, omega (arith, few, left), omega (arith, few, right))

eight : (es : List (Option Selection)) → 8 ≤ length (eight_places es)
eight es = omega (arith, length-append es (replicate (8 - length es) None), length-replicate {A = Option Selection} (8 - length es) None)

-- What is carried is the refusal, and of the block.
carried : (a : ℕ) (e : Refusal) → AnyUnread a e ⊎ AnyOut a e → UseOrRange e × (fault_entry (fault_of e) ≡ refusal_entry e) × OfTheBlock a (fault_of e)
carried a e (inl u) = subst (λ x. UseOrRange x × (fault_entry (fault_of x) ≡ refusal_entry x) × OfTheBlock a (fault_of x)) (sym u.1) (inl (u.0, refl), refl, (u.2, u.3))
carried a e (inr u) = subst (λ x. UseOrRange x × (fault_entry (fault_of x) ≡ refusal_entry x) × OfTheBlock a (fault_of x)) (sym u.1) (inr (u.0, refl), refl, u.2)

pub faults_carried : FaultsAreCarried
faults_carried bytes a w orders text es out r e h selects breaks =
    let fine = all_allowed bytes a w orders text h in
    let numbered = left_numbered bytes a w orders text h in
    let parts = row_parts orders (eight_places es) out r selects in
    let slots = slots_fine a orders fine 1 (eight_places es) r.slots parts.0 in
    let there = in_block a orders fine numbered (eight_places es) r.slots parts.0 in
    let output = fine Output r.output (among_get (orders Output) out r.output parts.1) in
    let few = h.begun.begun.few in
    let wired = output_at (suc (length r.slots)) r.output (omega (arith, output.0, slots.1, eight es, few)) output.1 in
    carried a e (use_or_range a r.slots r.output e there output.0 slots.0 wired breaks)

-- What a sheet is turned down for, if it is a row's.

-- what stands before the rows is told otherwise
number_other : (key : List ℕ) (low high m : ℕ) (text : List ℕ) (e : Refusal) (n : ℕ) (f : RowFault) → NumberFault key low high m text e → e ≢ RowBroken n f
number_other key low high m text e n f (form none) h = cc
number_other key low high m text e n f (limit x rest small t out) h = cc

port_other : (a m : ℕ) (p : Port) (text : List ℕ) (e : Refusal) (n : ℕ) (f : RowFault) → PortFault a m p text e → e ≢ RowBroken n f
port_other a m p text e n f (form none) h = cc
port_other a m p text e n f (limit os rest small t past) h = cc
port_other a m p text e n f (repeat os rest i j small t fine twice) h = cc

-- the block that a sheet's first line speaks of has the fault
abbrev Told : List ℕ → RowFault → Type 0
Told bytes f = (a : ℕ) × (rest : List ℕ) × (bytes ≡ number_line (codes "adders=") a ++ rest) × OfTheBlock a f

row_told : (bytes : List ℕ) (a w d m : ℕ) (orders : Orders) (text rest : List ℕ) (e : Refusal) (n : ℕ) (f : RowFault) → AllPorts bytes a w orders text → CodeFault orders a d m rest e → e ≡ RowBroken n f → Told bytes f
row_told bytes a w d m orders text rest e n f h (form some none) same = absurd cc
row_told bytes a w d m orders text rest e n f h (absent c out es after l few line none) same = absurd cc
row_told bytes a w d m orders text rest e n f h (broken c out es after r x l few line selects breaks) same =
    let fault : fault_of x ≡ f = cc in
    let begun = h.begun.begun in
    (a, number_line (codes "width=") w ++ h.begun.text, begun.text_is, subst (OfTheBlock a) fault (faults_carried bytes a w orders text es out r x h selects breaks).2)

sheet_told : (bytes : List ℕ) (e : Refusal) (n : ℕ) (f : RowFault) → Refused bytes e → e ≡ RowBroken n f → Told bytes f
sheet_told bytes e n f (too_long l) same = absurd cc
sheet_told bytes e n f (in_adders x l fault) same = absurd (number_other (codes "adders=") 0 8 1 bytes e n f fault same)
sheet_told bytes e n f (in_width a rest x l few t fault) same = absurd (number_other (codes "width=") 1 32 2 rest e n f fault same)
sheet_told bytes e n f (in_port a w k orders rest x b l fault) same = absurd (port_other a (k + 3) (nth_port a k) rest e n f fault same)
sheet_told bytes e n f (in_code a w d m orders text rest x h before fault) same = row_told bytes a w d m orders text rest e n f h fault same
sheet_told bytes e n f (unselected a w k orders text rows h r l before here) same = absurd cc

pub faults_of_block : FaultsAreOfTheBlock
faults_of_block bytes n f h = sheet_told bytes (RowBroken n f) n f ((refusals_told bytes (RowBroken n f)).0 h) refl
