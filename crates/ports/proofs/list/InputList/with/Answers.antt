use Rattle.std.proofs.Common.{◌≡◌, ℕ, ◌+◌, ◌≤◌, List, [], ◌∷◌, ◌++◌, length, drop, get_or, Some, None, Option, true, sym, ap, ◌∙◌, subst, append-nil, arith}
use Rattle.std.proofs.lemmas.Bool.{false≢true}
use Rattle.std.proofs.lemmas.List.{drop_more, drop_all}
use Rattle.adders.specs.declared.wiring.Operand.{Operand}
use Rattle.adders.specs.Values.{spare_operand}
use Rattle.ports.specs.Inputs.{insert, same}
use Rattle.ports.proofs.Ascending.{insert_one, same_one, same_self}
use Rattle.ports.proofs.Inserting.{left_in, Pushed, pushed, comes_before, stands_there, comes_later}
use Rattle.ports.proofs.list.InputList.with.Goals as goal
use Rattle.ports.proofs.list.InputList.with.Goals.{in-Some+then-precedes, in-Some+else-precedes+then-eq, in-Some+else-precedes+else-eq, in_default}

pub loop-next-preserved : goal.loop-next-preserved
loop-next-preserved c =
    let whole = insert c.args.input c.args.self.now in
    let few : length whole ≤ 16 = omega (arith, insert_one c.args.input c.args.self.now, c.requires) in
    let xs : List Operand = c.as_slice-next-items.result.now in
    let i : ℕ = c.loop-next.next-index in
    let next : Operand = get_or xs i spare_operand in
    let rest : List Operand = drop (i + 1) xs in
    let list : List Operand = c.loop-next.list in
    let split : drop i xs ≡ next ∷ rest = drop_more xs i spare_operand c.loop-next-test.true in
    let so_far : list ++ left_in c.loop-next.left (next ∷ rest) ≡ whole = ap (λ l. list ++ left_in c.loop-next.left l) (sym split) ∙ c.loop-next.invariant in
    let made : List Operand = c.push_within_capacity-room-in-loop-next.new.self in
    let done : (left : Option Operand) → c.match-left.left ≡ left → made ++ left_in left rest ≡ whole → made ++ left_in c.match-left.left rest ≡ whole = λ left is e. ap (λ l. made ++ left_in l rest) is ∙ e in
    let with_left : (left : Option Operand) → c.loop-next.left ≡ left → list ++ left_in left (next ∷ rest) ≡ whole = λ left is. subst (λ l. list ++ left_in l (next ∷ rest) ≡ whole) is so_far in
    let last : (mid : List Operand) → c.match-left.list ≡ mid → Pushed mid next made = λ mid is. subst (λ l. Pushed l next made) is (λ h. (c.push_within_capacity-room-in-loop-next.ensures.room h).1) in
    elim c.match-left.branch [
      | in-Some+then-precedes w ↦ done None w.left-is (comes_before list whole w.in-Some.new next rest few (with_left (Some w.in-Some.new) w.in-Some.is) (sym w.precedes.ensures ∙ w.if-precedes.true) _ made (λ h. (w.push_within_capacity-room.ensures.room h).1) (last _ w.list-is))
      | in-Some+else-precedes+then-eq w ↦ done None w.left-is (stands_there list whole w.in-Some.new next rest few (with_left (Some w.in-Some.new) w.in-Some.is) (same_one w.in-Some.new next (sym w.eq.ensures ∙ w.if-eq.true)) made (last _ w.list-is))
      | in-Some+else-precedes+else-eq w ↦ done (Some w.in-Some.new) w.left-is (comes_later list whole w.in-Some.new next rest few (with_left (Some w.in-Some.new) w.in-Some.is) (sym w.precedes.ensures ∙ w.if-precedes.false) (λ e. false≢true (sym w.if-eq.false ∙ w.eq.ensures ∙ subst (λ z. same w.in-Some.new z ≡ true) e (same_self w.in-Some.new))) made (last _ w.list-is))
      | in_default w ↦ done None (w.left-is ∙ w.in_default.is) (pushed list whole next rest few (with_left None w.in_default.is) made (last _ w.list-is))
    ]

pub returns-in-Some-left : goal.returns-in-Some-left
returns-in-Some-left c =
    let whole = insert c.args.input c.args.self.now in
    let few : length whole ≤ 16 = omega (arith, insert_one c.args.input c.args.self.now, c.requires) in
    let list : List Operand = c.loop-next.list in
    let o : Operand = c.in-Some-left.new in
    let none : drop c.loop-next.next-index c.as_slice-next-items.result.now ≡ [] = drop_all c.loop-next.next-index c.as_slice-next-items.result.now c.loop-next-test.false in
    let e : list ++ (o ∷ []) ≡ whole = ap (λ l. list ++ insert o l) (sym none) ∙ ap (λ left. list ++ left_in left (drop c.loop-next.next-index c.as_slice-next-items.result.now)) (sym c.in-Some-left.is) ∙ c.loop-next.invariant in
    sym (append-nil _) ∙ pushed list whole o [] few e _ (λ h. (c.push_within_capacity-room-in-Some-left.ensures.room h).1)
