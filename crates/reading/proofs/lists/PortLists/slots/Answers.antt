use Rattle.std.proofs.Common.{◌≡◌, length, sym, ◌∙◌, rules}
use Rattle.reading.specs.Orders.{lists_of}
use Rattle.reading.proofs.Slotted.{absent, slotted, all_slotted}
use Rattle.reading.proofs.lists.PortLists.slots.Goals as goal

pub returns-in_err-slots : goal.returns-in_err-slots
returns-in_err-slots c =
    let eight : length c.args.selections ≡ 8 = search rules in
    c.from_residual.ensures ∙ sym (absent (lists_of c.args.self.now) c.args.selections c.loop-place.place c.loop-place.slots eight c.loop-place.invariant c.loop-place-test.true (sym c.in_err-slots.ensures))

pub loop-place-preserved : goal.loop-place-preserved
loop-place-preserved c =
    let eight : length c.args.selections ≡ 8 = search rules in
    slotted (lists_of c.args.self.now) c.args.selections c.loop-place.place c.loop-place.slots eight c.loop-place.invariant c.loop-place-test.true c.in_ok-slots.field-0 (sym c.in_ok-slots.ensures)

pub returns : goal.returns
returns c =
    let eight : length c.args.selections ≡ 8 = search rules in
    sym (all_slotted (lists_of c.args.self.now) c.args.selections c.loop-place.place c.loop-place.slots eight c.loop-place.invariant c.loop-place-test.false)
