use Rattle.std.proofs.Common.{◌-◌, arith}
use Rattle.adders.proofs.Broken.{none_from}
use Rattle.rows.proofs.Marking.{marked_first, unread, filled}
use Rattle.rows.proofs.Keeping.{lower}
use Rattle.rows.proofs.rules.Wiring.sources_read.Goals as goal

pub loop-place-init : goal.loop-place-init
loop-place-init c = let eight = c.args.self.now.room in marked_first c.args.self.now.slots c.args.self.now.output.source eight c.args.self.now.there

pub bounds-read-adder : goal.bounds-read-adder
bounds-read-adder c = let l = lower c.args.self.now.slots (none_from _ c.args.self.now.lower) (c.loop-place.place - 1) c.in-Some.adder c.in-Some.is in omega (arith, l.0)

pub bounds-read-adder-in-Some : goal.bounds-read-adder-in-Some
bounds-read-adder-in-Some c = let l = lower c.args.self.now.slots (none_from _ c.args.self.now.lower) (c.loop-place.place - 1) c.in-Some.adder c.in-Some.is in omega (arith, l.1)

pub loop-place-preserved-in-Some : goal.loop-place-preserved-in-Some
loop-place-preserved-in-Some c =
    let eight = c.args.self.now.room in
    let p = c.loop-place.place in
    let l = lower c.args.self.now.slots (none_from _ c.args.self.now.lower) (p - 1) c.in-Some.adder c.in-Some.is in
    filled c.args.self.now.slots c.args.self.now.output.source p (p - 1) (omega arith) (omega arith) c.loop-place.auto.place c.loop-place.read c.loop-place.invariant c.in-Some.adder c.if-read-place.true c.in-Some.is (omega (arith, l.0)) (omega (arith, l.1))

pub loop-place-preserved : goal.loop-place-preserved
loop-place-preserved c =
    let eight = c.args.self.now.room in
    let p = c.loop-place.place in
    unread c.args.self.now.slots c.args.self.now.output.source p (p - 1) (omega arith) (omega arith) c.loop-place.auto.place c.loop-place.read c.loop-place.invariant c.if-read-place.false
