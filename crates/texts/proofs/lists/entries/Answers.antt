use Rattle.std.proofs.Common.{sym, ap, ◌∙◌, arith}
use Rattle.texts.specs.Steps.{read_of}
use Rattle.texts.specs.Listings.{with_room}
use Rattle.texts.proofs.Entering.{broken, entered, all_entered}
use Rattle.texts.proofs.lists.entries.Goals as goal

pub returns-in_err-next : goal.returns-in_err-next
returns-in_err-next c =
    ap read_of c.from_residual.ensures ∙ sym (ap with_room (broken c.args.count c.args.text.now c.loop-place.place c.loop-place.entries c.loop-place.rest.now c.loop-place.invariant c.loop-place-test.true (sym c.in_err-next.ensures)))

pub loop-place-preserved : goal.loop-place-preserved
loop-place-preserved c =
    entered c.args.count c.args.text.now c.loop-place.place c.loop-place.entries c.loop-place.rest.now c.loop-place.invariant c.loop-place-test.true c.requires c.in_ok-next.next c.in_ok-next.after.now (sym c.in_ok-next.ensures)

pub returns : goal.returns
returns c = sym (all_entered c.args.count c.args.text.now c.loop-place.place c.loop-place.entries c.loop-place.rest.now c.loop-place.invariant c.loop-place-test.false (omega (arith, c.loop-place.auto.place-end, c.requires)))
