use Rattle.std.proofs.Common.{◌+◌, get_or, set, None, sym, ap, ◌∙◌, subst}
use Rattle.ports.specs.Inputs.{inputs}
use Rattle.sheetlaws.specs.Sheets.{selection_of}
use Rattle.sheets.proofs.Selecting.{Selected, one_selected, all_selected}
use Rattle.sheets.proofs.writer.selections.Goals as goal

pub loop-place-preserved : goal.loop-place-preserved
loop-place-preserved c =
    let orders = inputs c.args.lists.now.block.now in
    let place = c.loop-place.place in
    subst (λ x. Selected orders c.args.row.now.slots (place + 1) (set c.loop-place.selections place x)) (sym (c.selection.ensures ∙ ap (λ ys. selection_of orders (place + 1) (get_or ys place None)) c.slots.ensures.slots))
    (one_selected orders c.args.row.now.slots place c.loop-place.selections c.args.row.now.room c.loop-place.invariant c.loop-place-test.true)

pub returns : goal.returns
returns c = all_selected (inputs c.args.lists.now.block.now) c.args.row.now.slots c.loop-place.place c.loop-place.selections c.args.row.now.room c.loop-place.invariant c.loop-place-test.false
