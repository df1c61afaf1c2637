use Rattle.std.proofs.Common.{ℕ, List, Option, None, get_or, drop, ◌+◌, subst}
use Rattle.std.proofs.lemmas.List.{drop_more, drop_all}
use Rattle.texts.specs.declared.selection.Selection.{Selection}
use Rattle.texts.specs.Text.{entry, entries}
use Rattle.writing.proofs.Joins.{Finishes, finishes_next, finished}
use Rattle.writing.proofs.text.SheetText.entries.Goals as goal

pub loop-adder-preserved : goal.loop-adder-preserved
loop-adder-preserved c =
    let adders : List (Option Selection) = c.args.adders.now in
    let i : ℕ = c.loop-adder.adder-index in
    let line = entry (get_or adders i None) in
    finishes_next c.args.self.now (entries adders) c.loop-adder.self line (entries (drop (i + 1) adders)) c.entry.new.self
    (subst (λ xs. Finishes c.args.self.now (entries adders) c.loop-adder.self (entries xs)) (drop_more adders i None c.loop-adder-test.true) c.loop-adder.invariant)
    c.entry.ensures

pub returns : goal.returns
returns c =
    let adders : List (Option Selection) = c.args.adders.now in
    finished c.args.self.now (entries adders) c.loop-adder.self
    (subst (λ xs. Finishes c.args.self.now (entries adders) c.loop-adder.self (entries xs)) (drop_all c.loop-adder.adder-index adders c.loop-adder-test.false) c.loop-adder.invariant)
