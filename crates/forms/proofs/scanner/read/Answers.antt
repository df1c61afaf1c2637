use Rattle.std.proofs.Common.{◌≡◌, Some, None, sym, subst, rules}
use Rattle.std.proofs.lemmas.List.{take_more, take_all}
use Rattle.std.proofs.lemmas.Option.{MatchOption-at_some, MatchOption-at_none}
use Rattle.std.proofs.lemmas.Result.{err_from_is_err_and}
use Rattle.forms.proofs.Breaks.{breaks_at, ended}
use Rattle.forms.proofs.scanner.read.Goals as goal

pub returns-in_err-ok_or : goal.returns-in_err-ok_or
returns-in_err-ok_or g c =
    let bs = c.args.bytes.now in
    let i = c.loop-place.place in
    let none : c.advance.result ≡ None = search rules in
    let off = MatchOption-at_none _ _ none (c.advance.ensures.step _ c.loop-place.invariant) in
    let p = err_from_is_err_and c.from_residual.result c.from_residual.ensures.1 in
    let here : c.in_err-ok_or.field-0.0.place ≡ i = search rules in
    rw (p.1, p.2, here) (breaks_at g.S.Scanner.Form bs i c.loop-place-test.true (g.met.S.Scanner.viable _ _ c.loop-place.invariant) off)

pub loop-place-preserved : goal.loop-place-preserved
loop-place-preserved g c =
    let bs = c.args.bytes.now in
    let i = c.loop-place.place in
    let some : c.advance.result ≡ Some tt = search rules in
    subst (λ l. g.S.Scanner.Reached l c.advance.new.self) (sym (take_more bs i 0 c.loop-place-test.true)) (MatchOption-at_some _ _ _ some (c.advance.ensures.step _ c.loop-place.invariant))

pub returns : goal.returns
returns g c =
    let bs = c.args.bytes.now in
    let s = g.S.Scanner in
    let all = subst (λ l. s.Reached l c.loop-place.scanner) (take_all c.loop-place.place bs c.loop-place-test.false) c.loop-place.invariant in
    rw c.ok_or-2.ensures.value (ended s.Form s.Says bs c.end.result (g.met.S.Scanner.viable _ _ all) (c.end.ensures bs all))
