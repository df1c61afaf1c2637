use Rattle.std.proofs.Common.{◌≡◌, ◌+◌, ◌<◌, drop, Ok, Err, sym, ap, ◌∙◌, subst}
use Rattle.std.proofs.lemmas.Result.{err_from_is_err_and}
use Rattle.ports.specs.Ports.{ports}
use Rattle.reading.specs.Orders.{place_of, lists_of, with_line}
use Rattle.reading.specs.Reader.{read_ports, read_port}
use Rattle.reading.proofs.PortOrder.{has_place, line_stops, line_goes_on, lines_end}
use Rattle.reading.proofs.lists.PortLists.read.Goals as goal

pub read_line-requires-clause-room : goal.read_line-requires-clause-room
read_line-requires-clause-room c = subst (λ p. place_of p < 17) (sym c.nth.ensures) (has_place c.args.adders c.loop-place.place c.requires)

pub returns-in_err-rest : goal.returns-in_err-rest
returns-in_err-rest c =
    let p = err_from_is_err_and c.from_residual.result c.from_residual.ensures.1 in
    let here = subst (λ q. read_port c.args.adders (c.loop-place.place + 3) q c.loop-place.rest.now ≡ Err c.in_err-rest.field-0.0) c.nth.ensures c.in_err-rest.ensures in
    rw (p.1, p.2) (sym c.loop-place.invariant ∙ line_stops c.args.adders c.loop-place.place (lists_of c.loop-place.self) c.loop-place.rest.now c.loop-place-test.true c.in_err-rest.field-0.0 here)

pub loop-place-preserved : goal.loop-place-preserved
loop-place-preserved c =
    let k = c.loop-place.place in
    let line = c.in_ok-rest.ensures in
    let here = subst (λ q. read_port c.args.adders (k + 3) q c.loop-place.rest.now ≡ Ok (line.0, c.in_ok-rest.rest.now)) c.nth.ensures line.1 in
    let same = line.2 ∙ ap (λ q. with_line q line.0 (lists_of c.loop-place.self)) c.nth.ensures in
    ap (λ orders. read_ports c.args.adders (k + 1 + 3) (drop (k + 1) (ports c.args.adders)) orders c.in_ok-rest.rest.now) same
    ∙ sym (line_goes_on c.args.adders k (lists_of c.loop-place.self) c.loop-place.rest.now c.loop-place-test.true line.0 c.in_ok-rest.rest.now here)
    ∙ c.loop-place.invariant

pub returns : goal.returns
returns c = sym c.loop-place.invariant ∙ lines_end c.args.adders c.loop-place.place (lists_of c.loop-place.self) c.loop-place.rest.now c.loop-place-test.false
