use Rattle.std.proofs.Common.{ap, ◌∙◌, arith}
use Rattle.ports.specs.Ports.{nth_port}
use Rattle.sheets.proofs.Writes.{port_wrote, port_written, ports_written}
use Rattle.sheets.proofs.writer.write_ports.Goals as goal

pub loop-place-preserved : goal.loop-place-preserved
loop-place-preserved c =
    port_written c.args.lists.now.block.now c.loop-place.place c.args.text.now c.loop-place.text c.loop-place.invariant (omega (arith, c.loop-place-test.true, c.adders-adders.ensures)) c.port_line.new.self
    (port_wrote c.args.lists.now.block.now c.loop-place.place c.loop-place.text c.port_line.new.self c.nth-port.result c.at.result.now (c.nth-port.ensures ∙ ap (λ a. nth_port a c.loop-place.place) c.adders-adders.ensures) c.at.ensures.items c.port_line.ensures)

pub returns : goal.returns
returns c = ports_written c.args.lists.now.block.now c.loop-place.place c.args.text.now c.loop-place.text c.loop-place.invariant (omega (arith, c.loop-place-test.false, c.adders-adders.ensures))
