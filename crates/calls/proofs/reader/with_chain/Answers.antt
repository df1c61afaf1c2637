use Rattle.calls.proofs.Lines.{told_found, told_by_count, told_by_bits}
use Rattle.calls.proofs.Forms.{none_with}
use Rattle.calls.proofs.Readings.{by_found, by_fused, by_units}
use Rattle.calls.proofs.reader.with_chain.Goals as goal

pub returns-in-Ok : goal.returns-in-Ok
returns-in-Ok c =
    let told = told_found c.args.line.now c.in-Ok.ensures in
    by_found told (c.chain_at.ensures told.after told.ends told.count) c.found.ensures

pub returns-in-Ok-read : goal.returns-in-Ok-read
returns-in-Ok-read c =
    let told = told_by_count c.args.line.now c.in-Ok-read.ensures in
    by_fused told (c.chain_at-in-Ok-read.ensures told.after told.ends told.count) c.fuse.ensures

pub returns-in-Ok-fusing : goal.returns-in-Ok-fusing
returns-in-Ok-fusing c =
    let told = told_by_bits c.args.line.now _ c.in-Ok-fusing.ensures in
    by_units _ told (c.chain_at-in-Ok-fusing.ensures told.after told.ends told.count) c.fuse_by_bits.ensures

pub returns : goal.returns
returns c = none_with c.args.line.now c.in_default.ensures.broken c.in_default-read.ensures.broken c.in_default-fusing.ensures.broken
