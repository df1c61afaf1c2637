use Rattle.std.proofs.Common.{◌∙◌, take}
use Rattle.std.proofs.Math.Seq.{take-append_seam}
use Rattle.sheets.specs.Calls.{written_sheet}
use Rattle.replay.proofs.transcript.made.Goals as goal

pub returns-clause-made : goal.returns-clause-made
returns-clause-made c =
    let block = c.in-Ok.block in
    let written = c.in-Ok-write.ensures.answer in
    record { block = block; history = c.in-Ok.ensures.answer.1; written = (λ i. take (written.0 i) (written.2 i)) ∙ take-append_seam (written_sheet block) _ }
