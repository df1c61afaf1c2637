use Rattle.std.proofs.Common.{◌≡◌, ◌++◌, drop}
use Rattle.replay.specs.Reports.{reports_of}
use Rattle.replay.proofs.transcript.reports_of.Given as goal

abbrev pub invariant-loop-answer : goal.invariant-loop-answer
invariant-loop-answer l = l.reports.items ++ reports_of (drop l.answer-index l.answers) l.left ≡ reports_of l.answers l.outcomes
