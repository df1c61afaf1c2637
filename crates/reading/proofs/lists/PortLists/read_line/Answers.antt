use Rattle.std.proofs.Common.{◌≡◌, true, sym, ap, ◌∙◌, rules}
use Rattle.std.specs.List.{list_all}
use Rattle.texts.specs.Pieces.{port_line_at}
use Rattle.reading.specs.Repeats.{repeats}
use Rattle.reading.specs.Reader.{bound, allowed}
use Rattle.reading.proofs.Repeated.{repeats_by}
use Rattle.reading.proofs.PortLines.{some_read, no_line, too_many, not_allowed, twice, read_line}
use Rattle.reading.proofs.lists.PortLists.read_line.Goals as goal
use Rattle.reading.proofs.lists.PortLists.read_line.Goals.{then-listing-via-then-listing, then-listing-via-else-listing+then-not-all_allowed}

pub returns-in_default : goal.returns-in_default
returns-in_default c = no_line c.args.adders c.args.line c.args.port c.args.text.now c.in_default.ensures

pub returns-then-listing : goal.returns-then-listing
returns-then-listing c =
    let s = some_read (c.in-Some.listing, c.in-Some.rest.now) (port_line_at c.args.port c.args.text.now) c.in-Some.ensures in
    elim c.then-listing.branch [
      | then-listing-via-then-listing w ↦ too_many c.args.adders c.args.line c.args.port c.args.text.now c.in-Some.listing c.in-Some.rest.now s.0 s.1 s.2 w.if-listing.true
      | then-listing-via-else-listing+then-not-all_allowed w ↦
          not_allowed c.args.adders c.args.line c.args.port c.args.text.now c.in-Some.listing c.in-Some.rest.now s.0 s.1 s.2 w.if-listing.false (search rules)
    ]

pub returns-then-is_some : goal.returns-then-is_some
returns-then-is_some c =
    let s = some_read (c.in-Some.listing, c.in-Some.rest.now) (port_line_at c.args.port c.args.text.now) c.in-Some.ensures in
    let fine : list_all (allowed (bound c.args.adders c.args.port)) c.in-Some.listing.first ≡ true = search rules in
    twice c.args.adders c.args.line c.args.port c.args.text.now c.in-Some.listing c.in-Some.rest.now s.0 s.1 s.2 c.if-listing.false fine (ap repeats (sym c.as_slice-inputs.ensures.items) ∙ repeats_by c.as_slice-inputs.result.now c.first_repeat.result c.first_repeat.ensures ∙ sym c.if-is_some.ensures)

pub returns : goal.returns
returns c =
    let s = some_read (c.in-Some.listing, c.in-Some.rest.now) (port_line_at c.args.port c.args.text.now) c.in-Some.ensures in
    let fine : list_all (allowed (bound c.args.adders c.args.port)) c.in-Some.listing.first ≡ true = search rules in
    let read = read_line c.args.adders c.args.line c.args.port c.args.text.now c.in-Some.listing c.in-Some.rest.now s.0 s.1 s.2 c.if-listing.false fine (ap repeats (sym c.as_slice-inputs.ensures.items) ∙ repeats_by c.as_slice-inputs.result.now c.first_repeat.result c.first_repeat.ensures ∙ sym c.if-is_some.ensures) in
    (c.in-Some.listing.first, read, c.put.ensures)
