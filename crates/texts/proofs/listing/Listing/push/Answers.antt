use Rattle.std.proofs.Common.{sym, ◌∙◌}
use Rattle.texts.proofs.Listed.{turned_down}
use Rattle.texts.proofs.listing.Listing.push.Goals as goal

pub returns-then-is_err : goal.returns-then-is_err
returns-then-is_err c = λ inputs h.
    turned_down c.args.self.now inputs c.args.input c.push_within_capacity.result c.push_within_capacity.new.self (sym c.is_err.ensures.value ∙ c.if-is_err.true) c.push_within_capacity.ensures.room c.push_within_capacity.ensures.full h
