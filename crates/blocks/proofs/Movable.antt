-- What can be moved at a code is what can be moved in its row.
use Rattle.std.proofs.Common.{◌≡◌, ℕ, Bool, ℤ, Some, Decides, sym, ◌∙◌, subst}
use Rattle.rows.specs.declared.model.Row.{Row}
use Rattle.rows.specs.Moving.{Movable}
use Rattle.blocks.specs.declared.model.Block.{Block}
use Rattle.blocks.specs.Blocks.{row_of}
use Rattle.blocks.specs.Calls.{MovableAt}

pub movable_at : (b : Block) (code a : ℕ) (z : ℤ) (r : Row) → row_of b code ≡ Some r → (t : Bool) → Decides t (Movable r a z) → Decides t (MovableAt b code a z)
movable_at b code a z r was t d = (
  λ e. record { row = r; there = was; movable = d.0 e },
  λ m.
      let same : Some m.row ≡ Some r = sym m.there ∙ was in
      d.1 (subst (λ q. Movable q a z) (cc same) m.movable),
)
