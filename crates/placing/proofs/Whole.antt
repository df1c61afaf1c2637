-- What holds of placements.
use Rattle.placing.specs.Placements.{PlacementLaw}
use Rattle.placing.proofs.Made.{row_made, row_one, constant_placed}
use Rattle.placing.proofs.Left.{block_left, block_one}
use Rattle.placing.proofs.Existing.{at_own_numbers, adders_enough}

pub placement_law : PlacementLaw
placement_law = record {
  row = row_made;
  row_one = row_one;
  constant = λ before chain p r adm placed. constant_placed chain p r placed before adm;
  block = λ before code chain p low adm. block_left before code chain p adm low;
  block_one = λ before code chain p a b adm. block_one before code chain p adm a b;
  some = at_own_numbers;
  enough = adders_enough;
}
