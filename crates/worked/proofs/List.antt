-- Each worked case stands.
use Rattle.std.proofs.Common.{refl, arith}
use Rattle.std.proofs.lemmas.Int.{ints}
use Rattle.std.specs.List.{AllByRecursion}
use Rattle.worked.specs.Cases.{Stands, worked}
use Rattle.worked.proofs.OneAdder as one_adder
use Rattle.worked.proofs.TwoAdders as two_adders
use Rattle.worked.proofs.OutOfOrder as out_of_order
use Rattle.worked.proofs.Lines.{computed_right, multiplied, whole, moves}

pub all_stand : AllByRecursion Stands worked
all_stand = (
  computed_right _ _ refl,
  (
    computed_right _ _ refl,
    (
      computed_right _ _ refl,
      (
        computed_right _ _ refl,
        (
          computed_right _ _ refl,
          (
            computed_right _ _ refl,
            (
              computed_right _ _ refl,
              (
                computed_right _ _ refl,
                (
                  computed_right _ _ refl,
                  (
                    multiplied _ _ 45 refl (whole 45 _ _ (record { least = omega (arith, ints); most = omega (arith, ints) }) refl),
                    (
                      multiplied _ _ 19 refl (whole 19 _ _ (record { least = omega (arith, ints); most = omega (arith, ints) }) refl),
                      (
                        multiplied _ _ 45 refl refl,
                        (
                          moves _ _ _ _ _ _ refl refl refl refl refl refl,
                          (
                            moves _ _ _ _ _ _ refl refl refl refl refl refl,
                            (
                              one_adder.stands,
                              (two_adders.stands, (out_of_order.stands, tt)),
                            ),
                          ),
                        ),
                      ),
                    ),
                  ),
                ),
              ),
            ),
          ),
        ),
      ),
    ),
  ),
)
