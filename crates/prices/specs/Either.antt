-- The table of a list that is one of two, and that it keeps the laws that both keep.
use Rattle.prices.specs.declared.either.EitherList.{EitherList}
use Rattle.prices.specs.declared.either.EitherList.TheVariants.{First, Second}

module _ {P Q T : Type 0} (of_first : P → T) (of_second : Q → T) where
  -- that of the one that it is
  abbrev pub either_table : EitherList P Q → T
  either_table (First list) = of_first list
  either_table (Second list) = of_second list

  pub either_lawful : (Law : T → Type 0) → ((list : P) → Law (of_first list)) → ((list : Q) → Law (of_second list)) → (list : EitherList P Q) → Law (either_table list)
  either_lawful Law first second (First list) = first list
  either_lawful Law first second (Second list) = second list
