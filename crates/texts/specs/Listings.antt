-- What is kept of the inputs of a port line.
use Rattle.std.specs.Prelude.{◌≡◌, ◌-◌, List, ◌∷◌, ◌++◌, length, replicate, take, Some, None, Option, nat_lt, ℕ}
use Rattle.adders.specs.declared.wiring.Operand.{Operand}
use Rattle.texts.specs.declared.listing.Listing.{Listing}
use Rattle.texts.specs.declared.selection.Selection.{Selection}
use Rattle.texts.specs.declared.selection.Selections.{Selections}
use Rattle.texts.specs.Steps.{Read}

-- the first sixteen of the inputs, and whether there are more
pub record Lists (l : Listing) (os : List Operand) : Type 0 where
  pub first : l.first ≡ take 16 os
  pub more : l.more ≡ nat_lt 16 (length os)

-- one more before those that are read
abbrev pub with_first : Operand → Read (List Operand) → Read (List Operand)
with_first o None = None
with_first o (Some os) = Some (o ∷ os.0, os.1)

-- a listing that was read, with the bytes after it, where these are the inputs that are read
abbrev pub ListingRead : Option (Listing × List ℕ) → Read (List Operand) → Type 0
ListingRead None None = Unit {0}
ListingRead None (Some os) = ⊥
ListingRead (Some l) None = ⊥
ListingRead (Some l) (Some os) = Lists l.0 os.0 × (l.1 ≡ os.1)

-- entries in the places of eight adders, those past the last of them empty
abbrev pub eight_places : List (Option Selection) → List (Option Selection)
eight_places es = es ++ replicate (8 - length es) None

abbrev pub with_room : Read (List (Option Selection)) → Read (List (Option Selection))
with_room None = None
with_room (Some x) = Some (eight_places x.0, x.1)

abbrev pub as_selections : Read (List (Option Selection) × ℕ) → Read Selections
as_selections None = None
as_selections (Some x) = Some (record { adders = eight_places x.0.0; output = x.0.1 }, x.1)
