-- The worked cases.
use Rattle.std.specs.Prelude.{ℕ, true, false, List, [], ◌∷◌, ℤ, pos, negsuc, codes}
use Rattle.blocks.specs.Calls.{retiring, moving}
use Rattle.placing.specs.Slots.{at_places}
use Rattle.worked.specs.Lines.{Answer, constant, done, fault, Answers, Sample, word, residue, Multiplies, Moves}
use Rattle.worked.specs.Blocks.{TwoLines, any, bits, Fact, depth, count, units, costs, shows, multiplies, runs_word, runs_mod_255, refuses, after, AllHold}

pub data Case : Type 0 where
  -- a line, and what reading it answers
  line : List ℕ → Answer → Case
  -- a line, and a sample with the product that running makes of it
  sample : List ℕ → Sample → Case
  -- a line, and what moving an adder answers wherever it was founded
  move : List ℕ → (adder : ℕ) (amount : ℤ) → Answer → Case
  -- two lines, and what holds of their block
  block : TwoLines → List Fact → Case

abbrev pub Stands : Case → Type 0
Stands (line bs answer) = Answers bs answer
Stands (sample bs s) = Multiplies bs s
Stands (move bs adder amount answer) = Moves bs adder amount answer
Stands (block lines facts) = AllHold lines facts

-- the block of the constants 6 and 10
abbrev pub six_and_ten : Case
six_and_ten = block
    (record {
      width = any;
      first = codes "chain=0.1+0.2 0";
      second = codes "chain=0.0+0.2 1";
      placement = at_places (1 ∷ []) (false ∷ []);
    })
    (shows 1 (codes "chain=0.0+0.2 1")
    ∷ multiplies 0 6
    ∷ multiplies 1 10
    ∷ costs count 2
    ∷ after (moving 1 1 (pos 1)) (shows 1 (codes "chain=0.1+0.3 0"))
    ∷ after (moving 1 1 (pos 1)) (multiplies 1 10)
    ∷ after (moving 1 1 (pos 1)) (costs count 1)
    ∷ refuses (moving 1 1 (pos 2)) 13 0
    ∷ [])

-- the block of the constants 45 and 19; negsuc 6 is -7, negsuc 314 is -315 and negsuc 132 is -133
abbrev pub forty_five_and_nineteen : Case
forty_five_and_nineteen = block
    (record {
      width = bits 16;
      first = codes "chain=0.0+0.2 1.0+1.3 0";
      second = codes "chain=0.0+0.1 1.0+0.4 0";
      placement = at_places (1 ∷ 2 ∷ []) (false ∷ false ∷ []);
    })
    (shows 1 (codes "chain=0.0+0.1 1.0+0.4 0")
    ∷ multiplies 0 45
    ∷ multiplies 1 19
    ∷ depth 4
    ∷ costs count 2
    ∷ costs (units 4 5 6 2) 244
    ∷ after (retiring 1) (costs (units 4 5 6 2) 164)
    ∷ runs_word 0 (negsuc 6) (negsuc 314)
    ∷ runs_word 1 (negsuc 6) (negsuc 132)
    ∷ runs_mod_255 0 200 75
    ∷ [])

-- the block of the constant 29 at both codes, in which the second chain stands out of order and with adder 3 swapped, and so costs nothing
abbrev pub twice_twenty_nine : Case
twice_twenty_nine = block
    (record {
      width = bits 16;
      first = codes "chain=0.0+0.2 0.0+0.1 1.0+2.3 0";
      second = codes "chain=0.0+0.1 0.0+0.2 1.3+2.0 0";
      placement = at_places (2 ∷ 1 ∷ 3 ∷ []) (false ∷ false ∷ true ∷ []);
    })
    (shows 1 (codes "chain=0.0+0.2 0.0+0.1 1.0+2.3 0")
    ∷ multiplies 0 29
    ∷ multiplies 1 29
    ∷ depth 2
    ∷ costs count 0
    ∷ costs (units 4 5 6 2) 232
    ∷ [])

abbrev pub worked : List Case
worked =
    line (codes "chain=0") (constant 1)
    ∷ line (codes "chain=31") (fault 13 0)
    ∷ line (codes "chain=0.0+0.2 1.0+1.11 2.0+0.5 3.0-0.8 0") (constant 10021)
    ∷ line (codes "chain=0.0-0.0 0") (fault 15 1)
    ∷ line (codes "chain=1.0+0.0 0") (fault 14 1)
    ∷ line (codes "chain=0.0+0.2 0.0+0.1 0") (fault 16 1)
    ∷ line (codes "chain=0.30+0.29 0") (constant 1610612736)
    ∷ line (codes "chain=0.30+0.30 0") (fault 15 1)
    ∷ line (codes "chain=0.0+0.2 1") (constant 10)
    ∷ sample (codes "chain=0.0+0.2 1.0+1.3 0") (word (negsuc 6) (negsuc 314))
    ∷ sample (codes "chain=0.0+0.1 1.0+0.4 0") (word (negsuc 6) (negsuc 132))
    ∷ sample (codes "chain=0.0+0.2 1.0+1.3 0") (residue 255 200 75)
    ∷ move (codes "chain=0.0+0.2 1") 1 (pos 1) done
    ∷ move (codes "chain=0.0+0.2 1") 1 (pos 2) (fault 13 0)
    ∷ six_and_ten
    ∷ forty_five_and_nineteen
    ∷ twice_twenty_nine
    ∷ []
