-- What a list of calls on a place not yet founded, the sheet written after it, and runs of what is read back leave.
--   means, ops, Product   the arithmetic of the samples
--   events                the calls, by their arguments
--   code, x, input        the code that is run, the sample and the buffer of samples that it is run on
--   before, told, after   what was lent before, what is answered, what was lent after
use Rattle.std.specs.Prelude.{◌≡◌, ℕ, List, take, Ok}
use Rattle.arith.specs.Operations.{Operations}
use Rattle.blocks.specs.declared.model.Block.{Block}
use Rattle.blocks.specs.Books.{empty_book}
use Rattle.blocks.specs.Runs.{RunAt, RunAllAt}
use Rattle.sheetlaws.specs.Sheets.{IsSheet}
use Rattle.sheets.specs.Calls.{written_sheet}
use Rattle.writing.specs.Writes.{Written}
use Rattle.history.specs.declared.outcome.Outcome.{Outcome}
use Rattle.history.specs.declared.replaying.Replayed.{Replayed}
use Rattle.history.specs.Events.{Event}
use Rattle.history.specs.Books.{book}
use Rattle.history.specs.Histories.{History}

-- all that is lent to be written
pub record Lent (X : Type 0) : Type 0 where
  pub outcomes : List Outcome
  pub sheet : List ℕ
  pub place : Block
  pub output : List X

abbrev pub lent : {X : Type 0} → List Outcome → List ℕ → Block → List X → Lent X
lent outcomes sheet place output = record { outcomes = outcomes; sheet = sheet; place = place; output = output }

module _ {X M : Type 0} (means : X → M) (ops : Operations M) (Product : ℕ → X → X → Type 0) where
  pub record Replay (events : List Event) (code : ℕ) (x : X) (input : List X) (before : Lent X) (told : Replayed X) (after : Lent X) : Type 0 where
    -- the calls kept to their rules and to the plain book, and left this block
    pub block : Block
    pub history : History events after.outcomes block
    -- its sheet stands at the front of what was lent for it, and read over the place, whatever was there, it is that block again
    pub written : Written (written_sheet block) before.sheet (Ok told.length) after.sheet
    pub sheet : IsSheet (take told.length after.sheet) block
    pub place : after.place ≡ block
    -- that block answers exactly at the codes that are live in the book, and each answer is the book's constant times the sample
    pub sample : RunAt means ops Product code ((book empty_book events).entries code) x told.sample
    pub buffer : RunAllAt means ops Product code ((book empty_book events).entries code) input before.output told.buffer after.output
