-- How far a line is read.
use Rattle.std.specs.Prelude.{◌≡◌, ℕ, List}
use Rattle.adders.specs.declared.wiring.Adder.{Adder}
use Rattle.forms.specs.Breaking.{Viable}
use Rattle.lines.specs.declared.reader.Reader.{Reader}
use Rattle.lines.specs.Form.{Form}
use Rattle.lines.specs.Drafts.{Holds}
use Rattle.lines.specs.Scan.{run, start, at}

-- the bytes lead to where the reader stands, and some line goes on from there
pub record Reached (bs : List ℕ) (reader : Reader) : Type 0 where
  pub viable : Viable Form bs
  pub all : List Adder
  pub ran : run start bs ≡ at all reader.part
  pub holds : Holds reader.adders all
