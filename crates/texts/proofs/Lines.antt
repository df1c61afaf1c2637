-- The laws of the lines.
use Rattle.texts.specs.Laws.{Taken, ReadAgain}
use Rattle.texts.proofs.Takes.{number_line_takes, port_line_takes, selections_take}
use Rattle.texts.proofs.Again.{number_line_again, port_line_again, selections_again}

pub taken : Taken
taken = record {
  numbers = λ key text n rest. number_line_takes key text (n, rest);
  ports = λ p text os rest. port_line_takes p text (os, rest);
  codes = λ n text es out rest. selections_take n text ((es, out), rest);
}

pub read_again : ReadAgain
read_again = record { numbers = number_line_again; ports = port_line_again; codes = selections_again }
