-- What is left after a list of calls, its sheet and the runs.
use Rattle.std.proofs.Common.{ℕ, List, take, Ok, Result, ap, ◌∙◌, subst}
use Rattle.adders.specs.declared.refusals.Refusal.{Refusal}
use Rattle.arith.specs.Operations.{Operations}
use Rattle.blocks.specs.declared.model.Block.{Block}
use Rattle.blocks.specs.Blocks.{constant_at}
use Rattle.blocks.specs.Runs.{RunAt, RunAllAt}
use Rattle.sheetlaws.specs.Sheets.{IsSheet}
use Rattle.sheets.specs.Calls.{written_sheet, ReadOver, ReadsBack}
use Rattle.writing.specs.Writes.{Written}
use Rattle.history.specs.declared.outcome.Outcome.{Outcome}
use Rattle.history.specs.Events.{Event}
use Rattle.history.specs.Histories.{History}
use Rattle.history.specs.Replays.{Lent, lent, Replay}

module _ {X M : Type 0} (means : X → M) (ops : Operations M) (Product : ℕ → X → X → Type 0) where
  pub replayed : (events : List Event) (code : ℕ) (x : X) (input : List X) (before : Lent X) (outcomes : List Outcome) (sheet : List ℕ) (place : Block) (output : List X) (n : ℕ) (y : Result X Refusal) (r : Result Unit Refusal) (block : Block) → History events outcomes block → Written (written_sheet block) before.sheet (Ok n) sheet → ReadsBack (take n sheet) block → ReadOver (take n sheet) before.place (Ok tt) place → RunAt means ops Product code (constant_at place code) x y → RunAllAt means ops Product code (constant_at place code) input before.output r output → Replay means ops Product events code x input before (record { length = n; sample = y; buffer = r }) (lent outcomes sheet place output)
  replayed events code x input before outcomes sheet place output n y r block history written again read run run_all =
      let same = (again before.place (Ok tt) place read).1 in
      let entry = ap (λ b. constant_at b code) same ∙ history.told.constants code in
      record {
        block = block;
        history = history;
        written = written;
        sheet = subst (IsSheet (take n sheet)) same read;
        place = same;
        sample = subst (λ o. RunAt means ops Product code o x y) entry run;
        buffer = subst (λ o. RunAllAt means ops Product code o input before.output r output) entry run_all;
      }
