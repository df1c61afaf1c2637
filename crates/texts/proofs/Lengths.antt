-- How long the pieces of a sheet are.
use Rattle.std.proofs.Common.{◌≡◌, ℕ, ◌+◌, ◌*◌, ◌≤◌, List, [], ◌∷◌, length, Some, None, Option, ap, arith}
use Rattle.std.proofs.lemmas.List.{length-append}
use Rattle.std.proofs.lemmas.Fmt.{length-decimal-le}
use Rattle.adders.specs.declared.wiring.Operand.{Operand}
use Rattle.ports.specs.declared.port.Port.{Port}
use Rattle.ports.specs.declared.port.Port.TheVariants.{Left, Right, Output}
use Rattle.texts.specs.declared.selection.Selection.{Selection}
use Rattle.texts.specs.Text.{number, number_line, operand, more_inputs, input_list, port_key, port_line, entry, entries, code_key, code_line, Small, AllSmall, SmallEntry, AllSmallEntries}
use Rattle.texts.specs.Laws.{SmallPort}
use Rattle.texts.proofs.Takes.{code_key_is}

pub number_length : (n : ℕ) → n ≤ 99 → length (number n) ≤ 2
number_length n small = length-decimal-le 2 n (omega arith) (omega arith) (omega arith)

pub number_line_length : (key : List ℕ) (n : ℕ) → n ≤ 99 → length (number_line key n) ≤ length key + 3
number_line_length key n small = let digits = number_length n small in simp length-append (omega arith)

pub operand_length : (o : Operand) → Small o → length (operand o) ≤ 5
operand_length o small =
    let source = number_length o.source small.0 in
    let shift = number_length o.shift small.1 in
    simp length-append (omega arith)

more_inputs_length : (os : List Operand) → AllSmall os → length (more_inputs os) ≤ 6 * length os
more_inputs_length [] small = omega arith
more_inputs_length (o ∷ os) small =
    let first = operand_length o small.0 in
    let others = more_inputs_length os small.1 in
    let whole = length-append (operand o) (more_inputs os) in
    omega arith

pub input_list_length : (os : List Operand) → AllSmall os → length (input_list os) ≤ 6 * length os
input_list_length [] small = omega arith
input_list_length (o ∷ os) small =
    let first = operand_length o small.0 in
    let others = more_inputs_length os small.1 in
    let whole = length-append (operand o) (more_inputs os) in
    omega arith

pub port_key_length : (p : Port) → SmallPort p → length (port_key p) ≤ 4
port_key_length (Left j) small = let digits = number_length j small in simp length-append (omega arith)
port_key_length (Right j) small = let digits = number_length j small in simp length-append (omega arith)
port_key_length Output small = omega arith

pub port_line_length : (p : Port) (os : List Operand) → SmallPort p → AllSmall os → length (port_line p os) ≤ 6 * length os + 5
port_line_length p os small_port small =
    let key = port_key_length p small_port in
    let inputs = input_list_length os small in
    simp length-append (omega arith)

pub entry_length : (x : Option Selection) → SmallEntry x → length (entry x) ≤ 6
entry_length None small = omega arith
entry_length (Some s) small =
    let left = number_length s.left small.0 in
    let right = number_length s.right small.1 in
    simp length-append (omega arith)

pub entries_length : (xs : List (Option Selection)) → AllSmallEntries xs → length (entries xs) ≤ 6 * length xs
entries_length [] small = omega arith
entries_length (x ∷ xs) small =
    let first = entry_length x small.0 in
    let others = entries_length xs small.1 in
    let whole = length-append (entry x) (entries xs) in
    omega arith

pub code_line_length : (c : ℕ) (xs : List (Option Selection)) (out : ℕ) → c ≤ 99 → AllSmallEntries xs → out ≤ 99 → length (code_line c xs out) ≤ 6 * length xs + 7
code_line_length c xs out few small small_output =
    let key : length (code_key c) ≡ 4 = ap length (code_key_is c few) in
    let adders = entries_length xs small in
    let output = number_length out small_output in
    simp length-append (omega (arith, simp length-append at key))
