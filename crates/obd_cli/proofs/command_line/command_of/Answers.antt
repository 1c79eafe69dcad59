use Rattle.std.proofs.Common.{◌∙◌, ap, map, rules, string_bytes, sym}
use Rattle.std.specs.Prelude.{option_and_then}
use Rattle.obd_cli.proofs.CommandReads.{faulty_words, taken_command}
use Rattle.obd_cli.specs.CommandLine.{named}
use Rattle.obd_cli.proofs.command_line.command_of.Goals as goal

pub returns-in-Ok : goal.returns-in-Ok
returns-in-Ok c =
    let taken = c.in-Ok.ensures.taken in
    c.named.ensures ∙ (ap (option_and_then named) taken.1 ∙ sym (taken_command (map string_bytes c.args.words.now) taken.0))

pub returns : goal.returns
returns c = sym (faulty_words (map string_bytes c.args.words.now) (c.in-Err.ensures.fault (search rules)))
