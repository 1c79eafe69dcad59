use Rattle.std.proofs.Common.{◌∙◌}
use Rattle.std.specs.Str.Parse.{ExplainsUnsignedError, HasUnsignedDigitsIfOk, ParsesUnsigned}
use Rattle.clap.proofs.WalkLemmas.{one_text-rows}
use Rattle.clap.specs.Words.{found_of, rows_of}
use Rattle.obd_cli.proofs.CommandReads.{number_read}
use Rattle.obd_cli.proofs.command_line.number_of.Goals as goal

pub returns : goal.returns
returns c =
    let same = one_text-rows (found_of c.args.values.now) c.args.name.now in
    number_read _ (λ bs r. ParsesUnsigned 16 10 bs r × ExplainsUnsignedError 10 bs r × HasUnsignedDigitsIfOk bs r) c.args.name.now (rows_of (found_of c.args.values.now)) c.get_one.result
    (λ u r given. given.0) (λ none. c.get_one.ensures.none (same ∙ none)) (λ text some. c.get_one.ensures.value text (same ∙ some))
