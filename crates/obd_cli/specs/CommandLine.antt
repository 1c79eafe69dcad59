-- The command line of the program, and the command that its words are.
use Rattle.std.specs.Prelude.{◌&&◌, ℕ, List, [], ◌∷◌, pos, true, codes, nat_lt, if◌then◌else◌, Option, Some, None, option_and_then, option_map}
use Rattle.std.specs.Str.{bytes_eq}
use Rattle.std.specs.Str.Parse.{digits_value, without_leading_plus}
use Rattle.clap.specs.ValueTests.{is_numeral}
use Rattle.clap.specs.Words.{App, Kinds, Row, Rule, Shape, Text, fault_of, new_app, new_rule, one_of, subcommand_of, with_rule, with_subcommand}
use Rattle.clap.specs.declared.builder.ArgAction.TheVariants.{Set}
use Rattle.clap.specs.declared.builder.value_parser.ValueParser.TheVariants as parser
use Rattle.obd_cli.specs.declared.status.Command.{Command}
use Rattle.obd_cli.specs.declared.status.Command.TheVariants as command

-- a value in its place that can't be left out: a whole number between these bounds
abbrev pub number_between : Text → ℕ → ℕ → Rule
number_between name least most = record (new_rule name) { required = true; action = Some Set; parser = Some (parser.Signed (pos least) (pos most)) }

abbrev pub seed : Rule
seed = number_between (codes "SEED") 0 65535

abbrev pub twists : Rule
twists = number_between (codes "TWISTS") 1 256

-- a command with no values, and the one with two
abbrev pub plain : Text → Shape
plain name = (new_app name).top

abbrev pub sample : Shape
sample = (with_rule (with_rule (new_app (codes "sample")) seed) twists).top

-- the program with no command: its words don't begin with its own name, one command must follow, and `help` is none
abbrev pub alone : App
alone = let new = new_app (codes "obd") in
    record new { top = record new.top { no_binary_name = true; subcommand_required = true; disable_help_subcommand = true } }

-- `obd decide | page | check | sample SEED TWISTS`
abbrev pub obd : App
obd = with_subcommand (with_subcommand (with_subcommand (with_subcommand alone (plain (codes "decide"))) (plain (codes "page"))) (plain (codes "check"))) sample

-- the number of a text of digits, where it is below 2 ^ 16
abbrev pub number_in : Text → Option ℕ
number_in text = let digits = without_leading_plus text in
    if is_numeral digits && nat_lt (digits_value 10 digits) 65536 then Some (digits_value 10 digits) else None

-- the number of the value of this name
abbrev pub number_of : Text → List Row → Option ℕ
number_of name rows = option_and_then number_in (one_of name rows)

-- `sample` with its two numbers
abbrev pub sample_of : List Row → Option Command
sample_of rows = option_and_then (λ seed. option_map (command.Sample seed) (number_of (codes "TWISTS") rows)) (number_of (codes "SEED") rows)

-- the command of a name and of the values that follow it
abbrev pub named : Text × List Row → Option Command
named entered =
    if bytes_eq entered.0 (codes "decide") then Some command.Decide else
    if bytes_eq entered.0 (codes "page") then Some command.Page else
    if bytes_eq entered.0 (codes "check") then Some command.Check else
    if bytes_eq entered.0 (codes "sample") then sample_of entered.1 else None

-- the command that was found, where there is no fault
abbrev pub without_fault : Kinds → Option Command → Option Command
without_fault [] found = found
without_fault (kind ∷ kinds) found = None

-- the command that the words after the program's own name are: none where clap finds a fault in them, and otherwise the one that
-- they name
unfoldable pub command_of : List Text → Option Command
command_of words = without_fault (fault_of obd words) (option_and_then named (subcommand_of obd words))
