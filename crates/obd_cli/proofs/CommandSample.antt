-- `sample` with two numbers.
use Rattle.std.proofs.Common.{◌≡◌, ◌∙◌, ℕ, true, false, List, [], ◌∷◌, Option, Some, None, refl, ap, ap₂, codes}
use Rattle.std.specs.Prelude.{pos, if◌then◌else◌, option_and_then, option_map}
use Rattle.std.specs.Str.Parse.{starts_with_minus}
use Rattle.clap.specs.Faults.{check_fault, defaults_fault, level_fault, settle_fault, turn_fault, walk_fault}
use Rattle.clap.specs.Kinds.{or_else, value_kinds}
use Rattle.clap.specs.Lexer.{without_minus}
use Rattle.clap.specs.Values.{refused_kind}
use Rattle.clap.specs.ValueTests.{accepts}
use Rattle.clap.specs.Walk.{Walk, finished, idle, nothing_held, rows_after, settled, walk, walk_from, walked}
use Rattle.clap.specs.Words.{Kinds, Row, Text}
use Rattle.clap.specs.declared.builder.value_parser.Reading.TheVariants as reading
use Rattle.clap.specs.declared.builder.value_parser.ValueParser.{ValueParser}
use Rattle.clap.specs.declared.builder.value_parser.ValueParser.TheVariants as parser
use Rattle.clap.specs.declared.parser.matches.ValueSource.TheVariants.{CommandLine}
use Rattle.obd_cli.proofs.CommandEntered.{sample_faults, sample_line, sample_rows}
use Rattle.obd_cli.proofs.CommandReads.{taken_command}
use Rattle.obd_cli.proofs.CommandValues.{value_fault, value_walked}
use Rattle.obd_cli.specs.CommandLine.{command_of, named, number_in, sample_of}
use Rattle.obd_cli.specs.declared.status.Command.TheVariants as command

abbrev pub seeds : ValueParser
seeds = parser.Signed (pos 0) (pos 65535)

abbrev pub numbers : ValueParser
numbers = parser.Signed (pos 1) (pos 256)

-- the row of a value that was read
abbrev pub row : Text → Text → Row
row name value = record { id = name; values = value ∷ []; count = None; source = Some CommandLine; reading = reading.WithoutMinus }

-- the walk after so many values, of which the last one waits
abbrev after : List Row → Text → Text → ℕ → Walk
after rows name value position =
    record { held = record { rows = rows; pending = Some (name, value ∷ []); skip = 0 }; waiting = idle; position = position; is_trailing = false; stopped = None }

-- a value that is taken brings no fault
no_fault : (p : ValueParser) (text : Text) → accepts false p text ≡ true → or_else (value_kinds false p text) [] ≡ []
no_fault p text taken = ap (λ taken. or_else (if taken then [] else refused_kind p ∷ []) []) taken

no_minus : (text : Text) → starts_with_minus text ≡ false → without_minus text ≡ text
no_minus [] plain = refl
no_minus (first ∷ text) plain = rw plain refl

module _ (first second : Text) (first_plain : starts_with_minus first ≡ false) (second_plain : starts_with_minus second ≡ false) where
  abbrev one : Walk
  one = after [] (codes "SEED") first 2

  abbrev two : Walk
  two = after (row (codes "SEED") first ∷ []) (codes "TWISTS") second 3

  first_walked : walked sample_line.rules [] (walk_from nothing_held) first ≡ one
  first_walked = value_walked sample_line [] nothing_held 1 first refl first_plain

  second_walked : walked sample_line.rules [] one second ≡ two
  second_walked = value_walked sample_line [] one.held 2 second refl second_plain

  both_walked : walk sample_line.rules [] nothing_held (first ∷ second ∷ []) ≡ two
  both_walked = ap (λ w. walked sample_line.rules [] w second) first_walked ∙ second_walked

  first_fault : turn_fault sample_line [] (walk_from nothing_held) first ≡ []
  first_fault = value_fault sample_line [] nothing_held 1 first refl first_plain

  second_fault : accepts false seeds first ≡ true → turn_fault sample_line [] one second ≡ []
  second_fault taken = value_fault sample_line [] one.held 2 second refl second_plain ∙ no_fault seeds first taken

  walking : accepts false seeds first ≡ true → walk_fault sample_line [] (walk_from nothing_held) (first ∷ second ∷ []) ≡ []
  unfolding walk_fault
  walking taken = ap₂ (λ kinds w. or_else kinds (or_else (turn_fault sample_line [] w second) [])) first_fault first_walked ∙ ap (λ kinds. or_else kinds []) (second_fault taken)

  level : accepts false seeds first ≡ true → accepts false numbers second ≡ true → level_fault sample_line [] nothing_held (first ∷ second ∷ []) false [] ≡ []
  unfolding defaults_fault
  level first_taken second_taken = ap₂ ends both_walked (walking first_taken) ∙ ap (λ kinds. or_else kinds []) (no_fault numbers second second_taken)
    where
      ends : Walk → Kinds → Kinds
      ends end walking = or_else walking (or_else (settle_fault sample_line.rules sample_line.args_override_self end.held)
          (or_else (defaults_fault (settled sample_line.rules end.held).rows sample_line.rules) (check_fault sample_line (finished sample_line.rules end.held) false)))

  rows : rows_after sample_line.rules [] (first ∷ second ∷ []) ≡ row (codes "SEED") first ∷ row (codes "TWISTS") second ∷ []
  rows = ap (λ w. finished sample_line.rules w.held) both_walked

  numbers_read : (seed twists : ℕ) → number_in first ≡ Some seed → number_in second ≡ Some twists
      → sample_of (row (codes "SEED") first ∷ row (codes "TWISTS") second ∷ []) ≡ Some (command.Sample seed twists)
  numbers_read seed twists seed_is twists_is = ap₂ (λ (seed twists : Option ℕ). option_and_then (λ seed. option_map (command.Sample seed) twists) seed)
      (ap number_in (no_minus first first_plain) ∙ seed_is) (ap number_in (no_minus second second_plain) ∙ twists_is)

  -- two values with no sign that clap takes are `sample` with their numbers
  pub sample_command : (seed twists : ℕ) → accepts false seeds first ≡ true → accepts false numbers second ≡ true → number_in first ≡ Some seed → number_in second ≡ Some twists
      → command_of (codes "sample" ∷ first ∷ second ∷ []) ≡ Some (command.Sample seed twists)
  sample_command seed twists first_taken second_taken seed_is twists_is =
      taken_command (codes "sample" ∷ first ∷ second ∷ []) (sample_faults (first ∷ second ∷ []) ∙ level first_taken second_taken)
      ∙ (ap (option_and_then named) (sample_rows (first ∷ second ∷ []) ∙ ap (λ rows. Some (codes "sample", rows)) rows) ∙ numbers_read seed twists seed_is twists_is)
