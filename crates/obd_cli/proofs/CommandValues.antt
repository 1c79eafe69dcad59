-- Words that don't begin with a hyphen are values.
use Rattle.std.proofs.Common.{◌≡◌, ◌∙◌, ℕ, false, [], ◌∷◌, None, refl, ap, ap₂}
use Rattle.std.specs.Prelude.{if◌then◌else◌}
use Rattle.std.specs.Option.{option_map_or}
use Rattle.std.specs.Str.{bytes_eq}
use Rattle.std.specs.Str.Parse.{starts_with_minus}
use Rattle.clap.specs.Faults.{bundle_fault, flag_word_fault, other_fault, step_fault, turn_fault}
use Rattle.clap.specs.Kinds.{or_else}
use Rattle.clap.specs.Lexer.{long_of, short_of}
use Rattle.clap.specs.Walk.{Held, Names, Step, Walk, after_step, arg_by_index, idle, long_or_other, short_or_plain, subcommand_met, subcommand_or_other, to_positional, trailing, value, walked, word_met}
use Rattle.clap.specs.Words.{Shape, Text}

-- ---- how the word looks

no_dashes : (word : Text) → starts_with_minus word ≡ false → bytes_eq word (45 ∷ 45 ∷ []) ≡ false
no_dashes [] plain = refl
no_dashes (first ∷ word) plain = rw plain refl

no_long : (word : Text) → starts_with_minus word ≡ false → long_of word ≡ None
no_long [] plain = refl
no_long (first ∷ word) plain = rw plain refl

no_short : (word : Text) → starts_with_minus word ≡ false → short_of word ≡ None
no_short [] plain = refl
no_short (first ∷ word) plain = rw plain refl

-- ---- what it does

module _ (shape : Shape) (position : ℕ) (word : Text) (h : Held) (plain : starts_with_minus word ≡ false) where
  plain_step : ◌≡◌ {A = Held × Step} (subcommand_or_other shape.rules None idle position word h) (h, value)
  plain_step = ap (λ dashes. if dashes then (h, trailing position) else long_or_other shape.rules idle word (long_of word) h) (no_dashes word plain)
      ∙ (ap (λ long. long_or_other shape.rules idle word long h) (no_long word plain) ∙ ap (λ short. short_or_plain shape.rules idle word short h) (no_short word plain))

  plain_fault : other_fault shape None word h ≡ []
  plain_fault = ap (λ dashes. if dashes then [] else flag_word_fault shape.rules shape.args_override_self (long_of word) word h) (no_dashes word plain)
      ∙ (ap (λ long. flag_word_fault shape.rules shape.args_override_self long word h) (no_long word plain)
      ∙ ap (λ short. option_map_or (λ flags. bundle_fault shape.rules shape.args_override_self flags h) short []) (no_short word plain))

-- the word goes to the value in whose place it stands
module _ (shape : Shape) (names : Names) (h : Held) (position : ℕ) (word : Text) (met : subcommand_met names idle word ≡ None) (plain : starts_with_minus word ≡ false) where
  abbrev between : Walk
  between = record { held = h; waiting = idle; position = position; is_trailing = false; stopped = None }

  is_value : ◌≡◌ {A = Held × Step} (word_met shape.rules names false idle position word h) (h, value)
  is_value = ap (λ name. subcommand_or_other shape.rules name idle position word h) met ∙ plain_step shape position word h plain

  pub value_walked : walked shape.rules names between word ≡ to_positional shape.rules (arg_by_index shape.rules position) word between h
  unfolding walked
  value_walked = ap (λ (met : Held × Step). after_step shape.rules word between met.0 met.1) is_value

  pub value_fault : turn_fault shape names between word ≡ step_fault shape position h value
  value_fault = ap₂ (λ kinds (met : Held × Step). or_else kinds (step_fault shape position met.0 met.1))
      (ap (λ name. other_fault shape name word h) met ∙ plain_fault shape position word h plain) is_value
