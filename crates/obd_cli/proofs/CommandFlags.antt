-- Where the one flag is that for help, a word is a value, or `--`, or it has a fault.
use Rattle.std.proofs.Common.{◌≡◌, ◌⊎◌, ℕ, Bool, true, false, List, [], ◌∷◌, length, Option, Some, None, refl, sym, subst, ap, inl, inr}
use Rattle.std.specs.Prelude.{chars, if◌then◌else◌, slice_get}
use Rattle.std.specs.Option.{option_map_or}
use Rattle.std.specs.Str.{bytes_eq}
use Rattle.clap.specs.Faults.{bundle_fault, bundle_step_fault, flag_word_fault, flags_fault, long_fault, other_fault, react_fault, settle_fault, short_fault, step_fault, turn_fault}
use Rattle.clap.specs.Kinds.{or_else}
use Rattle.clap.specs.Lexer.{long_of, short_of}
use Rattle.clap.specs.Simple.{filled, help_rule}
use Rattle.clap.specs.Walk.{Held, Names, Outcome, Step, Walk, after_flag, after_step, arg_by_index, arg_by_long, arg_by_short, bundle_met, bundle_step, idle, long_or_other, plain, short_or_plain, subcommand_met, subcommand_or_other, to_positional, trailing, value, walked}
use Rattle.clap.specs.Words.{Kinds, Row, Rule, Shape, Text}
use Rattle.clap.specs.declared.error.kind.ErrorKind.{ErrorKind}
use Rattle.clap.specs.declared.error.kind.ErrorKind.TheVariants as kind

abbrev pub help : Rule
help = filled help_rule

-- no argument with a name of its own but help
pub record HasHelpAlone (rules : List Rule) : Type 0 where
  pub long : (name : Text) → (arg_by_long rules name ≡ None) ⊎ (arg_by_long rules name ≡ Some help)
  pub short : (letter : ℕ) → (arg_by_short rules letter ≡ None) ⊎ (arg_by_short rules letter ≡ Some help)

-- ---- faults

pub some_kind : (kind : ErrorKind) (kinds : Kinds) → kind ∷ kinds ≡ [] → ⊥
some_kind kind kinds none = cc

pub first_none : (first second : Kinds) → or_else first second ≡ [] → first ≡ []
first_none [] second none = refl
first_none (kind ∷ kinds) second none = none

pub second_none : (first second : Kinds) → or_else first second ≡ [] → second ≡ []
second_none [] second none = none
second_none (kind ∷ kinds) second none = absurd (some_kind kind kinds none)

module _ (rules : List Rule) (again : Bool) where
  help_used : (h : Held) → react_fault rules again help [] h ≡ [] → ⊥
  help_used h none = some_kind kind.DisplayHelp [] (second_none (settle_fault rules again h) (kind.DisplayHelp ∷ []) none)

  help_long : (text : Option Text) (h : Held) → long_fault rules again (Some help) text h ≡ [] → ⊥
  help_long (Some text) h none = some_kind _ _ none
  help_long None h none = help_used h none

  long_faulty : (found : Option Rule) (text : Option Text) (h : Held) → (found ≡ None) ⊎ (found ≡ Some help) → long_fault rules again found text h ≡ [] → ⊥
  long_faulty found text h (inl is) none = some_kind _ _ (subst (λ found. long_fault rules again found text h ≡ []) is none)
  long_faulty found text h (inr is) none = help_long text h (subst (λ found. long_fault rules again found text h ≡ []) is none)

  short_faulty : (found : Option Rule) (rest : Text) (h : Held) (next : Held → Kinds) → (found ≡ None) ⊎ (found ≡ Some help) → short_fault rules again found rest h next ≡ [] → ⊥
  short_faulty found rest h next (inl is) none = some_kind _ _ (subst (λ found. short_fault rules again found rest h next ≡ []) is none)
  short_faulty found rest h next (inr is) none =
      help_used h (first_none _ _ (subst (λ found. short_fault rules again found rest h next ≡ []) is none))

-- ---- a word that is read

module _ (shape : Shape) (alone : HasHelpAlone shape.rules) (rows : List Row) (pending : Option (Text × List Text)) (position : ℕ) (word : Text) where
  abbrev h : Held
  h = record { rows = rows; pending = pending; skip = 0 }

  -- the word is a value
  abbrev IsValue : Held × Step → Kinds → Type 0
  IsValue met kinds = (met ≡ (h, value)) × (kinds ≡ [])

  -- it has a fault, or it is a value
  abbrev IsFaultOrValue : Held × Step → Kinds → Type 0
  IsFaultOrValue met kinds = (kinds ≡ [] → ⊥) ⊎ IsValue met kinds

  flags_read : (flags : Text) → IsFaultOrValue (short_or_plain shape.rules idle word (Some flags) h) (bundle_fault shape.rules shape.args_override_self flags h)
  unfolding bundle_met flags_fault
  flags_read [] = inr (refl, refl)
  flags_read (first ∷ rest) = go (slice_get (chars (first ∷ rest)) 0)
    where
      stepped : Option ℕ → Held × Outcome
      stepped letter = bundle_step shape.rules letter (first ∷ rest) 0 plain h (bundle_met shape.rules (length rest))

      go : (letter : Option ℕ) → IsFaultOrValue (after_flag shape.rules idle word (stepped letter).0 (stepped letter).1)
          (bundle_step_fault shape.rules shape.args_override_self letter (first ∷ rest) 0 h (flags_fault shape.rules shape.args_override_self (length rest)))
      go None = inr (refl, refl)
      go (Some letter) = inl (short_faulty shape.rules shape.args_override_self (arg_by_short shape.rules letter) _ h _ (alone.short letter))

  short_read : (short : Option Text) → IsFaultOrValue (short_or_plain shape.rules idle word short h) (option_map_or (λ flags. bundle_fault shape.rules shape.args_override_self flags h) short [])
  short_read None = inr (refl, refl)
  short_read (Some flags) = flags_read flags

  long_read : (long : Option (Text × Option Text)) → IsFaultOrValue (long_or_other shape.rules idle word long h) (flag_word_fault shape.rules shape.args_override_self long word h)
  long_read None = short_read (short_of word)
  long_read (Some read) = inl (long_faulty shape.rules shape.args_override_self (arg_by_long shape.rules read.0) read.1 h (alone.long read.0))

  pub word_read : IsFaultOrValue (subcommand_or_other shape.rules None idle position word h) (other_fault shape None word h)
      ⊎ ((subcommand_or_other shape.rules None idle position word h ≡ (h, trailing position)) × (other_fault shape None word h ≡ []))
  word_read = go (bytes_eq word (45 ∷ 45 ∷ [])) refl
    where
      go : (dashes : Bool) → bytes_eq word (45 ∷ 45 ∷ []) ≡ dashes
          → IsFaultOrValue (if dashes then (h, trailing position) else long_or_other shape.rules idle word (long_of word) h)
          (if dashes then [] else flag_word_fault shape.rules shape.args_override_self (long_of word) word h)
          ⊎ (((if dashes then (h, trailing position) else long_or_other shape.rules idle word (long_of word) h) ≡ (h, trailing position))
          × ((if dashes then [] else flag_word_fault shape.rules shape.args_override_self (long_of word) word h) ≡ []))
      go true is = inr (refl, refl)
      go false is = inl (long_read (long_of word))

-- ---- a turn of the walk

-- where it stands between two words, while no command was met
abbrev pub place : List Row → Option (Text × List Text) → ℕ → Bool → Walk
place rows pending position is_trailing =
    record { held = record { rows = rows; pending = pending; skip = 0 }; waiting = idle; position = position; is_trailing = is_trailing; stopped = None }

module _ (shape : Shape) (names : Names) (alone : HasHelpAlone shape.rules) (rows : List Row) (pending : Option (Text × List Text)) (position : ℕ) (word : Text) where
  abbrev held : Held
  held = record { rows = rows; pending = pending; skip = 0 }

  abbrev pub Goes : Bool → Walk → Type 0
  Goes is_trailing after =
      ((after ≡ to_positional shape.rules (arg_by_index shape.rules position) word (place rows pending position is_trailing) held) × (step_fault shape position held value ≡ []))
      ⊎ (after ≡ place rows pending position true)

  read_goes : (met : Held × Step) (kinds : Kinds)
      → ((kinds ≡ [] → ⊥) ⊎ ((met ≡ (held, value)) × (kinds ≡ []))) ⊎ ((met ≡ (held, trailing position)) × (kinds ≡ []))
      → or_else kinds (step_fault shape position met.0 met.1) ≡ [] → Goes false (after_step shape.rules word (place rows pending position false) met.0 met.1)
  read_goes met kinds (inl (inl faulty)) none = absurd (faulty (first_none _ _ none))
  read_goes met kinds (inl (inr (is, passes))) none =
      inl (
        ap (λ (met : Held × Step). after_step shape.rules word (place rows pending position false) met.0 met.1) is,
        subst (λ (met : Held × Step). step_fault shape position met.0 met.1 ≡ []) is (second_none _ _ none),
      )
  read_goes met kinds (inr (is, passes)) none = inr (ap (λ (met : Held × Step). after_step shape.rules word (place rows pending position false) met.0 met.1) is)

  -- a word with no fault is a value in its place, or `--`, after which all are values
  pub turned : (is_trailing : Bool) → subcommand_met names idle word ≡ None → turn_fault shape names (place rows pending position is_trailing) word ≡ []
      → Goes is_trailing (walked shape.rules names (place rows pending position is_trailing) word)
  unfolding walked
  turned true met = λ none. inl (refl, none)
  turned false met = subst Reads (sym met) (read_goes _ _ (word_read shape alone rows pending position word))
    where
      Reads : Option Text → Type 0
      Reads name = let met = subcommand_or_other shape.rules name idle position word held in
          or_else (other_fault shape name word held) (step_fault shape position met.0 met.1) ≡ [] → Goes false (after_step shape.rules word (place rows pending position false) met.0 met.1)
