-- The words of `sample` that clap takes have two numbers in range.
use Rattle.std.proofs.Common.{◌≡◌, ◌∙◌, ◌⊎◌, ◌||◌, ◌<◌, ◌≤◌, ℕ, Bool, true, false, fold, List, [], ◌∷◌, Option, Some, None, codes, refl, sym, subst, ap, ap₂, inl, inr, arith}
use Rattle.std.specs.Prelude.{⊤, pos, if◌then◌else◌, option_and_then, option_map}
use Rattle.std.specs.Str.Parse.{ParsesUnsigned}
use Rattle.clap.proofs.CallerReads.{signed_reads}
use Rattle.clap.proofs.OnLiterals.{clap_on_literals}
use Rattle.clap.proofs.ValueTestLemmas.{accepts-Accepts}
use Rattle.clap.specs.Faults.{check_fault, defaults_fault, settle_fault, turn_fault, walk_fault}
use Rattle.clap.specs.Kinds.{or_else, value_kinds}
use Rattle.clap.specs.Lexer.{without_minus}
use Rattle.clap.specs.Values.{refused_kind}
use Rattle.clap.specs.ValueTests.{accepts}
use Rattle.clap.specs.Walk.{Walk, finished, has_long, has_short, idle, nothing_held, rows_after, settled, subcommand_met, walk, walk_from, walked}
use Rattle.clap.specs.Words.{Kinds, Text, fault_of}
use Rattle.clap.specs.declared.builder.value_parser.ValueParser.{ValueParser}
use Rattle.clap.specs.declared.builder.value_parser.ValueParser.TheVariants as parser
use Rattle.clap.specs.declared.error.kind.ErrorKind.TheVariants as kind
use Rattle.obd_cli.proofs.CommandEntered.{check_rows, decide_rows, names, page_rows, sample_faults, sample_line, sample_rows}
use Rattle.obd_cli.proofs.CommandFirst.{IsName, first_is_name, help_or_none, name_or_none}
use Rattle.obd_cli.proofs.CommandFlags.{Goes, HasHelpAlone, first_none, help, place, second_none, some_kind, turned}
use Rattle.obd_cli.proofs.CommandReads.{reads_number, taken_command}
use Rattle.obd_cli.proofs.CommandSample.{numbers, row, seeds}
use Rattle.obd_cli.specs.CommandLine.{command_of, named, number_in, obd}
use Rattle.obd_cli.specs.declared.status.Command.{Command}
use Rattle.obd_cli.specs.declared.status.Command.TheVariants as command

sample_alone : HasHelpAlone sample_line.rules
sample_alone = record { long = λ name. help_or_none (has_long help name); short = λ letter. help_or_none (has_short help letter) }

-- ---- where the walk stands, before and after each number

abbrev none_yet : Bool → Walk
none_yet trailing = place [] None 1 trailing

abbrev with_seed : Text → Bool → Walk
with_seed seed trailing = place [] (Some (codes "SEED", seed ∷ [])) 2 trailing

abbrev with_both : Text → Text → Bool → Walk
with_both seed twists trailing = place (row (codes "SEED") seed ∷ []) (Some (codes "TWISTS", twists ∷ [])) 3 trailing

abbrev ends_at : Walk → List Text → Walk
ends_at from rest = fold (walked sample_line.rules []) from rest

-- both values were read, and the first one is a seed
abbrev ReadBoth : Walk → Type 0
ReadBoth end = (seed : Text) × (twists : Text) × (trailing : Bool) × (end ≡ with_both seed twists trailing) × (accepts false seeds seed ≡ true)

abbrev ReadSeed : Walk → Type 0
ReadSeed end = ((seed : Text) × (trailing : Bool) × (end ≡ with_seed seed trailing)) ⊎ ReadBoth end

abbrev ReadSome : Walk → Type 0
ReadSome end = ((trailing : Bool) × (end ≡ none_yet trailing)) ⊎ ReadSeed end

taken_value : (p : ValueParser) (text : Text) → or_else (value_kinds false p text) [] ≡ [] → accepts false p text ≡ true
taken_value p text none = go (accepts false p text) (first_none (value_kinds false p text) [] none)
  where
    go : (taken : Bool) → (if taken then [] else refused_kind p ∷ []) ≡ [] → taken ≡ true
    go true none = refl
    go false none = absurd (some_kind _ _ none)

passes_after : (after : Walk) (word : Text) (from : Walk) (rest : List Text) → walked sample_line.rules [] from word ≡ after → walk_fault sample_line [] from (word ∷ rest) ≡ []
    → walk_fault sample_line [] after rest ≡ []
unfolding walk_fault
passes_after after word from rest is none = subst (λ w. walk_fault sample_line [] w rest ≡ []) is (second_none (turn_fault sample_line [] from word) _ none)

both_read : (seed twists : Text) → accepts false seeds seed ≡ true → (rest : List Text) (trailing : Bool) → walk_fault sample_line [] (with_both seed twists trailing) rest ≡ []
    → ReadBoth (ends_at (with_both seed twists trailing) rest)
unfolding walk_fault
both_read seed twists taken [] trailing none = (seed, twists, trailing, refl, taken)
both_read seed twists taken (word ∷ rest) trailing none =
    go (turned sample_line [] sample_alone (row (codes "SEED") seed ∷ []) (Some (codes "TWISTS", twists ∷ [])) 3 word trailing refl (first_none _ _ none)) (both_read seed twists taken rest true)
  where
    go : Goes sample_line [] sample_alone (row (codes "SEED") seed ∷ []) (Some (codes "TWISTS", twists ∷ [])) 3 word trailing (walked sample_line.rules [] (with_both seed twists trailing) word)
        → (walk_fault sample_line [] (with_both seed twists true) rest ≡ [] → ReadBoth (ends_at (with_both seed twists true) rest)) → ReadBoth (ends_at (with_both seed twists trailing) (word ∷ rest))
    go (inl value) again = absurd (some_kind kind.UnknownArgument [] value.1)
    go (inr is) again = subst (λ w. ReadBoth (ends_at w rest)) (sym is) (again (passes_after (with_both seed twists true) word (with_both seed twists trailing) rest is none))

seed_read : (seed : Text) (rest : List Text) (trailing : Bool) → walk_fault sample_line [] (with_seed seed trailing) rest ≡ [] → ReadSeed (ends_at (with_seed seed trailing) rest)
unfolding walk_fault
seed_read seed [] trailing none = inl (seed, trailing, refl)
seed_read seed (word ∷ rest) trailing none =
    go (turned sample_line [] sample_alone [] (Some (codes "SEED", seed ∷ [])) 2 word trailing refl (first_none _ _ none)) (seed_read seed rest true)
  where
    go : Goes sample_line [] sample_alone [] (Some (codes "SEED", seed ∷ [])) 2 word trailing (walked sample_line.rules [] (with_seed seed trailing) word)
        → (walk_fault sample_line [] (with_seed seed true) rest ≡ [] → ReadSeed (ends_at (with_seed seed true) rest)) → ReadSeed (ends_at (with_seed seed trailing) (word ∷ rest))
    go (inl value) again = subst (λ w. ReadSeed (ends_at w rest)) (sym value.0)
        (inr (both_read seed word (taken_value seeds seed value.1) rest (trailing || false) (passes_after (with_both seed word (trailing || false)) word (with_seed seed trailing) rest value.0 none)))
    go (inr is) again = subst (λ w. ReadSeed (ends_at w rest)) (sym is) (again (passes_after (with_seed seed true) word (with_seed seed trailing) rest is none))

some_read : (rest : List Text) (trailing : Bool) → walk_fault sample_line [] (none_yet trailing) rest ≡ [] → ReadSome (ends_at (none_yet trailing) rest)
unfolding walk_fault
some_read [] trailing none = inl (trailing, refl)
some_read (word ∷ rest) trailing none = go (turned sample_line [] sample_alone [] None 1 word trailing refl (first_none _ _ none)) (some_read rest true)
  where
    go : Goes sample_line [] sample_alone [] None 1 word trailing (walked sample_line.rules [] (none_yet trailing) word)
        → (walk_fault sample_line [] (none_yet true) rest ≡ [] → ReadSome (ends_at (none_yet true) rest)) → ReadSome (ends_at (none_yet trailing) (word ∷ rest))
    go (inl value) again = subst (λ w. ReadSome (ends_at w rest)) (sym value.0)
        (inr (seed_read word rest (trailing || false) (passes_after (with_seed word (trailing || false)) word (none_yet trailing) rest value.0 none)))
    go (inr is) again = subst (λ w. ReadSome (ends_at w rest)) (sym is) (again (passes_after (none_yet true) word (none_yet trailing) rest is none))

-- ---- the end of the words

abbrev settling : Walk → Kinds
settling end = settle_fault sample_line.rules sample_line.args_override_self end.held

abbrev checking : Walk → Kinds
checking end = or_else (defaults_fault (settled sample_line.rules end.held).rows sample_line.rules) (check_fault sample_line (finished sample_line.rules end.held) false)

-- two values that clap takes, and no more
pub record TakesBoth (rest : List Text) : Type 0 where
  pub seed : Text
  pub twists : Text
  pub rows : rows_after sample_line.rules [] rest ≡ row (codes "SEED") seed ∷ row (codes "TWISTS") twists ∷ []
  pub seed_taken : accepts false seeds seed ≡ true
  pub twists_taken : accepts false numbers twists ≡ true

pub takes_both : (rest : List Text) → fault_of obd (codes "sample" ∷ rest) ≡ [] → TakesBoth rest
unfolding defaults_fault
takes_both rest none = go (some_read rest false walking) (second_none walks (or_else (settling end) (checking end)) level)
  where
    end : Walk
    end = walk sample_line.rules [] nothing_held rest

    walks : Kinds
    walks = walk_fault sample_line [] (walk_from nothing_held) rest

    level : or_else walks (or_else (settling end) (checking end)) ≡ []
    level = sym (sample_faults rest) ∙ none

    walking : walks ≡ []
    walking = first_none walks (or_else (settling end) (checking end)) level

    go : ReadSome end → or_else (settling end) (checking end) ≡ [] → TakesBoth rest
    go (inl (trailing, is)) none = absurd (some_kind kind.MissingRequiredArgument [] (subst (λ end. or_else (settling end) (checking end) ≡ []) is none))
    go (inr (inl (seed, trailing, is))) none =
        let at = subst (λ end. or_else (settling end) (checking end) ≡ []) is none in
        absurd (some_kind kind.MissingRequiredArgument [] (second_none (settling (with_seed seed trailing)) (checking (with_seed seed trailing)) at))
    go (inr (inr (seed, twists, trailing, is, taken))) none =
        let at = subst (λ end. or_else (settling end) (checking end) ≡ []) is none in
        record {
          seed = seed;
          twists = twists;
          rows = ap (λ end. finished sample_line.rules end.held) is;
          seed_taken = taken;
          twists_taken = taken_value numbers twists (first_none (settling (with_both seed twists trailing)) (checking (with_both seed twists trailing)) at);
        }

-- ---- the numbers

number_taken : (least most : ℕ) (text : Text) → most < 65536 → accepts false (parser.Signed (pos least) (pos most)) text ≡ true
    → (n : ℕ) × (number_in (without_minus text) ≡ Some n) × (least ≤ n) × (n ≤ most)
number_taken least most text small taken =
    signed_reads ⊤ (λ text read. ParsesUnsigned 16 10 text read) 16 least most text (number_in (without_minus text)) (reads_number (without_minus text)) (λ text read given. given) small
    (accepts-Accepts false (parser.Signed (pos least) (pos most)) text taken)

-- the command of two such values, with numbers in range
pub record IsSampled (which : Option Command) : Type 0 where
  pub seed : ℕ
  pub twists : ℕ
  pub is : which ≡ Some (command.Sample seed twists)
  pub seed_most : seed < 65536
  pub twists_least : 1 ≤ twists
  pub twists_most : twists ≤ 256

pub sampled : (rest : List Text) → fault_of obd (codes "sample" ∷ rest) ≡ [] → IsSampled (command_of (codes "sample" ∷ rest))
sampled rest none =
    let both = takes_both rest none in
    let (seed, seed_is, _, seed_most) = number_taken 0 65535 both.seed (omega arith) both.seed_taken in
    let (twists, twists_is, twists_least, twists_most) = number_taken 1 256 both.twists (omega arith) both.twists_taken in
    record {
      seed = seed;
      twists = twists;
      is = taken_command (codes "sample" ∷ rest) none ∙ (ap (option_and_then named) (sample_rows rest ∙ ap (λ rows. Some (codes "sample", rows)) both.rows)
          ∙ ap₂ (λ (seed twists : Option ℕ). option_and_then (λ seed. option_map (command.Sample seed) twists) seed) seed_is twists_is);
      seed_most = omega arith;
      twists_least = twists_least;
      twists_most = twists_most;
    }

-- ---- all words with no fault

-- what command they are
abbrev pub IsCommand : Option Command → Type 0
IsCommand which = (which ≡ Some command.Decide) ⊎ (which ≡ Some command.Page) ⊎ (which ≡ Some command.Check) ⊎ IsSampled which

no_words : fault_of obd [] ≡ [] → ⊥
unfolding clap_on_literals
no_words none = some_kind kind.MissingSubcommand [] none

named_command : (word : Text) (rest : List Text) → IsName word → fault_of obd (word ∷ rest) ≡ [] → IsCommand (command_of (word ∷ rest))
named_command word rest (inl is) = subst (λ word. fault_of obd (word ∷ rest) ≡ [] → IsCommand (command_of (word ∷ rest))) (sym is)
    (λ none. inl (taken_command (codes "decide" ∷ rest) none ∙ ap (option_and_then named) (decide_rows rest)))
named_command word rest (inr (inl is)) = subst (λ word. fault_of obd (word ∷ rest) ≡ [] → IsCommand (command_of (word ∷ rest))) (sym is)
    (λ none. inr (inl (taken_command (codes "page" ∷ rest) none ∙ ap (option_and_then named) (page_rows rest))))
named_command word rest (inr (inr (inl is))) = subst (λ word. fault_of obd (word ∷ rest) ≡ [] → IsCommand (command_of (word ∷ rest))) (sym is)
    (λ none. inr (inr (inl (taken_command (codes "check" ∷ rest) none ∙ ap (option_and_then named) (check_rows rest)))))
named_command word rest (inr (inr (inr is))) = subst (λ word. fault_of obd (word ∷ rest) ≡ [] → IsCommand (command_of (word ∷ rest))) (sym is)
    (λ none. inr (inr (inr (sampled rest none))))

pub which_command : (words : List Text) → fault_of obd words ≡ [] → IsCommand (command_of words)
which_command [] none = absurd (no_words none)
which_command (word ∷ rest) none = go (name_or_none word)
  where
    go : IsName word ⊎ (subcommand_met names idle word ≡ None) → IsCommand (command_of (word ∷ rest))
    go (inl name) = named_command word rest name none
    go (inr met) = absurd (first_is_name word rest met none)
