-- Which words are which command.
use Rattle.std.proofs.Common.{◌≡◌, ◌∙◌, ◌<◌, ◌≤◌, ◌^◌, ◌⊎◌, ℕ, true, false, List, [], ◌∷◌, Option, Some, None, codes, refl, sym, ap, inl, inr, arith}
use Rattle.std.proofs.lemmas.Bool.{ne_eqb}
use Rattle.std.proofs.lemmas.Int.{ints}
use Rattle.std.proofs.lemmas.Fmt.{decimal_is_IsNumeral}
use Rattle.std.proofs.lemmas.Str.Parse.{digit_at, without_leading_plus_none}
use Rattle.std.specs.Prelude.{decimal, pos}
use Rattle.std.specs.Str.Parse.{signed_digits_value, starts_with_minus, without_leading_plus, without_leading_sign}
use Rattle.clap.proofs.ValueTestLemmas.{Accepts-accepts}
use Rattle.clap.specs.ValueTests.{accepts}
use Rattle.clap.specs.declared.builder.value_parser.ValueParser.TheVariants as parser
use Rattle.clap.specs.Walk.{idle, subcommand_met}
use Rattle.clap.specs.Words.{Kinds, Text, fault_of}
use Rattle.obd_cli.proofs.CommandEntered.{names}
use Rattle.obd_cli.proofs.CommandFirst.{IsName, first_is_name, name_or_none}
use Rattle.obd_cli.proofs.CommandFlags.{some_kind}
use Rattle.obd_cli.proofs.CommandReads.{faulty_words, small_number}
use Rattle.obd_cli.proofs.CommandSample.{sample_command}
use Rattle.obd_cli.proofs.CommandTaken.{IsCommand, which_command}
use Rattle.clap.proofs.OnLiterals.{clap_on_literals}
use Rattle.obd_cli.specs.CommandLine.{command_of, number_in, obd}
use Rattle.obd_cli.specs.declared.status.Command.{Command}
use Rattle.obd_cli.specs.declared.status.Command.TheVariants as command

pub decide_alone : command_of (codes "decide" ∷ []) ≡ Some command.Decide
unfolding clap_on_literals command_of
decide_alone = refl

pub page_alone : command_of (codes "page" ∷ []) ≡ Some command.Page
unfolding clap_on_literals command_of
page_alone = refl

pub check_alone : command_of (codes "check" ∷ []) ≡ Some command.Check
unfolding clap_on_literals command_of
check_alone = refl

pub no_word : command_of [] ≡ None
unfolding clap_on_literals command_of
no_word = refl

pub no_twists : command_of (codes "sample" ∷ codes "0" ∷ codes "0" ∷ []) ≡ None
unfolding clap_on_literals command_of
no_twists = refl

pub seed_too_great : command_of (codes "sample" ∷ codes "65536" ∷ codes "6" ∷ []) ≡ None
unfolding clap_on_literals command_of
seed_too_great = refl

pub one_number : command_of (codes "sample" ∷ codes "0" ∷ []) ≡ None
unfolding clap_on_literals command_of
one_number = refl

pub sample_once : command_of (codes "sample" ∷ codes "7" ∷ codes "6" ∷ []) ≡ Some (command.Sample 7 6)
unfolding clap_on_literals command_of
sample_once = refl

-- ---- `sample` with numbers in decimal digits

module _ (n : ℕ) (fits : n < 2 ^ 63) where
  no_minus : starts_with_minus (decimal n) ≡ false
  no_minus = let numeral = (decimal_is_IsNumeral n (omega arith)).0 in ne_eqb _ _ (λ minus. omega (arith, digit_at (decimal n) 0 numeral.1 numeral.0))

  no_plus : without_leading_plus (decimal n) ≡ decimal n
  no_plus = let numeral = (decimal_is_IsNumeral n (omega arith)).0 in without_leading_plus_none (decimal n) (λ plus. omega (arith, digit_at (decimal n) 0 numeral.1 numeral.0))

  no_sign : without_leading_sign (decimal n) ≡ decimal n
  no_sign = rw no_minus no_plus

  value : signed_digits_value 10 (decimal n) ≡ pos n
  value = rw (no_minus, no_plus, (decimal_is_IsNumeral n (omega arith)).1) refl

  taken : (least most : ℕ) → least ≤ n → n ≤ most → accepts false (parser.Signed (pos least) (pos most)) (decimal n) ≡ true
  taken least most above below = Accepts-accepts false (parser.Signed (pos least) (pos most)) (decimal n) (rw no_sign (decimal_is_IsNumeral n (omega arith)).0, rw value (record { sfits = omega arith }), rw value (omega (arith, ints)), rw value (omega (arith, ints)))

  number : n < 65536 → number_in (decimal n) ≡ Some n
  number small = let numeral = decimal_is_IsNumeral n (omega arith) in
      small_number (decimal n) (rw no_plus numeral.0) (rw (no_plus, numeral.1) small) ∙ ap Some (rw no_plus numeral.1)

pub sample_numbers : (seed twists : ℕ) → seed < 65536 → 1 ≤ twists → twists ≤ 256 → command_of (codes "sample" ∷ decimal seed ∷ decimal twists ∷ []) ≡ Some (command.Sample seed twists)
sample_numbers seed twists seed_fits least most =
    sample_command (decimal seed) (decimal twists) (no_minus seed (omega arith)) (no_minus twists (omega arith)) seed twists
    (taken seed (omega arith) 0 65535 (omega arith) (omega arith)) (taken twists (omega arith) 1 256 least most) (number seed (omega arith) seed_fits) (number twists (omega arith) (omega arith))

-- ---- when words are a command

-- words are none exactly where clap finds a fault in them
pub no_fault : (words : List Text) (which : Command) → command_of words ≡ Some which → fault_of obd words ≡ []
no_fault words which is = go (fault_of obd words) refl
  where
    go : (kinds : Kinds) → fault_of obd words ≡ kinds → kinds ≡ []
    go [] same = refl
    go (kind ∷ kinds) same = absurd (let bad : None ≡ Some which = sym (faulty_words words (λ none. some_kind kind kinds (sym same ∙ none))) ∙ is in cc)

pub some_command : (words : List Text) → fault_of obd words ≡ [] → (which : Command) × (command_of words ≡ Some which)
some_command words none = go (which_command words none)
  where
    go : IsCommand (command_of words) → (which : Command) × (command_of words ≡ Some which)
    go (inl decide) = (command.Decide, decide)
    go (inr (inl page)) = (command.Page, page)
    go (inr (inr (inl check))) = (command.Check, check)
    go (inr (inr (inr sampled))) = (command.Sample sampled.seed sampled.twists, sampled.is)

-- words of which the first is none of the four names are none
pub other_word : (word : Text) (rest : List Text) → (word ≡ codes "decide" → ⊥) → (word ≡ codes "page" → ⊥) → (word ≡ codes "check" → ⊥) → (word ≡ codes "sample" → ⊥)
    → command_of (word ∷ rest) ≡ None
other_word word rest no_decide no_page no_check no_sample = faulty_words (word ∷ rest) (go (name_or_none word))
  where
    go : IsName word ⊎ (subcommand_met names idle word ≡ None) → fault_of obd (word ∷ rest) ≡ [] → ⊥
    go (inl (inl is)) none = no_decide is
    go (inl (inr (inl is))) none = no_page is
    go (inl (inr (inr (inl is)))) none = no_check is
    go (inl (inr (inr (inr is)))) none = no_sample is
    go (inr met) none = first_is_name word rest met none

-- the numbers of `sample` are in range
pub numbers_in_range : (words : List Text) (seed twists : ℕ) → command_of words ≡ Some (command.Sample seed twists) → (seed < 65536) × (1 ≤ twists) × (twists ≤ 256)
numbers_in_range words seed twists is = go (which_command words (no_fault words (command.Sample seed twists) is))
  where
    seed_of : Option Command → ℕ
    seed_of (Some (command.Sample seed twists)) = seed
    seed_of _ = 0

    twists_of : Option Command → ℕ
    twists_of (Some (command.Sample seed twists)) = twists
    twists_of _ = 0

    go : IsCommand (command_of words) → (seed < 65536) × (1 ≤ twists) × (twists ≤ 256)
    go (inl other) = absurd (let bad = sym other ∙ is in cc)
    go (inr (inl other)) = absurd (let bad = sym other ∙ is in cc)
    go (inr (inr (inl other))) = absurd (let bad = sym other ∙ is in cc)
    go (inr (inr (inr sampled))) =
        let same = sym sampled.is ∙ is in
        let same_seed : sampled.seed ≡ seed = ap seed_of same in
        let same_twists : sampled.twists ≡ twists = ap twists_of same in
        (rw (← same_seed) sampled.seed_most, rw (← same_twists) sampled.twists_least, rw (← same_twists) sampled.twists_most)
