-- The first word decides: it is the name of a command, or there is none.
use Rattle.std.proofs.Common.{◌≡◌, ◌⊎◌, Bool, true, false, fold, List, [], ◌∷◌, Some, None, codes, refl, sym, subst, inl, inr}
use Rattle.std.specs.Prelude.{if◌then◌else◌}
use Rattle.std.specs.Str.{bytes_eq}
use Rattle.std.proofs.lemmas.Slice.Eq.{bytes_eq-Decides}
use Rattle.clap.specs.Faults.{defaults_fault, walk_fault}
use Rattle.clap.specs.Walk.{has_long, has_short, idle, nothing_held, subcommand_met, walk_from, walked}
use Rattle.clap.specs.Words.{Kinds, Text, fault_of}
use Rattle.clap.specs.declared.error.kind.ErrorKind.TheVariants as kind
use Rattle.obd_cli.proofs.CommandEntered.{faults_after, line, names, rules}
use Rattle.obd_cli.proofs.CommandFlags.{Goes, HasHelpAlone, first_none, help, place, second_none, some_kind, turned}
use Rattle.obd_cli.specs.CommandLine.{obd}

-- a test finds help, or nothing
pub help_or_none : (test : Bool) → ((if test then Some help else None) ≡ None) ⊎ ((if test then Some help else None) ≡ Some help)
help_or_none true = inr refl
help_or_none false = inl refl

line_alone : HasHelpAlone rules
line_alone = record { long = λ name. help_or_none (has_long help name); short = λ letter. help_or_none (has_short help letter) }

-- after `--` no word has a place
ends : (kinds : Kinds) (rest : List Text) → walk_fault line.top names (place [] None 1 true) rest ≡ [] → faults_after (fold (walked rules names) (place [] None 1 true) rest) kinds ≡ [] → ⊥
unfolding defaults_fault walk_fault
ends kinds [] walking none = some_kind kind.MissingSubcommand [] (second_none kinds (kind.MissingSubcommand ∷ []) none)
ends kinds (word ∷ rest) walking none = some_kind kind.UnknownArgument (kind.InvalidSubcommand ∷ []) walking

-- words of which the first names no command have a fault
pub first_is_name : (word : Text) (rest : List Text) → subcommand_met names idle word ≡ None → fault_of obd (word ∷ rest) ≡ [] → ⊥
unfolding walk_fault
first_is_name word rest met none = go (turned line.top names line_alone [] None 1 word false met (first_none _ _ walking))
  where
    walking : walk_fault line.top names (walk_from nothing_held) (word ∷ rest) ≡ []
    walking = first_none _ _ none

    go : Goes line.top names line_alone [] None 1 word false (walked rules names (walk_from nothing_held) word) → ⊥
    go (inl value) = some_kind kind.UnknownArgument (kind.InvalidSubcommand ∷ []) value.1
    go (inr trailing) = ends (walk_fault line.top names (walk_from nothing_held) (word ∷ rest)) rest
        (subst (λ w. walk_fault line.top names w rest ≡ []) trailing (second_none _ _ walking))
        (subst (λ w. faults_after (fold (walked rules names) w rest) (walk_fault line.top names (walk_from nothing_held) (word ∷ rest)) ≡ []) trailing none)

-- ---- the four names

abbrev pub IsName : Text → Type 0
IsName word = (word ≡ codes "decide") ⊎ (word ≡ codes "page") ⊎ (word ≡ codes "check") ⊎ (word ≡ codes "sample")

same_word : (name word : Text) → bytes_eq name word ≡ true → word ≡ name
same_word name word is = sym ((bytes_eq-Decides name word).0 is)

pub name_or_none : (word : Text) → IsName word ⊎ (subcommand_met names idle word ≡ None)
name_or_none word = decide (bytes_eq (codes "decide") word) refl
  where
    sample : (test : Bool) → bytes_eq (codes "decide") word ≡ false → bytes_eq (codes "page") word ≡ false → bytes_eq (codes "check") word ≡ false → bytes_eq (codes "sample") word ≡ test
        → IsName word ⊎ (subcommand_met names idle word ≡ None)
    sample true no_decide no_page no_check is = inl (inr (inr (inr (same_word _ _ is))))
    sample false no_decide no_page no_check is = inr (rw (no_decide, no_page, no_check, is) refl)

    check : (test : Bool) → bytes_eq (codes "decide") word ≡ false → bytes_eq (codes "page") word ≡ false → bytes_eq (codes "check") word ≡ test
        → IsName word ⊎ (subcommand_met names idle word ≡ None)
    check true no_decide no_page is = inl (inr (inr (inl (same_word _ _ is))))
    check false no_decide no_page is = sample (bytes_eq (codes "sample") word) no_decide no_page is refl

    page : (test : Bool) → bytes_eq (codes "decide") word ≡ false → bytes_eq (codes "page") word ≡ test → IsName word ⊎ (subcommand_met names idle word ≡ None)
    page true no_decide is = inl (inr (inl (same_word _ _ is)))
    page false no_decide is = check (bytes_eq (codes "check") word) no_decide is refl

    decide : (test : Bool) → bytes_eq (codes "decide") word ≡ test → IsName word ⊎ (subcommand_met names idle word ≡ None)
    decide true is = inl (inl (same_word _ _ is))
    decide false is = page (bytes_eq (codes "page") word) is refl
