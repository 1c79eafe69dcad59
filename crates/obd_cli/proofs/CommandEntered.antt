-- The words after the name of a command are that command's own.
use Rattle.std.proofs.Common.{◌≡◌, ◌∙◌, false, List, [], ◌∷◌, fold, is_some, Option, Some, codes, refl, sym, ap, ap₂}
use Rattle.std.specs.Prelude.{find, option_map}
use Rattle.std.specs.Option.{option_map_or}
use Rattle.clap.proofs.FaultLemmas.{stopped_fault}
use Rattle.clap.proofs.OnLiterals.{clap_on_literals}
use Rattle.clap.proofs.WalkLemmas.{walk_stopped}
use Rattle.clap.specs.Faults.{check_fault, defaults_fault, entered_fault, level_fault, settle_fault, turn_fault, walk_fault}
use Rattle.clap.specs.Kinds.{or_else}
use Rattle.clap.specs.Simple.{built, built_leaf, inherited, entered, label_of, names_of, rows_at}
use Rattle.clap.specs.Walk.{Names, Walk, answers_to, finished, nothing_held, rows_after, settled, walk, walk_from, walked}
use Rattle.clap.specs.Words.{App, Kinds, Rule, Shape, Text, fault_of, subcommand_of}
use Rattle.obd_cli.specs.CommandLine.{obd, plain, sample}

-- the command line as clap builds it
abbrev pub line : App
line = built obd

abbrev pub rules : List Rule
rules = line.top.rules

abbrev pub names : Names
names = names_of line

-- what a walk over words comes to
abbrev pub faults_after : Walk → Kinds → Kinds
faults_after end walking =
    or_else walking (or_else (entered_fault line end.stopped) (or_else (settle_fault rules line.top.args_override_self end.held)
    (or_else (defaults_fault (settled rules end.held).rows rules) (check_fault line.top (finished rules end.held) (is_some (entered line end.stopped))))))

after_nothing : (kinds : Kinds) → or_else kinds [] ≡ kinds
after_nothing [] = refl
after_nothing (kind ∷ kinds) = refl

module _ (name : Text) (shape : Shape) (rest : List Text)
    (met : walked rules names (walk_from nothing_held) name ≡ record (walk_from nothing_held) { stopped = Some (name, []) })
    (passes : turn_fault line.top names (walk_from nothing_held) name ≡ [])
    (found : find (λ s. answers_to name (label_of s)) line.subs ≡ Some shape) where
  end : walk rules names nothing_held (name ∷ rest) ≡ record (walk_from nothing_held) { stopped = Some (name, rest) }
  end = ap (λ w. fold (walked rules names) w rest) met ∙ sym (walk_stopped rules names (walk_from nothing_held) name [] rest)

  walking : walk_fault line.top names (walk_from nothing_held) (name ∷ rest) ≡ []
  unfolding walk_fault
  walking = ap₂ (λ k w. or_else k (walk_fault line.top names w rest)) passes met ∙ stopped_fault line.top names (walk_from nothing_held) (name, []) rest

  -- the faults of the words are those of the command's own
  pub entered_faults : fault_of obd (name ∷ rest) ≡ level_fault shape [] nothing_held rest false []
  unfolding defaults_fault
  entered_faults = ap₂ faults_after end walking ∙ (ap faults_in found ∙ after_nothing (level_fault shape [] nothing_held rest false []))
    where
      faults_in : Option Shape → Kinds
      faults_in found = or_else (option_map_or (λ s. level_fault s [] nothing_held rest false []) found [])
          (check_fault line.top (finished rules nothing_held) (is_some (option_map (λ s. rows_at s rest) found)))

  -- and so are its rows
  pub entered_rows : subcommand_of obd (name ∷ rest) ≡ Some (shape.name, rows_after shape.rules [] rest)
  entered_rows = ap (λ w. entered line w.stopped) end ∙ ap (option_map (λ s. rows_at s rest)) found

abbrev pub sample_line : Shape
sample_line = built_leaf (inherited line.top sample)

pub sample_faults : (rest : List Text) → fault_of obd (codes "sample" ∷ rest) ≡ level_fault sample_line [] nothing_held rest false []
unfolding clap_on_literals
sample_faults rest = entered_faults (codes "sample") sample_line rest refl refl refl

pub sample_rows : (rest : List Text) → subcommand_of obd (codes "sample" ∷ rest) ≡ Some (codes "sample", rows_after sample_line.rules [] rest)
unfolding clap_on_literals
sample_rows rest = entered_rows (codes "sample") sample_line rest refl refl refl

abbrev pub plain_line : Text → Shape
plain_line name = built_leaf (inherited line.top (plain name))

pub decide_rows : (rest : List Text) → subcommand_of obd (codes "decide" ∷ rest) ≡ Some (codes "decide", rows_after (plain_line (codes "decide")).rules [] rest)
unfolding clap_on_literals
decide_rows rest = entered_rows (codes "decide") (plain_line (codes "decide")) rest refl refl refl

pub page_rows : (rest : List Text) → subcommand_of obd (codes "page" ∷ rest) ≡ Some (codes "page", rows_after (plain_line (codes "page")).rules [] rest)
unfolding clap_on_literals
page_rows rest = entered_rows (codes "page") (plain_line (codes "page")) rest refl refl refl

pub check_rows : (rest : List Text) → subcommand_of obd (codes "check" ∷ rest) ≡ Some (codes "check", rows_after (plain_line (codes "check")).rules [] rest)
unfolding clap_on_literals
check_rows rest = entered_rows (codes "check") (plain_line (codes "check")) rest refl refl refl
