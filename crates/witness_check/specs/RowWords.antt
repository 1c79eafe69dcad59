-- What the words of each line say, behind its kind.
use Rattle.std.specs.Prelude.{ℕ, ℤ, ◌*◌, ◌/◌, Bool, nat_eq, ◌&&◌, List, [], ◌∷◌, codes, length, Option, None, Some, option_map, if◌then◌else◌}
use Rattle.std.specs.Str.{bytes_eq}
use Rattle.obd_base.specs.declared.points.Exit.{Exit}
use Rattle.page_surface.specs.Labels.{Label}
use Rattle.drawing.specs.declared.finger.Finger.{Finger}
use Rattle.mod2_rank.specs.declared.outcome.Pivot.{Pivot}
use Rattle.mod2_rank.specs.declared.outcome.Verdict.{Verdict}
use Rattle.mod2_rank.specs.declared.outcome.Verdict.TheVariants.{Chain, Functional}
use Rattle.curve_paths.specs.declared.named.NamedPath.{NamedPath}
use Rattle.curve_paths.specs.declared.named.NamedTwist.{NamedTwist}
use Rattle.witness_check.specs.Reading.{is_number}
use Rattle.witness_check.specs.Words.{all_words, and_then, cross_word, exit_word, last_word, line_words, name_word, none_left, number_word, signed_word, then_word}

-- the words behind a kind
abbrev pub behind_kind : List ℕ → List (List ℕ) → Option (List (List ℕ))
behind_kind kind [] = None
behind_kind kind (w ∷ ws) = if bytes_eq w kind then Some ws else None

-- the words of a line behind its kind
abbrev pub kind_words : List ℕ → List ℕ → Option (List (List ℕ))
kind_words kind bytes = and_then (line_words bytes) (behind_kind kind)

-- a value that passes a test
abbrev pub where_so : {A : Type 0} → Bool → A → Option A
where_so test a = if test then Some a else None

-- NUMBER
abbrev pub one_number : List (List ℕ) → Option ℕ
one_number words = then_word number_word last_word words

-- the version, where it is 1 and the last word
abbrev pub last_version : ℕ → List (List ℕ) → Option ℕ
last_version n words = where_so (nat_eq 1 n && none_left words) n

-- `certificate` 1
abbrev pub version_words : List (List ℕ) → Option ℕ
version_words words = and_then (behind_kind (codes "certificate") words) (then_word number_word last_version)

-- NAME ..
abbrev pub name_words : List (List ℕ) → Option (List Label)
name_words words = all_words name_word words

-- LABEL:OCC:PLACE .., behind a name
abbrev pub path_words : List ℕ → List (List ℕ) → Option NamedPath
path_words name words = option_map (λ path. record { name = name; path = path }) (all_words cross_word words)

-- NAME LABEL:OCC:PLACE ..
abbrev pub curve_words : List (List ℕ) → Option NamedPath
curve_words words = then_word name_word path_words words

-- a twist, where no word is left
abbrev pub last_twist : List ℕ → ℤ → List (List ℕ) → Option NamedTwist
last_twist name power words = last_word (record { name = name; power = power }) words

-- POWER, behind a name
abbrev pub power_words : List ℕ → List (List ℕ) → Option NamedTwist
power_words name words = then_word signed_word (last_twist name) words

-- NAME POWER
abbrev pub twist_words : List (List ℕ) → Option NamedTwist
twist_words words = then_word name_word power_words words

-- NAME .., so many
abbrev pub seam_words : ℕ → List (List ℕ) → Option (List Label)
seam_words n words = and_then (all_words name_word words) (λ names. where_so (nat_eq n (length names)) names)

-- M NAME ..
abbrev pub seams_words : List (List ℕ) → Option (List Label)
seams_words words = then_word number_word seam_words words

-- an even number of arcs, whose half is a number
abbrev pub basis_even : List ℕ → Bool
basis_even arcs = nat_eq (2 * (length arcs / 2)) (length arcs) && is_number (length arcs / 2)

-- ARC ..
abbrev pub basis_words : List (List ℕ) → Option (List ℕ)
basis_words words = and_then (all_words number_word words) (λ arcs. where_so (basis_even arcs) arcs)

-- SIDE.PLACE .., where the number is that of the strand
abbrev pub exit_words : ℕ → ℕ → List (List ℕ) → Option (List Exit)
exit_words i n words = if nat_eq n i then all_words exit_word words else None

-- I SIDE.PLACE ..
abbrev pub strand_words : ℕ → List (List ℕ) → Option (List Exit)
strand_words i words = then_word number_word (exit_words i) words

-- a finger, where no word is left
abbrev pub last_finger : ℕ → ℕ → ℕ → ℕ → List (List ℕ) → Option Finger
last_finger strand chord side segment words = last_word (record { strand = strand; chord = chord; side = side; segment = segment }) words

-- SEGMENT, behind the other numbers
abbrev pub segment_words : ℕ → ℕ → ℕ → List (List ℕ) → Option Finger
segment_words strand chord side words = then_word number_word (last_finger strand chord side) words

-- SIDE SEGMENT
abbrev pub side_words : ℕ → ℕ → List (List ℕ) → Option Finger
side_words strand chord words = then_word number_word (segment_words strand chord) words

-- CHORD SIDE SEGMENT
abbrev pub chord_words : ℕ → List (List ℕ) → Option Finger
chord_words strand words = then_word number_word (side_words strand) words

-- STRAND CHORD SIDE SEGMENT
abbrev pub finger_words : List (List ℕ) → Option Finger
finger_words words = then_word number_word chord_words words

-- POINT .., so many, behind a number
abbrev pub point_words : ℕ → ℕ → List (List ℕ) → Option (ℕ × List ℕ)
point_words n number words = and_then (all_words number_word words) (λ points. where_so (nat_eq (length points) n) (number, points))

-- NUMBER POINT .., so many points
abbrev pub contact_words : ℕ → List (List ℕ) → Option (ℕ × List ℕ)
contact_words n words = then_word number_word (point_words n) words

-- a pivot, where no word is left
abbrev pub last_pivot : ℕ → ℕ → List (List ℕ) → Option Pivot
last_pivot column row words = last_word (record { column = column; row = row }) words

-- ROW, behind a column
abbrev pub row_words : ℕ → List (List ℕ) → Option Pivot
row_words column words = then_word number_word (last_pivot column) words

-- COLUMN ROW
abbrev pub pivot_words : List (List ℕ) → Option Pivot
pivot_words words = then_word number_word row_words words

-- H
abbrev pub one_signed : List (List ℕ) → Option ℤ
one_signed words = then_word signed_word last_word words

-- `zero` GEN .. or `nonzero` GEN ..
abbrev pub answer_words : List (List ℕ) → Option Verdict
answer_words [] = None
answer_words (w ∷ ws) =
    if bytes_eq w (codes "zero") then option_map Chain (all_words number_word ws) else
    if bytes_eq w (codes "nonzero") then option_map Functional (all_words number_word ws) else None
