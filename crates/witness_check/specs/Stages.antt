-- The forms of the lines that are left, from a line of each kind on.
use Rattle.std.specs.Prelude.{ℕ, ℤ, ◌/◌, List, codes, length}
use Rattle.obd_base.specs.declared.points.Exit.{Exit}
use Rattle.page_surface.specs.Labels.{Label}
use Rattle.curve_paths.specs.declared.named.NamedPath.{NamedPath}
use Rattle.curve_paths.specs.declared.named.NamedTwist.{NamedTwist}
use Rattle.drawing.specs.declared.finger.Finger.{Finger}
use Rattle.mod2_rank.specs.declared.outcome.Verdict.{Verdict}
use Rattle.witness_check.specs.Forms.{Section, both, one, rows}
use Rattle.witness_check.specs.Grammar.{Drawn, Outcome, drawn_form, outcome_form}
use Rattle.witness_check.specs.Lines.{answer_line, basis_line, contact_line, counted, curve_line, end_line, finger_line, homology_line, number_line, polygon_line, seams_line, strand_line, twist_line}

-- the fields from the rank on, and so on for each kind of line
abbrev pub RankOn : Type 0
RankOn = ℕ × (ℤ × (Verdict × Unit {0}))

abbrev pub GeneratorsOn : Type 0
GeneratorsOn = ℕ × ((ℕ × List ℕ) × Outcome)

abbrev pub FingersOn : Type 0
FingersOn = List Finger × (List (List Exit) × GeneratorsOn)

abbrev pub SeamsOn : Type 0
SeamsOn = List Label × (List ℕ × Drawn)

abbrev pub SlidesOn : Type 0
SlidesOn = List ℕ × (List NamedTwist × SeamsOn)

abbrev pub PolygonsOn : Type 0
PolygonsOn = List (List Label) × (List NamedPath × SlidesOn)

abbrev pub verdict_on : Section (Verdict × Unit {0})
verdict_on = both (one answer_line) (λ verdict. one end_line)

abbrev pub homology_on : Section (ℤ × (Verdict × Unit {0}))
homology_on = both (one homology_line) (λ homology. verdict_on)

abbrev pub rank_on : Section RankOn
rank_on = both (one (number_line (codes "rank"))) (λ rank. homology_on)

abbrev pub contact_on : ℕ → Section ((ℕ × List ℕ) × Outcome)
contact_on n = both (one (contact_line n)) (λ contact. outcome_form)

abbrev pub generators_on : ℕ → Section GeneratorsOn
generators_on n = both (one (number_line (codes "generators"))) (λ generators. contact_on n)

abbrev pub finals_on : ℕ → Section (List (List Exit) × GeneratorsOn)
finals_on n = both (rows (strand_line (codes "final")) n) (λ finals. generators_on n)

abbrev pub fingers_on : ℕ → Section FingersOn
fingers_on n = both (counted (codes "fingers") finger_line) (λ fingers. finals_on n)

abbrev pub basis_on : Section (List ℕ × Drawn)
basis_on = both (one basis_line) (λ basis. drawn_form (length basis / 2))

abbrev pub seams_on : Section SeamsOn
seams_on = both (one seams_line) (λ seams. basis_on)

abbrev pub twists_on : Section (List NamedTwist × SeamsOn)
twists_on = both (counted (codes "twists") twist_line) (λ twists. seams_on)

abbrev pub slides_on : Section SlidesOn
slides_on = both (counted (codes "slides") (number_line (codes "slide"))) (λ slides. twists_on)

abbrev pub curves_on : Section (List NamedPath × SlidesOn)
curves_on = both (counted (codes "curves") curve_line) (λ curves. slides_on)

abbrev pub polygons_on : Section PolygonsOn
polygons_on = both (counted (codes "polygons") polygon_line) (λ polygons. curves_on)
