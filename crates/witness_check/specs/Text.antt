-- The text of a certificate, line by line.
use Rattle.std.specs.Prelude.{ℕ, List, [], ◌∷◌, ◌++◌, codes, decimal, length, map}
use Rattle.std.specs.Fmt.{signed_decimal}
use Rattle.curve_paths.specs.declared.path.Cross.{Cross}
use Rattle.obd_base.specs.declared.points.Exit.{Exit}
use Rattle.witness_check.specs.Line.{exit_text, line, listed, row_lines}
use Rattle.witness_check.specs.declared.certificate.Certificate.{Certificate}
use Rattle.drawing.specs.declared.finger.Finger.{Finger}
use Rattle.curve_paths.specs.declared.named.NamedPath.{NamedPath}
use Rattle.curve_paths.specs.declared.named.NamedTwist.{NamedTwist}
use Rattle.mod2_rank.specs.declared.outcome.Pivot.{Pivot}
use Rattle.mod2_rank.specs.declared.outcome.Verdict.{Verdict}
use Rattle.mod2_rank.specs.declared.outcome.Verdict.TheVariants.{Chain, Functional}

-- LABEL:OCC:PLACE
abbrev pub cross_text : Cross → List ℕ
cross_text cross = cross.label ++ 58 ∷ decimal cross.occurrence ++ 58 ∷ decimal cross.place

-- the labels of a polygon
abbrev pub polygon_words : List (List ℕ) → List (List ℕ)
polygon_words labels = labels

abbrev pub slide_words : ℕ → List (List ℕ)
slide_words side = decimal side ∷ []

abbrev pub path_words : NamedPath → List (List ℕ)
path_words curve = curve.name ∷ map cross_text curve.path

abbrev pub twist_words : NamedTwist → List (List ℕ)
twist_words twist = twist.name ∷ signed_decimal twist.power ∷ []

abbrev pub finger_words : Finger → List (List ℕ)
finger_words finger = decimal finger.strand ∷ decimal finger.chord ∷ decimal finger.side ∷ decimal finger.segment ∷ []

abbrev pub pivot_words : Pivot → List (List ℕ)
pivot_words pivot = decimal pivot.column ∷ decimal pivot.row ∷ []

-- a line for each strand, with its number and its exits
abbrev pub strand_lines : List ℕ → List (List Exit) → List ℕ
strand_lines kind strands = row_lines kind exit_text strands

abbrev pub verdict_line : Verdict → List ℕ
verdict_line (Chain columns) = line (codes "zero") (map decimal columns)
verdict_line (Functional rows) = line (codes "nonzero") (map decimal rows)

-- the lines of the version and the polygons
abbrev pub page_text : Certificate → List ℕ
page_text c = line (codes "contact certificate") (decimal c.version ∷ []) ++ listed (codes "polygons") (codes "polygon") polygon_words c.polygons

-- the lines of the curves, the slides and the twists
abbrev pub monodromy_text : Certificate → List ℕ
monodromy_text c =
    listed (codes "curves") (codes "curve") path_words c.curves
    ++ listed (codes "slides") (codes "slide") slide_words c.slides
    ++ listed (codes "twists") (codes "twist") twist_words c.twists

-- the lines from the seams to the contact generator
abbrev pub drawing_text : Certificate → List ℕ
drawing_text c =
    line (codes "seams") (decimal (length c.seams) ∷ c.seams)
    ++ line (codes "basis") (map decimal c.basis)
    ++ strand_lines (codes "strand") c.strands
    ++ listed (codes "fingers") (codes "finger") finger_words c.fingers
    ++ strand_lines (codes "final") c.finals
    ++ line (codes "generators") (decimal c.generators ∷ [])
    ++ line (codes "contact") (decimal c.contact ∷ map decimal c.points)

-- the lines from the pivots to the end
abbrev pub outcome_text : Certificate → List ℕ
outcome_text c =
    listed (codes "pivots") (codes "pivot") pivot_words c.pivots
    ++ line (codes "rank") (decimal c.rank ∷ [])
    ++ line (codes "homology") (signed_decimal c.homology ∷ [])
    ++ verdict_line c.verdict
    ++ line (codes "end") []

-- the whole text
abbrev pub certificate_text : Certificate → List ℕ
certificate_text c = page_text c ++ monodromy_text c ++ drawing_text c ++ outcome_text c
