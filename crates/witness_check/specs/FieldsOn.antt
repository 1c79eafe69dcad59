-- The fields of a certificate that the lines from one of each kind on write.
use Rattle.std.specs.Prelude.{ℕ, ℤ, List}
use Rattle.mod2_rank.specs.declared.outcome.Verdict.{Verdict}
use Rattle.obd_base.specs.declared.points.Exit.{Exit}
use Rattle.witness_check.specs.declared.certificate.Certificate.{Certificate}
use Rattle.witness_check.specs.Grammar.{Drawn, Outcome, drawn_of, outcome_of}
use Rattle.witness_check.specs.Stages.{FingersOn, GeneratorsOn, PolygonsOn, RankOn, SeamsOn, SlidesOn}
use Rattle.curve_paths.specs.declared.named.NamedPath.{NamedPath}
use Rattle.curve_paths.specs.declared.named.NamedTwist.{NamedTwist}

abbrev pub verdict_fields : Certificate → Verdict × Unit {0}
verdict_fields c = (c.verdict, tt)

abbrev pub homology_fields : Certificate → ℤ × (Verdict × Unit {0})
homology_fields c = (c.homology, verdict_fields c)

abbrev pub rank_fields : Certificate → RankOn
rank_fields c = (c.rank, homology_fields c)

abbrev pub contact_fields : Certificate → (ℕ × List ℕ) × Outcome
contact_fields c = ((c.contact, c.points), outcome_of c)

abbrev pub generators_fields : Certificate → GeneratorsOn
generators_fields c = (c.generators, contact_fields c)

abbrev pub finals_fields : Certificate → List (List Exit) × GeneratorsOn
finals_fields c = (c.finals, generators_fields c)

abbrev pub fingers_fields : Certificate → FingersOn
fingers_fields c = (c.fingers, finals_fields c)

abbrev pub basis_fields : Certificate → List ℕ × Drawn
basis_fields c = (c.basis, drawn_of c)

abbrev pub seams_fields : Certificate → SeamsOn
seams_fields c = (c.seams, basis_fields c)

abbrev pub twists_fields : Certificate → List NamedTwist × SeamsOn
twists_fields c = (c.twists, seams_fields c)

abbrev pub slides_fields : Certificate → SlidesOn
slides_fields c = (c.slides, twists_fields c)

abbrev pub curves_fields : Certificate → List NamedPath × SlidesOn
curves_fields c = (c.curves, slides_fields c)

abbrev pub polygons_fields : Certificate → PolygonsOn
polygons_fields c = (c.polygons, curves_fields c)
