-- The form of a whole certificate line by line, which certificates fit, and what a text says.
use Rattle.std.specs.Prelude.{◌≡◌, ℕ, ℤ, suc, ◌/◌, ◌≤◌, ◌*◌, ◌&&◌, List, [], ◌∷◌, codes, length, take, Bool, true}
use Rattle.std.specs.List.{list_all}
use Rattle.obd_base.specs.declared.points.Exit.{Exit}
use Rattle.page_surface.specs.Labels.{Label}
use Rattle.drawing.specs.declared.finger.Finger.{Finger}
use Rattle.mod2_rank.specs.declared.outcome.Verdict.{Verdict}
use Rattle.witness_check.specs.declared.certificate.Certificate.{Certificate}
use Rattle.curve_paths.specs.declared.named.NamedPath.{NamedPath}
use Rattle.curve_paths.specs.declared.named.NamedTwist.{NamedTwist}
use Rattle.witness_check.specs.Forms.{Begun, Section, both, broken, one, rows, seen_as, whole}
use Rattle.witness_check.specs.Reading.{is_cross, is_exit, is_name, is_number, is_signed}
use Rattle.witness_check.specs.Lines.{verdict_numbers, basis_line, contact_line, counted, curve_line, end_line, finger_line, homology_line, number_line, pivot_line, polygon_line, seams_line, strand_line, twist_line, answer_line, version_line}
use Rattle.mod2_rank.specs.declared.outcome.Pivot.{Pivot}
use Rattle.witness_check.specs.Splitting.{lines_of}

-- the fields of a certificate one after another, in the order of the lines: from the pivots on
abbrev pub Outcome : Type 0
Outcome = List Pivot × (ℕ × (ℤ × (Verdict × Unit {0})))

-- from the strands on
abbrev pub Drawn : Type 0
Drawn = List (List Exit) × (List Finger × (List (List Exit) × (ℕ × ((ℕ × List ℕ) × Outcome))))

-- all of them
abbrev pub Parts : Type 0
Parts = ℕ × (List (List Label) × (List NamedPath × (List ℕ × (List NamedTwist × (List Label × (List ℕ × Drawn))))))

-- the lines from the pivots to the end
abbrev pub outcome_form : Section Outcome
outcome_form =
    both (counted (codes "pivots") pivot_line) (λ pivots.
    both (one (number_line (codes "rank"))) (λ rank.
    both (one homology_line) (λ homology.
    both (one answer_line) (λ verdict. one end_line))))

-- the lines from the first drawing on, with so many strands
abbrev pub drawn_form : ℕ → Section Drawn
drawn_form n =
    both (rows (strand_line (codes "strand")) n) (λ strands.
    both (counted (codes "fingers") finger_line) (λ fingers.
    both (rows (strand_line (codes "final")) n) (λ finals.
    both (one (number_line (codes "generators"))) (λ generators.
    both (one (contact_line n)) (λ contact. outcome_form)))))

-- all lines; there are half as many strands as sides
abbrev pub parts_form : Section Parts
parts_form =
    both (one version_line) (λ version.
    both (counted (codes "polygons") polygon_line) (λ polygons.
    both (counted (codes "curves") curve_line) (λ curves.
    both (counted (codes "slides") (number_line (codes "slide"))) (λ slides.
    both (counted (codes "twists") twist_line) (λ twists.
    both (one seams_line) (λ seams.
    both (one basis_line) (λ basis. drawn_form (length basis / 2))))))))

-- the fields of a certificate, from the pivots on
abbrev pub outcome_of : Certificate → Outcome
outcome_of c = (c.pivots, (c.rank, (c.homology, (c.verdict, tt))))

-- from the strands on
abbrev pub drawn_of : Certificate → Drawn
drawn_of c = (c.strands, (c.fingers, (c.finals, (c.generators, ((c.contact, c.points), outcome_of c)))))

-- all of them
abbrev pub parts_of : Certificate → Parts
parts_of c = (c.version, (c.polygons, (c.curves, (c.slides, (c.twists, (c.seams, (c.basis, drawn_of c)))))))

-- the certificate of some fields
abbrev pub certificate_of : Parts → Certificate
certificate_of p =
    let drawn : Drawn = p.1.1.1.1.1.1.1 in
    let outcome : Outcome = drawn.1.1.1.1.1 in
    record {
      version = p.0;
      polygons = p.1.0;
      curves = p.1.1.0;
      slides = p.1.1.1.0;
      twists = p.1.1.1.1.0;
      seams = p.1.1.1.1.1.0;
      basis = p.1.1.1.1.1.1.0;
      strands = drawn.0;
      fingers = drawn.1.0;
      finals = drawn.1.1.0;
      generators = drawn.1.1.1.0;
      contact = drawn.1.1.1.1.0.0;
      points = drawn.1.1.1.1.0.1;
      pivots = outcome.0;
      rank = outcome.1.0;
      homology = outcome.1.1.0;
      verdict = outcome.1.1.1.0;
    }

-- the form of a certificate
abbrev pub certificate_form : Section Certificate
certificate_form = seen_as certificate_of parts_of parts_form

-- every line of the certificate can be written: `Fits` says what this comes to
abbrev pub fits : Certificate → Bool
fits c = certificate_form.fits c

-- the version is 1, names are names, occurrences are 0 or 1, numbers and the lengths of the lists that are counted can be
-- written, and for one number n the basis has 2n members and the strands, the finals and the points are n each
pub record Fits (c : Certificate) : Type 0 where
  pub version : c.version ≡ 1
  pub polygons : list_all (list_all is_name) c.polygons ≡ true
  pub curves : list_all (λ curve. is_name curve.name && list_all is_cross curve.path) c.curves ≡ true
  pub slides : list_all is_number c.slides ≡ true
  pub twists : list_all (λ twist. is_name twist.name && is_signed twist.power) c.twists ≡ true
  pub seams : list_all is_name c.seams ≡ true
  pub lengths : list_all is_number (length c.polygons ∷ length c.curves ∷ length c.slides ∷ length c.twists ∷ length c.seams ∷ length c.fingers ∷ length c.pivots ∷ []) ≡ true
  pub arc_count : ℕ
  pub few_arcs : is_number arc_count ≡ true
  pub basis_count : length c.basis ≡ 2 * arc_count
  pub basis : list_all is_number c.basis ≡ true
  pub strand_count : length c.strands ≡ arc_count
  pub strands : list_all (list_all is_exit) c.strands ≡ true
  pub fingers : list_all finger_line.fits c.fingers ≡ true
  pub final_count : length c.finals ≡ arc_count
  pub finals : list_all (list_all is_exit) c.finals ≡ true
  pub generators : is_number c.generators ≡ true
  pub contact : is_number c.contact ≡ true
  pub point_count : length c.points ≡ arc_count
  pub points : list_all is_number c.points ≡ true
  pub pivots : list_all (λ p. is_number p.column && is_number p.row) c.pivots ≡ true
  pub rank : is_number c.rank ≡ true
  pub homology : is_signed c.homology ≡ true
  pub verdict : list_all is_number (verdict_numbers c.verdict) ≡ true

-- the lines of a certificate, one after another
abbrev pub certificate_lines : Certificate → List (List ℕ)
certificate_lines c = certificate_form.write c

-- what a text says: a certificate; or else how many of its first lines have their form, with a certificate that begins with these
pub data Said : Type 0 where
  says : Certificate → Said
  breaks : Certificate → ℕ → Said

-- the text goes on after its last line
abbrev pub said : Begun Certificate → Said
said (whole c []) = says c
said (whole c (l ∷ ls)) = breaks c (length (certificate_lines c))
said (broken c n) = breaks c n

-- a text, read
abbrev pub parsed : List ℕ → Said
parsed text = said (certificate_form.read (lines_of text))

-- the text's first lines, so many, are those of the certificate
abbrev pub BeginsAs : List ℕ → ℕ → Certificate → Type 0
BeginsAs text n c = (fits c ≡ true) × (take n (lines_of text) ≡ take n (certificate_lines c))

-- line n + 1 is the first that lacks its form: so many lines before it are the first ones of some certificate that
-- fits, and with it they aren't those of any
pub record BreaksAfter (text : List ℕ) (n : ℕ) : Type 0 where
  pub some : Certificate
  pub begins : BeginsAs text n some
  pub enough : n ≤ length (certificate_lines some)
  pub none : (c : Certificate) → BeginsAs text (suc n) c → ⊥
