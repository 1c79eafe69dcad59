-- A certificate fits where every line of it can be written, and only there.
use Rattle.std.proofs.Common.{◌≡◌, ℕ, suc, ◌+◌, ◌*◌, ◌/◌, ◌≤◌, true, ◌&&◌, eqb, List, [], ◌∷◌, codes, length, refl, sym, ◌∙◌, ap, arith, eqb-true, eq-eqb, leb-true, le-leb}
use Rattle.std.specs.List.{list_all}
use Rattle.std.proofs.lemmas.Bool.{and_parts, and_from}
use Rattle.obd_base.specs.declared.points.Exit.{Exit}
use Rattle.witness_check.specs.declared.certificate.Certificate.{Certificate}
use Rattle.witness_check.specs.Forms.{LineForm, rows_fit}
use Rattle.witness_check.specs.Reading.{is_exit, is_name, is_number, is_signed}
use Rattle.witness_check.specs.Lines.{basis_line, counted, curve_line, finger_line, number_line, pivot_line, polygon_line, strand_line, twist_line, verdict_numbers}
use Rattle.witness_check.specs.Grammar.{Fits, fits}

rows_all : {A : Type 0} (form : LineForm A) (i : ℕ) (xs : List A) → rows_fit (λ j. form) i xs ≡ list_all form.fits xs
rows_all form i [] = refl
rows_all form i (x ∷ xs) = ap (λ b. form.fits x && b) (rows_all form (suc i) xs)

-- a list with its number
counted_fits : {A : Type 0} (many : List ℕ) (form : LineForm A) (xs : List A) → is_number (length xs) ≡ true → list_all form.fits xs ≡ true → (counted many form).fits xs ≡ true
counted_fits many form xs h k = and_from (is_number (length xs)) _ h (and_from (eqb (length xs) (length xs)) _ (eq-eqb _ _ refl) (rows_all form 0 xs ∙ k))

fits_counted : {A : Type 0} (many : List ℕ) (form : LineForm A) (xs : List A) → (counted many form).fits xs ≡ true → (is_number (length xs) ≡ true) × (list_all form.fits xs ≡ true)
fits_counted many form xs h =
    let (a, b) = and_parts (is_number (length xs)) _ h in
    let (c, d) = and_parts (eqb (length xs) (length xs)) (rows_fit (λ j. form) 0 xs) b in
    (a, sym (rows_all form 0 xs) ∙ d)

-- strands whose numbers can be written
strands_fit : (kind : List ℕ) (n i : ℕ) (xs : List (List Exit)) → n ≤ 4294967295 → i + length xs ≤ n → list_all (list_all is_exit) xs ≡ true → rows_fit (strand_line kind) i xs ≡ true
strands_fit kind n i [] l e h = refl
strands_fit kind n i (x ∷ xs) l e h =
    let (a, b) = and_parts (list_all is_exit x) _ h in
    and_from (is_number i && list_all is_exit x) _ (and_from (is_number i) _ (le-leb i 4294967295 (omega (arith, e))) a) (strands_fit kind n (suc i) xs l (omega (arith, e)) b)

fit_strands : (kind : List ℕ) (i : ℕ) (xs : List (List Exit)) → rows_fit (strand_line kind) i xs ≡ true → list_all (list_all is_exit) xs ≡ true
fit_strands kind i [] h = refl
fit_strands kind i (x ∷ xs) h =
    let (a, b) = and_parts (is_number i && list_all is_exit x) _ h in
    and_from (list_all is_exit x) _ (and_parts (is_number i) _ a).1 (fit_strands kind (suc i) xs b)

pub fits_from : (c : Certificate) → Fits c → fits c ≡ true
fits_from c f =
    let (p, r1) = and_parts (is_number (length c.polygons)) _ f.lengths in
    let (q, r2) = and_parts (is_number (length c.curves)) _ r1 in
    let (s, r3) = and_parts (is_number (length c.slides)) _ r2 in
    let (t, r4) = and_parts (is_number (length c.twists)) _ r3 in
    let (m, r5) = and_parts (is_number (length c.seams)) _ r4 in
    let (g, r6) = and_parts (is_number (length c.fingers)) _ r5 in
    let (v, r7) = and_parts (is_number (length c.pivots)) true r6 in
    let k = f.basis_count in
    let few : f.arc_count ≤ 4294967295 = leb-true f.arc_count 4294967295 f.few_arcs in
    let half : length c.basis / 2 ≡ f.arc_count = omega (arith, k) in
    let a = f.strand_count in
    let b = f.final_count in
    and_from (eqb 1 c.version) _ (eq-eqb 1 c.version (sym f.version))
    (and_from ((counted (codes "polygons") polygon_line).fits c.polygons) _ (counted_fits (codes "polygons") polygon_line c.polygons p f.polygons)
    (and_from ((counted (codes "curves") curve_line).fits c.curves) _ (counted_fits (codes "curves") curve_line c.curves q f.curves)
    (and_from ((counted (codes "slides") (number_line (codes "slide"))).fits c.slides) _ (counted_fits (codes "slides") (number_line (codes "slide")) c.slides s f.slides)
    (and_from ((counted (codes "twists") twist_line).fits c.twists) _ (counted_fits (codes "twists") twist_line c.twists t f.twists)
    (and_from (is_number (length c.seams) && list_all is_name c.seams) _ (and_from (is_number (length c.seams)) _ m f.seams)
    (and_from (basis_line.fits c.basis) _
    (and_from (eqb (2 * (length c.basis / 2)) (length c.basis)) _ (eq-eqb _ _ (omega (arith, k))) (and_from (is_number (length c.basis / 2)) _ (ap is_number half ∙ f.few_arcs) f.basis))
    (and_from (eqb (length c.strands) (length c.basis / 2) && rows_fit (strand_line (codes "strand")) 0 c.strands) _
    (and_from (eqb (length c.strands) (length c.basis / 2)) _ (eq-eqb _ _ (omega (arith, a, half))) (strands_fit (codes "strand") f.arc_count 0 c.strands few (omega (arith, a)) f.strands))
    (and_from ((counted (codes "fingers") finger_line).fits c.fingers) _ (counted_fits (codes "fingers") finger_line c.fingers g f.fingers)
    (and_from (eqb (length c.finals) (length c.basis / 2) && rows_fit (strand_line (codes "final")) 0 c.finals) _
    (and_from (eqb (length c.finals) (length c.basis / 2)) _ (eq-eqb _ _ (omega (arith, b, half))) (strands_fit (codes "final") f.arc_count 0 c.finals few (omega (arith, b)) f.finals))
    (and_from (is_number c.generators) _ f.generators
    (and_from (is_number c.contact && (eqb (length c.points) (length c.basis / 2) && list_all is_number c.points)) _
    (and_from (is_number c.contact) _ f.contact (and_from (eqb (length c.points) (length c.basis / 2)) _ (eq-eqb _ _ (f.point_count ∙ sym half)) f.points))
    (and_from ((counted (codes "pivots") pivot_line).fits c.pivots) _ (counted_fits (codes "pivots") pivot_line c.pivots v f.pivots)
    (and_from (is_number c.rank) _ f.rank
    (and_from (is_signed c.homology) _ f.homology
    (and_from _ true f.verdict refl)))))))))))))))

-- and what fits has these properties
pub fits_says : (c : Certificate) → fits c ≡ true → Fits c
fits_says c h =
    let (version, h1) = and_parts (eqb 1 c.version) _ h in
    let (p, h2) = and_parts ((counted (codes "polygons") polygon_line).fits c.polygons) _ h1 in
    let (q, h3) = and_parts ((counted (codes "curves") curve_line).fits c.curves) _ h2 in
    let (s, h4) = and_parts ((counted (codes "slides") (number_line (codes "slide"))).fits c.slides) _ h3 in
    let (t, h5) = and_parts ((counted (codes "twists") twist_line).fits c.twists) _ h4 in
    let (m, h6) = and_parts (is_number (length c.seams) && list_all is_name c.seams) _ h5 in
    let (basis, h7) = and_parts (basis_line.fits c.basis) _ h6 in
    let (a, h8) = and_parts (eqb (length c.strands) (length c.basis / 2) && rows_fit (strand_line (codes "strand")) 0 c.strands) _ h7 in
    let (g, h9) = and_parts ((counted (codes "fingers") finger_line).fits c.fingers) _ h8 in
    let (b, h10) = and_parts (eqb (length c.finals) (length c.basis / 2) && rows_fit (strand_line (codes "final")) 0 c.finals) _ h9 in
    let (n, h11) = and_parts (is_number c.generators) _ h10 in
    let (k, h12) = and_parts (is_number c.contact && (eqb (length c.points) (length c.basis / 2) && list_all is_number c.points)) _ h11 in
    let (v, h13) = and_parts ((counted (codes "pivots") pivot_line).fits c.pivots) _ h12 in
    let (r, h14) = and_parts (is_number c.rank) _ h13 in
    let (z, h15) = and_parts (is_signed c.homology) _ h14 in
    let (w, h16) = and_parts (list_all is_number (verdict_numbers c.verdict)) true h15 in
    let (p0, p1) = fits_counted (codes "polygons") polygon_line c.polygons p in
    let (q0, q1) = fits_counted (codes "curves") curve_line c.curves q in
    let (s0, s1) = fits_counted (codes "slides") (number_line (codes "slide")) c.slides s in
    let (t0, t1) = fits_counted (codes "twists") twist_line c.twists t in
    let (m0, m1) = and_parts (is_number (length c.seams)) _ m in
    let (even, basis1) = and_parts (eqb (2 * (length c.basis / 2)) (length c.basis)) _ basis in
    let (few, numbers) = and_parts (is_number (length c.basis / 2)) _ basis1 in
    let (a0, a1) = and_parts (eqb (length c.strands) (length c.basis / 2)) _ a in
    let (g0, g1) = fits_counted (codes "fingers") finger_line c.fingers g in
    let (b0, b1) = and_parts (eqb (length c.finals) (length c.basis / 2)) _ b in
    let (k0, k1) = and_parts (is_number c.contact) _ k in
    let (k2, k3) = and_parts (eqb (length c.points) (length c.basis / 2)) _ k1 in
    let (v0, v1) = fits_counted (codes "pivots") pivot_line c.pivots v in
    record {
      version = sym (eqb-true 1 c.version version);
      polygons = p1;
      curves = q1;
      slides = s1;
      twists = t1;
      seams = m1;
      lengths = and_from (is_number (length c.polygons)) _ p0 (and_from (is_number (length c.curves)) _ q0 (and_from (is_number (length c.slides)) _ s0 (and_from (is_number (length c.twists)) _ t0
          (and_from (is_number (length c.seams)) _ m0 (and_from (is_number (length c.fingers)) _ g0 (and_from (is_number (length c.pivots)) true v0 refl))))));
      arc_count = length c.basis / 2;
      few_arcs = few;
      basis_count = sym (eqb-true _ _ even);
      basis = numbers;
      strand_count = eqb-true _ _ a0;
      strands = fit_strands (codes "strand") 0 c.strands a1;
      fingers = g1;
      final_count = eqb-true _ _ b0;
      finals = fit_strands (codes "final") 0 c.finals b1;
      generators = n;
      contact = k0;
      point_count = eqb-true _ _ k2;
      points = k3;
      pivots = v1;
      rank = r;
      homology = z;
      verdict = w;
    }
