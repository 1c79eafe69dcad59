-- Every line of a certificate that belongs to an open book can be written.
use Rattle.std.proofs.Common.{◌≡◌, ℕ, ◌+◌, ◌*◌, ◌<◌, ◌≤◌, ◌^◌, true, ◌&&◌, leb, ltb, List, [], ◌∷◌, length, map, take, refl, sym, ◌∙◌, ap, subst, arith, le-leb}
use Rattle.std.specs.Prelude.{All, slice_index_or}
use Rattle.std.specs.List.{list_all}
use Rattle.std.proofs.lemmas.Bool.{and_parts, and_from, ltb-true}
use Rattle.std.proofs.lemmas.List.{length-map}
use Rattle.std.proofs.lemmas.List.FromFn.{length-range_with_len}
use Rattle.obd_base.specs.Lists.{below}
use Rattle.obd_base.proofs.lists.Below.{mem_below}
use Rattle.page_surface.specs.Drawing.{Drawing, all_exits}
use Rattle.page_surface.specs.Joining.{joined}
use Rattle.page_surface.specs.Labels.{labels_of}
use Rattle.page_surface.specs.Polygon.{IsPolygon, Polygon, arc, arc_count, first_side, sides}
use Rattle.arc_basis.proofs.Whole.{page_whole}
use Rattle.curve_paths.specs.declared.named.NamedPath.{NamedPath}
use Rattle.curve_paths.specs.declared.named.NamedTwist.{NamedTwist}
use Rattle.curve_paths.specs.declared.path.Cross.{Cross}
use Rattle.curve_paths.proofs.Laws.{crossing_few}
use Rattle.drawing.specs.Points.{crossings_of}
use Rattle.finger_move.proofs.Replayed.{replayed_exits, replayed_polygon}
use Rattle.mod2_rank.specs.Linear.{IsVerdict}
use Rattle.mod2_rank.specs.PivotLines.{next_column}
use Rattle.mod2_rank.specs.declared.outcome.Pivot.{Pivot}
use Rattle.mod2_rank.specs.declared.outcome.Verdict.{Verdict}
use Rattle.mod2_rank.specs.declared.outcome.Verdict.TheVariants.{Chain, Functional}
use Rattle.drawing.specs.Points.{generators as all_generators}
use Rattle.hkm_diagram.specs.Domains.{column, columns}
use Rattle.witness_check.specs.Belonging.{BelongsTo}
use Rattle.witness_check.specs.Grammar.{fits}
use Rattle.witness_check.specs.Lines.{verdict_numbers}
use Rattle.witness_check.specs.OpenBook.{IsCurveOn, IsName, IsOpenBook, IsTwistOf, OpenBook, arcs, curve_names, seam_names}
use Rattle.witness_check.specs.Reading.{is_cross, is_exit, is_name, is_number, is_signed}
use Rattle.witness_check.specs.Rules.{last_columns}
use Rattle.witness_check.specs.declared.certificate.Certificate.{Certificate}
use Rattle.witness_check.proofs.BookLines.{page_count}
use Rattle.witness_check.proofs.DrawingLines.{last_written}
use Rattle.witness_check.proofs.FitsLaw.{fits_from}
use Rattle.witness_check.proofs.Kept.{At, at_all, at_mem, at_unmap, some_name}
use Rattle.witness_check.proofs.OutcomeLines.{few_pivots, pivot_count, pivot_passes}
use Rattle.witness_check.proofs.SmallNumbers.{all_pass, ascending_small, difference_small, few_on, named_among, named_at, named_labels, small, small_exits, small_fingers, small_signed}
use Rattle.witness_check.proofs.SurfaceLaw.{first_few, surface_polygon}

-- the words of an open book are names, and its numbers small
module _ (book : OpenBook) (ok : IsOpenBook book) where
  labels_named : list_all (list_all is_name) book.page ≡ true
  labels_named = all_pass (list_all is_name) book.page (λ i polygon at.
      all_pass is_name polygon (λ j word there. at_all IsName polygon j word (at_all (All IsName) book.page i polygon ok.labels at) there))

  label_names : list_all is_name (labels_of book.page) ≡ true
  label_names = named_labels book.page labels_named

  curve_fits : (i : ℕ) (curve : NamedPath) → At book.curves i curve → is_name curve.name && list_all is_cross curve.path ≡ true
  curve_fits i curve at =
      let is = at_all (IsCurveOn book.page) book.curves i curve ok.curves at in
      and_from (is_name curve.name) (list_all is_cross curve.path) is.named (all_pass is_cross curve.path (λ j c there.
      let (known, place) = crossing_few book.page curve.path is.path c (at_mem curve.path j c there) in
      let occurrence : c.occurrence ≤ 1 = at_all (λ (c : Cross). c.occurrence ≤ 1) curve.path j c is.occurrences there in
      and_from (is_name c.label) (leb c.occurrence 1 && is_number c.place) (named_among (labels_of book.page) c.label label_names known)
      (and_from (leb c.occurrence 1) (is_number c.place) (le-leb c.occurrence 1 occurrence) (small c.place (omega (arith, place))))))

  curves_fit : list_all (λ (curve : NamedPath). is_name curve.name && list_all is_cross curve.path) book.curves ≡ true
  curves_fit = all_pass (λ (curve : NamedPath). is_name curve.name && list_all is_cross curve.path) book.curves curve_fits

  names_named : list_all is_name (curve_names book) ≡ true
  names_named = all_pass is_name (curve_names book) (λ i name at.
      let (curve, there, same) = at_unmap (λ (curve : NamedPath). curve.name) book.curves i name at in
      subst (λ n. is_name n ≡ true) same (at_all (IsCurveOn book.page) book.curves i curve ok.curves there).named)

  slides_fit : list_all is_number book.slides ≡ true
  slides_fit = all_pass is_number book.slides (λ i side at. let l = at_all (λ (side : ℕ). side < 2 ^ 32) book.slides i side ok.slides at in small side (omega (arith, l)))

  twists_fit : list_all (λ (twist : NamedTwist). is_name twist.name && is_signed twist.power) book.twists ≡ true
  twists_fit = all_pass (λ (twist : NamedTwist). is_name twist.name && is_signed twist.power) book.twists (λ i t at.
      let is = at_all (IsTwistOf book) book.twists i t ok.twists at in
      let most = is.most_power in
      and_from (is_name t.name) (is_signed t.power) (named_among (curve_names book) t.name names_named (some_name t.name (curve_names book) is.known)) (small_signed t.power (omega (arith, most))))

  seams_few : length (seam_names book.page) ≤ 16
  seams_few =
      let whole = page_whole book.page ok.page in
      omega (arith, length-map (joined book.page).seams (λ label. slice_index_or (labels_of book.page) label []), whole.seams, (page_count book.page ok.page).1)

  seams_fit : list_all is_name (seam_names book.page) ≡ true
  seams_fit = all_pass is_name (seam_names book.page) (λ i name at.
      let (label, there, same) = at_unmap (λ (label : ℕ). slice_index_or (labels_of book.page) label []) (joined book.page).seams i name at in
      let named = (page_whole book.page ok.page).seam_named label (at_mem (joined book.page).seams i label there) in
      subst (λ n. is_name n ≡ true) same (named_at (labels_of book.page) label label_names named))

-- the arcs of the sides of a polygon
arcs_fit : (p : Polygon) → IsPolygon p → sides p ≤ 16 → list_all is_number (arcs p) ≡ true
arcs_fit p ok few = all_pass is_number (arcs p) (λ i a at.
    let (k, there, same) = at_unmap (arc p) (below (sides p)) i a at in
    let side : k < sides p = mem_below (sides p) k (at_mem (below (sides p)) i k there) in
    let in_range = (ok.ends k side).arc_in_range in
    subst (λ n. is_number n ≡ true) same (small (arc p k) (omega (arith, in_range, few))))

-- the points of the contact generator
points_fit : (d : Drawing) (n : ℕ) → length (all_exits d) ≤ 50000 → list_all is_number (map (crossings_of d) (below n)) ≡ true
points_fit d n points = all_pass is_number (map (crossings_of d) (below n)) (λ i m at.
    let (a, there, same) = at_unmap (crossings_of d) (below n) i m at in
    subst (λ x. is_number x ≡ true) same (small (crossings_of d a) (omega (arith, few_on d (first_side d.polygon a), points))))

-- the numbers of a verdict
verdict_fits : (rows : ℕ) (cs : List (List ℕ)) (v : Verdict) → rows ≤ 20000 → length cs ≤ 20000 → IsVerdict rows cs v → list_all is_number (verdict_numbers v) ≡ true
verdict_fits rows cs (Chain js) l k v = ascending_small 0 (length cs) js (omega (arith, k)) v.ascends
verdict_fits rows cs (Functional f) l k v = ascending_small 0 rows f (omega (arith, l)) v.ascends

pub belonging_fits : (book : OpenBook) (c : Certificate) → IsOpenBook book → BelongsTo book c → fits c ≡ true
belonging_fits book c ok b = fits_from c (record {
  version = b.version;
  polygons = subst (λ x. list_all (list_all is_name) x ≡ true) (sym b.polygons) (labels_named book ok);
  curves = subst (λ x. list_all (λ (curve : NamedPath). is_name curve.name && list_all is_cross curve.path) x ≡ true) (sym b.curves) (curves_fit book ok);
  slides = subst (λ x. list_all is_number x ≡ true) (sym b.slides) (slides_fit book ok);
  twists = subst (λ x. list_all (λ (twist : NamedTwist). is_name twist.name && is_signed twist.power) x ≡ true) (sym b.twists) (twists_fit book ok);
  seams = subst (λ x. list_all is_name x ≡ true) (sym b.seams) (seams_fit book ok);
  lengths = lengths_fit;
  arc_count = arc_count p;
  few_arcs = small (arc_count p) (omega (arith, even, few_sides));
  basis_count = ap length b.basis ∙ (length-map (below (sides p)) (arc p) ∙ (length-range_with_len 0 (sides p) ∙ even));
  basis = subst (λ x. list_all is_number x ≡ true) (sym b.basis) (arcs_fit p is_polygon few_sides);
  strand_count = ap length b.strands ∙ (b.first_is.embedded.strand_count ∙ ap arc_count first_polygon);
  strands = subst (λ x. list_all (list_all is_exit) x ≡ true) (sym b.strands) (small_exits b.first b.first_is.embedded (omega (arith, ap sides first_polygon, few_sides)) (omega (arith, few_first)));
  fingers = small_fingers b.first b.first_is.embedded (omega (arith, ap sides first_polygon, few_sides)) c.fingers (omega (arith, few_first, few_fingers)) b.last_is.legal;
  final_count = ap length b.finals ∙ (b.last_is.embedded.strand_count ∙ ap arc_count last_polygon);
  finals = subst (λ x. list_all (list_all is_exit) x ≡ true) (sym b.finals) (small_exits b.last b.last_is.embedded (omega (arith, ap sides last_polygon, few_sides)) few_last);
  generators = small c.generators (omega (arith, few_generators));
  contact = small c.contact (omega (arith, contact_last, few_generators));
  point_count = ap length b.points ∙ (length-map (below (arc_count b.last.polygon)) (crossings_of b.last) ∙ (length-range_with_len 0 (arc_count b.last.polygon) ∙ ap arc_count last_polygon));
  points = subst (λ x. list_all is_number x ≡ true) (sym b.points) (points_fit b.last (arc_count b.last.polygon) few_last);
  pivots = all_pass (λ (l : Pivot). is_number l.column && is_number l.row) c.pivots pivot_fits;
  rank = small c.rank (omega (arith, few_generators, few_pivots book c b));
  homology = subst (λ z. is_signed z ≡ true) (sym b.homology) (difference_small c.generators (2 * c.rank) (omega (arith, few_generators)) (omega (arith, few_generators, few_pivots book c b)));
  verdict = verdict_fits c.generators (columns b.last) c.verdict few_generators (omega (arith, few_generators, count, width)) b.concludes.outcome.verdict_is;
})
  where
    p : Polygon
    p = b.surface.polygon

    is_polygon : IsPolygon b.surface.polygon
    is_polygon = (surface_polygon book ok b.surface b.surface_is).0

    few_sides : sides b.surface.polygon ≤ 16
    few_sides = (surface_polygon book ok b.surface b.surface_is).1

    even : sides b.surface.polygon ≡ 2 * arc_count b.surface.polygon
    even = is_polygon.even

    few_first : length (all_exits b.first) ≤ 4000
    few_first = first_few book ok b.surface b.surface_is b.first b.first_is

    few_fingers : length c.fingers ≤ 20000
    few_fingers = b.few_fingers

    few_generators : c.generators ≤ 20000
    few_generators = b.few_generators

    contact_last : c.contact + 1 ≡ c.generators
    contact_last = b.contact_last

    first_polygon : b.first.polygon ≡ b.surface.polygon
    first_polygon = ap (λ (d : Drawing). d.polygon) b.first_is.drawn

    last_polygon : b.last.polygon ≡ b.surface.polygon
    last_polygon = ap (λ (d : Drawing). d.polygon) b.last_is.replayed_so ∙ (replayed_polygon b.first b.first_is.embedded c.fingers b.last_is.legal ∙ first_polygon)

    few_last : length (all_exits b.last) ≤ 50000
    few_last =
        omega (arith, few_first, few_fingers, ap (λ d. length (all_exits d)) b.last_is.replayed_so, replayed_exits b.first b.first_is.embedded c.fingers b.last_is.legal)

    count : c.generators ≡ length (all_generators b.last)
    count = b.generators_are

    width : length (columns b.last) ≡ length (all_generators b.last)
    width = length-map (all_generators b.last) (column b.last)

    pivot_fits : (i : ℕ) (l : Pivot) → At c.pivots i l → is_number l.column && is_number l.row ≡ true
    pivot_fits i l at =
        let (h0, h1) = and_parts (leb (next_column 0 (take i c.pivots)) l.column) _ (pivot_passes book c b i l at) in
        let (h2, h3) = and_parts (ltb l.column (length (last_columns c))) _ h1 in
        let (h4, h5) = and_parts (ltb l.row c.generators) _ h3 in
        let same : length (last_columns c) ≡ length (columns b.last) = ap (λ d. length (columns d)) (last_written book c b) in
        and_from (is_number l.column) (is_number l.row) (small l.column (omega (arith, ltb-true l.column (length (last_columns c)) h2, same, width, count, few_generators)))
        (small l.row (omega (arith, ltb-true l.row c.generators h4, few_generators)))

    lengths_fit : list_all is_number (length c.polygons ∷ length c.curves ∷ length c.slides ∷ length c.twists ∷ length c.seams ∷ length c.fingers ∷ length c.pivots ∷ []) ≡ true
    lengths_fit =
        let curves = ok.few_curves in
        let slides = ok.few_slides in
        let twists = ok.few_twists in
        and_from (is_number (length c.polygons)) _ (small (length c.polygons) (omega (arith, ap length b.polygons, (page_count book.page ok.page).1)))
        (and_from (is_number (length c.curves)) _ (small (length c.curves) (omega (arith, ap length b.curves, curves)))
        (and_from (is_number (length c.slides)) _ (small (length c.slides) (omega (arith, ap length b.slides, slides)))
        (and_from (is_number (length c.twists)) _ (small (length c.twists) (omega (arith, ap length b.twists, twists)))
        (and_from (is_number (length c.seams)) _ (small (length c.seams) (omega (arith, ap length b.seams, seams_few book ok)))
        (and_from (is_number (length c.fingers)) _ (small (length c.fingers) (omega (arith, few_fingers)))
        (and_from (is_number (length c.pivots)) true (small (length c.pivots) (omega (arith, few_generators, pivot_count book c b, few_pivots book c b))) refl))))))
