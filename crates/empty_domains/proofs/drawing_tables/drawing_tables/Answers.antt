use Rattle.std.proofs.Common.{◌≡◌, ◌+◌, ◌∙◌, ap, arith, length, map, subst}
use Rattle.drawing.specs.Pieces.{span_count}
use Rattle.drawing.specs.Round.{opposite, other_end, side_of}
use Rattle.empty_domains.proofs.Made.{closed, entries, made}
use Rattle.obd_base.specs.Lists.{below}
use Rattle.page_surface.specs.Drawing.{Drawing, IsEmbedded, all_exits, chords, offset, points_on}
use Rattle.page_surface.specs.Polygon.{Polygon, arc, sides}
use Rattle.region_table.proofs.SpanCount.{spans_few}
use Rattle.empty_domains.proofs.drawing_tables.drawing_tables.Goals as goal

pub overflow_cast-count : goal.overflow_cast-count
overflow_cast-count c =
    let d = c.args.diagram.now in
    let n : c.sides-sides.result ≡ sides d.polygon = c.sides-sides.ensures.value ∙ ap sides (c.polygon-polygon.ensures ∙ ap (λ (w : Drawing). w.polygon) c.drawing-2.ensures) in
    let few = spans_few d (omega (arith, n, c.sides-sides.ensures.most)) (omega (arith, c.points.ensures.value, c.points.ensures.few, ap (λ (w : Drawing). length (all_exits w)) c.drawing.ensures)) in
    omega (arith, few, entries (other_end (chords d)) (span_count d) c.other_ends.result.now (c.other_ends.ensures ∙ c.requires.table.mates))

pub sides_of-requires-clause-count : goal.sides_of-requires-clause-count
sides_of-requires-clause-count c =
    let d = c.args.diagram.now in
    entries (other_end (chords d)) (span_count d) c.other_ends.result.now (c.other_ends.ensures ∙ c.requires.table.mates)

pub sides_of-requires-clause-few : goal.sides_of-requires-clause-few
sides_of-requires-clause-few c =
    let d = c.args.diagram.now in
    let n : c.sides-sides.result ≡ sides d.polygon = c.sides-sides.ensures.value ∙ ap sides (c.polygon-polygon.ensures ∙ ap (λ (w : Drawing). w.polygon) c.drawing-2.ensures) in
    omega (arith, n, c.sides-sides.ensures.most)

pub runs-requires-clause-few : goal.runs-requires-clause-few
runs-requires-clause-few c =
    let d = c.args.diagram.now in
    let n : c.sides-sides.result ≡ sides d.polygon = c.sides-sides.ensures.value ∙ ap sides (c.polygon-polygon.ensures ∙ ap (λ (w : Drawing). w.polygon) c.drawing-2.ensures) in
    spans_few d (omega (arith, n, c.sides-sides.ensures.most)) (omega (arith, c.points.ensures.value, c.points.ensures.few, ap (λ (w : Drawing). length (all_exits w)) c.drawing.ensures))

pub runs-requires-clause-side : goal.runs-requires-clause-side
runs-requires-clause-side c =
    let d = c.args.diagram.now in
    let m = entries (other_end (chords d)) (span_count d) c.other_ends.result.now (c.other_ends.ensures ∙ c.requires.table.mates) in
    c.deref.ensures.value ∙ (c.in_ok-side.ensures ∙ ap (λ k. map (side_of d) (below k)) m)

pub opposites-requires-clause-side : goal.opposites-requires-clause-side
opposites-requires-clause-side c =
    let d = c.args.diagram.now in
    let m = entries (other_end (chords d)) (span_count d) c.other_ends.result.now (c.other_ends.ensures ∙ c.requires.table.mates) in
    c.deref-3.ensures.value ∙ (c.in_ok-side.ensures ∙ ap (λ k. map (side_of d) (below k)) m)

pub opposites-requires-clause-few : goal.opposites-requires-clause-few
opposites-requires-clause-few c =
    let d = c.args.diagram.now in
    let n : c.sides-sides.result ≡ sides d.polygon = c.sides-sides.ensures.value ∙ ap sides (c.polygon-polygon.ensures ∙ ap (λ (w : Drawing). w.polygon) c.drawing-2.ensures) in
    spans_few d (omega (arith, n, c.sides-sides.ensures.most)) (omega (arith, c.points.ensures.value, c.points.ensures.few, ap (λ (w : Drawing). length (all_exits w)) c.drawing.ensures))

pub invariant_of-result : goal.invariant_of-result
invariant_of-result c =
    let d = c.args.diagram.now in
    let ok : IsEmbedded d = subst (λ (w : Drawing). IsEmbedded w) c.drawing.ensures c.points.ensures.valid in
    let p = c.polygon-polygon.ensures ∙ ap (λ (w : Drawing). w.polygon) c.drawing-2.ensures in
    let n : c.sides-sides.result ≡ sides d.polygon = c.sides-sides.ensures.value ∙ ap sides p in
    let few = spans_few d (omega (arith, n, c.sides-sides.ensures.most)) (omega (arith, c.points.ensures.value, c.points.ensures.few, ap (λ (w : Drawing). length (all_exits w)) c.drawing.ensures)) in
    let m = entries (other_end (chords d)) (span_count d) c.other_ends.result.now (c.other_ends.ensures ∙ c.requires.table.mates) in
    let side = c.in_ok-side.ensures ∙ ap (λ k. map (side_of d) (below k)) m in
    let size = entries (side_of d) (span_count d) c.deref-3.result.now (c.deref-3.ensures.value ∙ side) in
    closed d ok _ _ _ _ _ _ (c.in_ok-from_slice.ensures.items ∙ (c.other_ends-2.ensures ∙ c.requires.table.mates)) (c.in_ok-opposite.ensures ∙ ap (λ k. map (opposite d) (below k)) size) side c.in_ok-run.ensures
    (c.in_ok-ends.ensures ∙ ap (λ k. map (λ k. offset d k + points_on d k) (below k)) n) (c.in_ok-side_arcs.ensures ∙ ap (λ (q : Polygon). map (arc q) (below (sides q))) p) few

pub returns : goal.returns
returns c =
    let d = c.args.diagram.now in
    let ok : IsEmbedded d = subst (λ (w : Drawing). IsEmbedded w) c.drawing.ensures c.points.ensures.valid in
    let p = c.polygon-polygon.ensures ∙ ap (λ (w : Drawing). w.polygon) c.drawing-2.ensures in
    let n : c.sides-sides.result ≡ sides d.polygon = c.sides-sides.ensures.value ∙ ap sides p in
    let m = entries (other_end (chords d)) (span_count d) c.other_ends.result.now (c.other_ends.ensures ∙ c.requires.table.mates) in
    let side = c.in_ok-side.ensures ∙ ap (λ k. map (side_of d) (below k)) m in
    let size = entries (side_of d) (span_count d) c.deref-3.result.now (c.deref-3.ensures.value ∙ side) in
    made d ok _ _ _ _ _ _ (c.in_ok-from_slice.ensures.items ∙ (c.other_ends-2.ensures ∙ c.requires.table.mates)) (c.in_ok-opposite.ensures ∙ ap (λ k. map (opposite d) (below k)) size) side c.in_ok-run.ensures
    (c.in_ok-ends.ensures ∙ ap (λ k. map (λ k. offset d k + points_on d k) (below k)) n) (c.in_ok-side_arcs.ensures ∙ ap (λ (q : Polygon). map (arc q) (below (sides q))) p)
