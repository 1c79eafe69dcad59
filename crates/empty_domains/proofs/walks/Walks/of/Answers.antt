use Rattle.std.proofs.Common.{◌∙◌, ap, arith, length, subst}
use Rattle.page_surface.specs.Drawing.{Drawing, IsEmbedded, all_exits}
use Rattle.page_surface.specs.Polygon.{sides}
use Rattle.region_table.proofs.SpanCount.{spans_few}
use Rattle.empty_domains.proofs.walks.Walks.of.Goals as goal

pub first_spans-requires-clause-valid : goal.first_spans-requires-clause-valid
first_spans-requires-clause-valid c = subst (λ (w : Drawing). IsEmbedded w) c.drawing.ensures c.points.ensures.valid

pub first_spans-requires-clause-few : goal.first_spans-requires-clause-few
first_spans-requires-clause-few c =
    let d = c.args.diagram.now in
    let n = c.sides.ensures.value ∙ ap sides (c.polygon-polygon.ensures ∙ ap (λ (w : Drawing). w.polygon) c.drawing-2.ensures) in
    spans_few d (omega (arith, n, c.sides.ensures.most)) (omega (arith, c.points.ensures.value, c.points.ensures.few, ap (λ (w : Drawing). length (all_exits w)) c.drawing.ensures))
