use Rattle.std.proofs.Common.{[], ◌∷◌, ◌++◌, sym, ap₂, ◌∙◌, arith}
use Rattle.std.proofs.lemmas.List.{take_all, take_more}
use Rattle.page_surface.proofs.Sides.{length-side_labels_of}
use Rattle.page_surface.specs.Labels.{side_labels_of}
use Rattle.arc_basis.proofs.joining.page_polygons.Goals as goal

pub loop-polygon-preserved : goal.loop-polygon-preserved
loop-polygon-preserved c =
    let all = side_labels_of [] c.args.page.now in
    c.in_ok-push.ensures.items
    ∙ (ap₂ (λ xs x. xs ++ x ∷ []) c.loop-polygon.invariant c.in_ok-polygon_sides.ensures
    ∙ sym (take_more all c.loop-polygon.polygon [] (omega (arith, length-side_labels_of [] c.args.page.now, c.loop-polygon-test.true, c.polygon_count-polygon-end.ensures.value, c.loop-polygon.auto.polygon-end))))

pub returns : goal.returns
returns c =
    c.loop-polygon.invariant
    ∙ take_all c.loop-polygon.polygon _ (omega (arith, length-side_labels_of [] c.args.page.now, c.loop-polygon-test.false, c.polygon_count-polygon-end.ensures.value, c.loop-polygon.auto.polygon-end))
