use Rattle.std.proofs.Common.{◌∙◌, ◌++◌, ◌∷◌, [], ap, ap₂, false, get_or, sym}
use Rattle.std.specs.List.{list_any}
use Rattle.std.proofs.lemmas.List.{map_more}
use Rattle.page_surface.proofs.reached.polygons_with_mark.Goals as goal

pub loop-polygon-preserved : goal.loop-polygon-preserved
loop-polygon-preserved c =
    let p = list_any (λ s. get_or c.args.labels.now s.label false) in
    c.in_ok-push.ensures.items
    ∙ (ap₂ (λ bs b. bs ++ b ∷ []) c.loop-polygon.invariant (c.has_mark.ensures ∙ ap p (c.as_slice.ensures ∙ c.polygon-item.is))
    ∙ sym (map_more p c.args.polygons.now c.loop-polygon.polygon-index c.polygon-item.result c.loop-polygon-test.true))
