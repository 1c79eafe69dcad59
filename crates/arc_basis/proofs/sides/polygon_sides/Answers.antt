use Rattle.std.proofs.Common.{[], ◌∷◌, ◌++◌, sym, ap, ◌∙◌, arith}
use Rattle.std.proofs.lemmas.List.{take_all}
use Rattle.page_surface.proofs.Sides.{length-of_polygon}
use Rattle.arc_basis.proofs.Places.{take_next}
use Rattle.arc_basis.proofs.sides.polygon_sides.Goals as goal

pub loop-side-preserved : goal.loop-side-preserved
loop-side-preserved c =
    c.in_ok-push.ensures.ok ∙ (ap (λ xs. xs ++ c.label_at.result ∷ []) c.loop-side.invariant ∙ sym (take_next _ c.loop-side.side _ c.label_at.ensures))

pub returns : goal.returns
returns c =
    c.loop-side.invariant
    ∙ take_all c.loop-side.side _ (omega (arith, length-of_polygon [] c.args.page.now c.args.polygon))
