use Rattle.std.proofs.Common.{[], ◌++◌, ap, ◌∙◌, arith}
use Rattle.std.proofs.lemmas.List.{take_all}
use Rattle.page_surface.proofs.Sides.{length-of_polygon}
use Rattle.curve_paths.proofs.PathChords.{pushed_more}
use Rattle.curve_paths.proofs.chords.push_sides.Goals as goal

pub loop-side-preserved : goal.loop-side-preserved
loop-side-preserved c =
    pushed_more _ _ _ _ _ _ c.loop-side.invariant c.in_ok-push.ensures.items c.label_at.ensures

pub returns : goal.returns
returns c =
    c.loop-side.invariant
    ∙ ap (λ xs. c.args.sides.now.items ++ xs) (take_all c.loop-side.side _ (omega (arith, length-of_polygon [] c.args.page.now c.args.polygon)))
