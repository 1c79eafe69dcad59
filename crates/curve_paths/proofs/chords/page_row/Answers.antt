use Rattle.std.proofs.Common.{[], ◌++◌, get_or, flat_map, sym, ap, ◌∙◌, arith}
use Rattle.std.proofs.lemmas.List.{take_all}
use Rattle.page_surface.specs.Labels.{side_labels_of}
use Rattle.page_surface.proofs.Sides.{length-side_labels_of}
use Rattle.curve_paths.proofs.PathChords.{joined_more}
use Rattle.curve_paths.proofs.chords.page_row.Goals as goal

pub loop-polygon-preserved : goal.loop-polygon-preserved
loop-polygon-preserved c =
    let sides = get_or (side_labels_of [] c.args.page.now) c.loop-polygon.polygon [] in
    c.in_ok-push_sides.ensures
    ∙ (ap (λ xs. xs ++ sides) c.loop-polygon.invariant
    ∙ sym (joined_more (side_labels_of [] c.args.page.now) c.loop-polygon.polygon (omega (arith, length-side_labels_of [] c.args.page.now))))

pub returns-clause-value : goal.returns-clause-value
returns-clause-value c =
    c.loop-polygon.invariant
    ∙ ap (flat_map (λ polygon. polygon)) (take_all c.loop-polygon.polygon _ (omega (arith, length-side_labels_of [] c.args.page.now)))
