use Rattle.std.proofs.Common.{[], ◌∷◌, ◌++◌, sym, ap₂, ◌∙◌, arith}
use Rattle.curve_paths.specs.Paths.{path_chord}
use Rattle.std.proofs.lemmas.List.FromFn.{map-range_with_len_more}
use Rattle.curve_paths.proofs.chords.chords_of.Goals as goal

pub loop-at-preserved : goal.loop-at-preserved
loop-at-preserved c =
    c.in_ok-push.ensures.items
    ∙ (ap₂ (λ xs x. xs ++ x ∷ []) c.loop-at.invariant c.chord_after.ensures
    ∙ sym (map-range_with_len_more (path_chord c.args.page.now c.args.crossings.now) 0 c.loop-at.at c.loop-at.at (omega arith)))
