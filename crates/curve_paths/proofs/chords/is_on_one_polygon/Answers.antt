use Rattle.std.proofs.Common.{nat_eq, ap, ap₂, ◌∙◌}
use Rattle.page_surface.specs.declared.page.SideLabel.{SideLabel}
use Rattle.page_surface.specs.Joining.{other_side}
use Rattle.curve_paths.specs.declared.crossing.Crossing.{Crossing}
use Rattle.curve_paths.specs.Paths.{polygon_at}
use Rattle.curve_paths.proofs.Orders.{at_crossing, following_within, same_crossing}
use Rattle.curve_paths.proofs.PathChords.{same_at}
use Rattle.curve_paths.proofs.chords.is_on_one_polygon.Goals as goal

pub other-from-requires : goal.other-from-requires
other-from-requires c = (at_crossing _ _ c.requires.placed c.args.at _ c.requires.at).1

pub polygon_of-requires-clause-label : goal.polygon_of-requires-clause-label
polygon_of-requires-clause-label c =
    let n = at_crossing _ _ c.requires.placed c.args.at c.index-crossings-at.result c.requires.at in
    rw (ap (λ (s : SideLabel). s.label) c.other-from.ensures) n.0

pub polygon_of-requires-2-clause-label : goal.polygon_of-requires-2-clause-label
polygon_of-requires-2-clause-label c = (same_crossing _ _ c.requires.placed _ _ _ (following_within _ c.args.at c.requires.at) c.next_crossing-to.ensures).0

pub polygon_of-requires-2-clause-occurrence : goal.polygon_of-requires-2-clause-occurrence
polygon_of-requires-2-clause-occurrence c = (same_crossing _ _ c.requires.placed _ _ _ (following_within _ c.args.at c.requires.at) c.next_crossing-to.ensures).1

pub returns : goal.returns
returns c =
    ap₂ nat_eq
    (c.polygon_of.ensures ∙ ap (polygon_at c.args.page.now) (c.other-from.ensures ∙ ap (λ (x : Crossing). other_side x.side) (same_at c.args.crossings.now c.args.at _ _ c.requires.at)))
    (c.polygon_of-2.ensures ∙ ap (λ (x : Crossing). polygon_at c.args.page.now x.side) c.next_crossing-to.ensures)
