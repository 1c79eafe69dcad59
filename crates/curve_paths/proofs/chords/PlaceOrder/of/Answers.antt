use Rattle.std.proofs.Common.{◌∙◌}
use Rattle.curve_paths.proofs.Orders.{good_sides, starts_as}
use Rattle.curve_paths.proofs.chords.PlaceOrder.of.Goals as goal

pub side_starts-requires : goal.side_starts-requires
side_starts-requires c =
    good_sides c.args.page.now c.in_ok-sides.ensures.valid _ c.requires.size c.requires.few _ _ (c.deref.ensures.value ∙ c.in_ok-sides.ensures.value) c.deref-2.ensures.value

pub returns-clause-starts : goal.returns-clause-starts
returns-clause-starts c = starts_as _ _ _ _ _ (c.deref.ensures.value ∙ c.in_ok-sides.ensures.value) c.deref-2.ensures.value c.in_ok-starts.ensures
