use Rattle.std.proofs.Common.{◌+◌, ◌∙◌, ap, ap₂, get_or, length}
use Rattle.boundary_map.proofs.QuadrantsMet.{from_met, pair_read, two_from}
use Rattle.boundary_map.proofs.quadrants.met_from.Goals as goal

pub returns : goal.returns
returns c = λ d ok told.
    let read = c.from_quadrants.ensures d told in
    let pair = pair_read c.from_quadrants.result c.index-from_quadrants-0.result c.index-from_quadrants-1.result (ap length read ∙ two_from d c.args.regions.now c.args.arc c.args.number) in
    from_met d c.args.regions.now ok told c.args.set.now c.requires.set c.args.arc c.args.number c.requires.arc
    (get_or c.from_quadrants.result 0 c.index-from_quadrants-0.result) (get_or c.from_quadrants.result 1 c.index-from_quadrants-1.result) _ (pair ∙ read) (ap₂ (λ a b. a + b) c.met_option.ensures.value c.met_option-2.ensures.value)
