use Rattle.std.proofs.Common.{◌≡◌, ◌∙◌, ℕ, ap, arith}
use Rattle.std.specs.List.{flat_map}
use Rattle.obd_base.specs.Lists.{below}
use Rattle.curve_paths.specs.Curves.{curve_points, rho, signed}
use Rattle.path_words.proofs.Readings.{exits_on_sides}
use Rattle.path_words.proofs.PushWords.{push_in_range, push_more}
use Rattle.path_words.proofs.pushes.push_along.Goals as goal

pub points_on-count-requires-clause-in_range : goal.points_on-count-requires-clause-in_range
points_on-count-requires-clause-in_range c = exits_on_sides c.args.polygon.now c.args.exits.now c.requires.curve

pub loop-place-preserved : goal.loop-place-preserved
loop-place-preserved c =
    push_more c.args.polygon.now c.args.exits.now c.args.sign c.args.side c.loop-place.place c.loop-place.push.items c.put_at_point.new.word.items c.loop-place.invariant
    c.in_ok-put_at_point.ensures

pub reduce-requires : goal.reduce-requires
reduce-requires c =
    let p = c.args.polygon.now in
    let exits = c.args.exits.now in
    let end : c.loop-place.place ≡ curve_points p exits c.args.side = omega (arith, c.loop-place-test.false, c.loop-place.auto, c.points_on-count.ensures) in
    push_in_range p c.requires.valid.pairs exits c.requires.curve c.args.sign c.args.side c.loop-place.push.items
    (c.loop-place.invariant ∙ ap (λ (n : ℕ). flat_map (λ j. signed p c.args.sign (rho p exits c.args.side j)) (below n)) end)
