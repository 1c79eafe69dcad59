use Rattle.std.proofs.Common.{◌≤◌, ◌<◌, ◌∙◌, ap, length, refl, subst, sym}
use Rattle.page_surface.specs.Drawing.{Drawing}
use Rattle.drawing.specs.Fingers.{replayed}
use Rattle.region_table.specs.Nice.{weight}
use Rattle.region_table.specs.Table.{HasDistances}
use Rattle.nice_plan.specs.Strategy.{strategy, within_limit}
use Rattle.obd_cli.specs.Steps.{last_of}
use Rattle.obd_cli.proofs.Moved.{is_moved}
use Rattle.obd_cli.proofs.moves.moved_to_nice.Goals as goal

pub make_nice-requires-clause-distances : goal.make_nice-requires-clause-distances
make_nice-requires-clause-distances c = subst (λ (d : Drawing). HasDistances d c.args.regions.now) (sym c.of-last.ensures) c.requires.distances

pub returns-in-Ok-clause-moved : goal.returns-in-Ok-clause-moved
returns-in-Ok-clause-moved c =
    is_moved c.args.drawing.drawing c.args.drawing.drawing _ refl c.in_ok-strands.ensures.valid c.in_ok-strands.ensures.strands (c.from_vec.ensures ∙ (c.in-Ok.ensures.fingers ∙ ap strategy c.of-last.ensures))
    (c.in-Ok.ensures.drawing ∙ ap last_of c.of-last.ensures)

pub returns-in-Ok-clause-within : goal.returns-in-Ok-clause-within
returns-in-Ok-clause-within c = subst (λ (d : Drawing). length (strategy d) ≤ c.args.limit) c.of-last.ensures c.in-Ok.ensures.within

pub returns-in-Err-clause-budget : goal.returns-in-Err-clause-budget
returns-in-Err-clause-budget c = λ n left is.
    let (limit, over, new, weighs, some) = c.in-Err.ensures.budget n left is in (
      limit,
      subst (λ (d : Drawing). c.args.limit < length (strategy d)) c.of-last.ensures over,
      weighs ∙ (ap weight new ∙ ap (λ (d : Drawing). weight (replayed d (within_limit c.args.limit d))) c.of-last.ensures),
    )
