use Rattle.std.proofs.Common.{◌∙◌}
use Rattle.handle_slide.proofs.SlidesLaw.{accepted_here}
use Rattle.handle_slide.proofs.slides.slide_all.Goals as goal

pub loop-number-preserved : goal.loop-number-preserved
loop-number-preserved c = (
  accepted_here c.args.slides.now c.loop-number.number c.index-slides-number.result c.loop-number-test.true c.index-slides-number.is c.loop-number.now c.in_ok-now.now c.in_ok-now.ensures.after c.in_ok-now.ensures.accepted
      ∙ c.loop-number.invariant.0,
  c.in_ok-now.ensures.stays,
)
