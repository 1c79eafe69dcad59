use Rattle.std.proofs.Common.{◌≡◌, ◌∙◌, ap}
use Rattle.std.specs.Prelude.{Err}
use Rattle.page_surface.specs.Drawing.{Drawing, words}
use Rattle.curve_paths.specs.Twists.{times}
use Rattle.path_words.proofs.Turns.{handed_on}
use Rattle.monodromy.proofs.TurnsSoFar.{turn_long, turn_more}
use Rattle.monodromy.proofs.turns.repeated.Goals as goal

pub loop-turn-preserved : goal.loop-turn-preserved
loop-turn-preserved c =
    let inv = c.loop-turn.invariant in
    let done = c.in_ok-twist.ensures in
    record {
      polygon = ap (λ (d : Drawing). d.polygon) done.drawing ∙ inv.polygon;
      few = done.few;
      tight = done.tight;
      left = turn_more c.args.drawing.now.drawing.polygon c.loop-turn.drawing.drawing.polygon c.args.curve.now c.args.sign c.args.turns c.loop-turn.turn (words c.args.drawing.now.drawing) (words c.loop-turn.drawing.drawing) inv.polygon
          c.exits.ensures.least c.loop-turn-test.true inv.left (words c.twist.new.drawing.drawing) done.turned;
    }

pub returns-in_err-twist-clause-long : goal.returns-in_err-twist-clause-long
returns-in_err-twist-clause-long c =
    let d = c.args.drawing.now.drawing in
    handed_on (λ count. times d.polygon c.args.curve.now c.args.sign c.args.turns (words d) ≡ Err count) _ _ c.from_residual.ensures.1
    (λ count given. turn_long d.polygon c.loop-turn.drawing.drawing.polygon c.args.curve.now c.args.sign c.args.turns c.loop-turn.turn (words d) (words c.loop-turn.drawing.drawing) c.loop-turn.invariant.polygon
    c.exits.ensures.least c.loop-turn-test.true c.loop-turn.invariant.left count (c.in_err-twist.ensures.long count given))
