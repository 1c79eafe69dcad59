use Rattle.std.proofs.Common.{◌∙◌, sym, ap, arith}
use Rattle.std.specs.Prelude.{Ok}
use Rattle.page_surface.specs.Drawing.{words}
use Rattle.curve_paths.specs.Curves.{twisted}
use Rattle.curve_paths.specs.Twists.{letters}
use Rattle.dehn_twist.proofs.DrawnWords.{letters_of, twisted_words, within_limit}
use Rattle.dehn_twist.proofs.single_twist.twist.Goals as goal

pub returns-clause-turned : goal.returns-clause-turned
returns-clause-turned c =
    let now = ap words c.in_ok-drawing.ensures.drawing ∙ twisted_words c.args.drawing.now.drawing c.args.curve.now c.args.sign in
    c.in_ok-check_letters.ensures.few ∙ ap Ok (sym now)

pub returns-clause-few : goal.returns-clause-few
returns-clause-few c =
    let now = ap words c.in_ok-drawing.ensures.drawing ∙ twisted_words c.args.drawing.now.drawing c.args.curve.now c.args.sign in
    omega (arith, letters_of c.in_ok-drawing.field-0.drawing, ap letters now, within_limit (twisted c.args.drawing.now.drawing.polygon c.args.curve.now c.args.sign (words c.args.drawing.now.drawing)) _ c.in_ok-check_letters.ensures.few)
