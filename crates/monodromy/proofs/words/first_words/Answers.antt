use Rattle.std.proofs.Common.{◌≡◌, ◌∙◌, ap, arith, subst, sym}
use Rattle.std.proofs.lemmas.Result.{IfOk-weaker}
use Rattle.page_surface.specs.Drawing.{words}
use Rattle.curve_paths.specs.Curves.{identity_words}
use Rattle.curve_paths.specs.Twists.{AreWords}
use Rattle.dehn_twist.proofs.Laws.{words_of_identity}
use Rattle.monodromy.proofs.FirstWords.{identity_are_words}
use Rattle.monodromy.proofs.words.first_words.Goals as goal

pub returns-clause-value : goal.returns-clause-value
returns-clause-value c =
    let p = c.args.polygon.now in
    IfOk-weaker c.words.result (λ ws. ws ≡ words c.in_ok-drawing.drawing.drawing) (λ ws. ws ≡ identity_words p) (λ ws is. is ∙ (ap words c.in_ok-drawing.ensures ∙ words_of_identity p)) c.words.ensures

pub returns-clause-words : goal.returns-clause-words
returns-clause-words c =
    let p = c.args.polygon.now in
    IfOk-weaker c.words.result (λ ws. ws ≡ words c.in_ok-drawing.drawing.drawing) (AreWords p)
    (λ ws is. subst (AreWords p) (sym (is ∙ (ap words c.in_ok-drawing.ensures ∙ words_of_identity p))) (identity_are_words p c.sides.ensures.valid (omega (arith, c.sides.ensures.value, c.sides.ensures.most)))) c.words.ensures
