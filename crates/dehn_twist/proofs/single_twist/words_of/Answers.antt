use Rattle.std.proofs.Common.{◌≡◌, sym, subst}
use Rattle.std.proofs.lemmas.Result.{IfOk-weaker}
use Rattle.page_surface.specs.Drawing.{words}
use Rattle.curve_paths.specs.Twists.{AreWords}
use Rattle.dehn_twist.proofs.DrawnWords.{are_words}
use Rattle.dehn_twist.proofs.single_twist.words_of.Goals as goal

pub returns-clause-words : goal.returns-clause-words
returns-clause-words c =
    let d = c.args.drawing.now.drawing in
    IfOk-weaker c.words.result (λ now. now ≡ words d) (AreWords d.polygon)
    (λ now is. subst (AreWords d.polygon) (sym is) (are_words d c.points.ensures.valid c.requires)) c.words.ensures
