use Rattle.std.proofs.Common.{◌≤◌, length, subst, sym}
use Rattle.witness_check.proofs.BookStage.{lent_curves}
use Rattle.witness_check.proofs.HandedOn.{err_of}
use Rattle.witness_check.proofs.book_stage.surface_stage.Goals as goal

pub words_stage-requires-clause-few : goal.words_stage-requires-clause-few
words_stage-requires-clause-few c = subst (λ named. length named ≤ 32) (sym c.as_slice.ensures) c.requires.few

pub returns-in_err-words-clause-refuted : goal.returns-in_err-words-clause-refuted
returns-in_err-words-clause-refuted c =
    err_of _ c.in_err-words.field-0.0 c.from_residual-in_err-words.result c.from_residual-in_err-words.ensures.1
    (λ text after. c.in_err-words.ensures.refuted text
    (lent_curves c.args.page.now c.as_slice.result.now c.args.curves.now.named c.in_ok-surface.surface.slid text c.slides_stage.new.lines c.as_slice.ensures (c.in_ok-surface.ensures.passed text after)))

pub returns-clause-passed : goal.returns-clause-passed
returns-clause-passed c text after = c.in_ok-words.ensures.passed text
    (lent_curves c.args.page.now c.as_slice.result.now c.args.curves.now.named c.in_ok-surface.surface.slid text c.slides_stage.new.lines c.as_slice.ensures (c.in_ok-surface.ensures.passed text after))
