use Rattle.witness_check.proofs.HandedOn.{err_of}
use Rattle.witness_check.proofs.book_stage.words_stage.Goals as goal

pub returns-in_err-words-clause-refuted : goal.returns-in_err-words-clause-refuted
returns-in_err-words-clause-refuted c =
    err_of _ c.in_err-words.field-0.0 c.from_residual.result c.from_residual.ensures.1 (λ text after. c.in_err-words.ensures.refuted c.args.page.now text after)

pub returns-in_err-joined_stage-clause-refuted : goal.returns-in_err-joined_stage-clause-refuted
returns-in_err-joined_stage-clause-refuted c =
    err_of _ c.in_err-joined_stage.field-0.0 c.from_residual-in_err-joined_stage.result c.from_residual-in_err-joined_stage.ensures.1
    (λ text after. c.in_err-joined_stage.ensures.refuted text c.in_ok-words.words (c.in_ok-words.ensures.passed c.args.page.now text after))

pub returns-clause-passed : goal.returns-clause-passed
returns-clause-passed c text after = c.in_ok-joined_stage.ensures.passed text c.in_ok-words.words (c.in_ok-words.ensures.passed c.args.page.now text after)
