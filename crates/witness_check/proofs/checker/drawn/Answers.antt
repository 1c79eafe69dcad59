use Rattle.witness_check.proofs.HandedOn.{err_on, lent_words, ok_on}
use Rattle.witness_check.proofs.checker.drawn.Goals as goal

pub returns-clause-passed : goal.returns-clause-passed
returns-clause-passed c =
    ok_on c.drawing_stage.result c.drawing_stage.ensures.passed
    (λ made passed text after. passed text
    (lent_words c.in_ok-book.book.surface.slid.polygon c.as_slice.result.now c.in_ok-book.book.words text c.book_stage.new.lines c.as_slice.ensures (c.in_ok-book.ensures.passed text after)))

pub returns-clause-refuted : goal.returns-clause-refuted
returns-clause-refuted c =
    err_on c.drawing_stage.result c.drawing_stage.ensures.refuted
    (λ refusal refuted text after. refuted text
    (lent_words c.in_ok-book.book.surface.slid.polygon c.as_slice.result.now c.in_ok-book.book.words text c.book_stage.new.lines c.as_slice.ensures (c.in_ok-book.ensures.passed text after)))
