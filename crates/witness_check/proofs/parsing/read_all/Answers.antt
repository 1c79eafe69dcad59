use Rattle.std.proofs.Common.{refl, arith, ◌∙◌, ap}
use Rattle.witness_check.specs.Forms.{whole}
use Rattle.witness_check.specs.Parsing.{book_fields}
use Rattle.witness_check.specs.Passing.{follows}
use Rattle.witness_check.proofs.parsing.read_all.Goals as goal

pub returns-in-Some-clause-breaks : goal.returns-in-Some-clause-breaks
returns-in-Some-clause-breaks c =
    let (read, taken) = c.in_ok-book.ensures.read in
    let number = c.number-line.ensures.value in
    (follows (book_fields c.in_ok-book.book) _ _ (read ∙ ap (whole (book_fields c.in_ok-book.book)) c.in-Some.ensures.some) (omega (arith, number, taken)), refl)
