use Rattle.std.proofs.Common.{◌≤◌, subst, sym}
use Rattle.std.specs.Prelude.{IfOk}
use Rattle.obd_doc.specs.Document.{IsBook}
use Rattle.obd_doc.specs.declared.book.Book.{Book}
use Rattle.obd_cli.specs.Answers.{AnswersBook}
use Rattle.obd_cli.specs.declared.status.Wanted.TheVariants as wanted
use Rattle.obd_cli.proofs.SampleBook.{sample_generators, sample_is_book, sample_moves}
use Rattle.obd_cli.proofs.top.answer_to_sample.Goals as goal

pub answer_to_book-requires-clause-valid : goal.answer_to_book-requires-clause-valid
answer_to_book-requires-clause-valid c = subst IsBook (sym c.in_ok-book.ensures) (sample_is_book c.args.seed c.args.twists)

pub answer_to_book-requires-clause-most_moves : goal.answer_to_book-requires-clause-most_moves
answer_to_book-requires-clause-most_moves c = subst (λ (book : Book). book.limits.moves ≤ 20000) (sym c.in_ok-book.ensures) (sample_moves c.args.seed c.args.twists)

pub answer_to_book-requires-clause-most_generators : goal.answer_to_book-requires-clause-most_generators
answer_to_book-requires-clause-most_generators c = subst (λ (book : Book). book.limits.generators ≤ 20000) (sym c.in_ok-book.ensures) (sample_generators c.args.seed c.args.twists)

pub returns-clause-answered : goal.returns-clause-answered
returns-clause-answered c =
    subst (λ (book : Book). IfOk c.answer_to_book.result (AnswersBook (wanted.Summary c.args.seed c.args.twists) book)) c.in_ok-book.ensures c.answer_to_book.ensures.answered
