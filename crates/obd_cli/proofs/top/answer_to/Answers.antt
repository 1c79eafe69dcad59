use Rattle.std.proofs.Common.{sym}
use Rattle.obd_doc.proofs.Laws.{read_is_book}
use Rattle.obd_cli.proofs.Built.{book_answers}
use Rattle.obd_cli.proofs.LimitRead.{limits_read}
use Rattle.obd_cli.proofs.top.answer_to.Goals as goal

pub returns-in-Ok-clause-answered : goal.returns-in-Ok-clause-answered
returns-in-Ok-clause-answered c = book_answers c.args.wanted c.args.bytes.now c.in-Ok.book c.answer_to_book.result (sym c.in-Ok.ensures.accepted) c.answer_to_book.ensures.answered

pub answer_to_book-requires-clause-valid : goal.answer_to_book-requires-clause-valid
answer_to_book-requires-clause-valid c = read_is_book c.args.bytes.now c.in-Ok.book c.in-Ok.ensures.accepted

pub answer_to_book-requires-clause-most_moves : goal.answer_to_book-requires-clause-most_moves
answer_to_book-requires-clause-most_moves c = (limits_read c.args.bytes.now c.in-Ok.book c.in-Ok.ensures.accepted).0

pub answer_to_book-requires-clause-most_generators : goal.answer_to_book-requires-clause-most_generators
answer_to_book-requires-clause-most_generators c = (limits_read c.args.bytes.now c.in-Ok.book c.in-Ok.ensures.accepted).1
