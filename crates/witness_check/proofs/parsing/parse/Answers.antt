use Rattle.witness_check.specs.Parsing.{book_fields}
use Rattle.witness_check.proofs.ParseLaw.{first_lacks, refused_for, text_read}
use Rattle.witness_check.proofs.parsing.parse.Goals as goal

pub returns-in_default-clause-form : goal.returns-in_default-clause-form
returns-in_default-clause-form c = first_lacks c.args.text.now c.in_default.ensures.none

pub returns-in_err-book-clause-form : goal.returns-in_err-book-clause-form
returns-in_err-book-clause-form c =
    let (read, taken) = c.in-Some.ensures.some in
    refused_for c.args.text.now c.in-Some.lines read taken c.in_err-book.field-0.0 c.in_err-book.ensures.breaks c.from_residual.result c.from_residual.ensures.1

pub returns-clause-ok : goal.returns-clause-ok
returns-clause-ok c =
    text_read c.args.text.now c.in-Some.lines.left (book_fields c.in_ok-book.book) c.certificate_of.result c.in-Some.ensures.some.0 c.in_ok-book.ensures.read c.certificate_of.ensures
