use Rattle.std.proofs.Common.{ap, option_map, sym, ◌∙◌}
use Rattle.serde_json.specs.View.{view}
use Rattle.obd_doc.proofs.Accepted.{book_accepted, book_refused, counts_refused, fields_refused, given_error}
use Rattle.obd_doc.proofs.Few.{document_fewer}
use Rattle.obd_doc.proofs.document.read.Goals as goal

pub check_counts-requires : goal.check_counts-requires
check_counts-requires c =
    let is = ap (option_map view) (sym c.in-Some.is) ∙ c.in_ok-document.ensures in
    document_fewer c.args.bytes.now (view c.in-Some.document) (sym is) c.requires c.in_ok-fields.fields c.in_ok-fields.ensures.settled.1

pub book-requires-clause-few : goal.book-requires-clause-few
book-requires-clause-few c =
    let is = ap (option_map view) (sym c.in-Some.is) ∙ c.in_ok-document.ensures in
    document_fewer c.args.bytes.now (view c.in-Some.document) (sym is) c.requires c.in_ok-fields.fields c.in_ok-fields.ensures.settled.1

pub returns-in_err-fields-clause-refused : goal.returns-in_err-fields-clause-refused
returns-in_err-fields-clause-refused c =
    let is = ap (option_map view) (sym c.in-Some.is) ∙ c.in_ok-document.ensures in
    given_error c.args.bytes.now _ _ c.from_residual-in_err-fields.ensures.1
    (λ other. fields_refused c.args.bytes.now (view c.in-Some.document) is _ (c.in_err-fields.ensures.settled other))

pub returns-in_err-check_counts-clause-refused : goal.returns-in_err-check_counts-clause-refused
returns-in_err-check_counts-clause-refused c =
    let is = ap (option_map view) (sym c.in-Some.is) ∙ c.in_ok-document.ensures in
    given_error c.args.bytes.now _ _ c.from_residual-in_err-check_counts.ensures.1
    (λ other. counts_refused c.args.bytes.now (view c.in-Some.document) is c.in_ok-fields.ensures.settled.0 c.in_ok-fields.fields c.in_ok-fields.ensures.settled.1 _
    (c.in_err-check_counts.ensures other))

pub returns-clause-accepted : goal.returns-clause-accepted
returns-clause-accepted c =
    let is = ap (option_map view) (sym c.in-Some.is) ∙ c.in_ok-document.ensures in
    book_accepted c.args.bytes.now (view c.in-Some.document) is c.in_ok-fields.ensures.settled.0 c.in_ok-fields.fields c.in_ok-fields.ensures.settled.1 c.in_ok-check_counts.ensures.0
    c.book.result c.book.ensures

pub returns-clause-refused : goal.returns-clause-refused
returns-clause-refused c =
    let is = ap (option_map view) (sym c.in-Some.is) ∙ c.in_ok-document.ensures in
    book_refused c.args.bytes.now (view c.in-Some.document) is c.in_ok-fields.ensures.settled.0 c.in_ok-fields.fields c.in_ok-fields.ensures.settled.1 c.in_ok-check_counts.ensures.0
    c.book.result c.book.ensures
