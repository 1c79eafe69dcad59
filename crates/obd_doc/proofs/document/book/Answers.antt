use Rattle.std.proofs.Common.{ap, arith, length, map, string_bytes}
use Rattle.std.proofs.lemmas.List.{length-map}
use Rattle.obd_doc.specs.Document.{book_of, book_rules}
use Rattle.curve_paths.specs.declared.named.NamedPath.{NamedPath}
use Rattle.obd_doc.proofs.BookRules.{book_made, curves_refused, twists_refused}
use Rattle.obd_doc.proofs.Rules.{given_on}
use Rattle.obd_doc.proofs.document.book.Goals as goal

pub returns-in_err-curves : goal.returns-in_err-curves
returns-in_err-curves c =
    given_on (book_rules c.args.fields) (book_of c.args.fields) _ _ c.from_residual-in_err-curves.ensures.1
    (λ other. curves_refused c.args.fields c.in_ok-page.page c.as_slice.result.now c.in_ok-page.ensures.1 c.as_slice.ensures c.in_ok-page.ensures.0 _ (c.in_err-curves.ensures.settled other))

pub twists-requires-clause-few_names : goal.twists-requires-clause-few_names
twists-requires-clause-few_names c =
    omega (
      arith,
      length-map c.curves.new.names.keys string_bytes,
      length-map c.as_slice.result.now (λ (p : NamedPath). p.name),
      ap length c.in_ok-curves.ensures.names,
      ap length c.as_slice.ensures,
      c.requires.few.curves,
    )

pub returns-in_err-twists : goal.returns-in_err-twists
returns-in_err-twists c =
    given_on (book_rules c.args.fields) (book_of c.args.fields) _ _ c.from_residual-in_err-twists.ensures.1
    (λ other. twists_refused c.args.fields c.in_ok-page.page c.as_slice.result.now c.in_ok-page.ensures.1 c.as_slice.ensures c.in_ok-page.ensures.0
    (map string_bytes c.curves.new.names.keys) c.as_slice-2.result.now c.in_ok-curves.ensures.names c.as_slice-2.ensures c.in_ok-curves.ensures.settled.0 _ (c.in_err-twists.ensures other))

pub returns : goal.returns
returns c =
    book_made c.args.fields c.in_ok-page.page c.as_slice.result.now c.in_ok-page.ensures.1 c.as_slice.ensures c.in_ok-page.ensures.0
    (map string_bytes c.curves.new.names.keys) c.as_slice-2.result.now c.in_ok-curves.ensures.names c.as_slice-2.ensures c.in_ok-curves.ensures.settled.0
    c.in_ok-curves.curves c.in_ok-twists.twists c.in_ok-curves.ensures.settled.1 c.in_ok-twists.ensures.0 c.in_ok-twists.ensures.1
