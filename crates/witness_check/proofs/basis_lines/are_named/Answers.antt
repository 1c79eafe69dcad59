use Rattle.std.proofs.Common.{◌∙◌, [], arith, false, sym}
use Rattle.std.specs.Str.{bytes_eq}
use Rattle.witness_check.specs.BookRules.{label_names}
use Rattle.witness_check.proofs.SameLists.{all_alike, name_at, name_count, names_by, tells_at, uneven, unlike}
use Rattle.witness_check.proofs.basis_lines.are_named.Goals as goal

pub returns-then-names-labels : goal.returns-then-names-labels
returns-then-names-labels c =
    sym (names_by c.args.names.now _ ∙ uneven bytes_eq c.args.names.now (label_names c.args.page.now c.args.labels.now)
    (λ even. c.if-names-labels.true (even ∙ name_count c.args.page.now c.args.labels.now)))

pub returns-then-not-is_named : goal.returns-then-not-is_named
returns-then-not-is_named c =
    sym (names_by c.args.names.now _ ∙ unlike bytes_eq c.args.names.now (label_names c.args.page.now c.args.labels.now) c.loop-number.number c.index-names-number.result []
    c.loop-number-test.true (omega (arith, c.loop-number-test.true, c.if-names-labels.false, name_count c.args.page.now c.args.labels.now))
    (tells_at bytes_eq c.args.names.now (label_names c.args.page.now c.args.labels.now) c.loop-number.number c.index-names-number.result [] _ _ c.is_named.result false c.index-names-number.is
    (name_at c.args.page.now c.args.labels.now c.loop-number.number c.index-labels-number.result (omega (arith, c.loop-number-test.true, c.if-names-labels.false)) c.index-labels-number.is) c.is_named.ensures c.if-not-is_named.true))

pub returns : goal.returns
returns c =
    sym (names_by c.args.names.now _ ∙ all_alike bytes_eq c.args.names.now (label_names c.args.page.now c.args.labels.now) c.loop-number.number
    (c.if-names-labels.false ∙ sym (name_count c.args.page.now c.args.labels.now)) c.loop-number-test.false c.loop-number.invariant)
