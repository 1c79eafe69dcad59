use Rattle.witness_check.specs.Lines.{twist_line}
use Rattle.witness_check.proofs.TwistsStage.{twists_passed, twists_refuted, twists_uncounted}
use Rattle.witness_check.proofs.HandedOn.{err_of, err_on, if_ok, lent_rows, of_ok, ok_on}
use Rattle.witness_check.proofs.Staged.{rows_at_most}
use Rattle.witness_check.proofs.twists_stage.twists_stage.Goals as goal

pub returns-in_err-count-clause-refuted : goal.returns-in_err-count-clause-refuted
returns-in_err-count-clause-refuted c =
    err_of _ c.in_err-count.field-0.0 c.from_residual.result c.from_residual.ensures.1
    (λ page text after. twists_uncounted page c.args.curves.now c.args.surface.now.slid text c.args.lines.now after c.next_count.new.lines c.in_err-count.field-0.0 c.in_err-count.ensures.refused)

pub words_of-found-requires-clause-few : goal.words_of-found-requires-clause-few
words_of-found-requires-clause-few c =
    rows_at_most (λ i. twist_line) c.in_ok-count.count c.next_count.new.lines c.read_rows.new.lines c.as_slice.result.now c.in_ok-rows.rows.breaks 0 256
    (lent_rows (λ i. twist_line) c.in_ok-count.count c.next_count.new.lines c.read_rows.new.lines c.in_ok-rows.rows.items c.as_slice.result.now c.in_ok-rows.rows.breaks c.as_slice.ensures c.in_ok-rows.ensures) c.in_ok-count.ensures.within

pub returns-clause-passed : goal.returns-clause-passed
returns-clause-passed c =
    ok_on c.settled.result c.settled.ensures.made
    (λ made so page text after. twists_passed page c.args.curves.now c.args.surface.now.slid text c.args.lines.now after c.next_count.new.lines c.read_rows.new.lines c.in_ok-count.count c.as_slice.result.now c.in_ok-rows.rows.breaks
    c.in_ok-count.ensures.read c.in_ok-count.ensures.within (lent_rows (λ i. twist_line) c.in_ok-count.count c.next_count.new.lines c.read_rows.new.lines c.in_ok-rows.rows.items c.as_slice.result.now c.in_ok-rows.rows.breaks c.as_slice.ensures c.in_ok-rows.ensures)
    made so.1 (of_ok c.words_of-found.result made so.0 c.words_of-found.ensures.kept) (if_ok _ c.words_of-found.result made so.0 c.words_of-found.ensures.words))

pub returns-clause-words : goal.returns-clause-words
returns-clause-words c = ok_on c.settled.result c.settled.ensures.made (λ made so. if_ok _ c.words_of-found.result made so.0 c.words_of-found.ensures.of_strands)

pub returns-clause-refuted : goal.returns-clause-refuted
returns-clause-refuted c =
    err_on c.settled.result c.settled.ensures.refused
    (λ refusal settles page text after. twists_refuted page c.args.curves.now c.args.surface.now.slid text c.args.lines.now after c.next_count.new.lines c.read_rows.new.lines c.in_ok-count.count c.as_slice.result.now c.in_ok-rows.rows.breaks
    c.in_ok-count.ensures.read c.in_ok-count.ensures.within (lent_rows (λ i. twist_line) c.in_ok-count.count c.next_count.new.lines c.read_rows.new.lines c.in_ok-rows.rows.items c.as_slice.result.now c.in_ok-rows.rows.breaks c.as_slice.ensures c.in_ok-rows.ensures)
    c.number-first.result c.words_of-found.result refusal c.number-first.ensures.value c.number-first.ensures.few c.words_of-found.ensures.kept c.words_of-found.ensures.fault settles)
