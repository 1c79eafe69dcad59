use Rattle.std.proofs.Common.{◌≤◌, length, sym, ◌∙◌, codes, arith}
use Rattle.witness_check.specs.Lines.{number_line}
use Rattle.witness_check.proofs.SlidesStage.{slides_passed, slides_refuted, slides_uncounted}
use Rattle.witness_check.proofs.HandedOn.{err_of, err_on, if_ok, lent_rows, of_ok, ok_on}
use Rattle.witness_check.proofs.Staged.{rows_at_most}
use Rattle.witness_check.proofs.slides_stage.slides_stage.Goals as goal

pub returns-in_err-count-clause-refuted : goal.returns-in_err-count-clause-refuted
returns-in_err-count-clause-refuted c =
    err_of _ c.in_err-count.field-0.0 c.from_residual.result c.from_residual.ensures.1
    (λ text after. slides_uncounted c.args.page.now c.args.curves.now.named text c.args.lines.now after c.next_count.new.lines c.in_err-count.field-0.0 c.in_err-count.ensures.refused)

pub surface_of-found-requires-clause-few : goal.surface_of-found-requires-clause-few
surface_of-found-requires-clause-few c =
    let few : length c.as_slice-2.result.now ≤ 64 = rows_at_most (λ i. number_line (codes "slide")) c.in_ok-count.count c.next_count.new.lines c.read_rows.new.lines c.as_slice-2.result.now c.in_ok-rows.rows.breaks 0 64
    (lent_rows (λ i. number_line (codes "slide")) c.in_ok-count.count c.next_count.new.lines c.read_rows.new.lines c.in_ok-rows.rows.items c.as_slice-2.result.now c.in_ok-rows.rows.breaks c.as_slice-2.ensures c.in_ok-rows.ensures) c.in_ok-count.ensures.within in
    omega (arith, few)

pub returns-clause-passed : goal.returns-clause-passed
returns-clause-passed c =
    ok_on c.settled.result c.settled.ensures.made
    (λ made so text after. slides_passed c.args.page.now c.args.curves.now.named text c.args.lines.now after c.next_count.new.lines c.read_rows.new.lines c.in_ok-count.count c.as_slice-2.result.now c.in_ok-rows.rows.breaks
    c.in_ok-count.ensures.read c.in_ok-count.ensures.within
    (lent_rows (λ i. number_line (codes "slide")) c.in_ok-count.count c.next_count.new.lines c.read_rows.new.lines c.in_ok-rows.rows.items c.as_slice-2.result.now c.in_ok-rows.rows.breaks c.as_slice-2.ensures c.in_ok-rows.ensures) c.as_slice.result.now (sym (c.as_slice.ensures ∙ c.requires.on_page))
    made.slid so.1 (of_ok c.surface_of-found.result made so.0 c.surface_of-found.ensures.kept) (if_ok _ c.surface_of-found.result made so.0 c.surface_of-found.ensures.slid))

pub returns-clause-basis : goal.returns-clause-basis
returns-clause-basis c = ok_on c.settled.result c.settled.ensures.made (λ made so. if_ok _ c.surface_of-found.result made so.0 c.surface_of-found.ensures.basis)

pub returns-clause-curves : goal.returns-clause-curves
returns-clause-curves c = ok_on c.settled.result c.settled.ensures.made (λ made so. if_ok _ c.surface_of-found.result made so.0 c.surface_of-found.ensures.curves)

pub returns-clause-refuted : goal.returns-clause-refuted
returns-clause-refuted c =
    err_on c.settled.result c.settled.ensures.refused
    (λ refusal settles text after. slides_refuted c.args.page.now c.args.curves.now.named text c.args.lines.now after c.next_count.new.lines c.read_rows.new.lines c.in_ok-count.count c.as_slice-2.result.now c.in_ok-rows.rows.breaks
    c.in_ok-count.ensures.read c.in_ok-count.ensures.within
    (lent_rows (λ i. number_line (codes "slide")) c.in_ok-count.count c.next_count.new.lines c.read_rows.new.lines c.in_ok-rows.rows.items c.as_slice-2.result.now c.in_ok-rows.rows.breaks c.as_slice-2.ensures c.in_ok-rows.ensures) c.as_slice.result.now (sym (c.as_slice.ensures ∙ c.requires.on_page))
    c.number-first.result c.surface_of-found.result refusal c.number-first.ensures.value c.number-first.ensures.few c.surface_of-found.ensures.kept c.surface_of-found.ensures.fault settles)
