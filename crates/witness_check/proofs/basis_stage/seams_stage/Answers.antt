use Rattle.std.proofs.Common.{subst, sym}
use Rattle.witness_check.specs.Between.{Refutes}
use Rattle.witness_check.specs.OpenBook.{seam_names}
use Rattle.witness_check.specs.Rules.{same_names}
use Rattle.witness_check.proofs.BasisStage.{lent_test, on_good, seams_breaks, seams_fault, seams_passed}
use Rattle.witness_check.proofs.HandedOn.{err_of, err_on}
use Rattle.witness_check.proofs.basis_stage.seams_stage.Goals as goal

pub returns-in_err-seams-clause-refuted : goal.returns-in_err-seams-clause-refuted
returns-in_err-seams-clause-refuted c =
    err_of _ c.in_err-seams.field-0.0 c.from_residual.result c.from_residual.ensures.1
    (λ text words after. seams_breaks c.args.page.now c.args.surface.now.slid.polygon words text c.args.lines.now after c.in_err-seams.field-0.0 c.in_err-seams.ensures.breaks)

pub returns-clause-passed : goal.returns-clause-passed
returns-clause-passed c =
    on_good c.held.result c.held.ensures.kept
    (λ keeps text words after. seams_passed c.args.page.now c.args.surface.now.slid.polygon words text c.args.lines.now after c.next_seams.new.lines c.in_ok-seams.seams c.in_ok-seams.ensures.read
    (lent_test (λ names. same_names names (seam_names c.args.page.now)) c.as_slice.result.now c.in_ok-seams.seams c.has_seams.result _ c.as_slice.ensures c.has_seams.ensures keeps))

pub returns-clause-refuted : goal.returns-clause-refuted
returns-clause-refuted c =
    err_on c.held.result c.held.ensures.broken
    (λ refusal is text words after. subst (Refutes text) (sym is.1)
    (seams_fault c.args.page.now c.args.surface.now.slid.polygon words text c.args.lines.now after c.next_seams.new.lines c.in_ok-seams.seams c.number-line.result c.in_ok-seams.ensures.read c.number-line.ensures.value
    (lent_test (λ names. same_names names (seam_names c.args.page.now)) c.as_slice.result.now c.in_ok-seams.seams c.has_seams.result _ c.as_slice.ensures c.has_seams.ensures is.0)))
