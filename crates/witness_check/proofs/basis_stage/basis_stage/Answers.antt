use Rattle.std.proofs.Common.{subst, sym}
use Rattle.mod2_rank.specs.Linear.{same_list}
use Rattle.witness_check.specs.Between.{Refutes}
use Rattle.witness_check.specs.OpenBook.{arcs}
use Rattle.witness_check.proofs.BasisStage.{basis_breaks, basis_fault, basis_passed, lent_test, on_good}
use Rattle.witness_check.proofs.HandedOn.{err_of, err_on}
use Rattle.witness_check.proofs.basis_stage.basis_stage.Goals as goal

pub returns-in_err-basis-clause-refuted : goal.returns-in_err-basis-clause-refuted
returns-in_err-basis-clause-refuted c =
    err_of _ c.in_err-basis.field-0.0 c.from_residual.result c.from_residual.ensures.1
    (λ text words after. basis_breaks c.args.surface.now.slid.polygon words text c.args.lines.now after c.in_err-basis.field-0.0 c.in_err-basis.ensures.breaks)

pub returns-clause-passed : goal.returns-clause-passed
returns-clause-passed c =
    on_good c.held.result c.held.ensures.kept
    (λ keeps text words after. basis_passed c.args.surface.now.slid.polygon words text c.args.lines.now after c.next_basis.new.lines c.in_ok-basis.basis c.in_ok-basis.ensures.read
    (lent_test (λ read. same_list read (arcs c.args.surface.now.slid.polygon)) c.as_slice.result.now c.in_ok-basis.basis c.has_basis.result _ c.as_slice.ensures c.has_basis.ensures keeps))

pub returns-clause-refuted : goal.returns-clause-refuted
returns-clause-refuted c =
    err_on c.held.result c.held.ensures.broken
    (λ refusal is text words after. subst (Refutes text) (sym is.1)
    (basis_fault c.args.surface.now.slid.polygon words text c.args.lines.now after c.next_basis.new.lines c.in_ok-basis.basis c.number-line.result c.in_ok-basis.ensures.read c.number-line.ensures.value
    (lent_test (λ read. same_list read (arcs c.args.surface.now.slid.polygon)) c.as_slice.result.now c.in_ok-basis.basis c.has_basis.result _ c.as_slice.ensures c.has_basis.ensures is.0)))
