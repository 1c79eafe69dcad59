use Rattle.std.proofs.Common.{◌≡◌, ◌*◌, ◌-ℤ◌, int_eq, pos, subst}
use Rattle.std.specs.Prelude.{Ok}
use Rattle.witness_check.proofs.HandedOn.{err_of, err_on}
use Rattle.witness_check.proofs.OneRule.{held_true, homology_again, ok_then}
use Rattle.witness_check.proofs.OutcomeStage.{homology_passed, homology_refuted, homology_unread}
use Rattle.witness_check.proofs.outcome_stage.homology_stage.Goals as goal

pub returns-in_err-homology-clause-refuted : goal.returns-in_err-homology-clause-refuted
returns-in_err-homology-clause-refuted c =
    err_of _ c.in_err-homology.field-0.0 c.from_residual.result c.from_residual.ensures.1
    (λ columns text after. homology_unread columns c.args.rows c.args.rank text c.args.lines.now after c.in_err-homology.field-0.0 c.in_err-homology.ensures.breaks)

pub returns-clause-passed : goal.returns-clause-passed
returns-clause-passed c =
    let right = subst (λ z. c.is_homology-right.result ≡ int_eq z (pos c.args.rows -ℤ pos (2 * c.args.rank)))
    (homology_again c.args.lines.now c.next_homology.new.lines c.in_ok-homology.homology c.in_ok-homology.ensures.read) c.is_homology-right.ensures in
    ok_then c.held.result c.held.ensures.made
    (λ made so columns text after. homology_passed columns c.args.rows c.args.rank text c.args.lines.now after c.next_homology.new.lines c.in_ok-homology.homology c.in_ok-homology.ensures.read
    (held_true (Ok c.is_homology-right.result) so.1 right))

pub returns-clause-refuted : goal.returns-clause-refuted
returns-clause-refuted c =
    let right = subst (λ z. c.is_homology-right.result ≡ int_eq z (pos c.args.rows -ℤ pos (2 * c.args.rank)))
    (homology_again c.args.lines.now c.next_homology.new.lines c.in_ok-homology.homology c.in_ok-homology.ensures.read) c.is_homology-right.ensures in
    err_on c.held.result c.held.ensures.refused
    (λ refusal untrue columns text after. homology_refuted columns c.args.rows c.args.rank text c.args.lines.now after c.next_homology.new.lines c.in_ok-homology.homology c.number-line.result (Ok c.is_homology-right.result) refusal
    c.in_ok-homology.ensures.read c.number-line.ensures.value right untrue)
