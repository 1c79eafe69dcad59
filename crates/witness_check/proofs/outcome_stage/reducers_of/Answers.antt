use Rattle.std.proofs.Common.{refl}
use Rattle.mod2_rank.proofs.GivenVerdict.{rows_of}
use Rattle.witness_check.proofs.OutcomeStage.{pivots_kept, pivots_stop}
use Rattle.witness_check.proofs.outcome_stage.reducers_of.Goals as goal

pub returns-in-Ok-clause-kept : goal.returns-in-Ok-clause-kept
returns-in-Ok-clause-kept c = pivots_kept (rows_of c.args.columns.now) c.args.rows c.args.pivots.now c.in-Ok.ensures.passes

pub returns-in-Err-Bad-clause-fault : goal.returns-in-Err-Bad-clause-fault
returns-in-Err-Bad-clause-fault c =
    pivots_stop (rows_of c.args.columns.now) c.args.rows c.args.pivots.now c.in-Err-Bad.at _ (c.in-Err-Bad.ensures.bad c.in-Err-Bad.at c.in-Err-Bad.field-0-is) refl
