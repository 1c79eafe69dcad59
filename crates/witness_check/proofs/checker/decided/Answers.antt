use Rattle.std.proofs.Common.{length, map}
use Rattle.mod2_rank.proofs.Increasing.{all_ascend}
use Rattle.witness_check.proofs.HandedOn.{lent_columns}
use Rattle.witness_check.proofs.checker.decided.Goals as goal

pub outcome_stage-requires-clause-ascend : goal.outcome_stage-requires-clause-ascend
outcome_stage-requires-clause-ascend c =
    lent_columns c.as_slice.result.now c.in_ok-columns.columns c.count.result (length c.args.drawn.now.generators) c.as_slice.ensures c.count.ensures.value
    (all_ascend (length c.args.drawn.now.generators) (map (λ column. column.rows) c.in_ok-columns.columns) c.in_ok-columns.ensures.ascend c.in_ok-columns.ensures.below)
