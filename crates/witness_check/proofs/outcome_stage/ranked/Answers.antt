use Rattle.std.proofs.Common.{sym, subst}
use Rattle.mod2_rank.specs.Ascending.{AllAscend}
use Rattle.mod2_rank.proofs.GivenVerdict.{rows_of}
use Rattle.witness_check.specs.Between.{AfterRank}
use Rattle.witness_check.proofs.HandedOn.{err_on, ok_on}
use Rattle.witness_check.proofs.outcome_stage.ranked.Goals as goal

pub rank_stage-requires : goal.rank_stage-requires
rank_stage-requires c = subst (λ n. AllAscend n (rows_of c.args.columns.now)) (sym c.in_ok-reducers.ensures.rows) c.requires.ascend

pub returns-clause-passed : goal.returns-clause-passed
returns-clause-passed c =
    ok_on c.rank_stage.result c.rank_stage.ensures.passed
    (λ r passed text after. subst (λ n. AfterRank (rows_of c.args.columns.now) n r text c.rank_stage.new.lines) c.in_ok-reducers.ensures.rows (passed text (c.in_ok-reducers.ensures.passed text after)))

pub returns-clause-refuted : goal.returns-clause-refuted
returns-clause-refuted c = err_on c.rank_stage.result c.rank_stage.ensures.refuted (λ refusal refuted text after. refuted text (c.in_ok-reducers.ensures.passed text after))
