use Rattle.std.proofs.Common.{arith}
use Rattle.witness_check.proofs.Numbered.{row_lines_next}
use Rattle.witness_check.proofs.line.put_rows.Goals as goal

pub loop-number-preserved : goal.loop-number-preserved
loop-number-preserved g c =
    row_lines_next c.args.kind.now g.T.Word.word c.args.rows.now c.index-rows-number.result c.as_slice.result.now c.loop-number.number _ _ _
    (omega arith) c.index-rows-number.is c.as_slice.ensures c.loop-number.invariant c.in_ok-put_numbered.ensures
