use Rattle.std.proofs.Common.{◌<◌, ◌+◌, length, get_or, ◌∙◌, arith}
use Rattle.std.proofs.lemmas.List.{length-set}
use Rattle.region_table.specs.FingerLists.{begins_later}
use Rattle.region_table.proofs.Written.{left_more, written_more}
use Rattle.region_table.proofs.frame.write_starts.Goals as goal

pub loop-side-preserved : goal.loop-side-preserved
loop-side-preserved c =
    let v = c.loop-side.invariant in
    let n = c.loop-side.side in
    let fits : n < length c.loop-side.starts = omega (arith, c.loop-side-test.true, v.size) in
    record {
      size = length-set c.loop-side.starts n _ ∙ v.size;
      done = written_more 0 (λ k. get_or c.args.starts.now k 0 + begins_later c.args.one c.args.other k) c.loop-side.starts n _ fits
          (omega (arith, v.left n (omega arith), c.later.ensures, c.later-in-loop-side.ensures)) v.done;
      left = left_more 0 c.loop-side.starts c.args.starts.now n _ v.left;
    }
