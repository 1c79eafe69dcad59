use Rattle.std.proofs.Common.{◌<◌, cond, eqb, not, ◌&&◌, length, get_or, ◌∙◌, ap, arith}
use Rattle.std.proofs.lemmas.List.{length-set}
use Rattle.region_table.specs.FingerLists.{comes_in_front, renamed_part}
use Rattle.region_table.proofs.Written.{left_more, written_more}
use Rattle.region_table.proofs.entries.rename_part.Goals as goal

pub loop-span-preserved : goal.loop-span-preserved
loop-span-preserved c =
    let v = c.loop-span.invariant in
    let n = c.loop-span.span in
    let split = c.args.split in
    let fits : n < length c.loop-span.names = omega (arith, c.loop-span-test.true, v.size) in
    record {
      size = length-set c.loop-span.names n _ ∙ v.size;
      done = written_more 0 (renamed_part split.piece split.part (comes_in_front split.from split.entered) (λ s. get_or c.args.names.now s 0)) c.loop-span.names n _ fits
          (c.renamed.ensures ∙ ap (λ x. cond (eqb x split.piece && not (comes_in_front split.from split.entered n)) split.part x) (v.left n (omega arith))) v.done;
      left = left_more 0 c.loop-span.names c.args.names.now n _ v.left;
    }
