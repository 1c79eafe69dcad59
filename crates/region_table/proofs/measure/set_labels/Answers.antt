use Rattle.std.proofs.Common.{◌<◌, false, length, get_or, ◌∙◌, arith}
use Rattle.std.proofs.lemmas.List.{length-set}
use Rattle.region_table.specs.Counted.{first_label}
use Rattle.region_table.proofs.Written.{written_more}
use Rattle.region_table.proofs.measure.set_labels.Goals as goal

pub loop-name-preserved : goal.loop-name-preserved
loop-name-preserved c =
    let v = c.loop-name.invariant in
    let n = c.loop-name.name in
    let fits : n < length c.loop-name.labels = omega (arith, c.loop-name-test.true, v.size, c.requires) in
    record {
      size = length-set c.loop-name.labels n _ ∙ v.size;
      so_far = written_more 0 (λ p. first_label c.args.bound (get_or c.args.bases.now p false)) c.loop-name.labels n _ fits c.first_label.ensures v.so_far;
    }
