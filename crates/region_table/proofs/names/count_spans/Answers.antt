use Rattle.std.proofs.Common.{◌<◌, ◌+◌, length, get_or, ◌∙◌, refl, arith}
use Rattle.std.proofs.lemmas.List.{length-set}
use Rattle.region_table.proofs.CountSteps.{count_met, still_few}
use Rattle.region_table.proofs.names.count_spans.Goals as goal

pub loop-at-preserved : goal.loop-at-preserved
loop-at-preserved c =
    let v = c.loop-at.invariant in
    let x = c.loop-at.at in
    let name = get_or c.args.names.now x 0 in
    let label = get_or c.loop-at.sizes name 0 + 1 in
    let inside = c.requires.told x c.loop-at-test.true in
    let fits : name < length c.loop-at.sizes = omega (arith, inside, v.size) in
    record {
      counted = count_met (λ s. get_or c.args.names.now s 0) x (x + 1) c.loop-at.sizes c.loop-at.firsts v.counted refl fits label c.first_met.result refl c.first_met.ensures (omega (arith, inside, c.requires.as_many, v.first_size));
      size = length-set c.loop-at.sizes name label ∙ v.size;
      first_size = length-set c.loop-at.firsts name c.first_met.result ∙ v.first_size;
      small = still_few c.loop-at.sizes name label x (x + 1) refl fits refl v.small;
    }
