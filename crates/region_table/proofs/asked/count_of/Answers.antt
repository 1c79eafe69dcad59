use Rattle.std.proofs.Common.{ℕ, get_or, arith}
use Rattle.region_table.proofs.AskedSpans.{size_kept, size_met}
use Rattle.region_table.proofs.asked.count_of.Goals as goal
use Rattle.region_table.proofs.asked.count_of.Goals.{then-names-at, else-names-at}

pub loop-at-preserved : goal.loop-at-preserved
loop-at-preserved c =
    let v = c.loop-at.invariant in
    let name : ℕ → ℕ = λ s. get_or c.args.names.now s 0 in
    elim c.if-names-at.branch [
      | then-names-at w ↦ record {
        counted = omega (arith, w.count-is, v.counted, size_met name c.loop-at.at c.args.name w.if-names-at.true);
        few = omega (arith, w.count-is, v.few);
      }
      | else-names-at w ↦ record {
        counted = omega (arith, w.count-is, v.counted, size_kept name c.loop-at.at c.args.name w.if-names-at.false);
        few = omega (arith, w.count-is, v.few);
      }
    ]
