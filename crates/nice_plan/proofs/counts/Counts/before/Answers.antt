use Rattle.std.proofs.Common.{sum, ap, arith}
use Rattle.std.proofs.lemmas.List.Sums.{sum_by-take-le}
use Rattle.nice_plan.proofs.SumTree.{half_power, step_up_even, step_up_odd}
use Rattle.nice_plan.proofs.counts.Counts.before.Goals as goal
use Rattle.nice_plan.proofs.counts.Counts.before.Goals.{then-at-eq1, else-at-eq1}

pub overflow_add-sum : goal.overflow_add-sum
overflow_add-sum c =
    let h = c.loop-first.invariant in
    let nodes = c.self.inside.sums.items in
    let a = step_up_odd c.self.inside.leaves nodes c.self.invariant c.loop-first.first c.loop-first.at c.loop-first.sum _ _ _ h.power c.loop-first-test.true h.level h.inside c.if-at-eq1.true h.sum c.index.ensures in
    let b = sum_by-take-le (λ x. x) c.args.self.now c.args.place in
    let e = ap sum c.self.view_is in
    omega (arith, a, b, e, c.self.invariant.few)

pub loop-first-preserved : goal.loop-first-preserved
loop-first-preserved c =
    let h = c.loop-first.invariant in
    let nodes = c.self.inside.sums.items in
    let (half, power) = half_power c.loop-first.first h.power c.loop-first-test.true in
    record {
      power = power;
      level = omega (arith, h.level);
      inside = omega (arith, half, h.inside);
      sum = elim c.if-at-eq1.branch [
        | then-at-eq1 w ↦ (
            let a = step_up_odd c.self.inside.leaves nodes c.self.invariant c.loop-first.first c.loop-first.at c.loop-first.sum _ _ _ h.power c.loop-first-test.true h.level h.inside w.if-at-eq1.true h.sum w.index.ensures in
            omega (arith, a, w.sum-is))
        | else-at-eq1 w ↦ (
            let a = step_up_even c.self.inside.leaves nodes c.self.invariant c.loop-first.first c.loop-first.at c.loop-first.sum _ h.power c.loop-first-test.true h.level h.inside w.if-at-eq1.false h.sum in
            omega (arith, a, w.sum-is))
      ];
    }
