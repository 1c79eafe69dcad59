use Rattle.std.proofs.Common.{subst, sym, arith}
use Rattle.obd_base.specs.Lists.{Mem}
use Rattle.generator_list.proofs.NextPoints.{least_less, least_stays}
use Rattle.generator_list.proofs.links.least.Goals.{then-number-least, else-number-least}
use Rattle.generator_list.proofs.links.least.Goals as goal

pub loop-number-preserved : goal.loop-number-preserved
loop-number-preserved c = elim c.if-number-least.branch [
  | then-number-least w ↦
      let (each, one) = least_less c.args.numbers.now c.loop-number.number-index c.loop-number.least c.if-number-least.least (omega arith) w.least-is (omega (arith, w.if-number-least.true, w.least-is)) c.loop-number.invariant.each in
      record { each = each; one = one }
  | else-number-least w ↦ record {
    each = λ k l. let h = least_stays c.args.numbers.now c.loop-number.number-index c.loop-number.least (omega (arith, w.if-number-least.false)) c.loop-number.invariant.each k l in omega (arith, h, w.least-is);
    one = subst (λ x. Mem x c.args.numbers.now) (sym w.least-is) c.loop-number.invariant.one;
  }
]
