use Rattle.std.proofs.Common.{subst, arith}
use Rattle.handle_slide.specs.Refused.{IsLong}
use Rattle.handle_slide.proofs.FirstLong.{long_here}
use Rattle.handle_slide.proofs.top.slid_curves.Goals as goal

pub returns-in-Err-clause-long : goal.returns-in-Err-clause-long
returns-in-Err-clause-long c = λ other.
    long_here c.args.polygon.now c.args.side c.args.curves.now c.loop-number.number c.index-curves-number.result c.in-Err.refusal (omega (arith, c.loop-number-test.true)) c.index-curves-number.is
    c.loop-number.invariant.1 (subst (λ o. IsLong c.args.polygon.now c.args.side c.loop-number.number o c.in-Err.refusal) c.as_ref.ensures.value (c.in-Err.ensures.long other))
