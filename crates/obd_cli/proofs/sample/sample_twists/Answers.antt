use Rattle.std.proofs.Common.{arith}
use Rattle.obd_cli.proofs.SampleBook.{are_sample, number_more, twists_more}
use Rattle.obd_cli.proofs.sample.sample_twists.Goals as goal

pub loop-preserved : goal.loop-preserved
loop-preserved c = record {
  twists =
      twists_more c.args.seed c.loop.counter c.loop.number c.next-about.result c.next-number.result c.loop.invariant.number c.next-about.ensures.value c.next-number.ensures.value
      c.loop.twists c.push.new.self c.entry.result c.loop.invariant.twists c.entry.ensures (c.in_ok-push.ensures.ok);
  number = number_more c.args.seed c.loop.counter c.loop.number c.next-about.result c.next-number.result c.loop.invariant.number c.next-about.ensures.value c.next-number.ensures.value;
  small = c.next-number.ensures.small;
}

pub returns : goal.returns
returns c = are_sample c.args.seed c.args.count c.loop.counter c.loop.twists c.loop.invariant.twists (omega (arith, c.loop-test.false, c.loop.auto.counter-end))
