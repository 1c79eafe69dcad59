use Rattle.std.proofs.Common.{◌+◌, ◌-◌, ◌/◌, ◌∙◌, sym, arith}
use Rattle.generator_list.proofs.Sorted.{narrowed_down, narrowed_here, narrowed_out, narrowed_up}
use Rattle.generator_list.proofs.packed.Packed.find.Goals as goal

pub loop-low-preserved-in-Less : goal.loop-low-preserved-in-Less
loop-low-preserved-in-Less c =
    narrowed_up c.args.self.now.lists c.args.list.now c.loop-low.low c.loop-low.high (c.loop-low.low + (c.loop-low.high - c.loop-low.low) / 2) c.item.result.now c.requires c.loop-low.invariant
    (omega arith) (omega (arith, c.loop-low-test.true)) c.item.ensures (sym c.cmp.ensures ∙ c.in-Less.is)

pub returns-in-Equal-clause-some : goal.returns-in-Equal-clause-some
returns-in-Equal-clause-some c =
    narrowed_here c.args.self.now.lists c.args.list.now c.loop-low.low c.loop-low.high (c.loop-low.low + (c.loop-low.high - c.loop-low.low) / 2) c.item.result.now c.requires c.loop-low.invariant
    (omega arith) (omega (arith, c.loop-low-test.true)) c.item.ensures (sym c.cmp.ensures ∙ c.in-Equal.is)

pub loop-low-preserved : goal.loop-low-preserved
loop-low-preserved c =
    narrowed_down c.args.self.now.lists c.args.list.now c.loop-low.low c.loop-low.high (c.loop-low.low + (c.loop-low.high - c.loop-low.low) / 2) c.item.result.now c.requires c.loop-low.invariant
    (omega arith) (omega (arith, c.loop-low-test.true)) c.item.ensures (sym c.cmp.ensures ∙ c.in-Greater.is)

pub returns-clause-none : goal.returns-clause-none
returns-clause-none c = narrowed_out c.args.self.now.lists c.args.list.now c.loop-low.low c.loop-low.high c.loop-low.invariant (omega (arith, c.loop-low-test.false))
