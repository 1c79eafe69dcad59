use Rattle.std.proofs.Common.{get_or, ap, ◌∙◌, arith}
use Rattle.std.proofs.lemmas.List.{get_or_read}
use Rattle.handle_slide.proofs.SideTables.{renumbered_more}
use Rattle.handle_slide.proofs.sides.renumbered.Goals as goal

pub bounds-numbers-number : goal.bounds-numbers-number
bounds-numbers-number c =
    let l = c.requires.valid.pairs.in_range c.side-item.result (rw c.side-item.is (c.requires.in_range c.loop-side.side-index c.side-item.result (omega (arith, c.loop-side-test.true)))) in
    omega (arith, l, c.number.ensures.value, c.pair.ensures, c.requires.size)

pub loop-side-preserved : goal.loop-side-preserved
loop-side-preserved c =
    let l = c.requires.valid.pairs.in_range c.side-item.result (rw c.side-item.is (c.requires.in_range c.loop-side.side-index c.side-item.result (omega (arith, c.loop-side-test.true)))) in
    renumbered_more c.args.polygon.now c.args.numbers.now c.args.order.now c.loop-side.side-index c.side-item.result c.index-numbers-number.result c.loop-side.pairs.items c.push.new.self.items
    (omega (arith, c.loop-side-test.true)) c.side-item.is
    (get_or_read c.args.numbers.now c.number.result c.index-numbers-number.result (omega (arith, l, c.number.ensures.value, c.pair.ensures, c.requires.size)) c.index-numbers-number.is 0
    ∙ ap (λ i. get_or c.args.numbers.now i 0) (c.number.ensures.value ∙ c.pair.ensures)) c.loop-side.invariant c.in_ok-push.ensures.items
