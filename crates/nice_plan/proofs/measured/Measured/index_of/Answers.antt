use Rattle.std.proofs.Common.{◌∙◌, sym, arith}
use Rattle.nice_plan.proofs.MeasuredReads.{on_span, segment_found}
use Rattle.nice_plan.proofs.PathSteps.{not_here}
use Rattle.nice_plan.proofs.measured.Measured.index_of.Goals as goal

pub loop-index-init : goal.loop-index-init
loop-index-init c =
    let m = c.args.self.now in
    let (j, l, e) = segment_found m c.size-index-end.ensures.known c.args.piece c.requires.piece _ (on_span m.drawing c.args.segment.now c.requires.there) c.requires.inside in
    (j, omega arith, l, e)

pub loop-index-preserved : goal.loop-index-preserved
loop-index-preserved c =
    let m = c.args.self.now in
    let (j, low, l, e) = c.loop-index.invariant in
    let h = not_here m c.args.piece c.loop-index.index j c.segment.result c.args.segment.now c.segment.ensures.there c.requires.there c.segment.ensures.number e (sym c.eq.ensures ∙ c.if-eq.false) low in
    (j, omega (arith, h), l, e)

pub unreachable-requires : goal.unreachable-requires
unreachable-requires c =
    let (j, low, l, e) = c.loop-index.invariant in
    omega (arith, low, l, c.loop-index-test.false, c.size-index-end.ensures.value)
