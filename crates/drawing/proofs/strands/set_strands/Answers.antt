use Rattle.std.proofs.Common.{ap, arith}
use Rattle.page_surface.specs.Polygon.{sides}
use Rattle.drawing.proofs.StrandTables.{set_all, set_next}
use Rattle.drawing.proofs.strands.set_strands.Goals as goal

pub loop-strand-preserved : goal.loop-strand-preserved
loop-strand-preserved c =
    let arcs = ap sides c.polygon.ensures.value in
    set_next c.args.layout.now.drawing c.requires.placed c.loop-strand.strand _ _ _ (omega (arith, c.loop-strand-test.true, c.sides-strand-end.ensures.value, arcs)) c.new.ensures
    c.set_strand.auto.table c.loop-strand.invariant c.set_strand.ensures

pub returns : goal.returns
returns c =
    let arcs = ap sides c.polygon.ensures.value in
    set_all c.args.layout.now.drawing c.requires.placed c.loop-strand.strand _ (omega (arith, c.loop-strand-test.false, c.sides-strand-end.ensures.value, arcs)) c.loop-strand.invariant
