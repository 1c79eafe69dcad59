use Rattle.std.proofs.Common.{arith, ap, get_or}
use Rattle.drawing.specs.ThinTables.{thinned_by}
use Rattle.drawing.proofs.RoomTables.{vector_unread, vector_written, vectors_all}
use Rattle.drawing.proofs.thinning.thin_strands.Goals as goal

pub thin_strand-requires : goal.thin_strand-requires
thin_strand-requires c = λ e m.
    let f = thinned_by c.args.offsets.now c.args.gone.now c.args.places.now in
    c.requires _ (vector_unread f c.args.strands.now c.loop-strand.strands c.loop-strand.strand c.loop-strand.invariant c.loop-strand-test.true
    (omega (arith, c.loop-strand-test.true, c.loop-strand.auto.strands)) (get_or c.loop-strand.strands c.loop-strand.strand c.index-strands-strand.result) (ap (get_or c.loop-strand.strands c.loop-strand.strand) c.index-strands-strand.is)) e m

pub loop-strand-preserved : goal.loop-strand-preserved
loop-strand-preserved c =
    let f = thinned_by c.args.offsets.now c.args.gone.now c.args.places.now in
    vector_written f c.args.strands.now c.loop-strand.strands c.loop-strand.strand c.loop-strand.invariant c.loop-strand-test.true
    (omega (arith, c.loop-strand-test.true, c.loop-strand.auto.strands)) (get_or c.loop-strand.strands c.loop-strand.strand c.index-strands-strand.result) (ap (get_or c.loop-strand.strands c.loop-strand.strand) c.index-strands-strand.is) _ c.thin_strand.ensures

pub returns : goal.returns
returns c = vectors_all (thinned_by c.args.offsets.now c.args.gone.now c.args.places.now) c.args.strands.now c.loop-strand.strands c.loop-strand.strand c.loop-strand-test.false c.loop-strand.invariant
