use Rattle.std.proofs.Common.{◌≡◌, ◌++◌, List, ap, arith}
use Rattle.page_surface.specs.Drawing.{Chord}
use Rattle.page_surface.specs.Polygon.{first_side, second_side}
use Rattle.dehn_twist.proofs.ChordTables.{cut_end, cut_more, cut_start, entry_at_strand, exit_at_strand}
use Rattle.dehn_twist.proofs.chords.push_chords.Goals as goal

pub loop-exit-init : goal.loop-exit-init
loop-exit-init c =
    let p = c.polygon-polygon.ensures.value in
    let f : c.first_side-first_side.result ≡ first_side c.args.merged.now.drawing.polygon c.args.strand = cc in
    let s : c.pair.result ≡ second_side c.args.merged.now.drawing.polygon c.args.strand = cc in
    let h = cut_start _ _ c.polygon-polygon.ensures.taken c.args.strand _ _ _ _ c.requires f s c.end_of-from.ensures c.strand-exit-items.ensures in
    record { from_side = h.0; from_place = h.1; so_far = ap (λ (cs : List Chord). c.args.chords.now.items ++ cs) h.2 }

pub strand_number-requires-in-loop-exit-clause-side : goal.strand_number-requires-in-loop-exit-clause-side
strand_number-requires-in-loop-exit-clause-side c = (exit_at_strand _ _ c.polygon-polygon.ensures.taken _ _ _ _ c.strand-exit-items.ensures c.loop-exit-test.true c.exit-item.is).0

pub strand_number-requires-in-loop-exit-clause-place : goal.strand_number-requires-in-loop-exit-clause-place
strand_number-requires-in-loop-exit-clause-place c =
    let k = exit_at_strand _ _ c.polygon-polygon.ensures.taken _ _ _ _ c.strand-exit-items.ensures c.loop-exit-test.true c.exit-item.is in
    omega (arith, k)

pub entry-from-requires-clause-side : goal.entry-from-requires-clause-side
entry-from-requires-clause-side c = (exit_at_strand _ _ c.polygon-polygon.ensures.taken _ _ _ _ c.strand-exit-items.ensures c.loop-exit-test.true c.exit-item.is).0

pub entry-from-requires-clause-place : goal.entry-from-requires-clause-place
entry-from-requires-clause-place c = (exit_at_strand _ _ c.polygon-polygon.ensures.taken _ _ _ _ c.strand-exit-items.ensures c.loop-exit-test.true c.exit-item.is).1

pub loop-exit-preserved : goal.loop-exit-preserved
loop-exit-preserved c =
    let k = exit_at_strand _ _ c.polygon-polygon.ensures.taken _ _ _ _ c.strand-exit-items.ensures c.loop-exit-test.true c.exit-item.is in
    let r = entry_at_strand _ _ c.polygon-polygon.ensures.taken _ _ k c.entry-from.ensures in
    record {
      from_side = r.0;
      from_place = omega (arith, r);
      so_far = cut_more _ _ c.polygon-polygon.ensures.taken _ _ _ _ _ _ _ _ _ _ _ _ c.loop-exit-test.true c.exit-item.is c.strand_number.ensures c.strand_number-in-loop-exit.ensures
          c.new-in-loop-exit.ensures c.entry-from.ensures c.in_ok-push.ensures.items c.loop-exit.invariant.so_far;
    }

pub returns : goal.returns
returns c =
    cut_end _ _ c.polygon-polygon.ensures.taken _ _ _ _ _ _ _ _ _ _ _ c.loop-exit-test.false c.strand_number-2.ensures c.strand_number-3.ensures c.end_of-to.ensures c.new-2.ensures
    c.in_ok-push-2.ensures.items c.loop-exit.invariant.so_far
