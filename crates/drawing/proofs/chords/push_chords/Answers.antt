use Rattle.std.proofs.Common.{◌≡◌, ◌++◌, List, ap, arith}
use Rattle.page_surface.specs.Drawing.{Chord}
use Rattle.page_surface.specs.Polygon.{first_side, second_side}
use Rattle.drawing.proofs.StrandTables.{entry_there, exit_there}
use Rattle.drawing.proofs.SweepTables.{strand_more, strand_start}
use Rattle.drawing.proofs.chords.push_chords.Goals as goal

pub loop-exit-init : goal.loop-exit-init
loop-exit-init c =
    let f : c.first_side-first_side.result ≡ first_side c.args.layout.now.drawing.polygon c.args.strand = cc in
    let s : c.pair.result ≡ second_side c.args.layout.now.drawing.polygon c.args.strand = cc in
    let h = strand_start c.args.layout.now.drawing c.args.strand _ _ _ _ c.requires.placed c.requires.strand f s c.end_of-from.ensures c.exits-exit-items.ensures in
    record { from_side = h.0; from_place = h.1; so_far = ap (λ (cs : List Chord). c.args.chords.now.items ++ cs) h.2 }

pub chord_between-requires-clause-to_side : goal.chord_between-requires-clause-to_side
chord_between-requires-clause-to_side c = (exit_there c.args.layout.now.drawing c.requires.placed c.args.strand _ _ _ c.exits-exit-items.ensures c.loop-exit-test.true c.exit-item.is).0

pub chord_between-requires-clause-to_place : goal.chord_between-requires-clause-to_place
chord_between-requires-clause-to_place c =
    let k = exit_there c.args.layout.now.drawing c.requires.placed c.args.strand _ _ _ c.exits-exit-items.ensures c.loop-exit-test.true c.exit-item.is in
    omega (arith, k)

pub entry-from-requires-clause-side : goal.entry-from-requires-clause-side
entry-from-requires-clause-side c = (exit_there c.args.layout.now.drawing c.requires.placed c.args.strand _ _ _ c.exits-exit-items.ensures c.loop-exit-test.true c.exit-item.is).0

pub entry-from-requires-clause-place : goal.entry-from-requires-clause-place
entry-from-requires-clause-place c = (exit_there c.args.layout.now.drawing c.requires.placed c.args.strand _ _ _ c.exits-exit-items.ensures c.loop-exit-test.true c.exit-item.is).1

pub loop-exit-preserved : goal.loop-exit-preserved
loop-exit-preserved c =
    let k = exit_there c.args.layout.now.drawing c.requires.placed c.args.strand _ _ _ c.exits-exit-items.ensures c.loop-exit-test.true c.exit-item.is in
    let r = entry_there c.args.layout.now.drawing c.requires.placed _ _ k c.entry-from.ensures in
    record {
      from_side = r.0;
      from_place = omega (arith, r);
      so_far = strand_more c.args.layout.now.drawing _ _ _ _ _ _ _ _ _ _ c.loop-exit-test.true c.exit-item.is c.chord_between.ensures c.entry-from.ensures c.in_ok-push.ensures.items c.loop-exit.invariant.so_far;
    }
