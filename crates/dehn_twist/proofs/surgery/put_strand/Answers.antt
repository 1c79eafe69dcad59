use Rattle.std.proofs.Common.{◌≡◌, List, arith, subst}
use Rattle.std.specs.Prelude.{OnOk}
use Rattle.obd_base.specs.declared.points.Exit.{Exit}
use Rattle.dehn_twist.proofs.ChordTables.{entry_at_strand, exit_at_strand}
use Rattle.dehn_twist.proofs.RowTables.{all_listed, entry_seen, exits_seen, kept_seen, last_listed, next_listed, rest_listed, row_end, row_more, row_start, there_seen}
use Rattle.dehn_twist.proofs.surgery.put_strand.Goals as goal

pub loop-exit-init : goal.loop-exit-init
loop-exit-init c =
    let are = exits_seen _ _ c.merged-merged.ensures.value _ _ c.strand-exit-items.ensures in
    record {
      from_side = c.strand_start-from.ensures.side;
      from_place = c.strand_start-from.ensures.place;
      listed = all_listed c.args.meetings.now.drawing c.args.meetings.now.curve c.args.strand _ _ c.requires c.strand_start-from.ensures.value are;
      so_far = row_start c.args.meetings.now.drawing c.args.meetings.now.curve c.args.sign c.args.strand _ _ _ c.strand_start-from.ensures.value are;
    }

pub put_chord-requires-clause-to_side : goal.put_chord-requires-clause-to_side
put_chord-requires-clause-to_side c = (exit_at_strand c.args.meetings.now.drawing c.args.meetings.now.curve c.merged-merged.ensures.taken c.args.strand _ _ _ (exits_seen _ _ c.merged-merged.ensures.value _ _ c.strand-exit-items.ensures) c.loop-exit-test.true c.exit-item.is).0

pub put_chord-requires-clause-to_place : goal.put_chord-requires-clause-to_place
put_chord-requires-clause-to_place c = let h = exit_at_strand c.args.meetings.now.drawing c.args.meetings.now.curve c.merged-merged.ensures.taken c.args.strand _ _ _ (exits_seen _ _ c.merged-merged.ensures.value _ _ c.strand-exit-items.ensures) c.loop-exit-test.true c.exit-item.is in omega (arith, h)

pub put_chord-requires-clause-chord : goal.put_chord-requires-clause-chord
put_chord-requires-clause-chord c = next_listed c.args.meetings.now.drawing c.args.meetings.now.curve c.args.sign _ _ _ _ _ c.exit-item.result c.loop-exit-test.true c.exit-item.is c.loop-exit.invariant.listed

pub kept_point-requires-clause-side : goal.kept_point-requires-clause-side
kept_point-requires-clause-side c = (there_seen _ _ c.merged-merged.ensures.value _ (exit_at_strand c.args.meetings.now.drawing c.args.meetings.now.curve c.merged-merged.ensures.taken c.args.strand _ _ _ (exits_seen _ _ c.merged-merged.ensures.value _ _ c.strand-exit-items.ensures) c.loop-exit-test.true c.exit-item.is)).0

pub kept_point-requires-clause-place : goal.kept_point-requires-clause-place
kept_point-requires-clause-place c = (there_seen _ _ c.merged-merged.ensures.value _ (exit_at_strand c.args.meetings.now.drawing c.args.meetings.now.curve c.merged-merged.ensures.taken c.args.strand _ _ _ (exits_seen _ _ c.merged-merged.ensures.value _ _ c.strand-exit-items.ensures) c.loop-exit-test.true c.exit-item.is)).1

pub entry-from-requires-clause-side : goal.entry-from-requires-clause-side
entry-from-requires-clause-side c = (there_seen _ _ c.merged-merged.ensures.value _ (exit_at_strand c.args.meetings.now.drawing c.args.meetings.now.curve c.merged-merged.ensures.taken c.args.strand _ _ _ (exits_seen _ _ c.merged-merged.ensures.value _ _ c.strand-exit-items.ensures) c.loop-exit-test.true c.exit-item.is)).0

pub entry-from-requires-clause-place : goal.entry-from-requires-clause-place
entry-from-requires-clause-place c = (there_seen _ _ c.merged-merged.ensures.value _ (exit_at_strand c.args.meetings.now.drawing c.args.meetings.now.curve c.merged-merged.ensures.taken c.args.strand _ _ _ (exits_seen _ _ c.merged-merged.ensures.value _ _ c.strand-exit-items.ensures) c.loop-exit-test.true c.exit-item.is)).1

pub loop-exit-preserved : goal.loop-exit-preserved
loop-exit-preserved c =
    let enters = entry_seen _ _ c.merged-merged.ensures.value _ _ c.entry-from.ensures in
    let r = entry_at_strand c.args.meetings.now.drawing c.args.meetings.now.curve c.merged-merged.ensures.taken _ _ (exit_at_strand c.args.meetings.now.drawing c.args.meetings.now.curve c.merged-merged.ensures.taken c.args.strand _ _ _ (exits_seen _ _ c.merged-merged.ensures.value _ _ c.strand-exit-items.ensures) c.loop-exit-test.true c.exit-item.is) enters in
    record {
      from_side = r.0;
      from_place = omega (arith, r);
      listed = rest_listed c.args.meetings.now.drawing c.args.meetings.now.curve c.args.sign _ _ _ _ _ _ c.loop-exit-test.true c.exit-item.is enters c.loop-exit.invariant.listed;
      so_far = row_more c.args.meetings.now.drawing c.args.meetings.now.curve c.args.sign _ _ _ _ _ _ c.loop-exit-test.true c.exit-item.is _ _ _ _ _ enters c.in_ok-put_chord.ensures
          (kept_seen _ _ c.merged-merged.ensures.value _ _ _ c.lines.ensures.value c.kept_point.ensures) c.in_ok-push.ensures.items c.loop-exit.invariant.so_far;
    }

pub put_chord-requires-2-clause-chord : goal.put_chord-requires-2-clause-chord
put_chord-requires-2-clause-chord c = last_listed c.args.meetings.now.drawing c.args.meetings.now.curve c.args.sign _ _ _ _ _ c.loop-exit-test.false c.strand_end.ensures.value c.loop-exit.invariant.listed

pub returns : goal.returns
returns c =
    subst (λ (all : List Exit). OnOk c.put_chord-2.result (c.put_chord-2.new.row.items ≡ all))
    (row_end c.args.meetings.now.drawing c.args.meetings.now.curve c.args.sign _ _ _ _ _ c.loop-exit-test.false c.strand_end.ensures.value _ _ c.loop-exit.invariant.so_far) c.put_chord-2.ensures
