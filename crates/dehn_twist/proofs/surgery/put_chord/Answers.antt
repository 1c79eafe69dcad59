use Rattle.std.proofs.Common.{◌≡◌, ◌++◌, ◌≤◌, subst, sym}
use Rattle.std.specs.Prelude.{OnOk}
use Rattle.std.specs.List.{flat_map}
use Rattle.obd_base.specs.Lists.{Mem}
use Rattle.page_surface.specs.Drawing.{Chord, points_on}
use Rattle.dehn_twist.specs.Surgery.{loop_at, meeting_count, meetings, merged_chords}
use Rattle.dehn_twist.specs.Tables.{Pair}
use Rattle.dehn_twist.proofs.RowTables.{chord_seen}
use Rattle.dehn_twist.proofs.surgery.put_chord.Goals as goal

pub strand_number-requires-2-clause-place : goal.strand_number-requires-2-clause-place
strand_number-requires-2-clause-place c = subst (λ (p : Pair). c.args.to.place ≤ points_on p.drawing c.args.to.side) (sym c.merged-merged.ensures.value) c.requires.to_place

pub put_loops-requires : goal.put_loops-requires
put_loops-requires c =
    subst (λ (k : Chord). Mem k (merged_chords c.args.meetings.now.drawing c.args.meetings.now.curve))
    (sym (chord_seen _ _ c.merged-merged.ensures.value c.args.from c.args.to _ _ _ c.strand_number.ensures c.strand_number-2.ensures c.new-chord.ensures)) c.requires.chord

pub returns : goal.returns
returns c =
    subst (λ (k : Chord). OnOk c.put_loops.result (c.put_loops.new.row.items ≡ c.args.row.now.items
    ++ flat_map (loop_at c.args.meetings.now.drawing c.args.meetings.now.curve c.args.sign (meeting_count c.args.meetings.now.drawing c.args.meetings.now.curve) k) (meetings c.args.meetings.now.drawing c.args.meetings.now.curve k)))
    (chord_seen _ _ c.merged-merged.ensures.value c.args.from c.args.to _ _ _ c.strand_number.ensures c.strand_number-2.ensures c.new-chord.ensures) c.put_loops.ensures
