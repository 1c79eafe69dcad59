use Rattle.std.proofs.Common.{◌+◌, ◌≡◌, ◌∙◌, suc, ◌++◌, [], length, ap, ap₂, subst, sym, take, drop, arith}
use Rattle.std.specs.List.{sum_by}
use Rattle.obd_base.specs.Lists.{Mem}
use Rattle.drawing.proofs.Lists.{mem_at}
use Rattle.page_surface.specs.Drawing.{all_exits}
use Rattle.nice_plan.specs.Counted.{AreChordsCounted, marked}
use Rattle.nice_plan.specs.Numbers.{burst_fingers, chord_lift, rows_fingers}
use Rattle.nice_plan.specs.Raised.{raised_from, raised_row}
use Rattle.nice_plan.proofs.Counting.{before_few, chord_few, chord_there, chord_value, chords_at, lifted_few, next_few, row_few, strand_there, written_back}
use Rattle.nice_plan.proofs.RaisedRows.{length_raised, place_small, points_few, raised_small, rows_more, segments_small}
use Rattle.nice_plan.proofs.fingers.burst_fingers.Goals as goal

pub with_sums-requires-clause-few : goal.with_sums-requires-clause-few
with_sums-requires-clause-few c = omega (arith, segments_small (length (all_exits c.args.drawing.now.drawing)) (length c.args.chords.now) (length c.args.segments.now) c.requires.some_chords c.requires.few)

pub lifted-chord-requires-clause-strand : goal.lifted-chord-requires-clause-strand
lifted-chord-requires-clause-strand c =
    strand_there c.args.drawing.now.drawing (length c.args.segments.now) c.args.chords.now c.loop-row.row c.loop-row.pushed.items c.deref_mut.result.now c.deref_mut.ensures.value c.loop-row.invariant.counted
    c.index-chords-row.result (c.requires.chords _ (mem_at c.args.chords.now _ _ c.loop-row-test.true c.index-chords-row.is))

pub lifted-chord-requires-clause-chord : goal.lifted-chord-requires-clause-chord
lifted-chord-requires-clause-chord c =
    chord_there c.args.drawing.now.drawing (length c.args.segments.now) c.args.chords.now c.loop-row.row c.loop-row.pushed.items c.deref_mut.result.now c.deref_mut.ensures.value c.loop-row.invariant.counted
    c.index-chords-row.result (c.requires.chords _ (mem_at c.args.chords.now _ _ c.loop-row-test.true c.index-chords-row.is))

pub lifted-chord-requires-clause-few : goal.lifted-chord-requires-clause-few
lifted-chord-requires-clause-few c =
    let d = c.args.drawing.now.drawing in
    let n = length c.args.segments.now in
    let x = c.index-chords-row.result in
    let on = c.requires.chords x (mem_at c.args.chords.now _ _ c.loop-row-test.true c.index-chords-row.is) in
    let few = row_few d n c.args.chords.now c.loop-row.row c.loop-row.pushed.items c.deref_mut.result.now c.deref_mut.ensures.value c.loop-row.invariant.counted x on in
    let small = next_few (length (all_exits d)) (length c.args.chords.now) n c.loop-row.row x.chord _ (chord_few d x on) few c.loop-row-test.true c.requires.few in
    omega (arith, small)

pub push_row-requires-clause-places : goal.push_row-requires-clause-places
push_row-requires-clause-places c = λ r i.
    let d = c.args.drawing.now.drawing in
    let segments = c.args.segments.now in
    let h = raised_small d segments [] segments (omega arith) r (subst (λ xs. Mem r xs) (c.deref.ensures.value ∙ c.in_ok-raised.ensures) i) in
    let on = c.requires.there r.segment h.listed in
    let small = place_small (length (all_exits d)) (length c.args.chords.now) (length segments) c.loop-row.row r.segment.place r.all r.before
    (omega (arith, on.place, points_few d r.segment.side)) h.all_small h.before_small c.loop-row-test.true c.requires.some_segments c.requires.few in
    omega (arith, small)

pub push_row-requires-clause-chords : goal.push_row-requires-clause-chords
push_row-requires-clause-chords c =
    let d = c.args.drawing.now.drawing in
    let n = length c.args.segments.now in
    let x = c.index-chords-row.result in
    let on = c.requires.chords x (mem_at c.args.chords.now _ _ c.loop-row-test.true c.index-chords-row.is) in
    let few = before_few d n c.args.chords.now c.loop-row.row c.loop-row.pushed.items c.deref_mut.result.now c.deref_mut.ensures.value c.loop-row.invariant.counted x on in
    let small = lifted_few (length (all_exits d)) (length c.args.chords.now) n c.loop-row.row x.chord _ (chord_few d x on) few c.loop-row-test.true c.requires.few in
    let rows = ap length (c.deref.ensures.value ∙ c.in_ok-raised.ensures) in
    omega (arith, small, c.lifted-chord.ensures.chord, rows, length_raised d c.args.segments.now [] c.args.segments.now)

pub loop-row-preserved : goal.loop-row-preserved
loop-row-preserved c =
    let d = c.args.drawing.now.drawing in
    let segments = c.args.segments.now in
    let n = length segments in
    let cs = c.args.chords.now in
    let row = c.loop-row.row in
    let x = c.index-chords-row.result in
    let h = c.loop-row.invariant in
    let on = c.requires.chords x (mem_at cs _ _ c.loop-row-test.true c.index-chords-row.is) in
    let done = c.loop-row.fingers.items in
    let all = raised_from d segments [] segments in
    let number = x.chord + sum_by (λ b. chord_lift n b x) (take row cs) in
    let value = chord_value d n cs row c.loop-row.pushed.items c.deref_mut.result.now c.deref_mut.ensures.value h.counted x on in
    let chord = c.lifted-chord.ensures.chord ∙ ap (λ k. x.chord + k) value in
    let same = ap (λ i. raised_row row i c.lifted-chord.result.chord c.deref.result.now) c.lifted-chord.ensures.strand ∙ ap₂ (λ m rs. raised_row row x.strand m rs) chord (c.deref.ensures.value ∙ c.in_ok-raised.ensures) in
    let pushed = c.in_ok-push_row.ensures ∙ ap (λ w. done ++ w) same in
    let more = rows_more d segments cs done row x _ c.loop-row-test.true c.index-chords-row.is h.rows in
    let one : suc row ≡ row + 1 = omega arith in
    let back = written_back c.loop-row.pushed.len c.lifted-chord.new.rows c.loop-row.pushed.items (c.lifted-chord.auto.rows ∙ c.deref_mut.ensures.len) in
    let new = back ∙ (c.lifted-chord.ensures.counted ∙ ap (λ rows. marked rows x.strand x.chord) c.deref_mut.ensures.value) in
    record {
      rows =
          ap (λ w. w ++ rows_fingers d segments (row + 1) (take (row + 1) cs) (drop (row + 1) cs)) pushed
          ∙ subst (λ k. (done ++ raised_row row x.strand number all) ++ rows_fingers d segments k (take k cs) (drop k cs) ≡ burst_fingers d cs segments) one more;
      counted = subst (AreChordsCounted d n (take (row + 1) cs)) (sym new) (chords_at d n cs row x _ c.loop-row.pushed.items c.loop-row-test.true c.index-chords-row.is on h.counted);
    }
