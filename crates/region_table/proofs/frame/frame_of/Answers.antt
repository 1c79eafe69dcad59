use Rattle.std.proofs.Common.{◌≡◌, ◌<◌, length, refl, ◌∙◌, ap, arith}
use Rattle.page_surface.specs.Polygon.{arc_count, sides}
use Rattle.region_table.proofs.ChordTables.{starts_size}
use Rattle.region_table.proofs.FrameTables.{as_many_rows, chord_inside, known_same, mates_read, read_inside, row_long, row_small, spans_read}
use Rattle.region_table.proofs.SpanCount.{spans_few}
use Rattle.region_table.proofs.frame.frame_of.Goals as goal

pub side_starts-requires : goal.side_starts-requires
side_starts-requires c =
    let d = c.args.drawing.now.drawing in
    let n : c.sides-sides.result ≡ sides d.polygon = c.sides-sides.ensures.value ∙ ap sides c.polygon.ensures in
    spans_few d (omega (arith, n, c.sides-sides.ensures.most)) (omega (arith, c.points-sides.ensures.value, c.points-sides.ensures.few))

pub read_chords-requires-clause-few : goal.read_chords-requires-clause-few
read_chords-requires-clause-few c =
    let d = c.args.drawing.now.drawing in
    let n : c.sides-sides.result ≡ sides d.polygon = c.sides-sides.ensures.value ∙ ap sides c.polygon.ensures in
    spans_few d (omega (arith, n, c.sides-sides.ensures.most)) (omega (arith, c.points-sides.ensures.value, c.points-sides.ensures.few))

pub index-count-requires : goal.index-count-requires
index-count-requires c =
    let d = c.args.drawing.now.drawing in
    let n : c.sides-sides.result ≡ sides d.polygon = c.sides-sides.ensures.value ∙ ap sides c.polygon.ensures in
    omega (arith, n, starts_size d c.in_ok-starts.starts.items c.in_ok-starts.ensures, c.in_ok-starts.starts.ok)

pub mates-requires-clause-from : goal.mates-requires-clause-from
mates-requires-clause-from c = λ k m.
    let d = c.args.drawing.now.drawing in
    let n : c.sides-sides.result ≡ sides d.polygon = c.sides-sides.ensures.value ∙ ap sides c.polygon.ensures in
    let count = spans_read d c.in_ok-starts.starts.items c.sides-sides.result c.index-count.result.now c.in_ok-starts.ensures n (omega (arith, n, starts_size d c.in_ok-starts.starts.items c.in_ok-starts.ensures)) c.index-count.ensures in
    let are = c.deref-2.ensures.value ∙ c.in_ok-read_chords.ensures.chords in
    (read_inside d c.points-sides.ensures.valid c.deref-2.result.now c.index-count.result.now are count k m).0

pub mates-requires-clause-to : goal.mates-requires-clause-to
mates-requires-clause-to c = λ k m.
    let d = c.args.drawing.now.drawing in
    let n : c.sides-sides.result ≡ sides d.polygon = c.sides-sides.ensures.value ∙ ap sides c.polygon.ensures in
    let count = spans_read d c.in_ok-starts.starts.items c.sides-sides.result c.index-count.result.now c.in_ok-starts.ensures n (omega (arith, n, starts_size d c.in_ok-starts.starts.items c.in_ok-starts.ensures)) c.index-count.ensures in
    let are = c.deref-2.ensures.value ∙ c.in_ok-read_chords.ensures.chords in
    (read_inside d c.points-sides.ensures.valid c.deref-2.result.now c.index-count.result.now are count k m).1

pub chord_ends-requires-clause-few : goal.chord_ends-requires-clause-few
chord_ends-requires-clause-few c =
    let d = c.args.drawing.now.drawing in
    let n : c.sides-sides.result ≡ sides d.polygon = c.sides-sides.ensures.value ∙ ap sides c.polygon.ensures in
    let rows = c.in_ok-read_chords.ensures.begins in
    omega (arith, n, as_many_rows d _ rows, c.sides-sides.ensures.most)

pub chord_ends-requires-clause-few_chords : goal.chord_ends-requires-clause-few_chords
chord_ends-requires-clause-few_chords c = λ i l.
    let d = c.args.drawing.now.drawing in
    let rows = c.in_ok-read_chords.ensures.begins in
    row_small d _ rows i (omega (arith, l, as_many_rows d _ rows)) (omega (arith, c.points-sides.ensures.value, c.points-sides.ensures.few))

pub chord_ends-requires-clause-inside : goal.chord_ends-requires-clause-inside
chord_ends-requires-clause-inside c = λ i k li lk.
    let d = c.args.drawing.now.drawing in
    let n : c.sides-sides.result ≡ sides d.polygon = c.sides-sides.ensures.value ∙ ap sides c.polygon.ensures in
    let count = spans_read d c.in_ok-starts.starts.items c.sides-sides.result c.index-count.result.now c.in_ok-starts.ensures n (omega (arith, n, starts_size d c.in_ok-starts.starts.items c.in_ok-starts.ensures)) c.index-count.ensures in
    let are = c.deref-2.ensures.value ∙ c.in_ok-read_chords.ensures.chords in
    let rows = c.in_ok-read_chords.ensures.begins in
    let others = mates_read d c.deref-2.result.now c.index-count.result.now _ are count (c.deref-3.ensures.value ∙ c.in_ok-mates.ensures) in
    let l : i < arc_count d.polygon = omega (arith, li, as_many_rows d _ rows) in
    chord_inside d c.points-sides.ensures.valid c.deref-3.result.now others _ rows i k l (omega (arith, lk, row_long d _ rows i l))

pub returns-clause-frame : goal.returns-clause-frame
returns-clause-frame c =
    let d = c.args.drawing.now.drawing in
    let n : c.sides-sides.result ≡ sides d.polygon = c.sides-sides.ensures.value ∙ ap sides c.polygon.ensures in
    let count = spans_read d c.in_ok-starts.starts.items c.sides-sides.result c.index-count.result.now c.in_ok-starts.ensures n (omega (arith, n, starts_size d c.in_ok-starts.starts.items c.in_ok-starts.ensures)) c.index-count.ensures in
    let are = c.deref-2.ensures.value ∙ c.in_ok-read_chords.ensures.chords in
    record {
      starts_are = c.in_ok-starts.ensures;
      mates_are = mates_read d c.deref-2.result.now c.index-count.result.now _ are count c.in_ok-mates.ensures;
      begins_are = c.in_ok-read_chords.ensures.begins;
      as_many = c.in_ok-ends.ensures.size ∙ ap length c.deref-3.ensures.value;
      known = known_same _ _ _ _ _ refl c.deref-3.ensures.value c.in_ok-ends.ensures.known;
    }
