use Rattle.std.proofs.Common.{◌≡◌, ◌+◌, ◌-◌, ◌<◌, [], length, map, get_or, refl, sym, ◌∙◌, ap, arith}
use Rattle.page_surface.specs.Drawing.{Drawing, all_exits, chords}
use Rattle.page_surface.specs.Polygon.{Polygon, arc_count, partner, sides}
use Rattle.drawing.specs.Fingers.{pushed}
use Rattle.drawing.specs.Layout.{offsets_of}
use Rattle.drawing.specs.Pieces.{spans}
use Rattle.drawing.specs.Round.{other_end}
use Rattle.drawing.proofs.fingers.Effects.{pushed_polygon}
use Rattle.drawing.proofs.fingers.Shift.{rooms}
use Rattle.region_table.specs.FingerLists.{begins_later}
use Rattle.region_table.specs.Table.{begins_of}
use Rattle.region_table.proofs.FrameTables.{as_many_mates, as_many_rows, row_long, row_small}
use Rattle.region_table.proofs.ToldTables.{written}
use Rattle.region_table.proofs.fingers.EndsAfter.{chord_fits, ends_after_are, parts_fit}
use Rattle.region_table.proofs.fingers.FrameAfter.{begins_written, few_before, mates_written_are, starts_are}
use Rattle.region_table.proofs.fingers.PushEnds.{beyond_inside, ends_apart, ends_in, entered_inside, spans_apart}
use Rattle.region_table.proofs.fingers.Small.{begins_small, mates_small, starts_small}
use Rattle.region_table.proofs.frame.write_frame.Goals as goal

pub write_starts-requires : goal.write_starts-requires
write_starts-requires c =
    let b = c.requires.before in
    let d = b.0 in
    let p = c.args.push in
    let f = c.args.finger.now in
    let n : c.sides.result ≡ sides c.args.drawing.now.drawing.polygon = c.sides.ensures.value ∙ ap sides c.polygon.ensures in
    let few = few_before d b.1 f b.2 c.args.drawing.now.drawing b.5 (omega (arith, n, c.sides.ensures.most)) (omega (arith, c.points.ensures.value, c.points.ensures.few)) in
    starts_small d b.1 (omega (arith, few)) c.deref_mut.result.now (c.deref_mut.ensures.value ∙ b.3.starts_are)

pub write_mates-requires-clause-apart : goal.write_mates-requires-clause-apart
write_mates-requires-clause-apart c =
    let b = c.requires.before in
    let d = b.0 in
    let p = c.args.push in
    let f = c.args.finger.now in
    let n : c.sides.result ≡ sides c.args.drawing.now.drawing.polygon = c.sides.ensures.value ∙ ap sides c.polygon.ensures in
    let few = few_before d b.1 f b.2 c.args.drawing.now.drawing b.5 (omega (arith, n, c.sides.ensures.most)) (omega (arith, c.points.ensures.value, c.points.ensures.few)) in
    spans_apart d b.1 f b.2 p.from p.near p.far p.entry.entered p.entry.beyond p.out b.4

pub write_mates-requires-clause-ends_apart : goal.write_mates-requires-clause-ends_apart
write_mates-requires-clause-ends_apart c =
    let b = c.requires.before in
    let d = b.0 in
    let p = c.args.push in
    let f = c.args.finger.now in
    let n : c.sides.result ≡ sides c.args.drawing.now.drawing.polygon = c.sides.ensures.value ∙ ap sides c.polygon.ensures in
    let few = few_before d b.1 f b.2 c.args.drawing.now.drawing b.5 (omega (arith, n, c.sides.ensures.most)) (omega (arith, c.points.ensures.value, c.points.ensures.few)) in
    ends_apart d b.1 f b.2 p.from p.near p.far p.entry.entered p.entry.beyond p.out b.4

pub write_mates-requires-clause-entered : goal.write_mates-requires-clause-entered
write_mates-requires-clause-entered c =
    let b = c.requires.before in
    let d = b.0 in
    let p = c.args.push in
    let f = c.args.finger.now in
    let n : c.sides.result ≡ sides c.args.drawing.now.drawing.polygon = c.sides.ensures.value ∙ ap sides c.polygon.ensures in
    let few = few_before d b.1 f b.2 c.args.drawing.now.drawing b.5 (omega (arith, n, c.sides.ensures.most)) (omega (arith, c.points.ensures.value, c.points.ensures.few)) in
    omega (arith, entered_inside d b.1 f b.2 p.from p.near p.far p.entry.entered p.entry.beyond p.out b.4, as_many_mates d b.1 c.args.frame.now.mates.items b.3.mates_are)

pub write_mates-requires-clause-beyond : goal.write_mates-requires-clause-beyond
write_mates-requires-clause-beyond c =
    let b = c.requires.before in
    let d = b.0 in
    let p = c.args.push in
    let f = c.args.finger.now in
    let n : c.sides.result ≡ sides c.args.drawing.now.drawing.polygon = c.sides.ensures.value ∙ ap sides c.polygon.ensures in
    let few = few_before d b.1 f b.2 c.args.drawing.now.drawing b.5 (omega (arith, n, c.sides.ensures.most)) (omega (arith, c.points.ensures.value, c.points.ensures.few)) in
    omega (arith, beyond_inside d b.1 f b.2 p.from p.near p.far p.entry.entered p.entry.beyond p.out b.4, as_many_mates d b.1 c.args.frame.now.mates.items b.3.mates_are)

pub write_mates-requires-clause-near : goal.write_mates-requires-clause-near
write_mates-requires-clause-near c =
    let b = c.requires.before in
    let d = b.0 in
    let p = c.args.push in
    let f = c.args.finger.now in
    let n : c.sides.result ≡ sides c.args.drawing.now.drawing.polygon = c.sides.ensures.value ∙ ap sides c.polygon.ensures in
    let few = few_before d b.1 f b.2 c.args.drawing.now.drawing b.5 (omega (arith, n, c.sides.ensures.most)) (omega (arith, c.points.ensures.value, c.points.ensures.few)) in
    omega (arith, (ends_in d b.1 f b.2 p.from p.near p.far p.entry.entered p.entry.beyond p.out b.4).0, as_many_mates d b.1 c.args.frame.now.mates.items b.3.mates_are)

pub write_mates-requires-clause-far : goal.write_mates-requires-clause-far
write_mates-requires-clause-far c =
    let b = c.requires.before in
    let d = b.0 in
    let p = c.args.push in
    let f = c.args.finger.now in
    let n : c.sides.result ≡ sides c.args.drawing.now.drawing.polygon = c.sides.ensures.value ∙ ap sides c.polygon.ensures in
    let few = few_before d b.1 f b.2 c.args.drawing.now.drawing b.5 (omega (arith, n, c.sides.ensures.most)) (omega (arith, c.points.ensures.value, c.points.ensures.few)) in
    omega (arith, (ends_in d b.1 f b.2 p.from p.near p.far p.entry.entered p.entry.beyond p.out b.4).1, as_many_mates d b.1 c.args.frame.now.mates.items b.3.mates_are)

pub write_mates-requires-clause-few : goal.write_mates-requires-clause-few
write_mates-requires-clause-few c =
    let b = c.requires.before in
    let d = b.0 in
    let p = c.args.push in
    let f = c.args.finger.now in
    let n : c.sides.result ≡ sides c.args.drawing.now.drawing.polygon = c.sides.ensures.value ∙ ap sides c.polygon.ensures in
    let few = few_before d b.1 f b.2 c.args.drawing.now.drawing b.5 (omega (arith, n, c.sides.ensures.most)) (omega (arith, c.points.ensures.value, c.points.ensures.few)) in
    omega (arith, few, as_many_mates d b.1 c.args.frame.now.mates.items b.3.mates_are)

pub write_mates-requires-clause-small : goal.write_mates-requires-clause-small
write_mates-requires-clause-small c =
    let b = c.requires.before in
    let d = b.0 in
    let p = c.args.push in
    let f = c.args.finger.now in
    let n : c.sides.result ≡ sides c.args.drawing.now.drawing.polygon = c.sides.ensures.value ∙ ap sides c.polygon.ensures in
    let few = few_before d b.1 f b.2 c.args.drawing.now.drawing b.5 (omega (arith, n, c.sides.ensures.most)) (omega (arith, c.points.ensures.value, c.points.ensures.few)) in
    mates_small d b.1 (omega (arith, few)) c.args.frame.now.mates.items b.3.mates_are

pub first_beyond-requires : goal.first_beyond-requires
first_beyond-requires c =
    let b = c.requires.before in
    let d = b.0 in
    let p = c.args.push in
    let f = c.args.finger.now in
    let n : c.sides.result ≡ sides c.args.drawing.now.drawing.polygon = c.sides.ensures.value ∙ ap sides c.polygon.ensures in
    let few = few_before d b.1 f b.2 c.args.drawing.now.drawing b.5 (omega (arith, n, c.sides.ensures.most)) (omega (arith, c.points.ensures.value, c.points.ensures.few)) in
    omega (arith, beyond_inside d b.1 f b.2 p.from p.near p.far p.entry.entered p.entry.beyond p.out b.4, few)

pub overflow_add-first_beyond : goal.overflow_add-first_beyond
overflow_add-first_beyond c =
    let b = c.requires.before in
    let d = b.0 in
    let p = c.args.push in
    let f = c.args.finger.now in
    let n : c.sides.result ≡ sides c.args.drawing.now.drawing.polygon = c.sides.ensures.value ∙ ap sides c.polygon.ensures in
    let few = few_before d b.1 f b.2 c.args.drawing.now.drawing b.5 (omega (arith, n, c.sides.ensures.most)) (omega (arith, c.points.ensures.value, c.points.ensures.few)) in
    omega (arith, c.first_beyond.ensures, rooms p.entry.beyond p.entry.entered, beyond_inside d b.1 f b.2 p.from p.near p.far p.entry.entered p.entry.beyond p.out b.4, few)

pub first_new-requires : goal.first_new-requires
first_new-requires c =
    let b = c.requires.before in
    let d = b.0 in
    let p = c.args.push in
    let f = c.args.finger.now in
    let n : c.sides.result ≡ sides c.args.drawing.now.drawing.polygon = c.sides.ensures.value ∙ ap sides c.polygon.ensures in
    let few = few_before d b.1 f b.2 c.args.drawing.now.drawing b.5 (omega (arith, n, c.sides.ensures.most)) (omega (arith, c.points.ensures.value, c.points.ensures.few)) in
    omega (arith, entered_inside d b.1 f b.2 p.from p.near p.far p.entry.entered p.entry.beyond p.out b.4, few)

pub overflow_add-first_new : goal.overflow_add-first_new
overflow_add-first_new c =
    let b = c.requires.before in
    let d = b.0 in
    let p = c.args.push in
    let f = c.args.finger.now in
    let n : c.sides.result ≡ sides c.args.drawing.now.drawing.polygon = c.sides.ensures.value ∙ ap sides c.polygon.ensures in
    let few = few_before d b.1 f b.2 c.args.drawing.now.drawing b.5 (omega (arith, n, c.sides.ensures.most)) (omega (arith, c.points.ensures.value, c.points.ensures.few)) in
    omega (arith, c.first_new.ensures, rooms p.entry.entered p.entry.beyond, entered_inside d b.1 f b.2 p.from p.near p.far p.entry.entered p.entry.beyond p.out b.4, few)

pub write-requires-clause-strand : goal.write-requires-clause-strand
write-requires-clause-strand c =
    let b = c.requires.before in
    let d = b.0 in
    let p = c.args.push in
    let f = c.args.finger.now in
    let n : c.sides.result ≡ sides c.args.drawing.now.drawing.polygon = c.sides.ensures.value ∙ ap sides c.polygon.ensures in
    let few = few_before d b.1 f b.2 c.args.drawing.now.drawing b.5 (omega (arith, n, c.sides.ensures.most)) (omega (arith, c.points.ensures.value, c.points.ensures.few)) in
    omega (arith, c.number.ensures.value, as_many_rows d c.args.frame.now.begins.lists b.3.begins_are, b.2.strand)

pub write-requires-clause-chord : goal.write-requires-clause-chord
write-requires-clause-chord c =
    let b = c.requires.before in
    let d = b.0 in
    let p = c.args.push in
    let f = c.args.finger.now in
    let n : c.sides.result ≡ sides c.args.drawing.now.drawing.polygon = c.sides.ensures.value ∙ ap sides c.polygon.ensures in
    let few = few_before d b.1 f b.2 c.args.drawing.now.drawing b.5 (omega (arith, n, c.sides.ensures.most)) (omega (arith, c.points.ensures.value, c.points.ensures.few)) in
    omega (arith, ap (λ i. length (get_or c.args.frame.now.begins.lists i [])) c.number.ensures.value, row_long d c.args.frame.now.begins.lists b.3.begins_are f.strand b.2.strand, b.2.chord)

pub write-requires-clause-small : goal.write-requires-clause-small
write-requires-clause-small c =
    let b = c.requires.before in
    let d = b.0 in
    let p = c.args.push in
    let f = c.args.finger.now in
    let n : c.sides.result ≡ sides c.args.drawing.now.drawing.polygon = c.sides.ensures.value ∙ ap sides c.polygon.ensures in
    let few = few_before d b.1 f b.2 c.args.drawing.now.drawing b.5 (omega (arith, n, c.sides.ensures.most)) (omega (arith, c.points.ensures.value, c.points.ensures.few)) in
    begins_small d b.1 (omega (arith, few)) c.args.frame.now.begins.lists b.3.begins_are

pub write_ends-requires-clause-apart : goal.write_ends-requires-clause-apart
write_ends-requires-clause-apart c =
    let b = c.requires.before in
    let d = b.0 in
    let p = c.args.push in
    let f = c.args.finger.now in
    let frame = c.args.frame.now in
    spans_apart d b.1 f b.2 p.from p.near p.far p.entry.entered p.entry.beyond p.out b.4

pub write_ends-requires-clause-ends_apart : goal.write_ends-requires-clause-ends_apart
write_ends-requires-clause-ends_apart c =
    let b = c.requires.before in
    let d = b.0 in
    let p = c.args.push in
    let f = c.args.finger.now in
    let frame = c.args.frame.now in
    ends_apart d b.1 f b.2 p.from p.near p.far p.entry.entered p.entry.beyond p.out b.4

pub write_ends-requires-clause-entered : goal.write_ends-requires-clause-entered
write_ends-requires-clause-entered c =
    let b = c.requires.before in
    let d = b.0 in
    let p = c.args.push in
    let f = c.args.finger.now in
    let frame = c.args.frame.now in
    omega (arith, entered_inside d b.1 f b.2 p.from p.near p.far p.entry.entered p.entry.beyond p.out b.4, as_many_mates d b.1 frame.mates.items b.3.mates_are, b.3.as_many)

pub write_ends-requires-clause-beyond : goal.write_ends-requires-clause-beyond
write_ends-requires-clause-beyond c =
    let b = c.requires.before in
    let d = b.0 in
    let p = c.args.push in
    let f = c.args.finger.now in
    let frame = c.args.frame.now in
    omega (arith, beyond_inside d b.1 f b.2 p.from p.near p.far p.entry.entered p.entry.beyond p.out b.4, as_many_mates d b.1 frame.mates.items b.3.mates_are, b.3.as_many)

pub write_ends-requires-clause-near : goal.write_ends-requires-clause-near
write_ends-requires-clause-near c =
    let b = c.requires.before in
    let d = b.0 in
    let p = c.args.push in
    let f = c.args.finger.now in
    let frame = c.args.frame.now in
    omega (arith, (ends_in d b.1 f b.2 p.from p.near p.far p.entry.entered p.entry.beyond p.out b.4).0, as_many_mates d b.1 frame.mates.items b.3.mates_are, b.3.as_many)

pub write_ends-requires-clause-far : goal.write_ends-requires-clause-far
write_ends-requires-clause-far c =
    let b = c.requires.before in
    let d = b.0 in
    let p = c.args.push in
    let f = c.args.finger.now in
    let frame = c.args.frame.now in
    omega (arith, (ends_in d b.1 f b.2 p.from p.near p.far p.entry.entered p.entry.beyond p.out b.4).1, as_many_mates d b.1 frame.mates.items b.3.mates_are, b.3.as_many)

pub write_ends-requires-clause-few : goal.write_ends-requires-clause-few
write_ends-requires-clause-few c =
    let b = c.requires.before in
    let d = b.0 in
    let p = c.args.push in
    let f = c.args.finger.now in
    let frame = c.args.frame.now in
    let n : c.sides.result ≡ sides c.args.drawing.now.drawing.polygon = c.sides.ensures.value ∙ ap sides c.polygon.ensures in
    let few = few_before d b.1 f b.2 c.args.drawing.now.drawing b.5 (omega (arith, n, c.sides.ensures.most)) (omega (arith, c.points.ensures.value, c.points.ensures.few)) in
    omega (arith, few, as_many_mates d b.1 frame.mates.items b.3.mates_are, b.3.as_many)

pub write_ends-requires-clause-chord : goal.write_ends-requires-clause-chord
write_ends-requires-clause-chord c =
    let b = c.requires.before in
    let d = b.0 in
    let p = c.args.push in
    let f = c.args.finger.now in
    let frame = c.args.frame.now in
    let begins = begins_written d b.1 f b.2 p.from p.near p.far p.entry.entered p.entry.beyond p.out b.4 c.args.frame.now.begins.lists c.write.new.self.lists c.number.result _ _ b.3.begins_are c.number.ensures.value (ap (λ x. x + 1 - p.out) c.first_beyond.ensures) (ap (λ x. x + 1 - p.out) c.first_new.ensures) c.write.ensures.lists in
    let e = pushed d f in
    let strand : f.strand < arc_count e.polygon = omega (arith, b.2.strand, ap arc_count (pushed_polygon d b.1 f b.2)) in
    let short = row_small e c.write.new.self.lists begins f.strand strand (omega (arith, c.points.ensures.value, c.points.ensures.few, ap (λ e. length (all_exits e)) b.5)) in
    let fits = parts_fit d b.1 f b.2 p.from p.near p.far p.entry.entered p.entry.beyond p.out b.4 frame.begins.lists frame.mates.items b.3.begins_are b.3.mates_are c.write.new.self.lists c.number.result _ _ c.number.ensures.value c.write.ensures.lists short in
    chord_fits d b.1 f b.2 p.from p.near p.far p.entry.entered p.entry.beyond p.out b.4 frame.begins.lists frame.mates.items b.3.begins_are b.3.mates_are fits

pub returns-clause-frame : goal.returns-clause-frame
returns-clause-frame c =
    let b = c.requires.before in
    let d = b.0 in
    let p = c.args.push in
    let f = c.args.finger.now in
    let n : c.sides.result ≡ sides c.args.drawing.now.drawing.polygon = c.sides.ensures.value ∙ ap sides c.polygon.ensures in
    let few = few_before d b.1 f b.2 c.args.drawing.now.drawing b.5 (omega (arith, n, c.sides.ensures.most)) (omega (arith, c.points.ensures.value, c.points.ensures.few)) in
    let begins = begins_written d b.1 f b.2 p.from p.near p.far p.entry.entered p.entry.beyond p.out b.4 c.args.frame.now.begins.lists c.write.new.self.lists c.number.result _ _ b.3.begins_are c.number.ensures.value (ap (λ x. x + 1 - p.out) c.first_beyond.ensures) (ap (λ x. x + 1 - p.out) c.first_new.ensures) c.write.ensures.lists in
    let mates = mates_written_are d b.1 f b.2 p.from p.near p.far p.entry.entered p.entry.beyond p.out b.4 c.args.frame.now.mates.items c.write_mates.new.mates.items b.3.mates_are c.write_mates.ensures.size c.write_mates.ensures.mates in
    let frame = c.args.frame.now in
    let e = pushed d f in
    let strand : f.strand < arc_count e.polygon = omega (arith, b.2.strand, ap arc_count (pushed_polygon d b.1 f b.2)) in
    let short = row_small e c.write.new.self.lists begins f.strand strand (omega (arith, c.points.ensures.value, c.points.ensures.few, ap (λ e. length (all_exits e)) b.5)) in
    let fits = parts_fit d b.1 f b.2 p.from p.near p.far p.entry.entered p.entry.beyond p.out b.4 frame.begins.lists frame.mates.items b.3.begins_are b.3.mates_are c.write.new.self.lists c.number.result _ _ c.number.ensures.value c.write.ensures.lists short in
    let starts = frame.starts.items in
    let wrote = c.write_starts.new.starts in
    let long : c.args.frame.now.starts.len ≡ length wrote = omega (arith, c.write_starts.ensures.size, c.deref_mut.ensures.len) in
    let other : c.pair-other.result ≡ partner d.polygon f.side
    = c.pair-other.ensures ∙ ap (λ (q : Polygon). partner q f.side) (c.polygon-2.ensures ∙ (ap (λ (e : Drawing). e.polygon) b.5 ∙ pushed_polygon d b.1 f b.2)) in
    let begin = starts_are d b.1 f b.2 starts wrote b.3.starts_are (c.write_starts.ensures.size ∙ ap length c.deref_mut.ensures.value)
    (λ k lk.
    c.write_starts.ensures.starts k (omega (arith, lk, ap length c.deref_mut.ensures.value))
    ∙ (ap (λ xs. get_or xs k 0 + begins_later f.side c.pair-other.result k) c.deref_mut.ensures.value ∙ ap (λ o. get_or starts k 0 + begins_later f.side o k) other)) in
    record {
      starts_are = written wrote _ _ _ long refl ∙ (begin ∙ sym (ap offsets_of b.5));
      mates_are = mates ∙ sym (ap (λ (e : Drawing). map (other_end (chords e)) (spans e)) b.5);
      begins_are = begins ∙ sym (ap begins_of b.5);
      as_many = omega (arith, c.write_ends.ensures.size, b.3.as_many, c.write_mates.ensures.size);
      known = ends_after_are d b.1 f b.2 p.from p.near p.far p.entry.entered p.entry.beyond p.out b.4 frame.begins.lists frame.mates.items b.3.begins_are b.3.mates_are frame.ends.items c.write_ends.new.ends.items c.write_mates.new.mates.items
          c.write.new.self.lists c.number.result _ _ b.3.as_many b.3.known fits c.number.ensures.value (ap (λ x. x + 1 - p.out) c.first_beyond.ensures) (ap (λ x. x + 1 - p.out) c.first_new.ensures) c.write.ensures.lists
          c.write_mates.ensures.mates c.write_ends.ensures.ends;
    }
