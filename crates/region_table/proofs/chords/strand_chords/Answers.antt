use Rattle.std.proofs.Common.{◌≡◌, ◌++◌, ◌∙◌, ap, arith}
use Rattle.page_surface.specs.Drawing.{cut_strand, end_of, spot}
use Rattle.page_surface.specs.Polygon.{first_side, second_side}
use Rattle.drawing.proofs.StrandTables.{entry_there, exit_there}
use Rattle.drawing.proofs.SweepTables.{strand_more, strand_start}
use Rattle.region_table.proofs.ChordTables.{chord_read, place_known, strand_done, strand_end}
use Rattle.drawing.proofs.Ends.{placed}
use Rattle.region_table.proofs.chords.strand_chords.Goals as goal

pub loop-exit-init : goal.loop-exit-init
loop-exit-init c =
    let d = c.args.drawing.now.drawing in
    let f : c.first_side-first_side.result ≡ first_side d.polygon c.args.strand = cc in
    let s : c.pair.result ≡ second_side d.polygon c.args.strand = cc in
    let h = strand_start d c.args.strand _ _ _ _ (placed d c.requires.embedded) c.requires.strand f s c.end_of-from.ensures (c.as_slice-exit-items.ensures.value ∙ c.in_ok-exits.ensures) in
    record { from_side = h.0; from_place = h.1; so_far = ap (λ xs. xs ++ cut_strand d c.end_of-from.result c.as_slice-exit-items.result.now (end_of d c.first_side-first_side.result)) c.new-chords.ensures.items ∙ h.2 }

pub chord_between-requires-clause-from_side : goal.chord_between-requires-clause-from_side
chord_between-requires-clause-from_side c =
    let v = c.loop-exit.invariant in
    (place_known c.args.drawing.now.drawing c.args.starts.now c.requires.starts _ _ c.requires.few v.from_side v.from_place).0

pub chord_between-requires-clause-from_few : goal.chord_between-requires-clause-from_few
chord_between-requires-clause-from_few c =
    let v = c.loop-exit.invariant in
    (place_known c.args.drawing.now.drawing c.args.starts.now c.requires.starts _ _ c.requires.few v.from_side v.from_place).1

pub chord_between-requires-clause-to_side : goal.chord_between-requires-clause-to_side
chord_between-requires-clause-to_side c =
    let d = c.args.drawing.now.drawing in
    let k = exit_there d (placed d c.requires.embedded) c.args.strand _ _ _ (c.as_slice-exit-items.ensures.value ∙ c.in_ok-exits.ensures) c.loop-exit-test.true c.exit-item.is in
    (place_known d c.args.starts.now c.requires.starts c.exit-item.result.side c.exit-item.result.place c.requires.few k.0 (omega (arith, k))).0

pub chord_between-requires-clause-to_few : goal.chord_between-requires-clause-to_few
chord_between-requires-clause-to_few c =
    let d = c.args.drawing.now.drawing in
    let k = exit_there d (placed d c.requires.embedded) c.args.strand _ _ _ (c.as_slice-exit-items.ensures.value ∙ c.in_ok-exits.ensures) c.loop-exit-test.true c.exit-item.is in
    (place_known d c.args.starts.now c.requires.starts c.exit-item.result.side c.exit-item.result.place c.requires.few k.0 (omega (arith, k))).1

pub entry-from-requires-clause-side : goal.entry-from-requires-clause-side
entry-from-requires-clause-side c =
    let d = c.args.drawing.now.drawing in
    (exit_there d (placed d c.requires.embedded) c.args.strand _ _ _ (c.as_slice-exit-items.ensures.value ∙ c.in_ok-exits.ensures) c.loop-exit-test.true c.exit-item.is).0

pub entry-from-requires-clause-place : goal.entry-from-requires-clause-place
entry-from-requires-clause-place c =
    let d = c.args.drawing.now.drawing in
    (exit_there d (placed d c.requires.embedded) c.args.strand _ _ _ (c.as_slice-exit-items.ensures.value ∙ c.in_ok-exits.ensures) c.loop-exit-test.true c.exit-item.is).1

pub loop-exit-preserved : goal.loop-exit-preserved
loop-exit-preserved c =
    let d = c.args.drawing.now.drawing in
    let v = c.loop-exit.invariant in
    let k = exit_there d (placed d c.requires.embedded) c.args.strand _ _ _ (c.as_slice-exit-items.ensures.value ∙ c.in_ok-exits.ensures) c.loop-exit-test.true c.exit-item.is in
    let r = entry_there d (placed d c.requires.embedded) _ _ k c.entry-from.ensures in
    let chord = chord_read d c.args.starts.now c.requires.starts _ _ _ v.from_side k.0 c.chord_between.ensures in
    record {
      from_side = r.0;
      from_place = omega (arith, r);
      so_far = strand_more d _ _ _ _ _ _ _ _ _ _ c.loop-exit-test.true c.exit-item.is chord c.entry-from.ensures c.in_ok-push.ensures.items v.so_far;
    }

pub chord_between-requires-2-clause-from_side : goal.chord_between-requires-2-clause-from_side
chord_between-requires-2-clause-from_side c =
    let v = c.loop-exit.invariant in
    (place_known c.args.drawing.now.drawing c.args.starts.now c.requires.starts _ _ c.requires.few v.from_side v.from_place).0

pub chord_between-requires-2-clause-from_few : goal.chord_between-requires-2-clause-from_few
chord_between-requires-2-clause-from_few c =
    let v = c.loop-exit.invariant in
    (place_known c.args.drawing.now.drawing c.args.starts.now c.requires.starts _ _ c.requires.few v.from_side v.from_place).1

pub chord_between-requires-2-clause-to_side : goal.chord_between-requires-2-clause-to_side
chord_between-requires-2-clause-to_side c =
    let d = c.args.drawing.now.drawing in
    let f : c.first_side-first_side.result ≡ first_side d.polygon c.args.strand = cc in
    let k = strand_end d c.requires.embedded c.args.strand _ _ c.requires.strand f c.end_of.ensures in
    (place_known d c.args.starts.now c.requires.starts _ _ c.requires.few k.0 k.1).0

pub chord_between-requires-2-clause-to_few : goal.chord_between-requires-2-clause-to_few
chord_between-requires-2-clause-to_few c =
    let d = c.args.drawing.now.drawing in
    let f : c.first_side-first_side.result ≡ first_side d.polygon c.args.strand = cc in
    let k = strand_end d c.requires.embedded c.args.strand _ _ c.requires.strand f c.end_of.ensures in
    (place_known d c.args.starts.now c.requires.starts _ _ c.requires.few k.0 k.1).1

pub returns : goal.returns
returns c =
    let d = c.args.drawing.now.drawing in
    let v = c.loop-exit.invariant in
    let f : c.first_side-first_side.result ≡ first_side d.polygon c.args.strand = cc in
    let k = strand_end d c.requires.embedded c.args.strand _ _ c.requires.strand f c.end_of.ensures in
    let chord = chord_read d c.args.starts.now c.requires.starts _ _ _ v.from_side k.0 c.chord_between-2.ensures in
    let at_end : spot d c.end_of.result ≡ spot d (end_of d c.first_side-first_side.result) = ap (spot d) c.end_of.ensures in
    strand_done d _ _ _ c.loop-exit.exit-index _ _ _ _ (omega (arith, c.loop-exit-test.false, c.loop-exit.auto)) (chord ∙ ap (λ n. record { from = spot d c.loop-exit.from; to = n }) at_end) c.in_ok-push-2.ensures.items v.so_far
