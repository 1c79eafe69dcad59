use Rattle.std.proofs.Common.{ap, arith}
use Rattle.std.proofs.lemmas.Grind.{common_steps}
use Rattle.page_surface.specs.Drawing.{Chord}
use Rattle.drawing.proofs.Lists.{mem_at}
use Rattle.drawing.proofs.SweepTables.{mates_done, mates_read, mates_start}
use Rattle.region_table.proofs.mates.mates.Goals as goal

pub loop-left-init : goal.loop-left-init
loop-left-init c = record { within = omega arith; filled = mates_start c.args.chords.now c.args.count _ c.in_ok-mates.ensures }

pub index_mut-requires : goal.index_mut-requires
index_mut-requires c =
    let e = ap (λ (k : Chord). k.to) c.chord.view_is in
    let l = c.requires.to _ (mem_at c.args.chords.now _ _ (omega (arith, c.loop-left.invariant.within, c.loop-left-test.true)) c.index-chords-left.is) in
    let s = c.loop-left.invariant.filled.size in
    grind (arith, common_steps)

pub index_mut-requires-in-loop-left : goal.index_mut-requires-in-loop-left
index_mut-requires-in-loop-left c =
    let e = ap (λ (k : Chord). k.from) c.chord.view_is in
    let l = c.requires.from _ (mem_at c.args.chords.now _ _ (omega (arith, c.loop-left.invariant.within, c.loop-left-test.true)) c.index-chords-left.is) in
    let s = c.loop-left.invariant.filled.size in
    grind (arith, common_steps)

pub loop-left-preserved : goal.loop-left-preserved
loop-left-preserved c =
    let m = mem_at c.args.chords.now _ _ (omega (arith, c.loop-left.invariant.within, c.loop-left-test.true)) c.index-chords-left.is in
    record {
      within = omega (arith, c.loop-left.invariant.within);
      filled = mates_read c.args.chords.now _ _ _ _ _ c.chord.view_is c.loop-left-test.true c.loop-left.invariant.within c.index-chords-left.is (c.requires.from _ m) (c.requires.to _ m) c.loop-left.invariant.filled;
    }

pub returns : goal.returns
returns c = mates_done c.args.chords.now c.loop-left.left c.args.count _ (omega (arith, c.loop-left-test.false)) c.loop-left.invariant.filled
