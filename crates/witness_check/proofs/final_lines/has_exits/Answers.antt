use Rattle.std.proofs.Common.{◌∙◌, arith, sym}
use Rattle.std.proofs.lemmas.List.{take_more_same}
use Rattle.std.proofs.lemmas.Option.{get_or_from_slice_get}
use Rattle.page_surface.specs.Drawing.{strand_exits}
use Rattle.witness_check.proofs.final_lines.has_exits.Goals as goal

pub loop-chord-preserved : goal.loop-chord-preserved
loop-chord-preserved c =
    let there = strand_exits c.args.drawing.now.drawing c.args.strand in
    let exit = c.index-exits-chord.result in
    take_more_same c.args.exits.now there c.loop-chord.chord exit c.loop-chord-test.true (omega (arith, c.loop-chord-test.true, c.chords.ensures, c.if-exits-chords.false)) c.loop-chord.invariant
    (sym c.index-exits-chord.is ∙ sym (get_or_from_slice_get there c.loop-chord.chord exit exit (c.ends_at.ensures.0 c.if-not-ends_at.false)))
