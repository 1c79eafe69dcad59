use Rattle.move_log.proofs.Numbers.{at_none}
use Rattle.move_log.proofs.Words.{no_chord, no_segment, no_side}
use Rattle.move_log.proofs.entry.FingerEntry.read.Goals as goal

pub returns-in_err-chord-clause-none : goal.returns-in_err-chord-clause-none
returns-in_err-chord-clause-none c =
    at_none c.from_residual-in_err-chord.result c.from_residual-in_err-chord.ensures
    (no_chord c.args.text.now c.in_ok-words.words.now c.in_ok-words.ensures.some
    c.in_ok-strand.strand c.in_ok-strand.words.now c.in_ok-strand.ensures.fits c.in_ok-strand.ensures.some
    c.in_err-chord.ensures.none)

pub returns-in_err-side-clause-none : goal.returns-in_err-side-clause-none
returns-in_err-side-clause-none c =
    at_none c.from_residual-in_err-side.result c.from_residual-in_err-side.ensures
    (no_side c.args.text.now c.in_ok-words.words.now c.in_ok-words.ensures.some
    c.in_ok-strand.strand c.in_ok-strand.words.now c.in_ok-strand.ensures.fits c.in_ok-strand.ensures.some
    c.in_ok-chord.chord c.in_ok-chord.words.now c.in_ok-chord.ensures.fits c.in_ok-chord.ensures.some
    c.in_err-side.ensures.none)

pub returns-in_err-segment-clause-none : goal.returns-in_err-segment-clause-none
returns-in_err-segment-clause-none c =
    at_none c.from_residual-in_err-segment.result c.from_residual-in_err-segment.ensures
    (no_segment c.args.text.now c.in_ok-words.words.now c.in_ok-words.ensures.some
    c.in_ok-strand.strand c.in_ok-strand.words.now c.in_ok-strand.ensures.fits c.in_ok-strand.ensures.some
    c.in_ok-chord.chord c.in_ok-chord.words.now c.in_ok-chord.ensures.fits c.in_ok-chord.ensures.some
    c.in_ok-side.side c.in_ok-side.words.now c.in_ok-side.ensures.fits c.in_ok-side.ensures.some
    c.in_err-segment.ensures.none)
