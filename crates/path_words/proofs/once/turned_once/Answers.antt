use Rattle.std.proofs.Common.{◌+◌, arith, refl}
use Rattle.path_words.proofs.Turning.{turned_words, turning_more}
use Rattle.path_words.proofs.once.turned_once.Goals as goal

pub loop-arc-preserved : goal.loop-arc-preserved
loop-arc-preserved c =
    turning_more c.args.polygon.now c.args.pushes.now c.args.words.now c.loop-arc.arc c.loop-arc.images c.put_image.new.images c.loop-arc.letters c.in_ok-count.count
    (c.loop-arc.letters + c.in_ok-count.count) c.index-words-arc.result c.as_slice-word.result.now c.new.result c.loop-arc.invariant
    (omega (arith, c.loop-arc-test.true, c.sides-arc-end.ensures.value, c.requires.words.each)) c.index-words-arc.is c.as_slice-word.ensures c.new.ensures c.in_ok-count.ensures.letters c.in_ok-count.ensures.image
    c.in_ok-count.ensures.in_range c.in_ok-count.ensures.fits refl

pub returns-clause-words : goal.returns-clause-words
returns-clause-words c =
    turned_words c.args.polygon.now c.args.pushes.now c.args.words.now c.loop-arc.arc c.loop-arc.images c.loop-arc.letters c.requires.words c.loop-arc.invariant
    (omega (arith, c.loop-arc-test.false, c.loop-arc.auto, c.sides-arc-end.ensures.value, c.requires.words.each)) (omega (arith, c.if-letters-gt-MOST_LETTERS.false))
