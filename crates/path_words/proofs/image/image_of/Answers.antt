use Rattle.std.proofs.Common.{◌≡◌, ℕ, List, ap, arith, length}
use Rattle.page_surface.specs.Words.{reduced}
use Rattle.curve_paths.specs.Curves.{with_words}
use Rattle.path_words.specs.Pushes.{push_of}
use Rattle.path_words.proofs.Moving.{moving_all, moving_more, moving_none}
use Rattle.path_words.proofs.PushWords.{length-reduced}
use Rattle.path_words.proofs.Tables.{length-with_words}
use Rattle.path_words.proofs.image.image_of.Goals as goal

pub loop-side-init : goal.loop-side-init
loop-side-init c = rw c.new-image.ensures.items (moving_none c.args.polygon.now c.requires.table.valid c.args.pushes.now c.args.word.now c.args.from c.args.to c.requires.from)

pub loop-side-preserved : goal.loop-side-preserved
loop-side-preserved c =
    moving_more c.args.polygon.now c.requires.table.valid c.args.pushes.now c.args.word.now c.args.from c.args.to c.loop-side.image.items c.loop-side.gap c.loop-side.side-index c.loop-side.invariant
    c.side-item.result c.previous_gap-end.result c.pair-gap.result c.put_passed.new.word.items c.put_letter.new.word.items c.loop-side-test.true c.side-item.is c.previous_gap-end.ensures.value c.pair-gap.ensures c.requires.in_range
    c.in_ok-put_passed.ensures.word c.in_ok-put_letter.ensures.word c.in_ok-put_letter.ensures.in_range c.in_ok-put_letter.ensures.is_reduced

pub returns-clause-value : goal.returns-clause-value
returns-clause-value c =
    moving_all c.args.polygon.now c.requires.table.valid c.args.pushes.now c.args.word.now c.args.from c.args.to c.loop-side.image.items c.loop-side.gap c.loop-side.side-index c.loop-side.invariant
    c.put_passed-2.new.word.items c.loop-side-test.false c.in_ok-put_passed-2.ensures.word

pub returns-clause-short : goal.returns-clause-short
returns-clause-short c =
    let p = c.args.polygon.now in
    let set : List ℕ = with_words p (push_of c.args.pushes.now) c.args.word.now c.args.from c.args.to in
    let value : c.put_passed-2.new.word.items ≡ reduced p set
    = moving_all p c.requires.table.valid c.args.pushes.now c.args.word.now c.args.from c.args.to c.loop-side.image.items c.loop-side.gap c.loop-side.side-index c.loop-side.invariant
    c.put_passed-2.new.word.items c.loop-side-test.false c.in_ok-put_passed-2.ensures.word in
    omega (
      arith,
      ap length value,
      length-reduced p set,
      length-with_words p c.requires.table.few_sides c.requires.table.valid.not_empty c.args.pushes.now c.requires.table.short c.args.word.now c.args.from c.args.to,
    )
