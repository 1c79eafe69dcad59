use Rattle.std.proofs.Common.{◌≡◌, ◌∙◌, ap, arith, length}
use Rattle.page_surface.specs.Words.{reduced}
use Rattle.curve_paths.specs.Curves.{image}
use Rattle.path_words.specs.declared.action.ActRefusal.TheVariants.{TooLong}
use Rattle.path_words.proofs.Tables.{set_is_image}
use Rattle.path_words.proofs.action.act.Goals as goal

pub returns-clause-image : goal.returns-clause-image
returns-clause-image c =
    c.in_ok-image.ensures.value
    ∙ set_is_image c.args.polygon.now c.in_ok-pushes.ensures.table.valid c.args.curve.now c.args.sign c.in_ok-pushes.pushes c.in_ok-pushes.ensures.value c.args.word.now c.args.from c.args.to

pub returns-then-letters-gt-MOST_LETTERS-clause-refused : goal.returns-then-letters-gt-MOST_LETTERS-clause-refused
returns-then-letters-gt-MOST_LETTERS-clause-refused c =
    let is = c.in_ok-image.ensures.value
    ∙ set_is_image c.args.polygon.now c.in_ok-pushes.ensures.table.valid c.args.curve.now c.args.sign c.in_ok-pushes.pushes c.in_ok-pushes.ensures.value c.args.word.now c.args.from c.args.to in
    let many : c.len-letters.result ≡ length (reduced c.args.polygon.now (image c.args.polygon.now c.args.curve.now c.args.sign c.args.word.now c.args.from c.args.to))
    = omega (arith, ap length is, c.len-letters.ensures, c.in_ok-image.image.ok.0) in
    λ _. ap TooLong many

pub returns-then-letters-gt-MOST_LETTERS-clause-long : goal.returns-then-letters-gt-MOST_LETTERS-clause-long
returns-then-letters-gt-MOST_LETTERS-clause-long c =
    let is = c.in_ok-image.ensures.value
    ∙ set_is_image c.args.polygon.now c.in_ok-pushes.ensures.table.valid c.args.curve.now c.args.sign c.in_ok-pushes.pushes c.in_ok-pushes.ensures.value c.args.word.now c.args.from c.args.to in
    λ _. omega (arith, ap length is, c.len-letters.ensures, c.in_ok-image.image.ok.0, c.if-letters-gt-MOST_LETTERS.true)
