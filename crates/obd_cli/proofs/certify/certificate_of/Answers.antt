use Rattle.std.proofs.Common.{◌∙◌, arith, rules}
use Rattle.obd_cli.proofs.Certified.{all_belong}
use Rattle.obd_cli.proofs.certify.certificate_of.Goals as goal

pub returns : goal.returns
returns c =
    all_belong c.args.book.now c.args.surface.now c.args.moved c.args.complex c.in_ok-page.page c.in_ok-last.last c.requires.surface c.requires.drawings c.requires.most_moves c.requires.most_generators c.requires.moves c.requires.complex
    c.in_ok-page.ensures c.in_ok-last.ensures c.in_ok-slides.slides c.in_ok-twists.twists c.new.result _ (c.in_ok-slides.ensures ∙ c.as_slice.ensures) c.in_ok-twists.ensures (omega (arith, c.new.ensures, c.requires.complex.least)) (search rules)
