use Rattle.std.proofs.Common.{◌≡◌, ◌∙◌, ◌-◌, ap, arith, sym}
use Rattle.page_surface.specs.Polygon.{sides}
use Rattle.curve_paths.specs.Curves.{gap_before}
use Rattle.path_words.proofs.Passed.{before_later, before_zero}
use Rattle.path_words.proofs.image.previous_gap.Goals as goal

pub returns-then-number-eq0-clause-value : goal.returns-then-number-eq0-clause-value
returns-then-number-eq0-clause-value c =
    let p = c.args.polygon.now in
    let none : c.args.side ≡ 0 = omega (arith, c.if-number-eq0.true, c.number-number.ensures.value) in
    let last : c.new.result ≡ sides p - 1 = omega (arith, c.new.ensures, c.sides.ensures.value) in
    last ∙ sym (ap (gap_before p) none ∙ before_zero p (omega (arith, c.sides.ensures.value, c.sides.ensures.least)))

pub returns-else-number-eq0-clause-value : goal.returns-else-number-eq0-clause-value
returns-else-number-eq0-clause-value c =
    let before : c.new-else-number-eq0.result ≡ c.args.side - 1 = omega (arith, c.new-else-number-eq0.ensures, c.number-number.ensures.value) in
    before ∙ sym (before_later c.args.polygon.now c.args.side (omega (arith, c.if-number-eq0.false, c.number-number.ensures.value)) c.requires)
