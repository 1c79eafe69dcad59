use Rattle.std.proofs.Common.{◌≡◌, ◌<◌, ◌∙◌, ◌+◌, arith, sym}
use Rattle.page_surface.specs.Polygon.{sides}
use Rattle.path_words.proofs.Passed.{next_first, next_up}
use Rattle.path_words.proofs.image.next_side.Goals as goal

pub returns-then-next-sides-clause-value : goal.returns-then-next-sides-clause-value
returns-then-next-sides-clause-value c =
    let last : c.args.side + 1 ≡ sides c.args.polygon.now = omega (arith, c.if-next-sides.true, c.number-next.ensures.value, c.sides-sides.ensures.value) in
    c.new.ensures ∙ sym (next_first c.args.polygon.now c.args.side last)

pub returns-else-next-sides-clause-value : goal.returns-else-next-sides-clause-value
returns-else-next-sides-clause-value c =
    let within : c.args.side + 1 < sides c.args.polygon.now = omega (arith, c.if-next-sides.false, c.number-next.ensures.value, c.sides-sides.ensures.value, c.requires) in
    let next : c.new-else-next-sides.result ≡ c.args.side + 1 = omega (arith, c.new-else-next-sides.ensures, c.number-next.ensures.value) in
    next ∙ sym (next_up c.args.polygon.now c.args.side within)
