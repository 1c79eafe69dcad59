use Rattle.std.proofs.Common.{◌≡◌, ◌+◌, ◌-◌, ◌∙◌, ap, arith, get_or, length, [], ◌∷◌}
use Rattle.std.proofs.lemmas.List.{length-append}
use Rattle.drawing.proofs.PutStrands.{put_in}
use Rattle.drawing.proofs.strands.part_at.Goals as goal

pub returns : goal.returns
returns c = λ item items is.
    let n : length c.args.table.now ≡ length items + 4 = omega (arith, ap length is, length-append items (item ∷ item ∷ item ∷ item ∷ [])) in
    let low = c.min-low.result in
    let high = c.max-high.result in
    put_in item low high items c.args.table.now c.turn.new.table c.turn-2.new.table (omega (arith, c.min-low.ensures, c.max-high.ensures)) (omega (arith, c.max-high.ensures, c.requires.one, c.requires.other, n)) is
    (λ k l. c.turn.ensures.before k 0 l)
    (λ k a b. c.turn.ensures.first k 0 a b ∙ ap (λ i. get_or c.args.table.now i 0) (let e : length c.args.table.now - 4 + (k - high) ≡ length items + (k - high) = omega (arith, n) in e))
    (λ k a b. c.turn.ensures.later k 0 a (omega (arith, a, b, n)))
    (λ k l. c.turn-2.ensures.before k 0 l)
    (λ k a b. c.turn-2.ensures.first k 0 a b ∙ ap (λ i. get_or c.turn.new.table i 0) (let e : high + 2 - 2 + (k - low) ≡ high + (k - low) = omega arith in e))
    (λ k a b. c.turn-2.ensures.later k 0 a (omega (arith, a, b)))
    (λ k l. c.turn-2.ensures.behind k 0 l)
    c.args.one c.args.other c.min-low.ensures c.max-high.ensures (omega (arith, c.turn-2.ensures.size, c.turn.ensures.size, n))
