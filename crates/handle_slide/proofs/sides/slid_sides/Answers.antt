use Rattle.std.proofs.Common.{◌≡◌, ◌+◌, ◌%◌, ◌∷◌, ◌++◌, [], cond, eqb, ap, ◌∙◌, arith}
use Rattle.page_surface.specs.Polygon.{partner, sides}
use Rattle.handle_slide.proofs.SideTables.{order_all, order_more}
use Rattle.handle_slide.proofs.sides.slid_sides.Goals as goal

pub loop-offset-preserved : goal.loop-offset-preserved
loop-offset-preserved c =
    let at : c.new-other.result ≡ (c.args.side + 2 + c.loop-offset.offset) % sides c.args.polygon.now
    = c.new-other.ensures ∙ (ap (λ n. (n + 2 + c.loop-offset.offset) % c.sides-count.result) c.number.ensures.value ∙ ap (λ n. (c.args.side + 2 + c.loop-offset.offset) % n) c.sides-count.ensures.value) in
    order_more c.args.polygon.now c.args.side c.loop-offset.offset c.new-other.result c.loop-offset.order.items c.put_side.new.order.items c.requires
    (omega (arith, c.loop-offset-test.true, c.sides-count.ensures.value)) at c.loop-offset.invariant
    (c.in_ok-put_side.ensures ∙ ap (λ x. c.loop-offset.order.items ++ cond (eqb c.new-other.result x) (c.side_after-next.result ∷ c.new-other.result ∷ []) (c.new-other.result ∷ [])) c.pair-partner.ensures
    ∙ ap (λ x. c.loop-offset.order.items ++ cond (eqb c.new-other.result (partner c.args.polygon.now c.args.side)) (x ∷ c.new-other.result ∷ []) (c.new-other.result ∷ [])) c.side_after-next.ensures)

pub returns : goal.returns
returns c = order_all c.args.polygon.now c.args.side c.loop-offset.offset c.loop-offset.order.items c.requires (omega (arith, c.loop-offset-test.false, c.sides-count.ensures.value)) c.loop-offset.invariant
