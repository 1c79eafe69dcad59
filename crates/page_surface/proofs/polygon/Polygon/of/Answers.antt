use Rattle.std.proofs.Common.{arith, ◌≡◌, ◌<◌, length}
use Rattle.std.proofs.lemmas.Grind.{common_steps}
use Rattle.page_surface.proofs.Filled.{first_sides_within, partner_so_far, opens, closes}
use Rattle.page_surface.proofs.polygon.Polygon.of.Goals as goal
use Rattle.page_surface.proofs.polygon.Polygon.of.Goals.{then-side-partner+in_ok-push+in_ok-push-2, else-side-partner+in_ok-push-3}

pub overflow_cast-len : goal.overflow_cast-len
overflow_cast-len c = let k = first_sides_within _ _ _ _ c.loop-side.invariant in grind (arith, common_steps)

pub index-requires-else-side-partner : goal.index-requires-else-side-partner
index-requires-else-side-partner c =
    let l : c.loop-side.side < length c.args.pairs.items = grind (arith, common_steps) in
    let k = partner_so_far _ _ _ _ c.loop-side.invariant _ c.requires.pairs l (rw c.number-partner.ensures.value c.index.ensures) c.if-side-partner.false in
    grind (arith, common_steps)

pub loop-side-preserved : goal.loop-side-preserved
loop-side-preserved c =
    let l : c.loop-side.side < length c.args.pairs.items = grind (arith, common_steps) in
    elim c.if-side-partner.branch [
      | then-side-partner+in_ok-push+in_ok-push-2 w ↦
          let a : w.new.result ≡ length c.loop-side.first_sides.items = grind (arith, common_steps) in
          rw (w.arcs-is, w.first_sides-is, w.in_ok-push.ensures.items, w.in_ok-push-2.ensures.items)
          (opens _ _ _ _ c.loop-side.invariant c.number-partner.result _ _ l (rw c.number-partner.ensures.value c.index.ensures) w.if-side-partner.true a w.new-then-side-partner.ensures)
      | else-side-partner+in_ok-push-3 w ↦
          rw (w.arcs-is, w.first_sides-is, w.in_ok-push-3.ensures.items)
          (closes _ _ _ _ c.loop-side.invariant c.number-partner.result _ c.requires.pairs l (rw c.number-partner.ensures.value c.index.ensures) w.if-side-partner.false
          w.index-else-side-partner.ensures)
    ]
