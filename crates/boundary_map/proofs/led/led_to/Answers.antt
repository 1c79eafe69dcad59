use Rattle.std.proofs.Common.{◌≡◌, ℕ, ◌∙◌, ◌+◌, ap, arith, get_or, refl}
use Rattle.boundary_map.proofs.Loops.{map_push}
use Rattle.boundary_map.specs.Sets.{firsts, led_point}
use Rattle.drawing.specs.Pieces.{piece_table}
use Rattle.boundary_map.proofs.led.led_to.Goals as goal

pub loop-arc-preserved : goal.loop-arc-preserved
loop-arc-preserved c =
    let d = c.args.diagram.now in
    let point : ℕ → ℕ = λ a. led_point d (piece_table d) (firsts c.args.regions.now c.args.set.now) (get_or c.args.y.now a 0) a in
    let same : c.new.result ≡ c.loop-arc.arc = omega (arith, c.new.ensures, c.loop-arc-test.true, c.requires.few) in
    c.in_ok-push.ensures.ok ∙ map_push point c.loop-arc.arc (c.loop-arc.arc + 1) c.loop-arc.x c.led_point.result refl c.loop-arc.invariant
    (c.led_point.ensures ∙ ap (λ a. led_point d (piece_table d) (firsts c.args.regions.now c.args.set.now) (get_or c.args.y.now c.loop-arc.arc 0) a) same)
