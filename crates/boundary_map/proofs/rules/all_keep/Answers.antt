use Rattle.std.proofs.Common.{◌≡◌, ℕ, Bool, ◌∙◌, ◌+◌, ap, get_or, sym, arith, refl}
use Rattle.boundary_map.proofs.Loops.{all_not, all_push}
use Rattle.boundary_map.specs.Sets.{arc_keeps, firsts}
use Rattle.drawing.specs.Pieces.{piece_table}
use Rattle.page_surface.specs.Polygon.{arc_count}
use Rattle.boundary_map.proofs.rules.all_keep.Goals as goal

pub returns-then-not-arc_keeps : goal.returns-then-not-arc_keeps
returns-then-not-arc_keeps c =
    let d = c.args.diagram.now in
    let p : ℕ → Bool = λ a. arc_keeps d (piece_table d) (firsts c.args.regions.now c.args.set.now) (get_or c.args.y.now a 0) (get_or c.args.x.now a 0) a in
    let same : c.new.result ≡ c.loop-arc.arc = omega (arith, c.new.ensures, c.loop-arc-test.true, c.requires.few) in
    sym (all_not p (arc_count d.polygon) c.loop-arc.arc (omega (arith, c.loop-arc-test.true, c.requires.from))
    (sym (c.arc_keeps.ensures ∙ ap (λ a. arc_keeps d (piece_table d) (firsts c.args.regions.now c.args.set.now) (get_or c.args.y.now c.loop-arc.arc 0) (get_or c.args.x.now c.loop-arc.arc 0) a) same) ∙ c.if-not-arc_keeps.true))

pub loop-arc-preserved : goal.loop-arc-preserved
loop-arc-preserved c =
    let d = c.args.diagram.now in
    let p : ℕ → Bool = λ a. arc_keeps d (piece_table d) (firsts c.args.regions.now c.args.set.now) (get_or c.args.y.now a 0) (get_or c.args.x.now a 0) a in
    let same : c.new.result ≡ c.loop-arc.arc = omega (arith, c.new.ensures, c.loop-arc-test.true, c.requires.few) in
    all_push p c.loop-arc.arc (c.loop-arc.arc + 1) refl c.loop-arc.invariant (sym (c.arc_keeps.ensures ∙ ap (λ a. arc_keeps d (piece_table d) (firsts c.args.regions.now c.args.set.now) (get_or c.args.y.now c.loop-arc.arc 0) (get_or c.args.x.now c.loop-arc.arc 0) a) same) ∙ c.if-not-arc_keeps.false)
