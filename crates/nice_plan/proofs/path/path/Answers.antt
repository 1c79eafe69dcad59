use Rattle.std.proofs.Common.{◌≡◌, true, false, length, ◌∙◌, ap, subst, sym, arith}
use Rattle.page_surface.specs.Drawing.{all_exits, chords, spot}
use Rattle.page_surface.specs.Polygon.{sides}
use Rattle.finger_move.specs.Glued.{glued_segment}
use Rattle.nice_plan.specs.Measured.{IsMeasured, Measured}
use Rattle.nice_plan.specs.Path.{leaves_by, stops_in}
use Rattle.nice_plan.proofs.MeasuredReads.{on_span}
use Rattle.nice_plan.proofs.PathSteps.{IsSoFar, chords_counted, path_starts, step_goes, step_stops, stops_told}
use Rattle.nice_plan.proofs.path.path.Goals as goal

pub loop-left-init : goal.loop-left-init
loop-left-init c =
    let m = c.args.measured.now in
    let view = c.measured.view_is in
    let k = subst (λ (w : Measured). IsMeasured w.drawing w.table) view c.measured.invariant in
    let n = chords_counted m.drawing k.embedded c.points.result c.sides.result (c.points.ensures.value ∙ ap (λ (w : Measured). length (all_exits w.drawing)) view)
    (c.sides.ensures.value ∙ (ap sides c.polygon.ensures ∙ ap (λ (w : Measured). sides w.drawing.polygon) view)) in
    subst (λ x. IsSoFar m.drawing c.args.far (length (chords m.drawing)) (spot m.drawing c.args.start) c.new-path.result.items c.args.start x) (sym n)
    (subst (λ xs. IsSoFar m.drawing c.args.far (length (chords m.drawing)) (spot m.drawing c.args.start) xs c.args.start (length (chords m.drawing))) (sym c.new-path.ensures.items)
    (path_starts m.drawing c.args.far (length (chords m.drawing)) c.args.start c.requires))

pub returns-then-stops_at : goal.returns-then-stops_at
returns-then-stops_at c =
    let m = c.args.measured.now in
    let k = c.piece-piece.ensures.known in
    let e = c.beyond-entered.result in
    let told = stops_told m k c.args.far (spot m.drawing e) (on_span m.drawing e c.beyond-entered.ensures.there) c.piece-piece.result (sym c.piece-piece.ensures.value) in
    let stops : stops_in m.drawing c.args.far (spot m.drawing (glued_segment m.drawing c.loop-left.segment)) ≡ true =
    ap (λ x. stops_in m.drawing c.args.far (spot m.drawing x)) (sym c.beyond-entered.ensures.value) ∙ (sym told ∙ (sym c.stops_at.ensures ∙ c.if-stops_at.true)) in
    step_stops m.drawing c.args.far (length (chords m.drawing)) (spot m.drawing c.args.start) c.loop-left.path.items c.loop-left.segment c.loop-left.left c.loop-left.invariant (omega (arith, c.loop-left-test.true))
    c.push.new.self.items c.in_ok-push.ensures.items stops

pub loop-left-preserved : goal.loop-left-preserved
loop-left-preserved c =
    let m = c.args.measured.now in
    let k = c.piece-piece.ensures.known in
    let e = c.beyond-entered.result in
    let told = stops_told m k c.args.far (spot m.drawing e) (on_span m.drawing e c.beyond-entered.ensures.there) c.piece-piece.result (sym c.piece-piece.ensures.value) in
    let stops : stops_in m.drawing c.args.far (spot m.drawing (glued_segment m.drawing c.loop-left.segment)) ≡ false =
    ap (λ x. stops_in m.drawing c.args.far (spot m.drawing x)) (sym c.beyond-entered.ensures.value) ∙ (sym told ∙ (sym c.stops_at.ensures ∙ c.if-stops_at.false)) in
    step_goes m.drawing c.args.far (length (chords m.drawing)) (spot m.drawing c.args.start) c.loop-left.path.items c.loop-left.segment c.loop-left.left c.loop-left.invariant (omega (arith, c.loop-left-test.true))
    c.push.new.self.items c.in_ok-push.ensures.items c.leaves_by-segment.result c.leaves_by-segment.ensures.there stops
    (c.leaves_by-segment.ensures.value ∙ ap (λ x. leaves_by m.drawing (spot m.drawing x)) c.beyond-entered.ensures.value)
