use Rattle.std.proofs.Common.{◌≡◌, ◌+◌, ◌-◌, ap, subst, arith, ◌∙◌}
use Rattle.page_surface.specs.Polygon.{Polygon, first_side, partner, second_side}
use Rattle.region_table.specs.Ends.{IsKept}
use Rattle.region_table.specs.Reads.{told_crossings, told_points, told_spot}
use Rattle.region_table.specs.Table.{Table, name_at}
use Rattle.region_table.proofs.KeptReads.{first_known, points_beyond, second_known}
use Rattle.region_table.proofs.QuadrantReads.{from_read, none_read}
use Rattle.region_table.proofs.regions.Regions.from_quadrants.Goals as goal

pub returns-then-point-points : goal.returns-then-point-points
returns-then-point-points c = λ d told.
    let t = c.args.self.now in
    let a = c.args.point.arc in
    let polygon : c.self.inside.polygon ≡ t.polygon = ap (λ (u : Table). u.polygon) c.self.view_is in
    let first : c.first_side-first.result ≡ first_side t.polygon a = c.first_side-first.ensures ∙ ap (λ (q : Polygon). first_side q a) polygon in
    let second : c.pair-second.result ≡ second_side t.polygon a = c.pair-second.ensures ∙ (ap (λ (q : Polygon). partner q c.first_side-first.result) polygon ∙ ap (partner t.polygon) first) in
    let points : c.points_on-points.result ≡ told_crossings t a = c.points_on-points.ensures ∙ ap (told_points t) first in
    let kept = subst (λ (u : Table). IsKept u c.self.inside.frame.ends.items) c.self.view_is c.self.invariant.0.kept in
    none_read d t told a c.args.point.number (first_known t c.self.inside.frame.ends.items kept a c.requires.arc) (second_known t c.self.inside.frame.ends.items kept a c.requires.arc)
    (omega (arith, c.if-point-points.true, points))

pub spot-requires-2-clause-segment : goal.spot-requires-2-clause-segment
spot-requires-2-clause-segment c =
    let t = c.args.self.now in
    let a = c.args.point.arc in
    let polygon : c.self.inside.polygon ≡ t.polygon = ap (λ (u : Table). u.polygon) c.self.view_is in
    let first : c.first_side-first.result ≡ first_side t.polygon a = c.first_side-first.ensures ∙ ap (λ (q : Polygon). first_side q a) polygon in
    let second : c.pair-second.result ≡ second_side t.polygon a = c.pair-second.ensures ∙ (ap (λ (q : Polygon). partner q c.first_side-first.result) polygon ∙ ap (partner t.polygon) first) in
    let points : c.points_on-points.result ≡ told_crossings t a = c.points_on-points.ensures ∙ ap (told_points t) first in
    let kept = subst (λ (u : Table). IsKept u c.self.inside.frame.ends.items) c.self.view_is c.self.invariant.0.kept in
    let there = ap (told_points t) second ∙ points_beyond t c.self.inside.frame.ends.items kept a c.requires.arc in
    omega (arith, there, points)

pub returns : goal.returns
returns c = λ d told.
    let t = c.args.self.now in
    let a = c.args.point.arc in
    let polygon : c.self.inside.polygon ≡ t.polygon = ap (λ (u : Table). u.polygon) c.self.view_is in
    let first : c.first_side-first.result ≡ first_side t.polygon a = c.first_side-first.ensures ∙ ap (λ (q : Polygon). first_side q a) polygon in
    let second : c.pair-second.result ≡ second_side t.polygon a = c.pair-second.ensures ∙ (ap (λ (q : Polygon). partner q c.first_side-first.result) polygon ∙ ap (partner t.polygon) first) in
    let points : c.points_on-points.result ≡ told_crossings t a = c.points_on-points.ensures ∙ ap (told_points t) first in
    let kept = subst (λ (u : Table). IsKept u c.self.inside.frame.ends.items) c.self.view_is c.self.invariant.0.kept in
    from_read d t told a c.args.point.number (first_known t c.self.inside.frame.ends.items kept a c.requires.arc) (second_known t c.self.inside.frame.ends.items kept a c.requires.arc)
    c.name.result c.name-2.result (c.points_on-points.result - c.args.point.number) (omega (arith, c.if-point-points.false, c.requires.number, points)) (omega (arith, points))
    (c.name.ensures.value ∙ ap (name_at t) (c.spot.ensures.value ∙ ap (λ k. told_spot t k (c.args.point.number + 1)) first))
    (c.name-2.ensures.value ∙ ap (name_at t) (c.spot-2.ensures.value ∙ ap (λ k. told_spot t k (c.points_on-points.result - c.args.point.number)) second))
