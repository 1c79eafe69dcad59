use Rattle.std.proofs.Common.{◌≡◌, ◌-◌, ◌<◌, ◌≤◌, ◌⊎◌, ap, subst, arith, inl, inr, ◌∙◌}
use Rattle.page_surface.specs.Polygon.{Polygon, first_side, partner, second_side}
use Rattle.region_table.specs.Ends.{IsKept}
use Rattle.region_table.specs.Reads.{told_crossings, told_points, told_spot}
use Rattle.region_table.specs.Table.{Table, name_at}
use Rattle.region_table.proofs.KeptReads.{first_known, points_beyond, second_known}
use Rattle.region_table.proofs.QuadrantReads.{to_read}
use Rattle.region_table.proofs.regions.Regions.to_quadrants.Goals as goal
use Rattle.region_table.proofs.regions.Regions.to_quadrants.Goals.{then-point-points, else-point-points}

pub spot-requires-2-clause-segment : goal.spot-requires-2-clause-segment
spot-requires-2-clause-segment c =
    let t = c.args.self.now in
    let a = c.args.point.arc in
    let polygon : c.self.inside.polygon ≡ t.polygon = ap (λ (u : Table). u.polygon) c.self.view_is in
    let first : c.first_side-first.result ≡ first_side t.polygon a = c.first_side-first.ensures ∙ ap (λ (q : Polygon). first_side q a) polygon in
    let second : c.pair-second.result ≡ second_side t.polygon a = c.pair-second.ensures ∙ (ap (λ (q : Polygon). partner q c.first_side-first.result) polygon ∙ ap (partner t.polygon) first) in
    let points : c.points_on-points.result ≡ told_crossings t a = c.points_on-points.ensures ∙ ap (told_points t) first in
    let kept = subst (λ (u : Table). IsKept u c.self.inside.frame.ends.items) c.self.view_is c.self.invariant.0.kept in
    let there = ap (told_points t) second ∙ points_beyond t c.self.inside.frame.ends.items kept a c.requires.arc in
    elim c.if-point-points.branch [
      | then-point-points w ↦ omega (arith, w.beyond-is, there, points)
      | else-point-points w ↦ omega (arith, w.beyond-is, there, points)
    ]

pub returns : goal.returns
returns c = λ d told.
    let t = c.args.self.now in
    let a = c.args.point.arc in
    let polygon : c.self.inside.polygon ≡ t.polygon = ap (λ (u : Table). u.polygon) c.self.view_is in
    let first : c.first_side-first.result ≡ first_side t.polygon a = c.first_side-first.ensures ∙ ap (λ (q : Polygon). first_side q a) polygon in
    let second : c.pair-second.result ≡ second_side t.polygon a = c.pair-second.ensures ∙ (ap (λ (q : Polygon). partner q c.first_side-first.result) polygon ∙ ap (partner t.polygon) first) in
    let points : c.points_on-points.result ≡ told_crossings t a = c.points_on-points.ensures ∙ ap (told_points t) first in
    let kept = subst (λ (u : Table). IsKept u c.self.inside.frame.ends.items) c.self.view_is c.self.invariant.0.kept in
    let beyond : ((c.args.point.number < told_crossings t a) × (c.if-point-points.beyond ≡ told_crossings t a - 1 - c.args.point.number)) ⊎ ((told_crossings t a ≤ c.args.point.number) × (c.if-point-points.beyond ≡ told_crossings t a))
    = elim c.if-point-points.branch [
      | then-point-points w ↦ inl (omega (arith, w.if-point-points.true, points), omega (arith, w.beyond-is, points))
      | else-point-points w ↦ inr (omega (arith, w.if-point-points.false, points), omega (arith, w.beyond-is, points))
    ] in
    to_read d t told a c.args.point.number (first_known t c.self.inside.frame.ends.items kept a c.requires.arc) (second_known t c.self.inside.frame.ends.items kept a c.requires.arc)
    c.name.result c.name-2.result c.if-point-points.beyond c.requires.number beyond
    (c.name.ensures.value ∙ ap (name_at t) (c.spot.ensures.value ∙ ap (λ k. told_spot t k c.args.point.number) first))
    (c.name-2.ensures.value ∙ ap (name_at t) (c.spot-2.ensures.value ∙ ap (λ k. told_spot t k c.if-point-points.beyond) second))
