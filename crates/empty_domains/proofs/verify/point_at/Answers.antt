use Rattle.std.proofs.Common.{◌∙◌, ap₂, arith}
use Rattle.empty_domains.proofs.Looks.{look_other}
use Rattle.empty_domains.proofs.PointMade.{point_first, point_last, point_less, point_side_under, point_start}
use Rattle.page_surface.specs.Polygon.{arc, first_side}
use Rattle.region_table.proofs.ChordTables.{starts_size}
use Rattle.empty_domains.proofs.verify.point_at.Goals as goal

pub side-side-requires : goal.side-side-requires
side-side-requires c = (look_other c.args.diagram.now c.requires.valid c.args.tables.now c.requires.tables c.args.at c.requires.spot).0

pub bounds-starts-side : goal.bounds-starts-side
bounds-starts-side c =
    let l = point_side_under c.args.diagram.now c.requires.valid c.args.tables.now c.requires.tables c.args.starts.now c.requires.starts c.args.at c.requires.spot c.side-side.result c.side-side.ensures.value in
    omega (arith, l, starts_size c.args.diagram.now c.args.starts.now c.requires.starts)

pub overflow_sub-place : goal.overflow_sub-place
overflow_sub-place c = point_start c.args.diagram.now c.requires.valid c.args.tables.now c.requires.tables c.args.starts.now c.requires.starts c.args.at c.requires.spot c.side-side.result c.side-side.ensures.value

pub returns-then-number-side : goal.returns-then-number-side
returns-then-number-side c =
    let a = c.arc.ensures ∙ ap₂ arc c.requires.polygon c.new.ensures in
    let f = c.number.ensures.value ∙ (c.first_side-first.ensures ∙ ap₂ first_side c.requires.polygon a) in
    point_first c.args.diagram.now c.requires.valid c.args.tables.now c.requires.tables c.args.starts.now c.requires.starts c.args.at c.requires.spot c.side-side.result c.side-side.ensures.value
    c.points_on-points.result c.number.result c.points_on-points.ensures f c.if-number-side.true

pub returns-then-place-points : goal.returns-then-place-points
returns-then-place-points c =
    let a = c.arc.ensures ∙ ap₂ arc c.requires.polygon c.new.ensures in
    let f = c.number.ensures.value ∙ (c.first_side-first.ensures ∙ ap₂ first_side c.requires.polygon a) in
    point_less c.args.diagram.now c.requires.valid c.args.tables.now c.requires.tables c.args.starts.now c.requires.starts c.args.at c.requires.spot c.side-side.result c.side-side.ensures.value
    c.points_on-points.result c.number.result c.points_on-points.ensures f c.if-number-side.false c.if-place-points.true

pub returns-else-place-points : goal.returns-else-place-points
returns-else-place-points c =
    let a = c.arc.ensures ∙ ap₂ arc c.requires.polygon c.new.ensures in
    let f = c.number.ensures.value ∙ (c.first_side-first.ensures ∙ ap₂ first_side c.requires.polygon a) in
    point_last c.args.diagram.now c.requires.valid c.args.tables.now c.requires.tables c.args.starts.now c.requires.starts c.args.at c.requires.spot c.side-side.result c.side-side.ensures.value
    c.points_on-points.result c.number.result c.points_on-points.ensures f (omega (arith, c.if-place-points.false))
