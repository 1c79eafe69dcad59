use Rattle.std.proofs.Common.{◌≡◌, ◌<◌, ◌∙◌, ap, ap₂, arith}
use Rattle.empty_domains.proofs.Diagram.{partner_on}
use Rattle.empty_domains.proofs.Made.{opposite_inside, opposite_last, opposite_less, side_before, side_inside}
use Rattle.page_surface.specs.Drawing.{offset}
use Rattle.page_surface.specs.Polygon.{partner, sides}
use Rattle.region_table.proofs.ChordTables.{start_read, starts_size}
use Rattle.empty_domains.proofs.drawing_tables.opposite_at.Goals as goal

pub bounds-starts-side : goal.bounds-starts-side
bounds-starts-side c =
    omega (arith, starts_size c.args.diagram.now c.args.starts.now c.requires.starts, side_inside c.args.diagram.now c.requires.valid c.args.at c.requires.at, c.requires.side)

pub overflow_sub-place : goal.overflow_sub-place
overflow_sub-place c =
    let d = c.args.diagram.now in
    let lk = side_inside d c.requires.valid c.args.at c.requires.at in
    let s = start_read d c.args.starts.now c.requires.starts c.args.side (omega (arith, lk, c.requires.side)) in
    omega (arith, s, ap (offset d) c.requires.side, side_before d c.requires.valid c.args.at c.requires.at)

pub points_on-points-requires-clause-side : goal.points_on-points-requires-clause-side
points_on-points-requires-clause-side c = omega (arith, side_inside c.args.diagram.now c.requires.valid c.args.at c.requires.at, c.requires.side)

pub pair-requires : goal.pair-requires
pair-requires c =
    omega (arith, side_inside c.args.diagram.now c.requires.valid c.args.at c.requires.at, c.requires.side, c.new.ensures, ap sides c.requires.polygon)

pub bounds-starts-number : goal.bounds-starts-number
bounds-starts-number c =
    let d = c.args.diagram.now in
    let lk : c.args.side < sides d.polygon = omega (arith, side_inside d c.requires.valid c.args.at c.requires.at, c.requires.side) in
    let pr : c.number.result ≡ partner d.polygon c.args.side = c.number.ensures.value ∙ (c.pair.ensures ∙ ap₂ partner c.requires.polygon c.new.ensures) in
    omega (arith, starts_size d c.args.starts.now c.requires.starts, pr, partner_on d c.requires.valid c.args.side lk)

pub returns-then-place-points-clause-value : goal.returns-then-place-points-clause-value
returns-then-place-points-clause-value c =
    let d = c.args.diagram.now in
    let lk : c.args.side < sides d.polygon = omega (arith, side_inside d c.requires.valid c.args.at c.requires.at, c.requires.side) in
    let pr : c.number.result ≡ partner d.polygon c.args.side = c.number.ensures.value ∙ (c.pair.ensures ∙ ap₂ partner c.requires.polygon c.new.ensures) in
    opposite_less d c.args.starts.now c.requires.starts c.args.at c.args.side c.number.result c.points_on-points.result lk (partner_on d c.requires.valid c.args.side lk) c.requires.side pr c.points_on-points.ensures
    (omega (arith, c.if-place-points.true))

pub returns-else-place-points-clause-value : goal.returns-else-place-points-clause-value
returns-else-place-points-clause-value c =
    let d = c.args.diagram.now in
    let lk : c.args.side < sides d.polygon = omega (arith, side_inside d c.requires.valid c.args.at c.requires.at, c.requires.side) in
    let pr : c.number.result ≡ partner d.polygon c.args.side = c.number.ensures.value ∙ (c.pair.ensures ∙ ap₂ partner c.requires.polygon c.new.ensures) in
    opposite_last d c.args.starts.now c.requires.starts c.args.at c.args.side c.number.result c.points_on-points.result lk (partner_on d c.requires.valid c.args.side lk) c.requires.side pr c.points_on-points.ensures
    (omega (arith, c.if-place-points.false))

pub returns-then-place-points-clause-inside : goal.returns-then-place-points-clause-inside
returns-then-place-points-clause-inside c =
    omega (arith, returns-then-place-points-clause-value c, opposite_inside c.args.diagram.now c.requires.valid c.args.at c.requires.at)

pub returns-else-place-points-clause-inside : goal.returns-else-place-points-clause-inside
returns-else-place-points-clause-inside c =
    omega (arith, returns-else-place-points-clause-value c, opposite_inside c.args.diagram.now c.requires.valid c.args.at c.requires.at)

pub overflow_add-result : goal.overflow_add-result
overflow_add-result c =
    let d = c.args.diagram.now in
    let lk : c.args.side < sides d.polygon = omega (arith, side_inside d c.requires.valid c.args.at c.requires.at, c.requires.side) in
    let pr : c.number.result ≡ partner d.polygon c.args.side = c.number.ensures.value ∙ (c.pair.ensures ∙ ap₂ partner c.requires.polygon c.new.ensures) in
    let v = opposite_less d c.args.starts.now c.requires.starts c.args.at c.args.side c.number.result c.points_on-points.result lk (partner_on d c.requires.valid c.args.side lk) c.requires.side pr c.points_on-points.ensures
    (omega (arith, c.if-place-points.true)) in
    omega (arith, v, opposite_inside d c.requires.valid c.args.at c.requires.at, c.requires.few)

pub overflow_add-result-else-place-points : goal.overflow_add-result-else-place-points
overflow_add-result-else-place-points c =
    let d = c.args.diagram.now in
    let lk : c.args.side < sides d.polygon = omega (arith, side_inside d c.requires.valid c.args.at c.requires.at, c.requires.side) in
    let pr : c.number.result ≡ partner d.polygon c.args.side = c.number.ensures.value ∙ (c.pair.ensures ∙ ap₂ partner c.requires.polygon c.new.ensures) in
    let v = opposite_last d c.args.starts.now c.requires.starts c.args.at c.args.side c.number.result c.points_on-points.result lk (partner_on d c.requires.valid c.args.side lk) c.requires.side pr c.points_on-points.ensures
    (omega (arith, c.if-place-points.false)) in
    omega (arith, v, opposite_inside d c.requires.valid c.args.at c.requires.at, c.requires.few)
