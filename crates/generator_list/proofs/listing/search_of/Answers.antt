use Rattle.std.proofs.Common.{◌<◌, ap, subst, sym, arith}
use Rattle.std.specs.List.{All}
use Rattle.page_surface.specs.Polygon.{sides}
use Rattle.generator_list.specs.Search.{AreSmall}
use Rattle.generator_list.proofs.StrandPoints.{few_arcs, strands_small}
use Rattle.generator_list.proofs.listing.search_of.Goals as goal

pub all_links-requires : goal.all_links-requires
all_links-requires c =
    let sixteen = ap sides c.polygon.ensures in
    subst AreSmall (sym c.as_slice.ensures)
    (strands_small c.args.drawing.now.drawing c.in_ok-arcs.arcs c.points.ensures.valid (omega (arith, c.points.ensures.value, c.points.ensures.few)) (omega (arith, c.sides.ensures.value, c.sides.ensures.most, sixteen)) c.in_ok-arcs.ensures)

pub open_rows-requires : goal.open_rows-requires
open_rows-requires c =
    let sixteen = ap sides c.polygon.ensures in
    let small = strands_small c.args.drawing.now.drawing c.in_ok-arcs.arcs c.points.ensures.valid (omega (arith, c.points.ensures.value, c.points.ensures.few)) (omega (arith, c.sides.ensures.value, c.sides.ensures.most, sixteen)) c.in_ok-arcs.ensures in
    subst (All (All (λ s. s < 8))) (sym c.as_slice-2.ensures) small.strands

pub returns-clause-small : goal.returns-clause-small
returns-clause-small c =
    let sixteen = ap sides c.polygon.ensures in
    strands_small c.args.drawing.now.drawing c.in_ok-arcs.arcs c.points.ensures.valid (omega (arith, c.points.ensures.value, c.points.ensures.few)) (omega (arith, c.sides.ensures.value, c.sides.ensures.most, sixteen)) c.in_ok-arcs.ensures

pub returns-clause-few : goal.returns-clause-few
returns-clause-few c =
    let sixteen = ap sides c.polygon.ensures in
    few_arcs c.args.drawing.now.drawing c.in_ok-arcs.arcs c.points.ensures.valid (omega (arith, c.sides.ensures.value, c.sides.ensures.most, sixteen)) c.in_ok-arcs.ensures
