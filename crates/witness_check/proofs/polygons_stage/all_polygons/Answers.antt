use Rattle.std.proofs.Common.{◌≡◌, ◌-◌, suc, length, arith}
use Rattle.witness_check.specs.BookRules.{PolygonsCome}
use Rattle.witness_check.proofs.EachLine.{that_fault}
use Rattle.witness_check.proofs.PolygonLines.{page_found, polygons_fault, polygons_kept}
use Rattle.witness_check.proofs.polygons_stage.all_polygons.Goals as goal

pub returns-in-Some-clause-kept : goal.returns-in-Some-clause-kept
returns-in-Some-clause-kept c = polygons_kept c.args.polygons.now (page_found c.args.polygons.now c.in_ok-page.field-0 c.in-Some.page c.in-Some.is c.in_ok-page.ensures.none)

pub returns-in-None-clause-fault : goal.returns-in-None-clause-fault
returns-in-None-clause-fault c fault same =
    let some = c.requires.some in
    let last : length c.args.polygons.now ≡ suc (length c.args.polygons.now - 1) = omega (arith, some) in
    that_fault (PolygonsCome c.args.polygons.now) _ fault same
    (polygons_fault c.args.polygons.now (length c.args.polygons.now - 1) last (c.in_ok-page.ensures.none.0 c.in-None.is))
