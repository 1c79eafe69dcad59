use Rattle.std.proofs.Common.{arith, below_more}
use Rattle.arc_basis.proofs.SidePlaces.{found_nowhere, found_there, not_there}
use Rattle.arc_basis.proofs.joining.side_place.Goals as goal

pub loop-polygon-preserved : goal.loop-polygon-preserved
loop-polygon-preserved c =
    below_more _ _ c.loop-polygon.invariant
    (not_there _ _ _ c.loop-polygon.invariant _ _ c.loop-polygon-test.true c.index-polygons-polygon.is c.as_slice.ensures _ c.place_of.ensures c.in_default.is)

pub returns-in-Some-clause-polygon : goal.returns-in-Some-clause-polygon
returns-in-Some-clause-polygon c =
    (found_there _ _ _ c.loop-polygon.invariant _ _ c.loop-polygon-test.true c.index-polygons-polygon.is c.as_slice.ensures _ _ c.place_of.ensures c.in-Some.is).0

pub returns-in-Some-clause-place : goal.returns-in-Some-clause-place
returns-in-Some-clause-place c =
    (found_there _ _ _ c.loop-polygon.invariant _ _ c.loop-polygon-test.true c.index-polygons-polygon.is c.as_slice.ensures _ _ c.place_of.ensures c.in-Some.is).1

pub returns-clause-found : goal.returns-clause-found
returns-clause-found c =
    let e = found_nowhere c.args.side.now c.args.polygons.now c.loop-polygon.polygon c.loop-polygon-test.false c.loop-polygon.invariant in
    absurd (omega (arith, e, c.requires))
