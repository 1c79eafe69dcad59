use Rattle.std.proofs.Common.{arith, below_more, map, string_bytes}
use Rattle.std.proofs.lemmas.List.{length-map}
use Rattle.page_surface.proofs.Empty.{first_of_empty, none_empty, read_empty}
use Rattle.page_surface.proofs.rules.first_empty.Goals as goal

pub loop-number-preserved : goal.loop-number-preserved
loop-number-preserved c =
    below_more _ _ c.loop-number.invariant
    (read_empty c.args.polygons.now c.loop-number.number c.index-polygons-number.result c.as_slice.result.now _ c.loop-number-test.true c.index-polygons-number.is c.as_slice.ensures.value
    c.if-is_empty.ensures)

pub returns-then-is_empty : goal.returns-then-is_empty
returns-then-is_empty c =
    first_of_empty _ _ c.loop-number.invariant
    (read_empty c.args.polygons.now c.loop-number.number c.index-polygons-number.result c.as_slice.result.now _ c.loop-number-test.true c.index-polygons-number.is c.as_slice.ensures.value
    c.if-is_empty.ensures)
    (omega (arith, length-map c.args.polygons.now (λ p. map string_bytes p.items)))

pub returns : goal.returns
returns c = none_empty _ (λ k l. c.loop-number.invariant k (omega (arith, length-map c.args.polygons.now (λ p. map string_bytes p.items))))
