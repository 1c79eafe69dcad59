use Rattle.std.proofs.Common.{◌∙◌, arith, eqb, false, sym, true}
use Rattle.witness_check.specs.OpenBook.{arcs}
use Rattle.witness_check.proofs.SameLists.{all_alike, arc_at, arc_number, numbers_by, one_more_alike, tells_at, uneven, unlike}
use Rattle.witness_check.proofs.basis_lines.are_arcs.Goals as goal

pub returns-then-basis-sides : goal.returns-then-basis-sides
returns-then-basis-sides c =
    sym (numbers_by c.args.basis.now _ ∙ uneven eqb c.args.basis.now (arcs c.args.polygon.now)
    (λ even. c.if-basis-sides.true (even ∙ (arc_number c.args.polygon.now ∙ sym c.sides.ensures.value))))

pub returns-then-not-is_on : goal.returns-then-not-is_on
returns-then-not-is_on c =
    sym (numbers_by c.args.basis.now _ ∙ unlike eqb c.args.basis.now (arcs c.args.polygon.now) c.loop-side.side c.index-basis-side.result 0
    c.loop-side-test.true (omega (arith, c.loop-side-test.true, c.if-basis-sides.false, c.sides.ensures.value, arc_number c.args.polygon.now))
    (tells_at eqb c.args.basis.now (arcs c.args.polygon.now) c.loop-side.side c.index-basis-side.result 0 _ _ c.is_on.result false c.index-basis-side.is (arc_at c.args.polygon.now c.loop-side.side 0 (omega (arith, c.loop-side-test.true, c.if-basis-sides.false, c.sides.ensures.value))) c.is_on.ensures c.if-not-is_on.true))

pub loop-side-preserved : goal.loop-side-preserved
loop-side-preserved c =
    one_more_alike eqb c.args.basis.now (arcs c.args.polygon.now) c.loop-side.side c.index-basis-side.result 0 c.loop-side-test.true (omega (arith, c.loop-side-test.true, c.if-basis-sides.false, c.sides.ensures.value, arc_number c.args.polygon.now))
    (tells_at eqb c.args.basis.now (arcs c.args.polygon.now) c.loop-side.side c.index-basis-side.result 0 _ _ c.is_on.result true c.index-basis-side.is (arc_at c.args.polygon.now c.loop-side.side 0 (omega (arith, c.loop-side-test.true, c.if-basis-sides.false, c.sides.ensures.value))) c.is_on.ensures c.if-not-is_on.false)
    c.loop-side.invariant

pub returns : goal.returns
returns c =
    sym (numbers_by c.args.basis.now _ ∙ all_alike eqb c.args.basis.now (arcs c.args.polygon.now) c.loop-side.side
    (c.if-basis-sides.false ∙ (c.sides.ensures.value ∙ sym (arc_number c.args.polygon.now))) c.loop-side-test.false c.loop-side.invariant)
