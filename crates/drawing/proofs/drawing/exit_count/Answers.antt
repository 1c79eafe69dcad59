use Rattle.std.proofs.Common.{◌∙◌, ap, arith, length}
use Rattle.std.specs.List.{flat_map}
use Rattle.std.specs.Prelude.{vec_items}
use Rattle.std.proofs.lemmas.List.{take_all}
use Rattle.drawing.proofs.RoomTables.{joined_rows, vector_adds}
use Rattle.drawing.proofs.drawing.exit_count.Goals as goal

pub overflow_cast-count : goal.overflow_cast-count
overflow_cast-count c =
    let k = vector_adds c.args.strands.now _ _ c.loop-strand-test.true c.strand-item.is in
    omega (arith, k, c.len.ensures, c.requires, c.loop-strand.invariant)

pub overflow_add-count : goal.overflow_add-count
overflow_add-count c =
    let k = vector_adds c.args.strands.now _ _ c.loop-strand-test.true c.strand-item.is in
    omega (arith, k, c.len.ensures, c.requires, c.loop-strand.invariant)

pub returns : goal.returns
returns c = c.loop-strand.invariant ∙ (ap (λ xs. length (flat_map vec_items xs)) (take_all c.loop-strand.strand-index c.args.strands.now c.loop-strand-test.false) ∙ ap length (joined_rows c.args.strands.now))
