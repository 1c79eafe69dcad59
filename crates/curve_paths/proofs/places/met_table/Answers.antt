use Rattle.std.proofs.Common.{subst, arith}
use Rattle.std.proofs.lemmas.List.{take_all}
use Rattle.arc_basis.proofs.Places.{mem_read}
use Rattle.curve_paths.specs.PlaceTables.{AreMet}
use Rattle.curve_paths.proofs.Numbers.{met_more, met_same}
use Rattle.curve_paths.proofs.places.met_table.Goals as goal
use Rattle.curve_paths.proofs.places.met_table.Goals.{then-crossing-lt32, else-crossing-lt32}

pub index_mut-requires : goal.index_mut-requires
index_mut-requires c =
    let l = c.requires.numbered _ (mem_read _ _ _ c.loop-crossing-test.true c.crossing-item.is) in
    omega (arith, c.loop-crossing.invariant.size)

pub loop-crossing-preserved : goal.loop-crossing-preserved
loop-crossing-preserved c =
    let l = c.requires.numbered _ (mem_read _ _ _ c.loop-crossing-test.true c.crossing-item.is) in
    elim c.if-crossing-lt32.branch [
      | then-crossing-lt32 w ↦
          rw w.met-is (met_more _ _ _ _ _ c.loop-crossing-test.true c.crossing-item.is l c.loop-crossing.invariant _ w.if-crossing-lt32.true (omega (arith, w.number.ensures.value)))
      | else-crossing-lt32 w ↦
          rw w.met-is (met_same _ _ _ _ _ c.loop-crossing-test.true c.crossing-item.is l c.loop-crossing.invariant w.if-crossing-lt32.false)
    ]

pub returns : goal.returns
returns c =
    subst (λ cs. AreMet cs c.args.label_count c.loop-crossing.met.items) (take_all c.loop-crossing.crossing-index _ c.loop-crossing-test.false) c.loop-crossing.invariant
