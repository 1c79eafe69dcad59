use Rattle.std.proofs.Common.{◌∙◌, arith}
use Rattle.arc_basis.proofs.Places.{mem_read}
use Rattle.arc_basis.proofs.Tables.{empty_read, full_read, other_read, put_read, whole_table}
use Rattle.arc_basis.proofs.sides.side_table.Goals as goal
use Rattle.arc_basis.proofs.sides.side_table.Goals.{then-side-occurrence+then-is_none, else-side-occurrence, else-side-occurrence-via-then-side-occurrence+else-is_none, else-side-occurrence-via-else-side-occurrence}

pub index-requires : goal.index-requires
index-requires c = let h = (c.requires.named _ (mem_read _ _ _ c.loop-number-test.true c.index-sides-number.is)).0 in omega (arith, c.loop-number.invariant.size)

pub index_mut-requires : goal.index_mut-requires
index_mut-requires c = let h = (c.requires.named _ (mem_read _ _ _ c.loop-number-test.true c.index-sides-number.is)).0 in omega (arith, c.loop-number.invariant.size)

pub loop-number-preserved : goal.loop-number-preserved
loop-number-preserved c =
    let l = (c.requires.named _ (mem_read _ _ _ c.loop-number-test.true c.index-sides-number.is)).0 in
    let here = c.index-sides-number.is in
    elim c.if-side-occurrence.branch [
      | then-side-occurrence+then-is_none w ↦
          rw w.table-is (put_read _ _ _ _ _ _ c.loop-number.invariant c.loop-number-test.true here _ _ c.number-label.ensures.value l w.index.ensures
          _ w.new.ensures w.if-side-occurrence.true (empty_read _ _ w.is_none.ensures w.if-is_none.true))
      | else-side-occurrence w ↦ elim w.else-side-occurrence.branch [
        | else-side-occurrence-via-then-side-occurrence+else-is_none w' ↦
            rw w.table-is (full_read _ _ _ _ _ _ c.loop-number.invariant c.loop-number-test.true here _ _ c.number-label.ensures.value l w'.index.ensures
            w'.if-is_none.ensures)
        | else-side-occurrence-via-else-side-occurrence w' ↦
            rw w.table-is (other_read _ _ _ _ _ _ c.loop-number.invariant c.loop-number-test.true here w'.if-side-occurrence.false)
      ]
    ]

pub returns : goal.returns
returns c = c.from_vec.ensures ∙ whole_table _ _ _ _ _ c.loop-number.invariant c.loop-number-test.false
