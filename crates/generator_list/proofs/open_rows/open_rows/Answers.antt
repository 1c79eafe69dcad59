use Rattle.std.proofs.Common.{◌∙◌, ap, drop, length, arith}
use Rattle.generator_list.proofs.SetTables.{last_read, row_size, rows_more, rows_size}
use Rattle.generator_list.proofs.open_rows.open_rows.Goals as goal

pub overflow_sub-len : goal.overflow_sub-len
overflow_sub-len c = let size = ap length c.loop-arc.invariant ∙ rows_size (drop c.loop-arc.arc c.args.arcs.now) in omega (arith, size, c.len.ensures)

pub item-requires : goal.item-requires
item-requires c = let size = ap length c.loop-arc.invariant ∙ rows_size (drop c.loop-arc.arc c.args.arcs.now) in omega (arith, size, c.len.ensures)

pub row_before-requires-clause-next : goal.row_before-requires-clause-next
row_before-requires-clause-next c =
    row_size (drop c.loop-arc.arc c.args.arcs.now) _ (c.as_slice-in-loop-arc.ensures ∙ last_read (drop c.loop-arc.arc c.args.arcs.now) _ _ _ c.loop-arc.invariant c.len.ensures c.item.ensures)

pub loop-arc-preserved : goal.loop-arc-preserved
loop-arc-preserved c =
    rows_more c.args.arcs.now c.loop-arc.arc _ _ _ _ _ (omega arith) (omega arith) (c.as_slice.ensures ∙ c.index-arcs-arc.is) c.loop-arc.invariant
    (c.in_ok-row.ensures (drop c.loop-arc.arc c.args.arcs.now) (c.as_slice-in-loop-arc.ensures ∙ last_read (drop c.loop-arc.arc c.args.arcs.now) _ _ _ c.loop-arc.invariant c.len.ensures c.item.ensures)) c.in_ok-push-2.ensures.ok
