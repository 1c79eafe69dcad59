use Rattle.std.proofs.Common.{◌+◌, ◌∙◌, ap, drop, length, arith}
use Rattle.generator_list.proofs.SetTables.{goes_on_by_row, row_read, row_size, rows_size}
use Rattle.generator_list.proofs.search.Search.goes_on.Goals as goal

pub item-requires : goal.item-requires
item-requires c = let size = ap length c.requires.open ∙ rows_size c.args.self.now.arcs in omega (arith, size, c.len.ensures)

pub bounds-after-set_with : goal.bounds-after-set_with
bounds-after-set_with c =
    let row = c.as_slice-after.ensures ∙ row_read c.args.self.now.arcs c.args.arc _ _ _ c.requires.open c.requires.arc c.len.ensures c.item.ensures in
    omega (arith, row_size (drop (c.args.arc + 1) c.args.self.now.arcs) _ row)

pub returns-then-not-is_in_set : goal.returns-then-not-is_in_set
returns-then-not-is_in_set c =
    let row = c.as_slice-after.ensures ∙ row_read c.args.self.now.arcs c.args.arc _ _ _ c.requires.open c.requires.arc c.len.ensures c.item.ensures in
    goes_on_by_row (drop (c.args.arc + 1) c.args.self.now.arcs) c.args.used c.args.strand _ _ _ (omega arith) c.requires.strand row c.is_in_set.ensures c.if-not-is_in_set.true c.set_with.ensures
