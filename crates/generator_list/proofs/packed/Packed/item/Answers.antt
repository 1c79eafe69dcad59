use Rattle.std.proofs.Common.{arith}
use Rattle.generator_list.proofs.PackedRows.{item_inside, item_read}
use Rattle.generator_list.proofs.packed.Packed.item.Goals as goal

pub offset_bounds-deref-start : goal.offset_bounds-deref-start
offset_bounds-deref-start c = let h = item_inside _ _ c.args.number _ _ c.args.self.now c.self.view_is c.self.invariant c.requires c.deref.ensures.value in omega (arith, h)

pub slice_bounds-result-end : goal.slice_bounds-result-end
slice_bounds-result-end c = let h = item_inside _ _ c.args.number _ _ c.args.self.now c.self.view_is c.self.invariant c.requires c.deref.ensures.value in omega (arith, h)

pub returns : goal.returns
returns c = item_read _ _ c.args.number _ _ c.args.self.now c.self.view_is c.self.invariant c.requires c.deref.ensures.value
