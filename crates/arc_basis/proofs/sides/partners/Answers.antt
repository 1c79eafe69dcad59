use Rattle.std.proofs.Common.{sym, ap, ◌∙◌, arith, length}
use Rattle.std.proofs.lemmas.Option.{same_Some}
use Rattle.arc_basis.proofs.Places.{map_more, mem_read}
use Rattle.arc_basis.proofs.Tables.{found_side, length-side_table, some_there}
use Rattle.arc_basis.proofs.sides.partners.Goals as goal

pub overflow_sub-side : goal.overflow_sub-side
overflow_sub-side c = (c.requires.named _ (mem_read _ _ _ c.loop-side-test.true c.side-item.is)).1

pub side_in-other-requires-clause-first : goal.side_in-other-requires-clause-first
side_in-other-requires-clause-first c = (c.requires.named _ (mem_read _ _ _ c.loop-side-test.true c.side-item.is)).0

pub side_in-other-requires-clause-second : goal.side_in-other-requires-clause-second
side_in-other-requires-clause-second c =
    let l = (c.requires.named _ (mem_read _ _ _ c.loop-side-test.true c.side-item.is)).0 in
    omega (arith, l, ap length c.requires.seconds_are, length-side_table c.args.sides.now (length c.args.first_sides.now) 1)

pub unwrap-requires : goal.unwrap-requires
unwrap-requires c =
    some_there _ _ (c.side_in-other.ensures ∙ found_side _ _ _ _ c.requires _ (mem_read _ _ _ c.loop-side-test.true c.side-item.is))

pub loop-side-preserved : goal.loop-side-preserved
loop-side-preserved c =
    let there = c.side_in-other.ensures ∙ found_side _ _ _ _ c.requires _ (mem_read _ _ _ c.loop-side-test.true c.side-item.is) in
    map_more _ _ _ _ _ _ _ c.loop-side-test.true c.side-item.is c.loop-side.invariant c.in_ok-push.ensures.items (same_Some _ _ (sym c.unwrap.ensures ∙ there))
