use Rattle.std.proofs.Common.{subst, arith}
use Rattle.std.proofs.lemmas.List.{get_or_read, take_all}
use Rattle.arc_basis.proofs.Places.{mem_read}
use Rattle.curve_paths.proofs.Numbers.{AreCounts, counts_more, few_so_far, whole_counts}
use Rattle.curve_paths.proofs.places.point_counts.Goals as goal

pub index_mut-requires : goal.index_mut-requires
index_mut-requires c =
    let l = c.requires.numbered _ (mem_read _ _ _ c.loop-crossing-test.true c.crossing-item.is) in
    omega (arith, c.loop-crossing.invariant.size)

pub overflow_add-index_mut : goal.overflow_add-index_mut
overflow_add-index_mut c =
    let l = c.requires.numbered _ (mem_read _ _ _ c.loop-crossing-test.true c.crossing-item.is) in
    let read = get_or_read c.loop-crossing.counts.items c.number.result _ (omega (arith, c.loop-crossing.invariant.size)) c.index_mut.ensures.value 0 in
    let few = few_so_far c.args.crossings.now c.loop-crossing.crossing-index _ _ c.number.result (omega arith) c.loop-crossing.invariant (omega arith) in
    omega (arith, few, read)

pub loop-crossing-preserved : goal.loop-crossing-preserved
loop-crossing-preserved c =
    let l = c.requires.numbered _ (mem_read _ _ _ c.loop-crossing-test.true c.crossing-item.is) in
    let read = get_or_read c.loop-crossing.counts.items c.number.result _ (omega (arith, c.loop-crossing.invariant.size)) c.index_mut.ensures.value 0 in
    counts_more _ _ _ _ _ _ _ c.loop-crossing-test.true c.crossing-item.is l c.number.ensures.value read c.loop-crossing.invariant

pub returns : goal.returns
returns c =
    whole_counts _ _ _ (subst (λ cs. AreCounts cs c.args.label_count c.loop-crossing.counts.items) (take_all c.loop-crossing.crossing-index _ c.loop-crossing-test.false) c.loop-crossing.invariant)
