use Rattle.std.proofs.Common.{◌≡◌, ◌+◌, ◌<◌, ◌++◌, ◌∙◌, drop, length, arith}
use Rattle.generator_list.specs.Search.{chosen}
use Rattle.generator_list.proofs.Branches.{handed_on}
use Rattle.generator_list.proofs.Searched.{cursors_read, links_read, searched_first, searched_next, searched_over, small_read}
use Rattle.generator_list.proofs.search.Search.+run.Goals as goal

pub loop-point-init : goal.loop-point-init
loop-point-init t c =
    let read = c.as_slice-strands.ensures ∙ c.item.ensures in
    searched_first _ _ _ c.as_slice-strands.result.now _ c.args.found.now (small_read c.args.self.now.arcs _ _ _ c.requires.small (omega arith) read) _ _
    (cursors_read c.args.self.now.arcs _ _ _ _ _ (omega arith) read c.cursors-cursors.ensures) (record { least = c.least-point.ensures.least; one = c.least-point.ensures.one })

pub returns-in_err-run-clause-over : goal.returns-in_err-run-clause-over
returns-in_err-run-clause-over t c =
    handed_on (λ n. (n ≡ c.args.self.now.limit + 1) × (c.args.self.now.limit < length (c.args.found.now.lists ++ chosen (drop (length c.args.begun.now) c.args.self.now.arcs) c.args.used c.args.begun.now)))
    _ _ c.from_residual-in_err-run.ensures.1
    (λ n given. let (a, b) = c.in_err-run.ensures.over n given in
    let read = c.as_slice-strands.ensures ∙ c.item.ensures in (
      a,
      searched_over c.args.self.now.arcs c.args.used c.args.begun.now c.as_slice-strands.result.now _ c.args.found.now c.loop-point.found c.loop-point.point _
          (small_read c.args.self.now.arcs _ _ _ c.requires.small (omega arith) read) c.loop-point.invariant c.loop-point-test.true _ _ _ c.index-strands-point.is c.set_with.ensures
          (c.as_slice.ensures ∙ c.in_ok-longer.ensures) _ (omega arith) read b,
    ))

pub bounds-next-point : goal.bounds-next-point
bounds-next-point t c =
    let read = c.as_slice-strands.ensures ∙ c.item.ensures in
    let linked = links_read c.args.self.now.arcs c.args.self.now.links (length c.args.begun.now) c.as_slice-strands.result.now _ c.as_slice-next.result.now c.item-2.result.now _ c.requires.links (omega arith) read c.item-2.ensures c.as_slice-next.ensures in
    omega (arith, linked.0, c.loop-point-test.true)

pub loop-point-preserved-in_ok-run : goal.loop-point-preserved-in_ok-run
loop-point-preserved-in_ok-run t c =
    let read = c.as_slice-strands.ensures ∙ c.item.ensures in
    let linked = links_read c.args.self.now.arcs c.args.self.now.links (length c.args.begun.now) c.as_slice-strands.result.now _ c.as_slice-next.result.now c.item-2.result.now _ c.requires.links (omega arith) read c.item-2.ensures c.as_slice-next.ensures in
    let next = searched_next c.args.self.now.arcs c.args.used c.args.begun.now c.as_slice-strands.result.now c.args.self.now.limit c.args.found.now c.loop-point.found c.loop-point.point c.loop-point.cursors
    (small_read c.args.self.now.arcs _ _ _ c.requires.small (omega arith) read) c.loop-point.invariant c.loop-point-test.true _ _ _ c.index-strands-point.is c.set_with.ensures
    (c.as_slice.ensures ∙ c.in_ok-longer.ensures) _ _ _ _ c.in_ok-run.ensures.found c.in_ok-run.ensures.within c.number.ensures.value (linked.1 c.loop-point.point c.loop-point-test.true)
    (record { least = c.least-point-in-loop-point.ensures.least; one = c.least-point-in-loop-point.ensures.one }) in
    next.0

pub loop-point-preserved : goal.loop-point-preserved
loop-point-preserved t c =
    let read = c.as_slice-strands.ensures ∙ c.item.ensures in
    let linked = links_read c.args.self.now.arcs c.args.self.now.links (length c.args.begun.now) c.as_slice-strands.result.now _ c.as_slice-next.result.now c.item-2.result.now _ c.requires.links (omega arith) read c.item-2.ensures c.as_slice-next.ensures in
    let next = searched_next c.args.self.now.arcs c.args.used c.args.begun.now c.as_slice-strands.result.now c.args.self.now.limit c.args.found.now c.loop-point.found c.loop-point.point c.loop-point.cursors
    (small_read c.args.self.now.arcs _ _ _ c.requires.small (omega arith) read) c.loop-point.invariant c.loop-point-test.true _ _ _ c.index-strands-point.is c.set_with.ensures
    (c.as_slice.ensures ∙ c.in_ok-longer.ensures) _ _ _ _ c.in_ok-run.ensures.found c.in_ok-run.ensures.within c.number.ensures.value (linked.1 c.loop-point.point c.loop-point-test.true)
    (record { least = c.least-point-in-loop-point.ensures.least; one = c.least-point-in-loop-point.ensures.one }) in
    next.0

pub loop-point-smaller-in_ok-run : goal.loop-point-smaller-in_ok-run
loop-point-smaller-in_ok-run t c =
    let read = c.as_slice-strands.ensures ∙ c.item.ensures in
    let linked = links_read c.args.self.now.arcs c.args.self.now.links (length c.args.begun.now) c.as_slice-strands.result.now _ c.as_slice-next.result.now c.item-2.result.now _ c.requires.links (omega arith) read c.item-2.ensures c.as_slice-next.ensures in
    let next = searched_next c.args.self.now.arcs c.args.used c.args.begun.now c.as_slice-strands.result.now c.args.self.now.limit c.args.found.now c.loop-point.found c.loop-point.point c.loop-point.cursors
    (small_read c.args.self.now.arcs _ _ _ c.requires.small (omega arith) read) c.loop-point.invariant c.loop-point-test.true _ _ _ c.index-strands-point.is c.set_with.ensures
    (c.as_slice.ensures ∙ c.in_ok-longer.ensures) _ _ _ _ c.in_ok-run.ensures.found c.in_ok-run.ensures.within c.number.ensures.value (linked.1 c.loop-point.point c.loop-point-test.true)
    (record { least = c.least-point-in-loop-point.ensures.least; one = c.least-point-in-loop-point.ensures.one }) in
    omega (arith, next.1, c.loop-point-test.true, next.0.here)

pub loop-point-smaller : goal.loop-point-smaller
loop-point-smaller t c =
    let read = c.as_slice-strands.ensures ∙ c.item.ensures in
    let linked = links_read c.args.self.now.arcs c.args.self.now.links (length c.args.begun.now) c.as_slice-strands.result.now _ c.as_slice-next.result.now c.item-2.result.now _ c.requires.links (omega arith) read c.item-2.ensures c.as_slice-next.ensures in
    let next = searched_next c.args.self.now.arcs c.args.used c.args.begun.now c.as_slice-strands.result.now c.args.self.now.limit c.args.found.now c.loop-point.found c.loop-point.point c.loop-point.cursors
    (small_read c.args.self.now.arcs _ _ _ c.requires.small (omega arith) read) c.loop-point.invariant c.loop-point-test.true _ _ _ c.index-strands-point.is c.set_with.ensures
    (c.as_slice.ensures ∙ c.in_ok-longer.ensures) _ _ _ _ c.in_ok-run.ensures.found c.in_ok-run.ensures.within c.number.ensures.value (linked.1 c.loop-point.point c.loop-point-test.true)
    (record { least = c.least-point-in-loop-point.ensures.least; one = c.least-point-in-loop-point.ensures.one }) in
    omega (arith, next.1, c.loop-point-test.true, next.0.here)
