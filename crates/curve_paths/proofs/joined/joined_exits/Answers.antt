use Rattle.std.proofs.Common.{ap, ◌∙◌, arith}
use Rattle.arc_basis.proofs.Places.{mem_read}
use Rattle.curve_paths.proofs.Exits.{counts_long, exit_more, exit_same, points_read}
use Rattle.curve_paths.proofs.joined.joined_exits.Goals as goal
use Rattle.curve_paths.proofs.joined.joined_exits.Goals.{in-Some+in_ok-push, in_default}

pub side-requires-clause-label : goal.side-requires-clause-label
side-requires-clause-label c = (c.requires.named _ (mem_read _ _ _ c.loop-crossing-test.true c.crossing-item.is)).0

pub side-requires-clause-occurrence : goal.side-requires-clause-occurrence
side-requires-clause-occurrence c = (c.requires.named _ (mem_read _ _ _ c.loop-crossing-test.true c.crossing-item.is)).1

pub place_on_side-place-requires-clause-label : goal.place_on_side-place-requires-clause-label
place_on_side-place-requires-clause-label c =
    let n = c.requires.named _ (mem_read _ _ _ c.loop-crossing-test.true c.crossing-item.is) in
    omega (arith, n.0, counts_long c.args.basis.now c.args.crossings.now c.args.counts.now c.requires.counts_are)

pub place_on_side-place-requires-clause-place : goal.place_on_side-place-requires-clause-place
place_on_side-place-requires-clause-place c =
    let m = mem_read _ _ _ c.loop-crossing-test.true c.crossing-item.is in
    omega (arith, c.requires.placed _ m, points_read c.args.basis.now c.args.crossings.now c.args.counts.now c.requires.counts_are c.crossing-item.result.side.label (c.requires.named _ m).0)

pub loop-crossing-preserved : goal.loop-crossing-preserved
loop-crossing-preserved c =
    let n = c.requires.named _ (mem_read _ _ _ c.loop-crossing-test.true c.crossing-item.is) in
    elim c.match-side.branch [
      | in-Some+in_ok-push w ↦
          rw w.exits-is (exit_more c.args.basis.now c.args.crossings.now c.args.counts.now c.requires.counts_are _ _ _ c.loop-crossing-test.true c.crossing-item.is c.loop-crossing.invariant _ _ _ n.0 w.in-Some.ensures.value
          w.place_on_side-place.ensures w.in_ok-push.ensures.items)
      | in_default w ↦
          ap (λ v. v.items) w.exits-is
          ∙ exit_same c.args.basis.now c.args.crossings.now c.args.counts.now c.requires.counts_are _ _ _ c.loop-crossing-test.true c.crossing-item.is c.loop-crossing.invariant w.in_default.ensures.value
    ]
