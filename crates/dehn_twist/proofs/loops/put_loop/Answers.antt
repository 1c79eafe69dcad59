use Rattle.std.proofs.Common.{◌≡◌, ◌++◌, List, subst}
use Rattle.std.specs.Prelude.{OnOk}
use Rattle.obd_base.specs.declared.points.Exit.{Exit}
use Rattle.dehn_twist.proofs.LoopTables.{loop_same, uptos_seen}
use Rattle.dehn_twist.proofs.loops.put_loop.Goals as goal

pub put_forward-requires-clause-uptos : goal.put_forward-requires-clause-uptos
put_forward-requires-clause-uptos c = uptos_seen _ _ c.merged-merged.ensures.value _ c.uptos-uptos.ensures

pub put_backward-requires-clause-uptos : goal.put_backward-requires-clause-uptos
put_backward-requires-clause-uptos c = uptos_seen _ _ c.merged-merged.ensures.value _ c.uptos-uptos.ensures

pub returns-then-is_forward : goal.returns-then-is_forward
returns-then-is_forward c =
    subst (λ (loop : List Exit). OnOk c.put_forward.result (c.put_forward.new.row.items ≡ c.args.row.now.items ++ loop))
    (loop_same _ _ c.merged-merged.ensures.value c.args.sign c.args.chord c.args.point.chord _ c.args.point.ends _ _ c.number-line.ensures.value c.is_forward.ensures c.if-is_forward.true) c.put_forward.ensures

pub returns-else-is_forward : goal.returns-else-is_forward
returns-else-is_forward c =
    subst (λ (loop : List Exit). OnOk c.put_backward.result (c.put_backward.new.row.items ≡ c.args.row.now.items ++ loop))
    (loop_same _ _ c.merged-merged.ensures.value c.args.sign c.args.chord c.args.point.chord _ c.args.point.ends _ _ c.number-line.ensures.value c.is_forward.ensures c.if-is_forward.false) c.put_backward.ensures
