use Rattle.std.proofs.Common.{◌≡◌, ◌++◌, List, subst}
use Rattle.std.specs.Prelude.{OnOk}
use Rattle.obd_base.specs.declared.points.Exit.{Exit}
use Rattle.dehn_twist.proofs.LoopTables.{loop_there, met_chord, met_there, no_loop}
use Rattle.dehn_twist.proofs.loops.put_met.Goals as goal

pub put_loop-requires-clause-point : goal.put_loop-requires-clause-point
put_loop-requires-clause-point c = met_chord c.args.meetings.now.drawing c.args.meetings.now.curve c.merged.ensures.taken c.args.chord c.requires.chord c.args.number c.requires.number c.ring.result.now _ c.ring.ensures _ c.meets.ensures

pub put_loop-requires-clause-crosses : goal.put_loop-requires-clause-crosses
put_loop-requires-clause-crosses c = met_there c.args.meetings.now.drawing c.args.meetings.now.curve c.merged.ensures.taken c.args.chord c.requires.chord c.args.number c.requires.number c.ring.result.now _ c.ring.ensures _ c.meets.ensures c.if-meets.true

pub returns-then-meets : goal.returns-then-meets
returns-then-meets c =
    subst (λ (loop : List Exit). OnOk c.put_loop.result (c.put_loop.new.row.items ≡ c.args.row.now.items ++ loop))
    (loop_there c.args.meetings.now.drawing c.args.meetings.now.curve c.merged.ensures.taken c.args.chord c.requires.chord c.args.number c.requires.number c.ring.result.now _ c.ring.ensures _ c.meets.ensures c.args.sign c.if-meets.true) c.put_loop.ensures

pub returns-else-meets : goal.returns-else-meets
returns-else-meets c = no_loop c.args.meetings.now.drawing c.args.meetings.now.curve c.merged.ensures.taken c.args.chord c.requires.chord c.args.number c.requires.number c.ring.result.now _ c.ring.ensures _ c.meets.ensures c.args.sign c.args.row.now.items c.if-meets.false
