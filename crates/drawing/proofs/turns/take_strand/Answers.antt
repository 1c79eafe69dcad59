use Rattle.std.proofs.Common.{◌≡◌, ◌∙◌, arith, sym}
use Rattle.std.proofs.lemmas.Bool.{false≢true}
use Rattle.drawing.specs.Turns.{TurnsBack}
use Rattle.drawing.proofs.Ends.{placed}
use Rattle.drawing.proofs.StrandTables.{exit_there}
use Rattle.drawing.proofs.TurnTables.{no_turn_all, no_turn_more, none_gone, pair_taken}
use Rattle.drawing.proofs.turns.take_strand.Goals as goal
use Rattle.drawing.proofs.turns.take_strand.Goals.{then-turns_back+then-not-gone-spot+then-not-gone-spot-2, else-turns_back, else-turns_back-via-then-turns_back+then-not-gone-spot+else-not-gone-spot-2, else-turns_back-via-then-turns_back+else-not-gone-spot, else-turns_back-via-else-turns_back}

pub turns_back-requires-clause-side : goal.turns_back-requires-clause-side
turns_back-requires-clause-side c = (exit_there c.args.layout.now.drawing (placed c.args.layout.now.drawing c.requires.embedded) c.args.strand _ _ _ c.exits-exits.ensures (omega (arith, c.loop-at-test.true)) c.index-exits-at.is).0

pub turns_back-requires-clause-place : goal.turns_back-requires-clause-place
turns_back-requires-clause-place c = (exit_there c.args.layout.now.drawing (placed c.args.layout.now.drawing c.requires.embedded) c.args.strand _ _ _ c.exits-exits.ensures (omega (arith, c.loop-at-test.true)) c.index-exits-at.is).1

pub spot-requires-clause-side : goal.spot-requires-clause-side
spot-requires-clause-side c = (exit_there c.args.layout.now.drawing (placed c.args.layout.now.drawing c.requires.embedded) c.args.strand _ _ _ c.exits-exits.ensures (omega (arith, c.loop-at-test.true)) c.index-exits-at.is).0

pub spot-requires-clause-place : goal.spot-requires-clause-place
spot-requires-clause-place c = let k = exit_there c.args.layout.now.drawing (placed c.args.layout.now.drawing c.requires.embedded) c.args.strand _ _ _ c.exits-exits.ensures (omega (arith, c.loop-at-test.true)) c.index-exits-at.is in omega (arith, k)

pub spot-requires-then-not-gone-spot-clause-side : goal.spot-requires-then-not-gone-spot-clause-side
spot-requires-then-not-gone-spot-clause-side c = (exit_there c.args.layout.now.drawing (placed c.args.layout.now.drawing c.requires.embedded) c.args.strand _ _ _ c.exits-exits.ensures c.loop-at-test.true c.index-exits-at-in-loop-at.is).0

pub spot-requires-then-not-gone-spot-clause-place : goal.spot-requires-then-not-gone-spot-clause-place
spot-requires-then-not-gone-spot-clause-place c = let k = exit_there c.args.layout.now.drawing (placed c.args.layout.now.drawing c.requires.embedded) c.args.strand _ _ _ c.exits-exits.ensures c.loop-at-test.true c.index-exits-at-in-loop-at.is in omega (arith, k)

pub take_point-requires-clause-side : goal.take_point-requires-clause-side
take_point-requires-clause-side c = (exit_there c.args.layout.now.drawing (placed c.args.layout.now.drawing c.requires.embedded) c.args.strand _ _ _ c.exits-exits.ensures (omega (arith, c.loop-at-test.true)) c.index-exits-at.is).0

pub take_point-requires-clause-place : goal.take_point-requires-clause-place
take_point-requires-clause-place c = (exit_there c.args.layout.now.drawing (placed c.args.layout.now.drawing c.requires.embedded) c.args.strand _ _ _ c.exits-exits.ensures (omega (arith, c.loop-at-test.true)) c.index-exits-at.is).1

pub take_point-requires-then-not-gone-spot-2-clause-side : goal.take_point-requires-then-not-gone-spot-2-clause-side
take_point-requires-then-not-gone-spot-2-clause-side c = (exit_there c.args.layout.now.drawing (placed c.args.layout.now.drawing c.requires.embedded) c.args.strand _ _ _ c.exits-exits.ensures c.loop-at-test.true c.index-exits-at-in-loop-at.is).0

pub take_point-requires-then-not-gone-spot-2-clause-place : goal.take_point-requires-then-not-gone-spot-2-clause-place
take_point-requires-then-not-gone-spot-2-clause-place c = (exit_there c.args.layout.now.drawing (placed c.args.layout.now.drawing c.requires.embedded) c.args.strand _ _ _ c.exits-exits.ensures c.loop-at-test.true c.index-exits-at-in-loop-at.is).1

pub loop-at-preserved : goal.loop-at-preserved
loop-at-preserved c =
    let inv = c.loop-at.invariant in
    let d = c.args.layout.now.drawing in
    let more = no_turn_more d _ _ _ _ inv.from_one c.loop-at-test.true c.index-exits-at.is c.index-exits-at-in-loop-at.is in
    elim c.if-turns_back.branch [
      | then-turns_back+then-not-gone-spot+then-not-gone-spot-2 w ↦
          let turn = c.turns_back.ensures.0 w.if-turns_back.true in
          let taken = pair_taken d c.requires.embedded c.args.strand _ _ _ _ c.loop-at.gone w.take_point.new.gone w.take_point-then-not-gone-spot-2.new.gone _ c.requires.strand
          c.exits-exits.ensures inv.from_one c.loop-at-test.true c.index-exits-at.is c.index-exits-at-in-loop-at.is turn _ _ w.spot.ensures.value w.spot-then-not-gone-spot.ensures.value
          w.if-not-gone-spot.true w.if-not-gone-spot-2.true w.take_point.ensures w.take_point-then-not-gone-spot-2.ensures inv.taken in
          rw (w.gone-is, w.turns-is) (record { from_one = omega arith; taken = taken; more = omega (arith, inv.more); none = λ z. absurd (omega (arith, z)) })
      | else-turns_back w ↦
          let here : c.loop-at.turns ≡ 0 → TurnsBack d c.index-exits-at.result c.index-exits-at-in-loop-at.result → ⊥ = elim w.else-turns_back.branch [
            | else-turns_back-via-then-turns_back+then-not-gone-spot+else-not-gone-spot-2 w' ↦
                λ z t. none_gone d c.loop-at.gone _ _ inv.taken w'.spot-then-not-gone-spot.ensures.inside w'.if-not-gone-spot-2.false z
            | else-turns_back-via-then-turns_back+else-not-gone-spot w' ↦ λ z t. none_gone d c.loop-at.gone _ _ inv.taken w'.spot.ensures.inside w'.if-not-gone-spot.false z
            | else-turns_back-via-else-turns_back w' ↦ λ z t. false≢true (sym w'.if-turns_back.false ∙ c.turns_back.ensures.1 t)
          ] in
          rw (w.gone-is, w.turns-is) (record { from_one = omega arith; taken = inv.taken; more = inv.more; none = λ z. more (inv.none z) (here z) })
    ]

pub returns-clause-none : goal.returns-clause-none
returns-clause-none c = λ z. no_turn_all c.args.layout.now.drawing _ _ _ c.exits-exits.ensures c.loop-at-test.false (c.loop-at.invariant.none z)
