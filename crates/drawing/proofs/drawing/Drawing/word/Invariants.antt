use Rattle.std.proofs.Common.{◌≡◌, map, take}
use Rattle.obd_base.specs.declared.points.Exit.{Exit}
use Rattle.drawing.proofs.drawing.Drawing.word.Given as goal

-- the letters of the exits so far
abbrev pub invariant-loop-exit : goal.invariant-loop-exit
invariant-loop-exit l = l.word.items ≡ map (λ (e : Exit). e.side) (take l.exit-index l.exit-items)
