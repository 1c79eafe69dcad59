use Rattle.std.proofs.Common.{◌≡◌, ◌≤◌}
use Rattle.drawing.specs.ThinTables.{is_gone}
use Rattle.drawing.specs.Thinned.{TurnsGone}
use Rattle.drawing.specs.Turns.{NoTurnBefore}
use Rattle.drawing.proofs.turns.take_strand.Given as goal

-- the turns so far are gone, and where there is none the exits so far have none
abbrev pub invariant-loop-at : goal.invariant-loop-at
invariant-loop-at l = record {
  from_one : 1 ≤ l.at;
  taken : TurnsGone l.layout.drawing (is_gone l.gone) l.turns;
  more : l.fn.before ≤ l.turns;
  none : l.turns ≡ 0 → NoTurnBefore l.layout.drawing l.exits l.at;
}
