use Rattle.std.proofs.Common.{◌+◌, ◌-◌, ◌*◌, ◌≤◌, length}
use Rattle.page_surface.specs.Drawing.{all_exits}
use Rattle.drawing.specs.Links.{AreLinksOf}
use Rattle.drawing.specs.ThinTables.{is_gone}
use Rattle.drawing.specs.Thinned.{TurnsGone}
use Rattle.drawing.proofs.nested.settle.Given as goal

-- the turns so far are gone, and links lead over them
abbrev pub invariant-loop-count : goal.invariant-loop-count
invariant-loop-count l = record {
  linked : AreLinksOf l.layout.drawing (is_gone l.gone) l.links.sides l.links.ways.items;
  taken : TurnsGone l.layout.drawing (is_gone l.gone) l.turns;
  more : l.fn.before ≤ l.turns;
  fits : l.count ≤ length l.waiting;
}

-- a turn more is gone, and at most five numbers more wait, or one number fewer waits
abbrev pub decreases-loop-count : goal.decreases-loop-count
decreases-loop-count l = l.count + 5 * (length (all_exits l.layout.drawing) - l.turns)
