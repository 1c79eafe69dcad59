use Rattle.std.proofs.Common.{◌≤◌}
use Rattle.drawing.specs.Links.{AreLinksOf}
use Rattle.drawing.specs.ThinTables.{is_gone}
use Rattle.drawing.specs.Thinned.{TurnsGone}
use Rattle.drawing.proofs.nested.take_nested.Given as goal

-- the turns so far are gone, and links lead over them
abbrev pub invariant-loop-number : goal.invariant-loop-number
invariant-loop-number l = record {
  linked : AreLinksOf l.layout.drawing (is_gone l.gone) l.links.sides l.links.ways.items;
  taken : TurnsGone l.layout.drawing (is_gone l.gone) l.turns;
  more : l.fn.before ≤ l.turns;
}
