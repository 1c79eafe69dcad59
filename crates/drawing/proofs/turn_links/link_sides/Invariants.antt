use Rattle.drawing.specs.Links.{AreLinked, Between}
use Rattle.drawing.specs.ThinTables.{is_gone}
use Rattle.drawing.proofs.turn_links.link_sides.Given as goal

-- links lead over what is gone, and all after the last number that stays is gone
abbrev pub invariant-loop-number : goal.invariant-loop-number
invariant-loop-number l = record {
  linked : AreLinked (is_gone l.gone) l.sides;
  gone_since : Between (is_gone l.gone) l.last l.number;
}
