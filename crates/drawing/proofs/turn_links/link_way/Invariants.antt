use Rattle.drawing.specs.Links.{AreLinked, Between, exit_gone}
use Rattle.drawing.specs.ThinTables.{is_gone}
use Rattle.drawing.proofs.turn_links.link_way.Given as goal

-- links lead over what is gone, and all after the last exit that stays is gone
abbrev pub invariant-loop-at : goal.invariant-loop-at
invariant-loop-at l = record {
  linked : AreLinked (exit_gone l.layout.drawing (is_gone l.gone) l.fn.strand) l.way;
  gone_since : Between (exit_gone l.layout.drawing (is_gone l.gone) l.fn.strand) l.last l.at;
}
