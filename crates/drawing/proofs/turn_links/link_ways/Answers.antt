use Rattle.drawing.specs.ThinTables.{is_gone}
use Rattle.drawing.proofs.LinkTables.{ways_more, ways_past}
use Rattle.drawing.proofs.turn_links.link_ways.Goals as goal
use Rattle.drawing.proofs.turn_links.link_ways.Goals.{then-strand-ways, else-strand-ways}

pub loop-strand-preserved : goal.loop-strand-preserved
loop-strand-preserved c =
    let inv = c.loop-strand.invariant in
    let gone = is_gone c.args.gone.now in
    let d = c.args.layout.now.drawing in
    elim c.if-strand-ways.branch [
      | then-strand-ways w ↦ rw w.ways-is (ways_more d gone _ _ _ _ w.if-strand-ways.true w.new.ensures w.link_way.ensures inv)
      | else-strand-ways w ↦ rw w.ways-is (ways_past d gone _ _ w.if-strand-ways.false inv)
    ]
