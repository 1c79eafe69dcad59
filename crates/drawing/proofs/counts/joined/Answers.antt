use Rattle.std.proofs.Common.{◌∙◌, ap}
use Rattle.std.specs.List.{flat_map}
use Rattle.std.specs.Prelude.{vec_items}
use Rattle.std.proofs.lemmas.List.{take_all}
use Rattle.drawing.proofs.RoomTables.{joined_rows}
use Rattle.drawing.proofs.counts.joined.Goals as goal

pub returns : goal.returns
returns c = c.loop-strand.invariant ∙ (ap (flat_map vec_items) (take_all c.loop-strand.strand-index _ c.loop-strand-test.false) ∙ joined_rows c.args.strands.now)
